-- A text has its tokens once.
use Rattle.std.specs.Prelude.{◌≢◌, Option, Some, None}
use Rattle.std.proofs.Common.{◌≡◌, ℕ, zero, suc, ◌<◌, Bool, true, false, ◌&&◌, List, [], ◌∷◌, ◌++◌, take, drop, refl, sym, ◌∙◌, ap, subst, arith, append-nil, take-append-drop}
use Rattle.std.proofs.lemmas.Str.{encodes_same}
use Rattle.wgsl_lex.specs.Token.{Token}
use Rattle.wgsl_lex.specs.Token.TheVariants.{Invalid}
use Rattle.wgsl_lex.specs.Tokens.{Form, trivia, token, form, NoLonger}
use Rattle.wgsl_lex.specs.Pieces.{StandsFirst, trivia_first, token_first, nothing_first}
use Rattle.wgsl_lex.proofs.Bools.{is_number}
use Rattle.wgsl_lex.proofs.Once.{stands_some}
use Rattle.wgsl_base.proofs.Bools.{and_both}
use Rattle.wgsl_templates.specs.declared.meaning.token.TemplateToken.{TemplateToken}
use Rattle.wgsl_templates.specs.declared.meaning.token.TemplateToken.TheVariants.{Plain}
use Rattle.wgsl_templates.specs.declared.meaning.token.SpannedTemplateToken.{SpannedTemplateToken}
use Rattle.wgsl_templates.specs.Kinds.{kind, kinds}
use Rattle.wgsl_templates.specs.Grammar.{IsListBody}
use Rattle.wgsl_templates.specs.Tokens.{is_less, begins_with_greater, is_in_list, State, start, in_list, past, after, spanned, less_or_start, IsFirst, BeginsNoList, Reads, nothing, behind_trivia, a_token, Stands, closing, asked, plain, Opens, list, no_list, Lexes, IsLexed}

-- One piece stands first

-- what is taken off the front: a longest form, or a character with which none begins
record Front (cs rest : List ℕ) (what : Option Form) : Type 0 where
  is : form cs ≡ what
  longest : NoLonger cs rest
  some : cs ≢ []
  alone : what ≡ None → (c : ℕ) × (cs ≡ c ∷ [])

abbrev token_of : Option Form → Option Token
token_of None = Some Invalid
token_of (Some trivia) = None
token_of (Some (token t)) = Some t

-- one of two fronts of a list begins with the other
data Compared (cs rest ds left : List ℕ) : Type 0 where
  first_shorter : (more : List ℕ) → ds ≡ cs ++ more → rest ≡ more ++ left → Compared cs rest ds left
  second_shorter : (more : List ℕ) → cs ≡ ds ++ more → left ≡ more ++ rest → Compared cs rest ds left

compare_fronts : (cs rest ds left : List ℕ) → cs ++ rest ≡ ds ++ left → Compared cs rest ds left
compare_fronts [] rest ds left e = first_shorter ds refl e
compare_fronts (c ∷ cs) rest [] left e = second_shorter (c ∷ cs) refl (sym e)
compare_fronts (c ∷ cs) rest (d ∷ ds) left e =
    let same : c ≡ d = cc in
    let tails : cs ++ rest ≡ ds ++ left = cc in
    elim (compare_fronts cs rest ds left tails) [
      | first_shorter more f g ↦ first_shorter more ((λ i. sym same i ∷ f i)) g
      | second_shorter more f g ↦ second_shorter more ((λ i. same i ∷ f i)) g
    ]

-- a front that is longer than another is none
too_long : (cs rest more left : List ℕ) (what other : Option Form) → Front cs rest what → Front (cs ++ more) left other → rest ≡ more ++ left → more ≢ [] → ⊥
too_long cs rest more left what other f g e nonempty =
    let none : other ≡ None = sym g.is ∙ f.longest more left nonempty e in
    let (c, is) = g.alone none in
    short cs more c f.some nonempty is
  where
    short : (xs ys : List ℕ) (c : ℕ) → xs ≢ [] → ys ≢ [] → xs ++ ys ≡ c ∷ [] → ⊥
    short [] ys c h k e = h refl
    short (x ∷ []) [] c h k e = k refl
    short (x ∷ []) (y ∷ ys) c h k e = cc
    short (x ∷ x' ∷ xs) ys c h k e = cc

same_front : (cs rest ds left : List ℕ) (what other : Option Form) → Front cs rest what → Front ds left other → cs ++ rest ≡ ds ++ left → (cs ≡ ds) × (what ≡ other)
same_front cs rest ds left what other f g e =
    elim (compare_fronts cs rest ds left e) [
      | first_shorter more d r ↦ from cs rest ds left what other more f g d r
      | second_shorter more d r ↦ let h = from ds left cs rest other what more g f d r in (sym h.0, sym h.1)
    ]
  where
    from : (cs rest ds left : List ℕ) (what other : Option Form) (more : List ℕ) → Front cs rest what → Front ds left other → ds ≡ cs ++ more → rest ≡ more ++ left → (cs ≡ ds) × (what ≡ other)
    from cs rest ds left what other [] f g d r = let same : cs ≡ ds = sym (d ∙ append-nil cs) in (same, sym f.is ∙ ap form same ∙ g.is)
    from cs rest ds left what other (m ∷ more) f g d r =
        let P : List ℕ → Type 0 = λ xs. Front xs left other in absurd (too_long cs rest (m ∷ more) left what other f (subst P d g) r (λ n. cc))

-- as many characters as the text has
record Piece (text : List ℕ) (n : ℕ) (o : Option Token) : Type 0 where
  what : Option Form
  front : Front (take n text) (drop n text) what
  token_is : o ≡ token_of what

front_some : (text : List ℕ) (n : ℕ) → text ≢ [] → 0 < n → take n text ≢ []
front_some [] n some h e = some refl
front_some (c ∷ cs) zero some h e = absurd (omega arith)
front_some (c ∷ cs) (suc n) some h e = cc

piece : (text : List ℕ) (n : ℕ) (o : Option Token) → IsFirst text n o → Piece text n o
piece text n o first = go n o first.stands (front_some text n first.some (stands_some text n o first.stands))
  where
    go : (n : ℕ) (o : Option Token) → StandsFirst text n o → take n text ≢ [] → Piece text n o
    go n _ (trivia_first h) some = record { what = Some trivia; front = record { is = h.is; longest = h.longest; some = some; alone = λ e. cc }; token_is = refl }
    go n _ (token_first {t = t} h) some = record { what = Some (token t); front = record { is = h.is; longest = h.longest; some = some; alone = λ e. cc }; token_is = refl }
    go n _ (nothing_first one is longest) some = record {
      what = None;
      front = (let P : ℕ → Type 0 = λ k. Front (take k text) (drop k text) None in
          subst P (sym one) (record { is = is; longest = longest; some = subst (λ k. take k text ≢ []) one some; alone = λ e. single text (subst (λ k. take k text ≢ []) one some) }));
      token_is = refl;
    }
      where
        single : (cs : List ℕ) → take 1 cs ≢ [] → (c : ℕ) × (take 1 cs ≡ c ∷ [])
        single [] none = absurd (none refl)
        single (c ∷ cs) none = (c, refl)

cancel : (cs rest left : List ℕ) → cs ++ rest ≡ cs ++ left → rest ≡ left
cancel [] rest left e = e
cancel (c ∷ cs) rest left e = cancel cs rest left cc

-- what two pieces of one text have in common
pub record Same (text : List ℕ) (n m : ℕ) : Type 0 where
  pub front : take n text ≡ take m text
  pub back : drop n text ≡ drop m text

same_back : (text : List ℕ) (n m : ℕ) → take n text ≡ take m text → Same text n m
same_back text n m e = record {
  front = e;
  back = cancel (take n text) (drop n text) (drop m text) (take-append-drop n text ∙ sym (take-append-drop m text) ∙ ap (λ x. x ++ drop m text) (sym e));
}

pub first_once : (text : List ℕ) (n m : ℕ) (o p : Option Token) → IsFirst text n o → IsFirst text m p → Same text n m × (o ≡ p)
first_once text n m o p f g =
    let a = piece text n o f in
    let b = piece text m p g in
    let h = same_front (take n text) (drop n text) (take m text) (drop m text) a.what b.what a.front b.front (take-append-drop n text ∙ sym (take-append-drop m text)) in
    (same_back text n m h.0, a.token_is ∙ ap token_of h.1 ∙ sym b.token_is)

-- something is taken
pub first_takes : (text : List ℕ) (n : ℕ) (o : Option Token) → IsFirst text n o → 0 < n
first_takes text n o f = stands_some text n o f.stands

-- trivia and a token don't stand at one place
stands_token : {s : State} {text : List ℕ} {n : ℕ} {t : TemplateToken} → Stands s text n t → (m : ℕ) × (u : Token) × IsFirst text m (Some u)
stands_token (closing n t h g) = (n, t, h)
stands_token (asked n t h w o) = (n, t, h)
stands_token (plain n t h g w) = (n, t, h)

trivia_or_token : (s : State) (text : List ℕ) (n m : ℕ) (t : TemplateToken) → IsFirst text n None → Stands s text m t → ⊥
trivia_or_token s text n m t h i = let (k, u, j) = stands_token i in let clash : None ≡ Some u = (first_once text n k None (Some u) h j).1 in cc

some_token : (text : List ℕ) (n m : ℕ) (t u : Token) → IsFirst text n (Some t) → IsFirst text m (Some u) → Same text n m × (t ≡ u)
some_token text n m t u h i = let e = first_once text n m (Some t) (Some u) h i in let same : Some t ≡ Some u = e.1 in (e.0, cc)

not_both : (b : Bool) → b ≡ true → b ≡ false → ⊥
not_both b e f = cc

-- Readings

-- Of two readings from one place one goes on where the other ends.
pub data Both (a : List SpannedTemplateToken) (r : State) (xs : List ℕ) (b : List SpannedTemplateToken) (s : State) (ys : List ℕ) : Type 0 where
  first_shorter : (more : List SpannedTemplateToken) → b ≡ a ++ more → Reads r xs more s ys → Both a r xs b s ys
  second_shorter : (more : List SpannedTemplateToken) → a ≡ b ++ more → Reads s ys more r xs → Both a r xs b s ys

both_more : (t u : SpannedTemplateToken) (a : List SpannedTemplateToken) (r : State) (xs : List ℕ) (b : List SpannedTemplateToken) (s : State) (ys : List ℕ) → t ≡ u → Both a r xs b s ys → Both (t ∷ a) r xs (u ∷ b) s ys
both_more t u a r xs b s ys same (first_shorter more e l) = first_shorter more (λ i. sym same i ∷ e i) l
both_more t u a r xs b s ys same (second_shorter more e l) = second_shorter more (λ i. same i ∷ e i) l

-- behind the end there is no token
pub ended : (s : State) (xs : List ℕ) (a : List SpannedTemplateToken) (last : State) (left : List ℕ) → Reads s xs a last left → xs ≡ [] → a ≡ []
ended s xs _ _ _ (nothing) e = refl
ended s xs a last left (behind_trivia n h l) e = absurd (h.some e)
ended s xs _ last left (a_token n t h l) e = let (m, u, i) = stands_token h in absurd (i.some e)

pub kinds_append : (a b : List SpannedTemplateToken) → kinds (a ++ b) ≡ kinds a ++ kinds b
kinds_append [] b = refl
kinds_append (t ∷ a) b = ap (λ x. kind t.token ∷ x) (kinds_append a b)

pub kinds_none : (a : List SpannedTemplateToken) → a ≡ [] → kinds a ≡ []
kinds_none a e = ap kinds e

list_or_none : (body : List SpannedTemplateToken) (p : State) (xs : List ℕ) (front : List SpannedTemplateToken) (q : State) (ys : List ℕ) → IsListBody (kinds body) → BeginsNoList (kinds front) ys → Both body p xs front q ys → ⊥
list_or_none body p xs front q ys h none (first_shorter more e l) = none [] (kinds body) (kinds more) (λ n. refl) (append-nil (kinds front) ∙ ap kinds e ∙ kinds_append body more) h
list_or_none body p xs front q ys h none (second_shorter more e l) =
    none (kinds more) (kinds body) [] (λ n. kinds_none more (ended q ys more p xs l n)) (sym (append-nil (kinds body) ∙ ap kinds e ∙ kinds_append front more)) h

none_or_list : (body : List SpannedTemplateToken) (p : State) (xs : List ℕ) (front : List SpannedTemplateToken) (q : State) (ys : List ℕ) → IsListBody (kinds body) → BeginsNoList (kinds front) ys → Both front q ys body p xs → ⊥
none_or_list body p xs front q ys h none (first_shorter more e l) =
    none (kinds more) (kinds body) [] (λ n. kinds_none more (ended q ys more p xs l n)) (sym (append-nil (kinds body) ∙ ap kinds e ∙ kinds_append front more)) h
none_or_list body p xs front q ys h none (second_shorter more e l) = none [] (kinds body) (kinds more) (λ n. refl) (append-nil (kinds front) ∙ ap kinds e ∙ kinds_append body more) h

move_reads : (s r : State) (xs ys : List ℕ) (a : List SpannedTemplateToken) (last : State) (left : List ℕ) → s ≡ r → xs ≡ ys → Reads s xs a last left → Reads r ys a last left
move_reads s r xs ys a last left e f = let P : State × List ℕ → Type 0 = λ x. Reads x.0 x.1 a last left in subst P (λ i. (e i, f i))

-- no `<` alone begins with `>`
not_in_both : (s : State) (text : List ℕ) (n : ℕ) → (s.after_word && is_less (take n text)) ≡ true → (is_in_list s.opened && begins_with_greater text) ≡ true → ⊥
not_in_both s text n w g = both_signs text n (and_both s.after_word (is_less (take n text)) w).1 (and_both (is_in_list s.opened) (begins_with_greater text) g).1
  where
    alone : (c : ℕ) (cs : List ℕ) → is_less (c ∷ cs) ≡ true → c ≡ 60
    alone c [] e = is_number c 60 e
    alone c (d ∷ cs) e = absurd cc

    both_signs : (text : List ℕ) (n : ℕ) → is_less (take n text) ≡ true → begins_with_greater text ≡ true → ⊥
    both_signs [] zero e f = cc
    both_signs [] (suc n) e f = cc
    both_signs (c ∷ cs) zero e f = cc
    both_signs (c ∷ cs) (suc n) e f = let h : c ≡ 60 = alone c (take n cs) e in let k : c ≡ 62 = is_number c 62 f in absurd (omega arith)

mutual
  pub reads_both : (s : State) (text : List ℕ) (a : List SpannedTemplateToken) (p : State) (vs : List ℕ) → Reads s text a p vs → (b : List SpannedTemplateToken) (q : State) (ws : List ℕ) → Reads s text b q ws → Both a p vs b q ws
  reads_both s text _ _ _ (nothing) b q ws m = first_shorter b refl m
  reads_both s text a p vs (behind_trivia n h l) _ _ _ (nothing) = second_shorter a refl (behind_trivia n h l)
  reads_both s text a p vs (behind_trivia n h l) b q ws (behind_trivia m i k) =
      let same = (first_once text n m None None h i).0 in
      reads_both (past s (take n text)) (drop n text) a p vs l b q ws (move_reads _ _ _ _ b q ws (λ j. past s (sym same.front j)) (sym same.back) k)
  reads_both s text a p vs (behind_trivia n h l) _ q ws (a_token m u i k) = absurd (trivia_or_token s text n m u h i)
  reads_both s text _ p vs (a_token {tokens = a} n t h l) _ _ _ (nothing) = second_shorter (spanned s (take n text) t ∷ a) refl (a_token n t h l)
  reads_both s text _ p vs (a_token n t h l) b q ws (behind_trivia m i k) = absurd (trivia_or_token s text m n t i h)
  reads_both s text _ p vs (a_token {tokens = a} n t h l) _ q ws (a_token {tokens = b} m u i k) =
      let same = stands_once s text n t h m u i in
      both_more (spanned s (take n text) t) (spanned s (take m text) u) a p vs b q ws (λ j. spanned s (same.0.front j) (same.1 j))
      (reads_both (after s (take n text) t) (drop n text) a p vs l b q ws (move_reads _ _ _ _ b q ws (λ j. after s (sym same.0.front j) (sym same.1 j)) (sym same.0.back) k))

  stands_once : (s : State) (text : List ℕ) (n : ℕ) (t : TemplateToken) → Stands s text n t → (m : ℕ) (u : TemplateToken) → Stands s text m u → Same text n m × (t ≡ u)
  stands_once s text _ _ (closing n t h g) _ _ (closing m u i j) = (record { front = refl; back = refl }, refl)
  stands_once s text _ _ (closing n t h g) _ _ (asked m u i w o) = absurd (not_in_both s text m w g)
  stands_once s text _ _ (closing n t h g) _ _ (plain m u i j w) = absurd (not_both _ g j)
  stands_once s text _ _ (asked n t h w o) _ _ (closing m u i j) = absurd (not_in_both s text n w j)
  stands_once s text _ _ (asked {opens = x} n t h w o) _ _ (asked {opens = y} m u i v p) =
      let same = some_token text n m t u h i in
      let decided = opens_once (drop n text) x o (drop m text) y p same.0.back in
      (same.0, λ j. less_or_start (decided j) (same.1 j))
  stands_once s text _ _ (asked n t h w o) _ _ (plain m u i j v) =
      let same = some_token text n m t u h i in
      absurd (not_both _ (ap (λ x. s.after_word && is_less x) (sym same.0.front) ∙ w) v)
  stands_once s text _ _ (plain n t h g w) _ _ (closing m u i j) = absurd (not_both _ j g)
  stands_once s text _ _ (plain n t h g w) _ _ (asked m u i v o) =
      let same = some_token text n m t u h i in
      absurd (not_both _ (ap (λ x. s.after_word && is_less x) same.0.front ∙ v) w)
  stands_once s text _ _ (plain n t h g w) _ _ (plain m u i j v) =
      let same = some_token text n m t u h i in
      (same.0, ap Plain same.1)

  opens_once : (xs : List ℕ) (p : Bool) → Opens xs p → (ys : List ℕ) (q : Bool) → Opens ys q → xs ≡ ys → p ≡ q
  opens_once xs _ (list l h) ys _ (list m i) e = refl
  opens_once xs _ (list {left = v} {body = a} {last = p} l h) ys _ (no_list {left = w} {front = b} {last = q} m i) e =
      absurd (list_or_none a p v b q w h i (reads_both in_list xs a p v l b q w (move_reads _ _ _ _ b q w refl (sym e) m)))
  opens_once xs _ (no_list {left = w} {front = b} {last = q} m i) ys _ (list {left = v} {body = a} {last = p} l h) e =
      absurd (none_or_list a p v b q w h i (reads_both in_list xs b q w m a p v (move_reads _ _ _ _ a p v refl (sym e) l)))
  opens_once xs _ (no_list l h) ys _ (no_list m i) e = refl

pub decided_once : (text : List ℕ) (a b : Bool) → Opens text a → Opens text b → a ≡ b
decided_once text a b f g = opens_once text a f text b g refl

pub lexes_once : (s : State) (text : List ℕ) (a b : List SpannedTemplateToken) → Lexes s text a → Lexes s text b → a ≡ b
lexes_once s text a b l m = whole (reads_both s text a l.0 [] l.1 b m.0 [] m.1)
  where
    whole : Both a l.0 [] b m.0 [] → a ≡ b
    whole (first_shorter more e r) = sym (e ∙ ap (λ x. a ++ x) (ended l.0 [] more m.0 [] r refl) ∙ append-nil a)
    whole (second_shorter more e r) = e ∙ ap (λ x. b ++ x) (ended m.0 [] more l.0 [] r refl) ∙ append-nil b

pub lexed_once : (text : List ℕ) (a b : List SpannedTemplateToken) → IsLexed text a → IsLexed text b → a ≡ b
lexed_once text a b l m =
    let same : m.characters ≡ l.characters = encodes_same m.characters l.characters (m.spell ∙ sym l.spell) in
    let P : List ℕ → Type 0 = λ cs. Lexes start cs b in
    lexes_once start l.characters a b l.lexes (subst P same m.lexes)

-- a reading of two runs of tokens is a reading of the one and then of the other
pub split : (s : State) (xs : List ℕ) (c : List SpannedTemplateToken) (last : State) (ys : List ℕ) → Reads s xs c last ys → (a b : List SpannedTemplateToken) → c ≡ a ++ b
    → (middle : State) × (left : List ℕ) × Reads s xs a middle left × Reads middle left b last ys
split s xs c last ys l [] b e = let P : List SpannedTemplateToken → Type 0 = λ x. Reads s xs x last ys in (s, xs, nothing, subst P e l)
split s xs _ _ _ (nothing) (t ∷ a) b e = absurd cc
split s xs c last ys (behind_trivia n h l) (t ∷ a) b e =
    let (middle, left, front, back) = split (past s (take n xs)) (drop n xs) c last ys l (t ∷ a) b e in
    (middle, left, behind_trivia n h front, back)
split s xs _ last ys (a_token {tokens = c} n u h l) (t ∷ a) b e =
    let same : spanned s (take n xs) u ≡ t = cc in
    let tails : c ≡ a ++ b = cc in
    let (middle, left, front, back) = split (after s (take n xs) u) (drop n xs) c last ys l a b tails in
    let Q : SpannedTemplateToken → Type 0 = λ x. Reads s xs (x ∷ a) middle left in
    (middle, left, subst Q same (a_token n u h front), back)

-- a reading and then another
pub reads_then : (s : State) (xs : List ℕ) (a : List SpannedTemplateToken) (m : State) (ys : List ℕ) → Reads s xs a m ys → (b : List SpannedTemplateToken) (l : State) (zs : List ℕ) → Reads m ys b l zs → Reads s xs (a ++ b) l zs
reads_then s xs _ _ _ (nothing) b l zs r = r
reads_then s xs a m ys (behind_trivia n h i) b l zs r = behind_trivia n h (reads_then (past s (take n xs)) (drop n xs) a m ys i b l zs r)
reads_then s xs _ m ys (a_token {tokens = a} n t h i) b l zs r = a_token n t h (reads_then (after s (take n xs) t) (drop n xs) a m ys i b l zs r)
