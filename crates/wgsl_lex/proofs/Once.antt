-- A text has its tokens once.
use Rattle.std.specs.Prelude.{◌≢◌, Option, Some, None}
use Rattle.std.proofs.Common.{◌≡◌, ℕ, zero, suc, ◌+◌, ◌<◌, List, [], ◌∷◌, ◌++◌, take, drop, refl, sym, ◌∙◌, ap, subst, arith, append-nil, take-append-drop}
use Rattle.std.proofs.lemmas.Str.{encodes_same}
use Rattle.wgsl_token.specs.declared.token.SpannedToken.{SpannedToken}
use Rattle.wgsl_token.specs.declared.token.Token.{Token}
use Rattle.wgsl_token.specs.declared.token.Token.TheVariants.{Invalid}
use Rattle.wgsl_lex.specs.Floats.{is_float}
use Rattle.wgsl_lex.specs.Tokens.{fixed_of, token_form, form, Form, trivia, token, NoLonger, IsLongest, size, spanned, Lexes, at_the_end, behind_trivia, a_token, no_token, IsLexed}
use Rattle.wgsl_lex.specs.Pieces.{StandsFirst, trivia_first, token_first, nothing_first}

-- nothing is no form
no_empty_form : form [] ≡ None
unfolding form token_form fixed_of is_float
no_empty_form = refl

-- what is taken off the front: a longest form, or a character with which none begins
record Front (cs rest : List ℕ) (what : Option Form) : Type 0 where
  is : form cs ≡ what
  longest : NoLonger cs rest
  some : cs ≢ []
  alone : what ≡ None → (c : ℕ) × (cs ≡ c ∷ [])

longest_front : (cs rest : List ℕ) (what : Form) → IsLongest cs rest what → Front cs rest (Some what)
longest_front cs rest what h = record { is = h.is; longest = h.longest; some = λ e. let none : form cs ≡ None = ap form e ∙ no_empty_form in let some = h.is in cc; alone = λ e. cc }

nothing_front : (c : ℕ) (rest : List ℕ) → form (c ∷ []) ≡ None → NoLonger (c ∷ []) rest → Front (c ∷ []) rest None
nothing_front c rest is longest = record { is = is; longest = longest; some = λ e. cc; alone = λ e. (c, refl) }

-- one of two fronts of a list begins with the other
data Compared (cs rest ds behind : List ℕ) : Type 0 where
  first_shorter : (more : List ℕ) → ds ≡ cs ++ more → rest ≡ more ++ behind → Compared cs rest ds behind
  second_shorter : (more : List ℕ) → cs ≡ ds ++ more → behind ≡ more ++ rest → Compared cs rest ds behind

compare_fronts : (cs rest ds behind : List ℕ) → cs ++ rest ≡ ds ++ behind → Compared cs rest ds behind
compare_fronts [] rest ds behind e = first_shorter ds refl e
compare_fronts (c ∷ cs) rest [] behind e = second_shorter (c ∷ cs) refl (sym e)
compare_fronts (c ∷ cs) rest (d ∷ ds) behind e =
    let same : c ≡ d = cc in
    let tails : cs ++ rest ≡ ds ++ behind = cc in
    elim (compare_fronts cs rest ds behind tails) [
      | first_shorter more f g ↦ first_shorter more ((λ i. sym same i ∷ f i)) g
      | second_shorter more f g ↦ second_shorter more ((λ i. same i ∷ f i)) g
    ]

-- a front that is longer than another is none
too_long : (cs rest more behind : List ℕ) (what other : Option Form) → Front cs rest what → Front (cs ++ more) behind other → rest ≡ more ++ behind → more ≢ [] → ⊥
too_long cs rest more behind what other f g e nonempty =
    let none : other ≡ None = sym g.is ∙ f.longest more behind nonempty e in
    let (c, is) = g.alone none in
    short cs more c f.some nonempty is
  where
    short : (xs ys : List ℕ) (c : ℕ) → xs ≢ [] → ys ≢ [] → xs ++ ys ≡ c ∷ [] → ⊥
    short [] ys c h k e = h refl
    short (x ∷ []) [] c h k e = k refl
    short (x ∷ []) (y ∷ ys) c h k e = cc
    short (x ∷ x' ∷ xs) ys c h k e = cc

same_front : (cs rest ds behind : List ℕ) (what other : Option Form) → Front cs rest what → Front ds behind other → cs ++ rest ≡ ds ++ behind → (cs ≡ ds) × (rest ≡ behind) × (what ≡ other)
same_front cs rest ds behind what other f g e =
    elim (compare_fronts cs rest ds behind e) [
      | first_shorter more d r ↦ from cs rest ds behind what other more f g d r
      | second_shorter more d r ↦ let h = from ds behind cs rest other what more g f d r in (sym h.0, sym h.1, sym h.2)
    ]
  where
    from : (cs rest ds behind : List ℕ) (what other : Option Form) (more : List ℕ) → Front cs rest what → Front ds behind other → ds ≡ cs ++ more → rest ≡ more ++ behind → (cs ≡ ds) × (rest ≡ behind) × (what ≡ other)
    from cs rest ds behind what other [] f g d r = let same : cs ≡ ds = sym (d ∙ append-nil cs) in (same, r, sym f.is ∙ ap form same ∙ g.is)
    from cs rest ds behind what other (m ∷ more) f g d r =
        let P : List ℕ → Type 0 = λ xs. Front xs behind other in absurd (too_long cs rest (m ∷ more) behind what other f (subst P d g) r (λ n. cc))

-- the token of what is taken off, if it has one
tokens_of : Option Form → ℕ → ℕ → List SpannedToken
tokens_of None start end = spanned Invalid start end ∷ []
tokens_of (Some trivia) start end = []
tokens_of (Some (token t)) start end = spanned t start end ∷ []

-- what is behind a front
record Behind (at : ℕ) (cs rest : List ℕ) (what : Option Form) (tokens : List SpannedToken) : Type 0 where
  tail : List SpannedToken
  lexes : Lexes (at + size cs) rest tail
  is : tokens ≡ tokens_of what at (at + size cs) ++ tail

move : (at : ℕ) (cs rest ds behind : List ℕ) (what other : Option Form) (tokens : List SpannedToken) → (cs ≡ ds) × (rest ≡ behind) × (what ≡ other) → Behind at ds behind other tokens → Behind at cs rest what tokens
move at cs rest ds behind what other tokens h b =
    record {
      tail = b.tail;
      lexes = (let P : List ℕ × List ℕ → Type 0 = λ x. Lexes (at + size x.0) x.1 b.tail in subst P (λ i. (sym h.0 i, sym h.1 i)) b.lexes);
      is = b.is ∙ (λ i. tokens_of (sym h.2 i) at (at + size (sym h.0 i)) ++ b.tail);
    }

front_of : (at : ℕ) (ys : List ℕ) (tokens : List SpannedToken) → Lexes at ys tokens → (cs rest : List ℕ) (what : Option Form) → Front cs rest what → cs ++ rest ≡ ys → Behind at cs rest what tokens
unfolding tokens_of
front_of at _ _ (at_the_end) cs rest what f e = absurd (f.some (empty cs e))
  where
    empty : (xs : List ℕ) → xs ++ rest ≡ [] → xs ≡ []
    empty [] h = refl
    empty (x ∷ xs) h = cc
front_of at _ tokens (behind_trivia {cs = ds} {rest = behind} h l) cs rest what f e =
    move at cs rest ds behind what (Some trivia) tokens (same_front cs rest ds behind what (Some trivia) f (longest_front ds behind trivia h) e) (record { tail = tokens; lexes = l; is = refl })
front_of at _ _ (a_token {cs = ds} {rest = behind} {t = t} {tokens = tail} h l) cs rest what f e =
    move at cs rest ds behind what (Some (token t)) (spanned t at (at + size ds) ∷ tail) (same_front cs rest ds behind what (Some (token t)) f (longest_front ds behind (token t) h) e) (record { tail = tail; lexes = l; is = refl })
front_of at _ _ (no_token {c = c} {rest = behind} {tokens = tail} is longest l) cs rest what f e =
    move at cs rest (c ∷ []) behind what None (spanned Invalid at (at + size (c ∷ [])) ∷ tail) (same_front cs rest (c ∷ []) behind what None f (nothing_front c behind is longest) e) (record { tail = tail; lexes = l; is = refl })

pub lexes_once : (at : ℕ) (xs : List ℕ) (a : List SpannedToken) → Lexes at xs a → (b : List SpannedToken) → Lexes at xs b → a ≡ b
unfolding tokens_of
lexes_once at _ _ (at_the_end) b l = ended at [] b l refl
  where
    ended : (at : ℕ) (ys : List ℕ) (b : List SpannedToken) → Lexes at ys b → [] ≡ ys → [] ≡ b
    ended at _ _ (at_the_end) e = refl
    ended at _ b (behind_trivia {cs = ds} {rest = rest} h l) e = absurd ((longest_front ds rest trivia h).some (empty ds rest e))
      where
        empty : (xs rest : List ℕ) → [] ≡ xs ++ rest → xs ≡ []
        empty [] rest h = refl
        empty (x ∷ xs) rest h = cc
    ended at _ _ (a_token {cs = ds} {rest = rest} {t = t} h l) e = absurd ((longest_front ds rest (token t) h).some (empty ds rest e))
      where
        empty : (xs rest : List ℕ) → [] ≡ xs ++ rest → xs ≡ []
        empty [] rest h = refl
        empty (x ∷ xs) rest h = cc
    ended at _ _ (no_token is longest l) e = cc
lexes_once at _ a (behind_trivia {cs = cs} {rest = rest} h l) b other =
    let r = front_of at (cs ++ rest) b other cs rest (Some trivia) (longest_front cs rest trivia h) refl in
    lexes_once (at + size cs) rest a l r.tail r.lexes ∙ sym r.is
lexes_once at _ _ (a_token {cs = cs} {rest = rest} {t = t} {tokens = tail} h l) b other =
    let r = front_of at (cs ++ rest) b other cs rest (Some (token t)) (longest_front cs rest (token t) h) refl in
    ap (λ x. spanned t at (at + size cs) ∷ x) (lexes_once (at + size cs) rest tail l r.tail r.lexes) ∙ sym r.is
lexes_once at _ _ (no_token {c = c} {rest = rest} {tokens = tail} is longest l) b other =
    let r = front_of at (c ∷ rest) b other (c ∷ []) rest None (nothing_front c rest is longest) refl in
    ap (λ x. spanned Invalid at (at + size (c ∷ [])) ∷ x) (lexes_once (at + size (c ∷ [])) rest tail l r.tail r.lexes) ∙ sym r.is

pub lexed_once : (text : List ℕ) (a b : List SpannedToken) → IsLexed text a → IsLexed text b → a ≡ b
lexed_once text a b l m =
    let same : m.characters ≡ l.characters = encodes_same m.characters l.characters (m.spell ∙ sym l.spell) in
    let P : List ℕ → Type 0 = λ cs. Lexes 0 cs b in
    lexes_once 0 l.characters a l.lexes b (subst P same m.lexes)

-- something stands first
pub stands_some : (cs : List ℕ) (n : ℕ) (o : Option Token) → StandsFirst cs n o → 0 < n
stands_some cs zero _ (trivia_first h) = absurd ((longest_front [] cs trivia h).some refl)
stands_some cs zero _ (token_first {t = t} h) = absurd ((longest_front [] cs (token t) h).some refl)
stands_some cs zero _ (nothing_first one is longest) = cc
stands_some cs (suc n) o h = omega arith

-- One step of a reading: what stands first comes off

pub steps_trivia : (whole front back : List ℕ) (n at : ℕ) (later : List SpannedToken) → StandsFirst whole n None → front ≡ take n whole → back ≡ drop n whole → Lexes (at + size front) back later
    → Lexes at whole later
steps_trivia whole front back n at later (trivia_first h) f b l =
    let P : List ℕ × List ℕ → Type 0 = λ x. Lexes (at + size x.0) x.1 later in
    let Q : List ℕ → Type 0 = λ xs. Lexes at xs later in
    subst Q (take-append-drop n whole) (behind_trivia h (subst P (λ i. (f i, b i)) l))

pub steps_token : (c : ℕ) (behind front back : List ℕ) (n at : ℕ) (t : Token) (later : List SpannedToken) → StandsFirst (c ∷ behind) n (Some t) → front ≡ take n (c ∷ behind) → back ≡ drop n (c ∷ behind)
    → Lexes (at + size front) back later → Lexes at (c ∷ behind) (spanned t at (at + size front) ∷ later)
steps_token c behind front back n at _ later (token_first {t = t} h) f b l =
    let P : List ℕ × List ℕ → Type 0 = λ x. Lexes (at + size x.0) x.1 later in
    let Q : List ℕ → Type 0 = λ xs. Lexes at xs (spanned t at (at + size front) ∷ later) in
    let R : List ℕ → Type 0 = λ xs. Lexes at (take n (c ∷ behind) ++ drop n (c ∷ behind)) (spanned t at (at + size xs) ∷ later) in
    subst Q (take-append-drop n (c ∷ behind)) (subst R (sym f) (a_token h (subst P (λ i. (f i, b i)) l)))
steps_token c behind front back n at _ later (nothing_first one is longest) f b l =
    let front' : front ≡ c ∷ [] = f ∙ ap (λ k. take k (c ∷ behind)) one in
    let back' : back ≡ behind = b ∙ ap (λ k. drop k (c ∷ behind)) one in
    let P : List ℕ × List ℕ → Type 0 = λ x. Lexes (at + size x.0) x.1 later in
    let R : List ℕ → Type 0 = λ xs. Lexes at (c ∷ behind) (spanned Invalid at (at + size xs) ∷ later) in
    subst R (sym front') (no_token is longest (subst P (λ i. (front' i, back' i)) l))
