-- Texts that are laid out as the same tokens: what is told of them is told by the tokens alone.
use Rattle.std.proofs.Common.{◌≡◌, refl, sym, ap, ◌∙◌, subst, ℕ, suc, ◌+◌, arith, Bool, true, false, ◌&&◌, List, [], ◌∷◌, ◌++◌, append-nil, length, length-append, take, drop, Some}
use Rattle.wgsl_base.proofs.Bools.{and_both}
use Rattle.wgsl_token.specs.declared.token.Token.{Token}
use Rattle.wgsl_token.specs.declared.token.Token.TheVariants.{Fixed, Identifier}
use Rattle.wgsl_token.specs.declared.token.Fixed.TheVariants as f
use Rattle.wgsl_templates.specs.declared.meaning.kind.Kind.{Kind}
use Rattle.wgsl_templates.specs.declared.meaning.token.Bracket.{Bracket}
use Rattle.wgsl_templates.specs.declared.meaning.token.Bracket.TheVariants as b
use Rattle.wgsl_templates.specs.declared.meaning.token.TemplateToken.{TemplateToken}
use Rattle.wgsl_templates.specs.declared.meaning.token.TemplateToken.TheVariants.{Plain, TemplateArgsStart, TemplateArgsEnd}
use Rattle.wgsl_templates.specs.declared.meaning.token.SpannedTemplateToken.{SpannedTemplateToken}
use Rattle.wgsl_templates.specs.Kinds.{kind, kinds}
use Rattle.wgsl_templates.specs.Laws.{BeginsWithList}
use Rattle.wgsl_templates.specs.Tokens.{is_word, begins_with_greater, is_less, is_in_list, closed, behind, State, start, in_list, past, after, spanned, BeginsNoList, Reads, nothing, behind_trivia, a_token, Stands, closing, asked, plain, Opens, list, no_list}
use Rattle.wgsl_templates.proofs.Once.{Both, first_shorter, second_shorter, reads_both, ended, kinds_append, decided_once}
use Rattle.wgsl_templates.proofs.Whole.{opens_list}
use Rattle.wgsl_print_laws.specs.Layout as layout
use Rattle.wgsl_print_laws.specs.Layout.{IsPiece, IsLaidOut, IsTextOf}
use Rattle.wgsl_print_laws.specs.Laws.{without_places, LaidOutAsItsTokens, LaidOutAlike}
use Rattle.wgsl_print_laws.proofs.Pieces.{greater, less, told}
use Rattle.wgsl_print_laws.proofs.Levels.{beyond, list_closes}
use Rattle.wgsl_print_laws.proofs.Ahead.{ahead, closes, kinds_of, own, ReadsAhead, reads_ahead, closed_beyond}

abbrev pub own_list : List Bracket
own_list = b.TemplateList ∷ []

-- what stands behind a `<` begins with a list
abbrev pub Lists : List TemplateToken → Type 0
Lists ts = BeginsWithList (kinds_of (ahead own_list ts))

-- Tokens behind a word or not, where some brackets are still, of which each is told as it stands.
pub data Marked : Bool → List Bracket → List TemplateToken → Type 0 where
  none : {w : Bool} {o : List Bracket} → Marked w o []
  end : {w : Bool} {o : List Bracket} {ts : List TemplateToken} → is_in_list o ≡ true → Marked false (closed o) ts → Marked w o (TemplateArgsEnd ∷ ts)
  begin : {w : Bool} {o : List Bracket} {ts : List TemplateToken} → w ≡ true → Lists ts → Marked false (b.TemplateList ∷ o) ts → Marked w o (TemplateArgsStart ∷ ts)
  less_sign : {w : Bool} {o : List Bracket} {t : Token} {ts : List TemplateToken} → w ≡ true → less t ≡ true → (Lists ts → ⊥) → Marked (is_word (Plain t)) (behind o (Plain t)) ts → Marked w o (Plain t ∷ ts)
  as_is : {w : Bool} {o : List Bracket} {t : Token} {ts : List TemplateToken} → (is_in_list o && greater t) ≡ false → (w && less t) ≡ false → Marked (is_word (Plain t)) (behind o (Plain t)) ts
      → Marked w o (Plain t ∷ ts)

kinds_are : (tokens : List SpannedTemplateToken) → kinds tokens ≡ kinds_of (without_places tokens)
kinds_are [] = refl
kinds_are (t ∷ tokens) = ap (λ x. kind t.token ∷ x) (kinds_are tokens)

less_no_word : (t : Token) → less t ≡ true → is_word (Plain t) ≡ false
less_no_word (Fixed f.Var) e = absurd cc
less_no_word (Identifier x) e = absurd cc
less_no_word _ e = refl

cancel_right : (xs ys zs : List Kind) → xs ++ zs ≡ ys ++ zs → xs ≡ ys
cancel_right [] [] zs e = refl
cancel_right [] (y ∷ ys) zs e = absurd (let l : length zs ≡ suc (length ys + length zs) = ap length e ∙ ap suc (length-append ys zs) in omega arith)
cancel_right (x ∷ xs) [] zs e = absurd (let l : suc (length xs + length zs) ≡ length zs = sym (ap suc (length-append xs zs)) ∙ ap length e in omega arith)
cancel_right (x ∷ xs) (y ∷ ys) zs e =
    let heads : x ≡ y = cc in
    let tails : xs ++ zs ≡ ys ++ zs = cc in
    λ i. heads i ∷ cancel_right xs ys zs tails i

-- What is ahead

module _ (ys : List ℕ) (ts : List TemplateToken) (a : ReadsAhead in_list ys own_list ts) where
  kinds_ahead : kinds a.tokens ≡ kinds_of (ahead own_list ts)
  kinds_ahead = kinds_are a.tokens ∙ ap kinds_of a.are

  read_kinds : Lists ts → Opens ys true
  read_kinds h = opens_list ys a.tokens a.last a.left a.reads (subst BeginsWithList (sym kinds_ahead) h)

  lists : Opens ys true → Lists ts
  lists (list {left = zs} {body = body} {last = p} m h) = go (reads_both in_list ys body p zs m a.tokens a.last a.left a.reads)
    where
      whole : (more : List SpannedTemplateToken) → body ≡ a.tokens ++ more → kinds more ≡ [] → Lists ts
      whole more e nothing_more =
          let same : kinds body ≡ kinds a.tokens = ap kinds e ∙ kinds_append a.tokens more ∙ ap (λ x. kinds a.tokens ++ x) nothing_more ∙ append-nil (kinds a.tokens) in
          record { body = kinds body; rest = []; whole = sym kinds_ahead ∙ sym same ∙ sym (append-nil (kinds body)); is_list = h }

      longer : (more : List SpannedTemplateToken) → body ≡ a.tokens ++ more → Reads a.last a.left more p zs → (c : Bool) → closes own_list ts ≡ c → Lists ts
      longer more e r false still = whole more e (ap kinds (ended a.last a.left more p zs r (a.ended still)))
      longer more e r true shut =
          let is : kinds body ≡ kinds_of (ahead own_list ts) ++ kinds more = ap kinds e ∙ kinds_append a.tokens more ∙ ap (λ x. x ++ kinds more) kinds_ahead in
          let same : Some (kinds more) ≡ Some [] = sym (closed_beyond own_list ts (kinds more) shut) ∙ ap (beyond 1) (sym is) ∙ ap (beyond 1) (sym (append-nil (kinds body))) ∙ list_closes (kinds body) h 0 [] in
          whole more e cc

      go : Both body p zs a.tokens a.last a.left → Lists ts
      go (first_shorter more e r) = record { body = kinds body; rest = kinds more; whole = sym kinds_ahead ∙ ap kinds e ∙ kinds_append body more; is_list = h }
      go (second_shorter more e r) = longer more e r (closes own_list ts) refl

  no_lists : Opens ys false → Lists ts → ⊥
  no_lists o h = let e = decided_once ys true false (read_kinds h) o in cc

  begins_none : (Lists ts → ⊥) → BeginsNoList (kinds a.tokens) a.left
  begins_none never more body later cond e is_list = go (closes own_list ts) refl
    where
      is : kinds_of (ahead own_list ts) ++ more ≡ body ++ later
      is = ap (λ x. x ++ more) (sym kinds_ahead) ∙ e

      go : (c : Bool) → closes own_list ts ≡ c → ⊥
      go false still =
          let nothing_more : more ≡ [] = cond (a.ended still) in
          never (record { body = body; rest = later; whole = sym (append-nil (kinds_of (ahead own_list ts))) ∙ ap (λ x. kinds_of (ahead own_list ts) ++ x) (sym nothing_more) ∙ is; is_list = is_list })
      go true shut =
          let same : Some more ≡ Some later = sym (closed_beyond own_list ts more shut) ∙ ap (beyond 1) is ∙ list_closes body is_list 0 later in
          let tails : more ≡ later = cc in
          let fronts : kinds_of (ahead own_list ts) ≡ body = cancel_right _ _ later (ap (λ x. kinds_of (ahead own_list ts) ++ x) (sym tails) ∙ is) in
          never (record { body = body; rest = []; whole = fronts ∙ sym (append-nil body); is_list = is_list })

-- The tokens of a text are told as they stand

pub marked : (s : State) (xs : List ℕ) (tokens : List SpannedTemplateToken) (last : State) (left : List ℕ) → Reads s xs tokens last left → left ≡ [] → Marked s.after_word s.opened (without_places tokens)
marked s xs _ _ _ (nothing) e = none
marked s xs tokens last left (behind_trivia n h l) e = marked (past s (take n xs)) (drop n xs) tokens last left l e
marked s xs _ last left (a_token {tokens = tokens} n t h l) e = go n t h l (marked (after s (take n xs) t) (drop n xs) tokens last left l e)
  where
    read : (n : ℕ) (t : TemplateToken) → Reads (after s (take n xs) t) (drop n xs) tokens last left → is_word t ≡ false → ReadsAhead in_list (drop n xs) own_list (without_places tokens)
    read n t l w = reads_ahead (after s (take n xs) t) (drop n xs) tokens last left l e in_list (sym w) own

    go : (n : ℕ) (t : TemplateToken) → Stands s xs n t → Reads (after s (take n xs) t) (drop n xs) tokens last left → Marked (is_word t) (behind s.opened t) (without_places tokens)
        → Marked s.after_word s.opened (t ∷ without_places tokens)
    go _ _ (closing n u h g) l m = end (and_both (is_in_list s.opened) (begins_with_greater xs) g).0 m
    go _ _ (asked {opens = true} n u h q o) l m =
        begin (and_both s.after_word (is_less (take n xs)) q).0 (lists (drop n xs) (without_places tokens) (read n TemplateArgsStart l refl) o) m
    go _ _ (asked {opens = false} n u h q o) l m =
        let signs = and_both s.after_word (is_less (take n xs)) q in
        let is : less u ≡ true = sym (told xs n u h).less_is ∙ signs.1 in
        less_sign signs.0 is (no_lists (drop n xs) (without_places tokens) (read n (Plain u) l (less_no_word u is)) o) m
    go _ _ (plain n u h g q) l m =
        as_is (ap (λ x. is_in_list s.opened && x) (sym (told xs n u h).greater_is) ∙ g) (ap (λ x. s.after_word && x) (sym (told xs n u h).less_is) ∙ q) m

-- Such tokens are those of each text that is laid out as them

pub record Found (r : State) (ys : List ℕ) (ts : List TemplateToken) : Type 0 where
  pub tokens : List SpannedTemplateToken
  pub last : State
  pub reads : Reads r ys tokens last []
  pub are : without_places tokens ≡ ts

behind_token : (r : State) (ys : List ℕ) (n : ℕ) (t : TemplateToken) (ts : List TemplateToken) → Stands r ys n t → Found (after r (take n ys) t) (drop n ys) ts → Found r ys (t ∷ ts)
behind_token r ys n t ts stands rest = record {
  tokens = spanned r (take n ys) t ∷ rest.tokens;
  last = rest.last;
  reads = a_token n t stands rest.reads;
  are = ap (λ x. t ∷ x) rest.are;
}

module _ (r : State) (ys : List ℕ) (n : ℕ) (t : TemplateToken) (ts : List TemplateToken) (rest : Found (after r (take n ys) t) (drop n ys) ts) (w : is_word t ≡ false) where
  ahead_of_rest : ReadsAhead in_list (drop n ys) own_list ts
  ahead_of_rest =
      let P : List TemplateToken → Type 0 = λ us. ReadsAhead in_list (drop n ys) own_list us in
      subst P rest.are (reads_ahead (after r (take n ys) t) (drop n ys) rest.tokens rest.last [] rest.reads refl in_list (sym w) own)

  opens_there : Lists ts → Opens (drop n ys) true
  opens_there h = read_kinds (drop n ys) ts ahead_of_rest h

  opens_none_there : (Lists ts → ⊥) → Opens (drop n ys) false
  opens_none_there never = no_list ahead_of_rest.reads (begins_none (drop n ys) ts ahead_of_rest never)

pub found : (ys : List ℕ) (ts : List TemplateToken) → IsLaidOut ys ts → (w : Bool) (o : List Bracket) → Marked w o ts → (r : State) → r.after_word ≡ w → r.opened ≡ o → Found r ys ts
found _ _ (layout.at_the_end) w o m r e f = record { tokens = []; last = r; reads = nothing; are = refl }
found ys ts (layout.behind_trivia n h l) w o m r e f =
    let rest = found (drop n ys) ts l w o m (past r (take n ys)) e f in
    record { tokens = rest.tokens; last = rest.last; reads = behind_trivia n h rest.reads; are = rest.are }
found ys _ (layout.a_piece {tokens = ts} n _ (layout.a_token {t = u} h) l) w o (less_sign word sign never m) r e f =
    let rest = found (drop n ys) ts l _ _ m (after r (take n ys) (Plain u)) refl (ap (λ x. behind x (Plain u)) f) in
    let q : (r.after_word && is_less (take n ys)) ≡ true = ap (λ x. x && is_less (take n ys)) (e ∙ word) ∙ (told ys n u h).less_is ∙ sign in
    behind_token r ys n (Plain u) ts (asked {opens = false} n u h q (opens_none_there r ys n (Plain u) ts rest (less_no_word u sign) never)) rest
found ys _ (layout.a_piece {tokens = ts} n _ (layout.a_token {t = u} h) l) w o (as_is g q m) r e f =
    let rest = found (drop n ys) ts l _ _ m (after r (take n ys) (Plain u)) refl (ap (λ x. behind x (Plain u)) f) in
    behind_token r ys n (Plain u) ts
    (plain n u h (ap (λ x. is_in_list x && begins_with_greater ys) f ∙ ap (λ x. is_in_list o && x) (told ys n u h).greater_is ∙ g)
    (ap (λ x. x && is_less (take n ys)) e ∙ ap (λ x. w && x) (told ys n u h).less_is ∙ q)) rest
found ys _ (layout.a_piece {tokens = ts} n _ (layout.list_start {t = u} h sign) l) w o (begin word is_list m) r e f =
    let rest = found (drop n ys) ts l _ _ m (after r (take n ys) TemplateArgsStart) refl (ap (λ x. b.TemplateList ∷ x) f) in
    let q : (r.after_word && is_less (take n ys)) ≡ true = ap (λ x. x && is_less (take n ys)) (e ∙ word) ∙ sign in
    behind_token r ys n TemplateArgsStart ts (asked {opens = true} n u h q (opens_there r ys n TemplateArgsStart ts rest refl is_list)) rest
found ys _ (layout.a_piece {tokens = ts} _ _ (layout.list_end {n = n} {t = u} h sign) l) w o (end inside m) r e f =
    let rest = found (drop 1 ys) ts l _ _ m (after r (take 1 ys) TemplateArgsEnd) refl (ap closed f) in
    behind_token r ys 1 TemplateArgsEnd ts (closing n u h (ap (λ x. is_in_list x && begins_with_greater ys) f ∙ ap (λ x. x && begins_with_greater ys) inside ∙ sign)) rest

-- The laws

reads_laid_out : (s : State) (xs : List ℕ) (tokens : List SpannedTemplateToken) (last : State) (left : List ℕ) → Reads s xs tokens last left → left ≡ [] → IsLaidOut xs (without_places tokens)
reads_laid_out s xs _ _ _ (nothing) e = let P : List ℕ → Type 0 = λ x. IsLaidOut x [] in subst P (sym e) layout.at_the_end
reads_laid_out s xs tokens last left (behind_trivia n h l) e = layout.behind_trivia n h (reads_laid_out (past s (take n xs)) (drop n xs) tokens last left l e)
reads_laid_out s xs _ last left (a_token {tokens = tokens} n t h l) e = layout.a_piece n t (piece n t h) (reads_laid_out (after s (take n xs) t) (drop n xs) tokens last left l e)
  where
    piece : (n : ℕ) (t : TemplateToken) → Stands s xs n t → IsPiece xs n t
    piece _ _ (closing n u h g) = layout.list_end h (and_both (is_in_list s.opened) (begins_with_greater xs) g).1
    piece _ _ (asked {opens = true} n u h q o) = layout.list_start h (and_both s.after_word (is_less (take n xs)) q).1
    piece _ _ (asked {opens = false} n u h q o) = layout.a_token h
    piece _ _ (plain n u h g q) = layout.a_token h

pub laid_out_as_its_tokens : LaidOutAsItsTokens
laid_out_as_its_tokens text tokens l = record {
  characters = l.characters;
  are_scalars = l.are_scalars;
  spell = l.spell;
  laid_out = reads_laid_out start l.characters tokens l.lexes.0 [] l.lexes.1 refl;
}

pub laid_out_alike : LaidOutAlike
laid_out_alike text other tokens l t =
    let m = marked start l.characters tokens l.lexes.0 [] l.lexes.1 refl in
    let x = found t.characters (without_places tokens) t.laid_out false [] m start refl refl in
    (x.tokens, record { characters = t.characters; are_scalars = t.are_scalars; spell = t.spell; lexes = (x.last, x.reads) }, x.are)
