-- Symbols: the tokens of one spelling that are no words.
use Rattle.std.specs.Prelude.{Some, None, find}
use Rattle.std.proofs.Common.{◌≡◌, ℕ, Bool, true, false, cond, ◌&&◌, ◌||◌, ◌==◌, inl, inr, List, [], ◌∷◌, refl, sym, ◌∙◌, ap}
use Rattle.std.specs.Option.{option_map}
use Rattle.std.specs.List.{list_all, list_any}
use Rattle.std.specs.Bool.{Decides}
use Rattle.std.specs.Str.{bytes_eq}
use Rattle.std.proofs.lemmas.Slice.Eq.{bytes_eq-Decides}
use Rattle.std.proofs.lemmas.Bool.Decides.{Decides-eqb}
use Rattle.unicode_ident.specs.Ident.{is_xid_start}
use Rattle.unicode_ident.proofs.Computing.{unicode_ident}
use Rattle.wgsl_token.specs.declared.token.Fixed.{Fixed}
use Rattle.wgsl_token.specs.Spelling.{spelling}
use Rattle.wgsl_lex.specs.declared.symbol.TheConstants.{ONE, TWO, THREE}
use Rattle.wgsl_lex.specs.Tokens.{all_fixed, fixed_of}
use Rattle.wgsl_lex.specs.Pieces.{is_second}
use Rattle.wgsl_lex.proofs.Bools.{not_both, is_number}
use Rattle.wgsl_lex.proofs.Tables.{find_found, find_all, fixed_passes, no_fixed, fixed_of-spelling}
use Rattle.wgsl_base.proofs.Bools.{and_both as both, or_cases as either}

-- a search finds where some element passes
find_some : {X : Type 0} (p : X → Bool) (xs : List X) → find p xs ≡ None → list_any p xs ≡ false
find_some p [] e = refl
find_some p (x ∷ xs) e =
    elim (p x) as (λ b. cond b (Some x) (find p xs) ≡ None → (b || list_any p xs) ≡ false) [ true ↦ λ found. cc | false ↦ λ found. find_some p xs found ] e

any_like : {X : Type 0} (p q : X → Bool) (xs : List X) → ((x : X) → q x ≡ true → p x ≡ true) → list_any q xs ≡ true → list_any p xs ≡ true
any_like p q [] h e = e
any_like p q (x ∷ xs) h e =
    elim (p x) as (λ b. p x ≡ b → (b || list_any p xs) ≡ true) [
      | true ↦ λ _. refl
      | false ↦ λ fail. elim (either (q x) (list_any q xs) e) [ inl here ↦ absurd (not_both (p x) (h x here) fail) | inr later ↦ any_like p q xs h later ]
    ] refl

-- A table of spellings and their tokens finds the token of a spelling, if it has each token that the spelling may have.
pub table_finds : {X : Type 0} (table : List X) (fixed : X → Fixed) (spelled : X → List ℕ) (p : X → Bool) (cs : List ℕ) → ((x : X) → Decides (p x) (spelled x ≡ cs))
    → list_all (λ x. bytes_eq (spelling (fixed x)) (spelled x)) table ≡ true
    → ((g : Fixed) → fixed_of cs ≡ Some g → list_any (λ x. bytes_eq (spelled x) cs) table ≡ true) → option_map fixed (find p table) ≡ fixed_of cs
table_finds table fixed spelled p cs same right complete =
    elim (find p table) as (λ o. find p table ≡ o → option_map fixed o ≡ fixed_of cs) [
      | Some x ↦ λ found.
          let is : spelled x ≡ cs = (same x).0 (find_found p table x found) in
          let row : spelling (fixed x) ≡ spelled x = (bytes_eq-Decides _ _).0 (find_all p (λ y. bytes_eq (spelling (fixed y)) (spelled y)) table x right found) in
          sym (ap fixed_of (sym (row ∙ is)) ∙ fixed_of-spelling (fixed x))
      | None ↦ λ missing.
          elim (fixed_of cs) as (λ o. fixed_of cs ≡ o → None ≡ o) [
            | None ↦ λ _. refl
            | Some g ↦ λ some.
                let found : list_any p table ≡ true = any_like p (λ x. bytes_eq (spelled x) cs) table (λ x e. (same x).1 ((bytes_eq-Decides _ _).0 e)) (complete g some) in
                absurd (not_both (list_any p table) found (find_some p table missing))
          ] refl
    ] refl

-- One character

abbrev listed_1 : List ℕ → Bool
listed_1 [] = true
listed_1 (c ∷ []) = is_xid_start c || list_any (λ x. bytes_eq (x.0 ∷ []) (c ∷ [])) ONE
listed_1 (c ∷ d ∷ cs) = true

spellings_listed_1 : list_all (λ g. listed_1 (spelling g)) all_fixed ≡ true
unfolding unicode_ident
spellings_listed_1 = refl

pub one_is : (c : ℕ) → is_xid_start c ≡ false → option_map (λ x. x.1) (find (λ x. x.0 == c) ONE) ≡ fixed_of (c ∷ [])
one_is c starts =
    table_finds ONE (λ x. x.1) (λ x. x.0 ∷ []) (λ x. x.0 == c) (c ∷ [])
    (λ x. (λ e. ap (λ a. a ∷ []) (is_number x.0 c e), λ e. let h : x.0 ≡ c = cc in (Decides-eqb x.0 c).1 h)) refl
    (λ g e. rw starts at (fixed_passes listed_1 spellings_listed_1 (c ∷ []) g e))

-- Two

abbrev listed_2 : List ℕ → Bool
listed_2 [] = true
listed_2 (c ∷ []) = true
listed_2 (c ∷ d ∷ []) = is_xid_start c || list_any (λ x. bytes_eq (x.0 ∷ x.1 ∷ []) (c ∷ d ∷ [])) TWO
listed_2 (c ∷ d ∷ e ∷ cs) = true

spellings_listed_2 : list_all (λ g. listed_2 (spelling g)) all_fixed ≡ true
unfolding unicode_ident
spellings_listed_2 = refl

pub two_is : (c d : ℕ) → is_xid_start c ≡ false → option_map (λ x. x.2) (find (λ x. (x.0 == c) && (x.1 == d)) TWO) ≡ fixed_of (c ∷ d ∷ [])
two_is c d starts =
    table_finds TWO (λ x. x.2) (λ x. x.0 ∷ x.1 ∷ []) (λ x. (x.0 == c) && (x.1 == d)) (c ∷ d ∷ [])
    (λ x. (
      λ e.
          let h = both (x.0 == c) (x.1 == d) e in
          let h0 : x.0 ≡ c = is_number x.0 c h.0 in
          let h1 : x.1 ≡ d = is_number x.1 d h.1 in
          cc,
      λ e.
          let h0 : (x.0 == c) ≡ true = let h : x.0 ≡ c = cc in (Decides-eqb x.0 c).1 h in
          let h1 : (x.1 == d) ≡ true = let h : x.1 ≡ d = cc in (Decides-eqb x.1 d).1 h in
          rw (h0, h1),
    )) refl (λ g e. rw starts at (fixed_passes listed_2 spellings_listed_2 (c ∷ d ∷ []) g e))

pub not_second : (c d : ℕ) → is_second d ≡ false → option_map (λ x. x.2) (find (λ x. (x.0 == c) && (x.1 == d)) TWO) ≡ None
not_second c d fail =
    elim (find (λ x. (x.0 == c) && (x.1 == d)) TWO) as (λ o. find (λ x. (x.0 == c) && (x.1 == d)) TWO ≡ o → option_map (λ x. x.2) o ≡ None) [
      | None ↦ λ _. refl
      | Some x ↦ λ found.
          let passes : is_second x.1 ≡ true = find_all (λ y. (y.0 == c) && (y.1 == d)) (λ y. is_second y.1) TWO x refl found in
          let parts = both (x.0 == c) (x.1 == d) (find_found (λ y. (y.0 == c) && (y.1 == d)) TWO x found) in
          absurd (not_both (is_second d) (ap is_second (sym (is_number x.1 d parts.1)) ∙ passes) fail)
    ] refl

-- Three

abbrev listed_3 : List ℕ → Bool
listed_3 [] = true
listed_3 (c ∷ []) = true
listed_3 (c ∷ d ∷ []) = true
listed_3 (c ∷ d ∷ e ∷ []) = is_xid_start c || list_any (λ x. bytes_eq (x.0 ∷ x.1 ∷ x.2 ∷ []) (c ∷ d ∷ e ∷ [])) THREE
listed_3 (c ∷ d ∷ e ∷ g ∷ cs) = is_xid_start c

spellings_listed_3 : list_all (λ g. listed_3 (spelling g)) all_fixed ≡ true
unfolding unicode_ident
spellings_listed_3 = refl

pub three_is : (c d e : ℕ) → is_xid_start c ≡ false → option_map (λ x. x.3) (find (λ x. (x.0 == c) && (x.1 == d) && (x.2 == e)) THREE) ≡ fixed_of (c ∷ d ∷ e ∷ [])
three_is c d e starts =
    table_finds THREE (λ x. x.3) (λ x. x.0 ∷ x.1 ∷ x.2 ∷ []) (λ x. (x.0 == c) && (x.1 == d) && (x.2 == e)) (c ∷ d ∷ e ∷ [])
    (λ x. (
      λ h.
          let h' = both ((x.0 == c) && (x.1 == d)) (x.2 == e) h in
          let h'' = both (x.0 == c) (x.1 == d) h'.0 in
          let h0 : x.0 ≡ c = is_number x.0 c h''.0 in
          let h1 : x.1 ≡ d = is_number x.1 d h''.1 in
          let h2 : x.2 ≡ e = is_number x.2 e h'.1 in
          cc,
      λ h.
          let h0 : (x.0 == c) ≡ true = let k : x.0 ≡ c = cc in (Decides-eqb x.0 c).1 k in
          let h1 : (x.1 == d) ≡ true = let k : x.1 ≡ d = cc in (Decides-eqb x.1 d).1 k in
          let h2 : (x.2 == e) ≡ true = let k : x.2 ≡ e = cc in (Decides-eqb x.2 e).1 k in
          rw (h0, h1, h2),
    )) refl (λ g h. rw starts at (fixed_passes listed_3 spellings_listed_3 (c ∷ d ∷ e ∷ []) g h))

pub not_second_of_three : (c d e : ℕ) → is_second d ≡ false → option_map (λ x. x.3) (find (λ x. (x.0 == c) && (x.1 == d) && (x.2 == e)) THREE) ≡ None
not_second_of_three c d e fail =
    elim (find (λ x. (x.0 == c) && (x.1 == d) && (x.2 == e)) THREE) as (λ o. find (λ x. (x.0 == c) && (x.1 == d) && (x.2 == e)) THREE ≡ o → option_map (λ x. x.3) o ≡ None) [
      | None ↦ λ _. refl
      | Some x ↦ λ found.
          let passes : is_second x.1 ≡ true = find_all (λ y. (y.0 == c) && (y.1 == d) && (y.2 == e)) (λ y. is_second y.1) THREE x refl found in
          let parts = both (x.0 == c) (x.1 == d) (both ((x.0 == c) && (x.1 == d)) (x.2 == e) (find_found (λ y. (y.0 == c) && (y.1 == d) && (y.2 == e)) THREE x found)).0 in
          absurd (not_both (is_second d) (ap is_second (sym (is_number x.1 d parts.1)) ∙ passes) fail)
    ] refl

-- More than three are no symbol.
pub four_is_none : (c d e g : ℕ) (cs : List ℕ) → is_xid_start c ≡ false → fixed_of (c ∷ d ∷ e ∷ g ∷ cs) ≡ None
four_is_none c d e g cs starts = no_fixed listed_3 spellings_listed_3 (c ∷ d ∷ e ∷ g ∷ cs) starts
