-- The names that one held symbol has, or several.
use Rattle.std.proofs.Common.{◌≡◌, refl, sym, ap, ◌∙◌, subst, ℕ, zero, suc, ◌+◌, ◌<◌, ◌≤◌, ◌⊎◌, inl, inr, ⊎_elim, List, [], ◌∷◌, ◌++◌, Bool, true, false, ◌||◌, ◌&&◌, Option, Some, None, arith}
use Rattle.std.specs.Prelude.{slice_get, string_bytes}
use Rattle.std.specs.Str.{bytes_eq}
use Rattle.std.specs.declared.string.String.{String}
use Rattle.std.specs.declared.alloc.Global.{Global}
use Rattle.std.proofs.lemmas.List.Folds.{list_any-append}
use Rattle.core_syntax.specs.Tree.{Decl}
use Rattle.core_syntax.specs.View.{unit_tree}
use Rattle.core_link_spec.specs.Occurrences.{Name, is_among}
use Rattle.core_scopes.specs.declared.module.Module.{Module}
use Rattle.core_scopes.specs.Outcomes.{home_of}
use Rattle.core_reach.specs.Closing.{HeldNames, held_at}
use Rattle.core_link.specs.Clashing.{names_of, names_among, names_in, held_names, is_twice}
use Rattle.core_scopes.proofs.ScopeLemmas.{same_name, self_name}
use Rattle.wgsl_base.proofs.Bools.{and_both, or_cases, or_right, or_left, and_true}

spread : (y a b t u : Bool) → ((y && (a || b)) || ((a && b) || (t || u))) ≡ (((y || a) && b) || (((y && a) || t) || u))
spread false a b t u = refl
spread true true true t u = refl
spread true true false t u = refl
spread true false true t u = refl
spread true false false t u = refl

among_append : (y : Name) (xs zs : List Name) → is_among y (xs ++ zs) ≡ (is_among y xs || is_among y zs)
among_append y xs zs = list_any-append (λ z. bytes_eq y z) xs zs

twice_append : (y : Name) (xs zs : List Name) → is_twice y (xs ++ zs) ≡ ((is_among y xs && is_among y zs) || (is_twice y xs || is_twice y zs))
twice_append y [] zs = refl
twice_append y (x ∷ xs) zs =
    (λ k. (bytes_eq y x && among_append y xs zs k) || twice_append y xs zs k)
    ∙ spread (bytes_eq y x) (is_among y xs) (is_among y zs) (is_twice y xs) (is_twice y zs)

among_first : (y : Name) (xs zs : List Name) → is_among y xs ≡ true → is_among y (xs ++ zs) ≡ true
among_first y xs zs e = among_append y xs zs ∙ or_left (is_among y xs) (is_among y zs) e

among_second : (y : Name) (xs zs : List Name) → is_among y zs ≡ true → is_among y (xs ++ zs) ≡ true
among_second y xs zs e = among_append y xs zs ∙ or_right (is_among y xs) (is_among y zs) e

twice_both : (y : Name) (xs zs : List Name) → is_among y xs ≡ true → is_among y zs ≡ true → is_twice y (xs ++ zs) ≡ true
twice_both y xs zs e f = twice_append y xs zs ∙ or_left (is_among y xs && is_among y zs) (is_twice y xs || is_twice y zs) (and_true (is_among y xs) (is_among y zs) e f)

twice_first : (y : Name) (xs zs : List Name) → is_twice y xs ≡ true → is_twice y (xs ++ zs) ≡ true
twice_first y xs zs e =
    twice_append y xs zs ∙ or_right (is_among y xs && is_among y zs) (is_twice y xs || is_twice y zs) (or_left (is_twice y xs) (is_twice y zs) e)

twice_second : (y : Name) (xs zs : List Name) → is_twice y zs ≡ true → is_twice y (xs ++ zs) ≡ true
twice_second y xs zs e =
    twice_append y xs zs ∙ or_right (is_among y xs && is_among y zs) (is_twice y xs || is_twice y zs) (or_right (is_twice y xs) (is_twice y zs) e)

-- ---- in one module

module _ (h : ℕ → Option Name) (y : Name) where
  own_among : (o : Option Name) → o ≡ Some y → is_among y (names_of o) ≡ true
  own_among None e = absurd (cc)
  own_among (Some z) e = let same : z ≡ y = cc in ap (λ t. bytes_eq y t || false) same ∙ ap (λ b. b || false) (self_name y)

  among_at : (place : ℕ) (ds : List Decl) (k : ℕ) (d : Decl) → slice_get ds k ≡ Some d → h (place + k) ≡ Some y → is_among y (names_among h place ds) ≡ true
  among_at place [] k d there is = absurd (cc)
  among_at place (c ∷ ds) zero d there is =
      let n : place + zero ≡ place = omega arith in
      among_first y (names_of (h place)) (names_among h (place + 1) ds) (own_among (h place) (ap h (sym n) ∙ is))
  among_at place (c ∷ ds) (suc k) d there is =
      let n : place + suc k ≡ (place + 1) + k = omega arith in
      among_second y (names_of (h place)) (names_among h (place + 1) ds) (among_at (place + 1) ds k d there (ap h (sym n) ∙ is))

  twice_at : (place : ℕ) (ds : List Decl) (k l : ℕ) (c d : Decl) → slice_get ds k ≡ Some c → slice_get ds l ≡ Some d → (k ≡ l → ⊥) → h (place + k) ≡ Some y → h (place + l) ≡ Some y
      → is_twice y (names_among h place ds) ≡ true
  twice_at place [] k l c d at on apart is and = absurd (cc)
  twice_at place (e ∷ ds) zero zero c d at on apart is and = absurd (apart refl)
  twice_at place (e ∷ ds) zero (suc l) c d at on apart is and =
      let n : place + zero ≡ place = omega arith in
      let m : place + suc l ≡ (place + 1) + l = omega arith in
      twice_both y (names_of (h place)) (names_among h (place + 1) ds) (own_among (h place) (ap h (sym n) ∙ is)) (among_at (place + 1) ds l d on (ap h (sym m) ∙ and))
  twice_at place (e ∷ ds) (suc k) zero c d at on apart is and =
      let n : place + zero ≡ place = omega arith in
      let m : place + suc k ≡ (place + 1) + k = omega arith in
      twice_both y (names_of (h place)) (names_among h (place + 1) ds) (own_among (h place) (ap h (sym n) ∙ and)) (among_at (place + 1) ds k c at (ap h (sym m) ∙ is))
  twice_at place (e ∷ ds) (suc k) (suc l) c d at on apart is and =
      let n : place + suc k ≡ (place + 1) + k = omega arith in
      let m : place + suc l ≡ (place + 1) + l = omega arith in
      twice_second y (names_of (h place)) (names_among h (place + 1) ds)
      (twice_at (place + 1) ds k l c d at on (λ same. apart (ap suc same)) (ap h (sym n) ∙ is) (ap h (sym m) ∙ and))

  own_is : (o : Option Name) → is_among y (names_of o) ≡ true → o ≡ Some y
  own_is None e = absurd (cc)
  own_is (Some z) e = at (bytes_eq y z) refl e
    where
      at : (b : Bool) → bytes_eq y z ≡ b → (b || false) ≡ true → Some z ≡ Some y
      at true same e = ap (λ t. Some t) (sym (same_name y z same))
      at false same e = absurd (cc)

  own_once : (o : Option Name) → is_twice y (names_of o) ≡ true → ⊥
  own_once None e = absurd (cc)
  own_once (Some z) e = at (bytes_eq y z) e
    where
      at : (b : Bool) → ((b && false) || false) ≡ true → ⊥
      at true e = absurd (cc)
      at false e = absurd (cc)

  at_among : (place : ℕ) (ds : List Decl) → is_among y (names_among h place ds) ≡ true → (k : ℕ) × (place ≤ k) × (h k ≡ Some y)
  at_among place [] e = absurd (cc)
  at_among place (d ∷ ds) e =
      ⊎_elim
      (λ here. (place, omega arith, own_is (h place) here))
      (λ rest. let r = at_among (place + 1) ds rest in let more : place ≤ r.0 = omega (arith, r.1) in (r.0, more, r.2))
      (or_cases (is_among y (names_of (h place))) (is_among y (names_among h (place + 1) ds)) (sym (among_append y (names_of (h place)) (names_among h (place + 1) ds)) ∙ e))

  at_twice : (place : ℕ) (ds : List Decl) → is_twice y (names_among h place ds) ≡ true → (k : ℕ) × (l : ℕ) × (k < l) × (h k ≡ Some y) × (h l ≡ Some y)
  at_twice place [] e = absurd (cc)
  at_twice place (d ∷ ds) e =
      ⊎_elim
      (λ both.
      let b = and_both (is_among y (names_of (h place))) (is_among y (names_among h (place + 1) ds)) both in
      let r = at_among (place + 1) ds b.1 in
      let less : place < r.0 = omega (arith, r.1) in
      (place, r.0, less, own_is (h place) b.0, r.2))
      (λ one. ⊎_elim (λ own. absurd (own_once (h place) own)) (λ rest. at_twice (place + 1) ds rest) (or_cases (is_twice y (names_of (h place))) (is_twice y (names_among h (place + 1) ds)) one))
      (or_cases (is_among y (names_of (h place)) && is_among y (names_among h (place + 1) ds)) (is_twice y (names_of (h place)) || is_twice y (names_among h (place + 1) ds))
      (sym (twice_append y (names_of (h place)) (names_among h (place + 1) ds)) ∙ e))

from_zero : (h : ℕ → Option Name) (y : Name) (k : ℕ) → h k ≡ Some y → h (0 + k) ≡ Some y
from_zero h y k e = let n : 0 + k ≡ k = omega arith in ap h n ∙ e

-- ---- in the loaded modules

abbrev pub Entry : Type 0
Entry = String Global × Module

-- the name is held at a place of a module
pub record NamedAt (held : HeldNames) (y : Name) (e : Entry) (k : ℕ) : Type 0 where
  pub declaration : Decl
  pub stands : slice_get (unit_tree e.1.unit).declarations k ≡ Some declaration
  pub named : held_at held (string_bytes e.1.printed_path) k ≡ Some y

module _ (held : HeldNames) (y : Name) where
  abbrev of_one : Entry → List Name
  of_one e = names_in (held_at held) (home_of e.1)

  here_among : (e : Entry) (k : ℕ) → NamedAt held y e k → is_among y (of_one e) ≡ true
  here_among e k n = among_at (held_at held (string_bytes e.1.printed_path)) y 0 (unit_tree e.1.unit).declarations k n.declaration n.stands (from_zero (held_at held (string_bytes e.1.printed_path)) y k n.named)

  pub among_of : (es : List Entry) (i : ℕ) (e : Entry) (k : ℕ) → slice_get es i ≡ Some e → NamedAt held y e k → is_among y (held_names held es) ≡ true
  among_of [] i e k at n = absurd (cc)
  among_of (f ∷ es) zero e k at n = let same : f ≡ e = cc in among_first y (of_one f) (held_names held es) (here_among f k (subst (λ g. NamedAt held y g k) (sym same) n))
  among_of (f ∷ es) (suc i) e k at n = among_second y (of_one f) (held_names held es) (among_of es i e k at n)

  two_here : (g : Entry) (k l : ℕ) → NamedAt held y g k → NamedAt held y g l → (k ≡ l → ⊥) → is_twice y (of_one g) ≡ true
  two_here g k l m p apart =
      twice_at (held_at held (string_bytes g.1.printed_path)) y 0 (unit_tree g.1.unit).declarations k l m.declaration p.declaration m.stands p.stands apart
      (from_zero (held_at held (string_bytes g.1.printed_path)) y k m.named) (from_zero (held_at held (string_bytes g.1.printed_path)) y l p.named)

  the_entry : (g e : Entry) → Some g ≡ Some e → e ≡ g
  the_entry g e same = cc

  moved : (g e : Entry) (k : ℕ) → Some g ≡ Some e → NamedAt held y e k → NamedAt held y g k
  moved g e k same n = subst (λ t. NamedAt held y t k) (the_entry g e same) n

  here_and_there : (g : Entry) (es : List Entry) (j : ℕ) (f : Entry) (k l : ℕ) → NamedAt held y g k → slice_get es j ≡ Some f → NamedAt held y f l
      → is_twice y (held_names held (g ∷ es)) ≡ true
  here_and_there g es j f k l n on o = twice_both y (of_one g) (held_names held es) (here_among g k n) (among_of es j f l on o)

  both_here : (g : Entry) (es : List Entry) (k l : ℕ) → NamedAt held y g k → NamedAt held y g l → (k ≡ l → ⊥) → is_twice y (held_names held (g ∷ es)) ≡ true
  both_here g es k l n o apart = twice_first y (of_one g) (held_names held es) (two_here g k l n o apart)

  abbrev Apart : ℕ → ℕ → ℕ → ℕ → Type 0
  Apart i j k l = i ≡ j → k ≡ l → ⊥

  pub twice_of : (es : List Entry) (i j : ℕ) (e f : Entry) (k l : ℕ) → slice_get es i ≡ Some e → slice_get es j ≡ Some f → NamedAt held y e k → NamedAt held y f l
      → Apart i j k l → is_twice y (held_names held es) ≡ true
  twice_of [] i j e f k l at on n o apart = absurd (cc)
  twice_of (g ∷ es) i j e f k l at on n o apart = by i j at on apart (λ a b first second other. twice_of es a b e f k l first second n o other)
    where
      by : (i j : ℕ) → slice_get (g ∷ es) i ≡ Some e → slice_get (g ∷ es) j ≡ Some f → Apart i j k l
          → ((a b : ℕ) → slice_get es a ≡ Some e → slice_get es b ≡ Some f → Apart a b k l → is_twice y (held_names held es) ≡ true) → is_twice y (held_names held (g ∷ es)) ≡ true
      by zero zero at on apart more = both_here g es k l (moved g e k at n) (moved g f l on o) (apart refl)
      by zero (suc j) at on apart more = here_and_there g es j f k l (moved g e k at n) on o
      by (suc i) zero at on apart more = here_and_there g es i e l k (moved g f l on o) at n
      by (suc i) (suc j) at on apart more = twice_second y (of_one g) (held_names held es) (more i j at on (λ same. apart (ap suc same)))

  -- a place of one of the modules that has the name
  pub record Placed (es : List Entry) : Type 0 where
    pub index : ℕ
    pub entry : Entry
    pub place : ℕ
    pub stands : slice_get es index ≡ Some entry
    pub named : held_at held (string_bytes entry.1.printed_path) place ≡ Some y

  abbrev later : (e : Entry) (es : List Entry) → Placed es → Placed (e ∷ es)
  later e es p = record { index = suc p.index; entry = p.entry; place = p.place; stands = p.stands; named = p.named }

  pub placed : (es : List Entry) → is_among y (held_names held es) ≡ true → Placed es
  placed [] e = absurd (cc)
  placed (f ∷ es) e =
      ⊎_elim
      (λ here.
      let r = at_among (held_at held (string_bytes f.1.printed_path)) y 0 (unit_tree f.1.unit).declarations here in
      record { index = zero; entry = f; place = r.0; stands = refl; named = r.2 })
      (λ rest. later f es (placed es rest))
      (or_cases (is_among y (of_one f)) (is_among y (held_names held es)) (sym (among_append y (of_one f) (held_names held es)) ∙ e))

  -- two places that have the name
  pub record PlacedTwice (es : List Entry) : Type 0 where
    pub one : Placed es
    pub other : Placed es
    pub apart : (one.index < other.index) ⊎ ((one.entry ≡ other.entry) × (one.place < other.place))

  pub placed_twice : (es : List Entry) → is_twice y (held_names held es) ≡ true → PlacedTwice es
  placed_twice [] e = absurd (cc)
  placed_twice (f ∷ es) e =
      ⊎_elim
      (λ both.
      let b = and_both (is_among y (of_one f)) (is_among y (held_names held es)) both in
      let r = at_among (held_at held (string_bytes f.1.printed_path)) y 0 (unit_tree f.1.unit).declarations b.0 in
      let p = placed es b.1 in
      let less : 0 < suc p.index = omega arith in
      record {
        one = record { index = zero; entry = f; place = r.0; stands = refl; named = r.2 };
        other = later f es p;
        apart = inl less;
      })
      (λ one.
      ⊎_elim
      (λ here.
      let r = at_twice (held_at held (string_bytes f.1.printed_path)) y 0 (unit_tree f.1.unit).declarations here in
      record {
        one = record { index = zero; entry = f; place = r.0; stands = refl; named = r.3 };
        other = record { index = zero; entry = f; place = r.1; stands = refl; named = r.4 };
        apart = inr (refl, r.2);
      })
      (λ rest.
      let p = placed_twice es rest in
      record {
        one = later f es p.one;
        other = later f es p.other;
        apart = ⊎_elim (λ less. inl (omega (arith, less))) (λ same. inr same) p.apart;
      })
      (or_cases (is_twice y (of_one f)) (is_twice y (held_names held es)) one))
      (or_cases (is_among y (of_one f) && is_among y (held_names held es)) (is_twice y (of_one f) || is_twice y (held_names held es))
      (sym (twice_append y (of_one f) (held_names held es)) ∙ e))
