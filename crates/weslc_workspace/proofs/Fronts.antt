-- Beginnings of texts, one behind another.
use denote.Ref.{Bor}
use lib.Dec.{eqb-suc-zero}
use Rattle.std.proofs.Common.{◌≡◌, sym, ap, subst, ◌∙◌, ℕ, zero, suc, ◌+◌, ◌-◌, ◌<◌, ◌≤◌, List, [], ◌∷◌, ◌++◌, length, take, drop, get_or, false, Option, Some, None, append_assoc, length-append, arith}
use Rattle.std.specs.Prelude.{codes, nat_eq}
use Rattle.std.specs.Str.{bytes_eq}
use Rattle.std.proofs.lemmas.List.{append-nil, take_all}
use Rattle.std.proofs.lemmas.Bool.{false_from_ne_true}
use Rattle.std.proofs.lemmas.Slice.Eq.{bytes_eq-Decides}
use Rattle.wgsl_base.proofs.Members.{same_bytes as same_text}
use Rattle.wgsl_path.specs.Paths.{supers, origin_text, components_text}
use Rattle.wgsl_path.specs.declared.path.PathOrigin.TheVariants.{Relative}
use Rattle.weslc_workspace.specs.Behind.{IsBehind}

-- behind a beginning there is one rest
pub one_rest : (front xs ys : List ℕ) → front ++ xs ≡ front ++ ys → xs ≡ ys
one_rest [] xs ys same = same
one_rest (x ∷ front) xs ys same = one_rest front xs ys (cc)

-- what is not behind the second is not behind both
pub none_behind : (first second text rest : List ℕ) → text ≡ first ++ rest → ((more : List ℕ) → ¬ (rest ≡ second ++ more)) → (more : List ℕ) → ¬ (text ≡ (first ++ second) ++ more)
none_behind first second text rest begins none more whole =
    none more (one_rest first rest (second ++ more) (sym begins ∙ (whole ∙ append_assoc first second more)))

-- what is not behind the first is not behind both
pub none_first : (first second text : List ℕ) → ((more : List ℕ) → ¬ (text ≡ first ++ more)) → (more : List ℕ) → ¬ (text ≡ (first ++ second) ++ more)
none_first first second text none more whole = none (second ++ more) (whole ∙ append_assoc first second more)

-- what is behind the second is behind both
pub behind_second : (first second text rest more : List ℕ) → text ≡ first ++ rest → rest ≡ second ++ more → text ≡ (first ++ second) ++ more
behind_second first second text rest more begins next = begins ∙ (ap (λ t. first ++ t) next ∙ sym (append_assoc first second more))

-- the same of an answer
pub both : (first second text rest : List ℕ) (answer : Option (Bor (List ℕ))) → text ≡ first ++ rest → IsBehind second rest answer → IsBehind (first ++ second) text answer
both first second text rest None begins none = none_behind first second text rest begins none
both first second text rest (Some more) begins next = behind_second first second text rest more.now begins next

-- ---- `::super`, several times

-- so many begin with fewer, and one more
front_of : (i k n : ℕ) → n ≡ i + suc k → (tail : List ℕ) × (supers n ≡ (supers i ++ codes "::super") ++ tail)
front_of i zero n is = let next : suc i ≡ n = omega arith in ([], subst (λ (m : ℕ). supers m ≡ (supers i ++ codes "::super") ++ []) next (sym (append-nil (supers i ++ codes "::super"))))
front_of i (suc k) zero is = absurd (omega arith)
front_of i (suc k) (suc m) is =
    let before : (tail : List ℕ) × (supers m ≡ (supers i ++ codes "::super") ++ tail) = front_of i k m (omega arith) in
    (before.0 ++ codes "::super", ap (λ t. t ++ codes "::super") before.1 ∙ append_assoc (supers i ++ codes "::super") before.0 (codes "::super"))

-- where one of them is missing
pub none_super : (i n : ℕ) (text rest : List ℕ) → i < n → text ≡ supers i ++ rest → ((more : List ℕ) → ¬ (rest ≡ codes "::super" ++ more)) → (more : List ℕ) → ¬ (text ≡ supers n ++ more)
none_super i n text rest within begins none more whole =
    let front : (tail : List ℕ) × (supers n ≡ (supers i ++ codes "::super") ++ tail) = front_of i (n - suc i) n (omega arith) in
    none_first (supers i ++ codes "::super") front.0 text (none_behind (supers i) (codes "::super") text rest begins none) more (whole ∙ ap (λ t. t ++ more) front.1)

-- one more of them
pub next_super : (i : ℕ) (text rest more : List ℕ) → text ≡ supers i ++ rest → rest ≡ codes "::super" ++ more → text ≡ supers (i + 1) ++ more
next_super i text rest more begins next =
    let same : suc i ≡ i + 1 = omega arith in
    subst (λ (n : ℕ). text ≡ supers n ++ more) same (behind_second (supers i) (codes "::super") text rest more begins next)

-- ---- origins

origin_super : (n : ℕ) → 0 < n → origin_text (Relative n) ≡ codes "super" ++ supers (n - 1)
origin_super zero some = absurd (omega arith)
origin_super (suc n) some = let same : n ≡ suc n - 1 = omega arith in ap (λ (k : ℕ). codes "super" ++ supers k) same

pub behind_super : (n : ℕ) (text rest : List ℕ) (answer : Option (Bor (List ℕ))) → 0 < n → text ≡ codes "super" ++ rest → IsBehind (supers (n - 1)) rest answer → IsBehind (origin_text (Relative n)) text answer
behind_super n text rest answer some begins next = subst (λ (front : List ℕ). IsBehind front text answer) (sym (origin_super n some)) (both (codes "super") (supers (n - 1)) text rest answer begins next)

pub no_super : (n : ℕ) (text : List ℕ) → 0 < n → ((more : List ℕ) → ¬ (text ≡ codes "super" ++ more)) → (more : List ℕ) → ¬ (text ≡ origin_text (Relative n) ++ more)
no_super n text some none = subst (λ (front : List ℕ). (more : List ℕ) → ¬ (text ≡ front ++ more)) (sym (origin_super n some)) (none_first (codes "super") (supers (n - 1)) text none)

-- ---- components

-- one more of them
next_component : (components : List (List ℕ)) (i : ℕ) (d : List ℕ) → i < length components
    → components_text (take (suc i) components) ≡ components_text (take i components) ++ (codes "::" ++ get_or components i d)
next_component [] i d within = absurd (omega arith)
next_component (c ∷ components) zero d within = append-nil (codes "::" ++ c)
next_component (c ∷ components) (suc i) d within =
    let later : components_text (take (suc i) components) ≡ components_text (take i components) ++ (codes "::" ++ get_or components i d) = next_component components i d (omega arith) in
    ap (λ t. (codes "::" ++ c) ++ t) later ∙ sym (append_assoc (codes "::" ++ c) (components_text (take i components)) (codes "::" ++ get_or components i d))

-- all of them begin with the first, and one more
all_begin : (components : List (List ℕ)) (i : ℕ) → i < length components
    → components_text components ≡ components_text (take (suc i) components) ++ components_text (drop (suc i) components)
all_begin [] i within = absurd (omega arith)
all_begin (c ∷ components) zero within = ap (λ t. t ++ components_text components) (sym (append-nil (codes "::" ++ c)))
all_begin (c ∷ components) (suc i) within =
    ap (λ t. (codes "::" ++ c) ++ t) (all_begin components i (omega arith))
    ∙ sym (append_assoc (codes "::" ++ c) (components_text (take (suc i) components)) (components_text (drop (suc i) components)))

module _ (origin : List ℕ) (components : List (List ℕ)) (i : ℕ) (component : List ℕ) (within : i < length components) (item : component ≡ get_or components i component) where
  longer : (origin ++ components_text (take i components)) ++ (codes "::" ++ component) ≡ origin ++ components_text (take (suc i) components)
  longer =
      append_assoc origin (components_text (take i components)) (codes "::" ++ component)
      ∙ ap (λ t. origin ++ t) (ap (λ t. components_text (take i components) ++ (codes "::" ++ t)) item ∙ sym (next_component components i component within))

  pub component_behind : (text rest more : List ℕ) → text ≡ (origin ++ components_text (take i components)) ++ rest → rest ≡ (codes "::" ++ component) ++ more
      → text ≡ (origin ++ components_text (take (i + 1) components)) ++ more
  component_behind text rest more begins next =
      let same : suc i ≡ i + 1 = omega arith in
      subst (λ (n : ℕ). text ≡ (origin ++ components_text (take n components)) ++ more) same
      (behind_second (origin ++ components_text (take i components)) (codes "::" ++ component) text rest more begins next ∙ ap (λ t. t ++ more) longer)

  pub no_component : (text rest : List ℕ) → text ≡ (origin ++ components_text (take i components)) ++ rest → ((more : List ℕ) → ¬ (rest ≡ (codes "::" ++ component) ++ more))
      → (more : List ℕ) → ¬ (text ≡ (origin ++ components_text components) ++ more)
  no_component text rest begins none more whole =
      let all : origin ++ components_text components ≡ ((origin ++ components_text (take i components)) ++ (codes "::" ++ component)) ++ components_text (drop (suc i) components) =
      ap (λ t. origin ++ t) (all_begin components i within)
      ∙ sym (append_assoc origin (components_text (take (suc i) components)) (components_text (drop (suc i) components)))
      ∙ ap (λ t. t ++ components_text (drop (suc i) components)) (sym longer)
      in
      none_first ((origin ++ components_text (take i components)) ++ (codes "::" ++ component)) (components_text (drop (suc i) components)) text
      (none_behind (origin ++ components_text (take i components)) (codes "::" ++ component) text rest begins none) more (whole ∙ ap (λ t. t ++ more) all)

-- behind all of them
pub behind_all : (origin : List ℕ) (components : List (List ℕ)) (n : ℕ) (text rest : List ℕ) → length components ≤ n → text ≡ (origin ++ components_text (take n components)) ++ rest
    → text ≡ (origin ++ components_text components) ++ rest
behind_all origin components n text rest all begins = subst (λ (cs : List (List ℕ)). text ≡ (origin ++ components_text cs) ++ rest) (take_all n components all) begins

-- ---- whole texts

-- nothing is left behind all of it
pub whole : (front text rest : List ℕ) → text ≡ front ++ rest → nat_eq (length rest) 0 ≡ bytes_eq front text
whole front text [] begins = sym ((bytes_eq-Decides front text).1 (sym (begins ∙ append-nil front)))
whole front text (x ∷ rest) begins = eqb-suc-zero (length rest) ∙ sym (false_from_ne_true (bytes_eq front text) (λ same. longer_than (same_text front text same)))
  where
    longer_than : front ≡ text → ⊥
    longer_than same = let sizes : length front ≡ length front + length (x ∷ rest) = ap length (same ∙ begins) ∙ length-append front (x ∷ rest) in omega arith

pub not_whole : (front text : List ℕ) → ((more : List ℕ) → ¬ (text ≡ front ++ more)) → false ≡ bytes_eq front text
not_whole front text none = sym (false_from_ne_true (bytes_eq front text) (λ same. none [] (sym (same_text front text same) ∙ sym (append-nil front))))
