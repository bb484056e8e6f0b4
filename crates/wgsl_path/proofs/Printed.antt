-- Paths of plain names are read as they were printed.
use Rattle.std.proofs.Common.{◌≡◌, ◌≢◌, ℕ, zero, suc, ◌+◌, ◌≤◌, List, [], ◌∷◌, ◌++◌, codes, length, Bool, true, false, Ok, if◌then◌else◌, refl, sym, ap, ◌∙◌, arith, append_assoc}
use Rattle.std.specs.Prelude.{⊤}
use Rattle.std.specs.List.{All}
use Rattle.std.specs.Str.{bytes_eq}
use Rattle.std.proofs.lemmas.List.{append-nil}
use Rattle.std.proofs.lemmas.List.Elements.{All-head, All-tail}
use Rattle.std.proofs.lemmas.Slice.Eq.{bytes_eq-Decides}
use Rattle.wgsl_path.specs.declared.path.PathOrigin.{PathOrigin}
use Rattle.wgsl_path.specs.declared.path.PathOrigin.TheVariants.{Absolute, Relative, Package}
use Rattle.wgsl_path.specs.declared.path.ModulePath.{ModulePath}
use Rattle.wgsl_path.specs.Paths.{supers, components_text, path_text}
use Rattle.wgsl_path.specs.Reading.{parts, component_of, components_of, path_behind, path_above, path_of, then_read, PathResult}
use Rattle.wgsl_path.specs.Laws.{IsPlainName, IsPlainOrigin, PrintsToBeRead, PrintedOnce}
use Rattle.wgsl_path.proofs.PartsLemmas.{mark, IsFirst, cut_first, cut_none}

-- P holds of each, along the list
abbrev Each : {X : Type 0} → (X → Type 0) → List X → Type 0
Each P [] = ⊤
Each P (x ∷ xs) = P x × Each P xs

each_of : {X : Type 0} (P : X → Type 0) (xs : List X) → All P xs → Each P xs
each_of P [] all = tt
each_of P (x ∷ xs) all = (All-head P x xs all, each_of P xs (All-tail P x xs all))

abbrev NoColon : List ℕ → Type 0
NoColon name = Each (λ c. c ≢ 58) name

-- ---- a text is cut where it was put together

abbrev head_of : (d : ℕ) → List ℕ → ℕ
head_of d [] = d
head_of d (c ∷ cs) = c

abbrev tail_of : List ℕ → List ℕ
tail_of [] = []
tail_of (c ∷ cs) = cs

first_mark : (part rest : List ℕ) → NoColon part → IsFirst part rest
first_mark [] rest plain xs ys e = omega arith
first_mark (c ∷ part) rest plain [] ys e = absurd (plain.0 (ap (head_of 0) e))
first_mark (c ∷ part) rest plain (x ∷ xs) ys e =
    let below : length part ≤ length xs = first_mark part rest plain.1 xs ys (ap tail_of e) in
    omega (arith, below)

no_mark : (part : List ℕ) → NoColon part → (xs ys : List ℕ) → part ≢ xs ++ (mark ++ ys)
no_mark [] plain [] ys e = cc
no_mark [] plain (x ∷ xs) ys e = cc
no_mark (c ∷ part) plain [] ys e = plain.0 (ap (head_of 0) e)
no_mark (c ∷ part) plain (x ∷ xs) ys e = no_mark part plain.1 xs ys (ap tail_of e)

cut : (part : List ℕ) (names : List (List ℕ)) → NoColon part → Each NoColon names → parts (part ++ components_text names) ≡ part ∷ names
cut part [] plain each = ap parts (append-nil part) ∙ cut_none part [] (no_mark part plain)
cut part (name ∷ names) plain each =
    cut_first part (name ++ components_text names) [] (first_mark part (name ++ components_text names) plain)
    ∙ ap (λ rest. part ∷ rest) (cut name names each.0 each.1)

-- ---- `super` so many times

-- so many `super`, and names
abbrev with_supers : ℕ → List (List ℕ) → List (List ℕ)
with_supers zero names = names
with_supers (suc n) names = with_supers n (codes "super" ∷ names)

supers_text : (n : ℕ) (names : List (List ℕ)) → supers n ++ components_text names ≡ components_text (with_supers n names)
supers_text zero names = refl
supers_text (suc n) names = append_assoc (supers n) (codes "::super") (components_text names) ∙ supers_text n (codes "super" ∷ names)

super_plain : NoColon (codes "super")
super_plain = (omega arith, (omega arith, (omega arith, (omega arith, (omega arith, tt)))))

supers_plain : (n : ℕ) (names : List (List ℕ)) → Each NoColon names → Each NoColon (with_supers n names)
supers_plain zero names each = each
supers_plain (suc n) names each = supers_plain n (codes "super" ∷ names) (super_plain, each)

supers_read : (k n : ℕ) (names : List (List ℕ)) → path_above k (with_supers n names) ≡ path_above (k + n) names
supers_read k zero names = ap (λ m. path_above m names) (omega arith)
supers_read k (suc n) names =
    let more : suc (k + n) ≡ k + suc n = omega arith in
    supers_read k n (codes "super" ∷ names) ∙ ap (λ m. path_above m names) more

-- ---- names are read

other : (part word : List ℕ) → part ≢ word → bytes_eq part word ≡ false
other part word differ = by_test (bytes_eq part word) (bytes_eq-Decides part word).0
  where
    by_test : (b : Bool) → (b ≡ true → part ≡ word) → b ≡ false
    by_test true same = absurd (differ (same refl))
    by_test false same = refl

chosen : {A : Type 0} (b : Bool) (x y : A) → b ≡ false → (if b then x else y) ≡ y
chosen b x y e = ap (λ t. if t then x else y) e

name_read : (name : List ℕ) → IsPlainName name → component_of name ≡ Ok name
name_read name plain =
    chosen (bytes_eq name (codes "")) _ _ (other name (codes "") plain.1)
    ∙ chosen (bytes_eq name (codes "package")) _ _ (other name (codes "package") plain.2)
    ∙ chosen (bytes_eq name (codes "self")) _ _ (other name (codes "self") plain.3)
    ∙ chosen (bytes_eq name (codes "super")) _ _ (other name (codes "super") plain.4)

names_read : (names : List (List ℕ)) → Each IsPlainName names → components_of names ≡ Ok names
names_read [] each = refl
names_read (name ∷ names) each =
    ap (λ r. then_read r (λ n. then_read (components_of names) (λ ns. Ok (n ∷ ns)))) (name_read name each.0)
    ∙ ap (λ r. then_read r (λ ns. Ok (name ∷ ns))) (names_read names each.1)

behind_read : (origin : PathOrigin) (names : List (List ℕ)) → Each IsPlainName names → path_behind origin names ≡ Ok (record { origin = origin; components = names })
behind_read origin names each = ap (λ r. then_read r (λ ns. Ok (record { origin = origin; components = ns }))) (names_read names each)

above_read : (n : ℕ) (names : List (List ℕ)) → Each IsPlainName names → path_above n names ≡ path_behind (Relative n) names
above_read n [] each = refl
above_read n (name ∷ names) each = chosen (bytes_eq name (codes "super")) _ _ (other name (codes "super") each.0.4)

no_colons : (names : List (List ℕ)) → Each IsPlainName names → Each NoColon names
no_colons [] each = tt
no_colons (name ∷ names) each = (each_of (λ c. c ≢ 58) name each.0.0, no_colons names each.1)

package_read : (name : List ℕ) (names : List (List ℕ)) → IsPlainName name → path_of (name ∷ names) ≡ path_behind (Package name) names
package_read name names plain =
    chosen (bytes_eq name (codes "")) _ _ (other name (codes "") plain.1)
    ∙ chosen (bytes_eq name (codes "package")) _ _ (other name (codes "package") plain.2)
    ∙ chosen (bytes_eq name (codes "self")) _ _ (other name (codes "self") plain.3)
    ∙ chosen (bytes_eq name (codes "super")) _ _ (other name (codes "super") plain.4)

word_plain : NoColon (codes "package") × NoColon (codes "self")
word_plain = ((omega arith, (omega arith, (omega arith, (omega arith, (omega arith, (omega arith, (omega arith, tt))))))), (omega arith, (omega arith, (omega arith, (omega arith, tt)))))

read_at : (origin : PathOrigin) (names : List (List ℕ)) → IsPlainOrigin origin → Each IsPlainName names
    → path_of (parts (path_text (record { origin = origin; components = names }))) ≡ Ok (record { origin = origin; components = names })
read_at Absolute names plain each =
    ap path_of (cut (codes "package") names word_plain.0 (no_colons names each)) ∙ behind_read Absolute names each
read_at (Relative zero) names plain each =
    ap path_of (cut (codes "self") names word_plain.1 (no_colons names each)) ∙ behind_read (Relative 0) names each
read_at (Relative (suc n)) names plain each =
    ap (λ t. path_of (parts t)) (append_assoc (codes "super") (supers n) (components_text names) ∙ ap (λ t. codes "super" ++ t) (supers_text n names))
    ∙ ap path_of (cut (codes "super") (with_supers n names) super_plain (supers_plain n names (no_colons names each)))
    ∙ supers_read 1 n names
    ∙ ap (λ m. path_above m names) (omega arith)
    ∙ above_read (suc n) names each
    ∙ behind_read (Relative (suc n)) names each
read_at (Package name) names plain each =
    ap path_of (cut name names (each_of (λ c. c ≢ 58) name plain.0) (no_colons names each)) ∙ package_read name names plain ∙ behind_read (Package name) names each

pub read : PrintsToBeRead
read path plain = read_at path.origin path.components plain.0 (each_of IsPlainName path.components plain.1)

abbrev path_or : ModulePath → PathResult ModulePath → ModulePath
path_or path (Ok other) = other
path_or path _ = path

pub once : PrintedOnce
once p q plain_p plain_q same =
    ap (path_or p) (sym (read p plain_p) ∙ ap (λ t. path_of (parts t)) same ∙ read q plain_q)
