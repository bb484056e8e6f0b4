-- Sets of names: what one more key adds.
use Rattle.std.proofs.Common.{◌≡◌, refl, sym, ap, ◌∙◌, ℕ, ◌+◌, ◌<◌, List, [], ◌∷◌, ◌++◌, take, get_or, length, map, Bool, true, false, ◌||◌, Ordering}
use Rattle.std.specs.List.{list_any}
use Rattle.std.specs.Str.{bytes_eq}
use Rattle.std.specs.Ordering.{nat_cmp, is_eq}
use Rattle.std.specs.declared.cmp.Ordering.TheVariants.{Less, Equal, Greater}
use Rattle.std.specs.Cmp.Lexicographic.{slice_cmp, nat_list_eq_equiv}
use Rattle.std.specs.BTreeMap.{is_at}
use Rattle.std.specs.BTreeSet.{insert_key}
use Rattle.std.proofs.lemmas.Map.Text.{is_eq-slice_cmp}
use Rattle.std.proofs.lemmas.List.{take_more}
use denote.Ref.{Bor}
use Rattle.core_syntax.specs.declared.declaration.FormalParameter.{FormalParameter}
use Rattle.core_syntax.specs.View.{parameter_tree}
use Rattle.core_link_spec.specs.Occurrences.{Name, is_among, parameter_names}

or_turn : (a b c : Bool) → (a || (b || c)) ≡ (b || (a || c))
or_turn true true c = refl
or_turn true false c = refl
or_turn false b c = refl

or_both : (a b : Bool) → (a || b) ≡ (b || a)
or_both true true = refl
or_both true false = refl
or_both false true = refl
or_both false false = refl

or_same : (a b c : Bool) → a ≡ b → (a || c) ≡ (b || (a || c))
or_same true b c e = ap (λ t. t || true) e
or_same false b c e = ap (λ t. t || c) e

abbrev test : List ℕ → Bor (List ℕ) → Bool
test x = is_at (λ y. slice_cmp nat_cmp x y.now)

abbrev order : Bor (List ℕ) → Bor (List ℕ) → Ordering
order a b = slice_cmp nat_cmp a.now b.now

test_is : (x : List ℕ) (k : Bor (List ℕ)) → test x k ≡ bytes_eq x k.now
test_is x k = is_eq-slice_cmp x k.now

-- equal keys pass alike
alike : (x : List ℕ) (k y : Bor (List ℕ)) → order k y ≡ Equal → test x y ≡ bytes_eq x k.now
alike x k y e =
    let same : bytes_eq k.now y.now ≡ true = sym (is_eq-slice_cmp k.now y.now) ∙ ap is_eq e in
    test_is x y ∙ nat_list_eq_equiv.symm x y.now ∙ sym (nat_list_eq_equiv.congr k.now y.now x same) ∙ nat_list_eq_equiv.symm k.now x

pub insert_has : (x : List ℕ) (ks : List (Bor (List ℕ))) (k : Bor (List ℕ)) → list_any (test x) (insert_key order ks k) ≡ (bytes_eq x k.now || list_any (test x) ks)
insert_has x [] k = ap (λ b. b || false) (test_is x k)
insert_has x (y ∷ ks) k = at (insert_has x ks k) (order k y) refl
  where
    at : list_any (test x) (insert_key order ks k) ≡ (bytes_eq x k.now || list_any (test x) ks) → (o : Ordering) → order k y ≡ o
        → list_any (test x) (insert_key order (y ∷ ks) k) ≡ (bytes_eq x k.now || list_any (test x) (y ∷ ks))
    at rest Less e = rw e (ap (λ b. b || list_any (test x) (y ∷ ks)) (test_is x k))
    at rest Equal e = rw e (or_same (test x y) (bytes_eq x k.now) (list_any (test x) ks) (alike x k y e))
    at rest Greater e = rw e (ap (λ b. test x y || b) rest ∙ or_turn (test x y) (bytes_eq x k.now) (list_any (test x) ks))

among_push : (x : Name) (ps : List FormalParameter) (p : FormalParameter)
    → is_among x (parameter_names (map parameter_tree (ps ++ p ∷ []))) ≡ (bytes_eq x p.ident.name || is_among x (parameter_names (map parameter_tree ps)))
among_push x [] p = refl
among_push x (q ∷ ps) p = ap (λ b. bytes_eq x q.ident.name || b) (among_push x ps p) ∙ or_turn (bytes_eq x q.ident.name) (bytes_eq x p.ident.name) (is_among x (parameter_names (map parameter_tree ps)))

pub among_more : (x : Name) (ps : List FormalParameter) (i : ℕ) (d : FormalParameter) → i < length ps
    → is_among x (parameter_names (map parameter_tree (take (i + 1) ps))) ≡ (bytes_eq x (get_or ps i d).ident.name || is_among x (parameter_names (map parameter_tree (take i ps))))
among_more x ps i d h = ap (λ l. is_among x (parameter_names (map parameter_tree l))) (take_more ps i d h) ∙ among_push x (take i ps) (get_or ps i d)
