-- Paths in ascending order: a set of them has one order.
use Rattle.std.proofs.Common.{◌≡◌, ◌⊎◌, inl, inr, List, [], ◌∷◌, refl, sym, ap, ◌∙◌, subst, Contains}
use Rattle.std.specs.Ordering.{nat_cmp}
use Rattle.std.specs.Cmp.Lexicographic.{slice_cmp}
use Rattle.std.specs.declared.cmp.Ordering.TheVariants.{Equal}
use Rattle.std.proofs.lemmas.Cmp.{nat_list_cmp_total, tied_itself}
use Rattle.core_link_spec.specs.Modules.{Path, Modules}
use Rattle.core_link_spec.specs.Rounds.{IsBefore, IsAscending, no_path, one_path, one_before}
use Rattle.core_link_spec.specs.Linked.{IsInOrder}
use Rattle.wgsl_base.proofs.Members.{first_in, later_in, in_cases, in_none}

before_trans : (p q r : Path) → IsBefore p q → IsBefore q r → IsBefore p r
before_trans p q r a b = nat_list_cmp_total.trans p q r a b

pub not_before : (p : Path) → IsBefore p p → ⊥
not_before p a = let e : slice_cmp nat_cmp p p ≡ Equal = tied_itself nat_list_cmp_total p in absurd (cc)

pub behind_first : (p : Path) (ps : List Path) → IsAscending (p ∷ ps) → (q : Path) → Contains ps q → IsBefore p q
behind_first p [] one_path q c = absurd (in_none q c)
behind_first p (r ∷ ps) (one_before b rest) q c = at (behind_first r ps rest q) (in_cases r ps q c)
  where
    at : (Contains ps q → IsBefore r q) → (r ≡ q) ⊎ Contains ps q → IsBefore p q
    at more (inl e) = subst (IsBefore p) e b
    at more (inr d) = before_trans p r q b (more d)

pub rest_ascends : (p : Path) (ps : List Path) → IsAscending (p ∷ ps) → IsAscending ps
rest_ascends p [] one_path = no_path
rest_ascends p (r ∷ ps) (one_before b rest) = rest

pub ascending_same : (ps qs : List Path) → IsAscending ps → IsAscending qs → ((x : Path) → Contains ps x → Contains qs x) → ((x : Path) → Contains qs x → Contains ps x) → ps ≡ qs
ascending_same [] [] a b f g = refl
ascending_same [] (q ∷ qs) a b f g = absurd (in_none q (g q (first_in q qs)))
ascending_same (p ∷ ps) [] a b f g = absurd (in_none p (f p (first_in p ps)))
ascending_same (p ∷ ps) (q ∷ qs) a b f g =
    ap (λ z. z ∷ ps) heads ∙ ap (λ zs. q ∷ zs) (ascending_same ps qs (rest_ascends p ps a) (rest_ascends q qs b) forth back)
  where
    heads_from : (p ≡ q) ⊎ Contains ps q → (q ≡ p) ⊎ Contains qs p → p ≡ q
    heads_from (inl e) d = e
    heads_from (inr c) (inl e) = sym e
    heads_from (inr c) (inr d) = absurd (not_before p (before_trans p q p (behind_first p ps a q c) (behind_first q qs b p d)))

    heads : p ≡ q
    heads = heads_from (in_cases p ps q (g q (first_in q qs))) (in_cases q qs p (f p (first_in p ps)))

    forth : (x : Path) → Contains ps x → Contains qs x
    forth x c = at (in_cases q qs x (f x (later_in x p ps c)))
      where
        at : (q ≡ x) ⊎ Contains qs x → Contains qs x
        at (inl e) = absurd (not_before p (subst (IsBefore p) (sym (heads ∙ e)) (behind_first p ps a x c)))
        at (inr d) = d

    back : (x : Path) → Contains qs x → Contains ps x
    back x c = at (in_cases p ps x (g x (later_in x q qs c)))
      where
        at : (p ≡ x) ⊎ Contains ps x → Contains ps x
        at (inl e) = absurd (not_before q (subst (IsBefore q) (sym (sym heads ∙ e)) (behind_first q qs b x c)))
        at (inr d) = d

pub order_once : (modules : Modules) (root : Path) (ps qs : List Path) → IsInOrder modules root ps → IsInOrder modules root qs → ps ≡ qs
order_once modules root ps qs i j = i.root_first ∙ ap (λ z. root ∷ z) (ascending_same i.others j.others i.ascending j.ascending forth back) ∙ sym j.root_first
  where
    across : (a b : List Path) → (IsInOrder modules root (root ∷ a)) → (IsInOrder modules root (root ∷ b)) → (Contains a root → ⊥) → (x : Path) → Contains a x → Contains b x
    across a b k l n x c = at (in_cases root b x ((l.each x).1 ((k.each x).0 (later_in x root a c))))
      where
        at : (root ≡ x) ⊎ Contains b x → Contains b x
        at (inl e) = absurd (n (subst (Contains a) (sym e) c))
        at (inr d) = d

    forth : (x : Path) → Contains i.others x → Contains j.others x
    forth = across i.others j.others (subst (IsInOrder modules root) i.root_first i) (subst (IsInOrder modules root) j.root_first j) i.not_root

    back : (x : Path) → Contains j.others x → Contains i.others x
    back = across j.others i.others (subst (IsInOrder modules root) j.root_first j) (subst (IsInOrder modules root) i.root_first i) j.not_root
