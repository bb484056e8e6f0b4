-- Renaming looks at no other names than those that occur and are no local's.
use Rattle.std.proofs.Common.{◌≡◌, refl, ap, sym, List, [], ◌∷◌, ◌++◌, Bool, true, false, Option, None, subst, Contains}
use Rattle.std.specs.Prelude.{if◌then◌else◌}
use Rattle.std.proofs.lemmas.List.Elements.{Contains-append_left, Contains-append_right}
use Rattle.wgsl_path.specs.declared.path.ModulePath.{ModulePath}
use Rattle.wgsl_base.proofs.Members.{first_in}
use Rattle.wgsl_skeleton.specs.Skeleton.{Name, Node, occurrence, local, scope, node, Nodes, nil, cons}
use Rattle.wgsl_skeleton.specs.Occurrences.{Occurrence, occurrences, all_occurrences, behind, denotes_local, hidden_by, outside}
use Rattle.wgsl_skeleton.specs.Renaming.{Naming, new_name, renamed, all_renamed}
use Rattle.wgsl_skeleton.specs.Laws.{RenamingLooksAtOccurrences}

pub outside-append : (xs ys : List Occurrence) → outside (xs ++ ys) ≡ outside xs ++ outside ys
outside-append [] ys = refl
outside-append (x ∷ xs) ys = at (denotes_local x) (outside-append xs ys)
  where
    at : (b : Bool) → outside (xs ++ ys) ≡ outside xs ++ outside ys → (if b then outside (xs ++ ys) else x ∷ outside (xs ++ ys)) ≡ (if b then outside xs else x ∷ outside xs) ++ outside ys
    at true e = e
    at false e = ap (λ l. x ∷ l) e

module _ (f g : Naming) where
  abbrev Agree : List Occurrence → Type 0
  Agree os = (o : Occurrence) → Contains (outside os) o → f o.path o.name ≡ g o.path o.name

  left : (xs ys : List Occurrence) → Agree (xs ++ ys) → Agree xs
  left xs ys h o c = h o (subst (λ l. Contains l o) (sym (outside-append xs ys)) (Contains-append_left (outside xs) (outside ys) o c))

  right : (xs ys : List Occurrence) → Agree (xs ++ ys) → Agree ys
  right xs ys h o c = h o (subst (λ l. Contains l o) (sym (outside-append xs ys)) (Contains-append_right (outside xs) (outside ys) o c))

  here : (path : Option ModulePath) (x : Name) (locals : List Name) → Agree (record { path = path; name = x; locals = locals } ∷ []) → new_name f path x locals ≡ new_name g path x locals
  here path x locals same = at (hidden_by path x locals) same
    where
      o : Occurrence
      o = record { path = path; name = x; locals = locals }

      at : (b : Bool) → ((p : Occurrence) → Contains (if b then [] else o ∷ []) p → f p.path p.name ≡ g p.path p.name) → (if b then x else f path x) ≡ (if b then x else g path x)
      at true h = refl
      at false h = h o (first_in o [])

  mutual
    pub same_node : (locals : List Name) (n : Node) → Agree (occurrences locals n) → renamed f locals n ≡ renamed g locals n
    same_node locals (occurrence path x arguments) same =
        (λ k. occurrence None (here path x locals (left (record { path = path; name = x; locals = locals } ∷ []) (all_occurrences locals arguments) same) k)
        (same_nodes locals arguments (right (record { path = path; name = x; locals = locals } ∷ []) (all_occurrences locals arguments) same) k))
    same_node locals (local x) same = refl
    same_node locals (scope inside) same = ap scope (same_nodes locals inside same)
    same_node locals (node l inside) same = ap (node l) (same_nodes locals inside same)

    same_nodes : (locals : List Name) (ns : Nodes) → Agree (all_occurrences locals ns) → all_renamed f locals ns ≡ all_renamed g locals ns
    same_nodes locals nil same = refl
    same_nodes locals (cons n rest) same =
        λ k. cons (same_node locals n (left (occurrences locals n) (all_occurrences (behind locals n) rest) same) k)
        (same_nodes (behind locals n) rest (right (occurrences locals n) (all_occurrences (behind locals n) rest) same) k)

pub renaming_looks_at_occurrences : RenamingLooksAtOccurrences
renaming_looks_at_occurrences f g locals n same = same_node f g locals n same
