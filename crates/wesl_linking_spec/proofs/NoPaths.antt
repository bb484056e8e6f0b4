-- What is written has no paths.
use Rattle.std.proofs.Common.{◌≡◌, sym, ap, subst, List, [], ◌∷◌, ◌++◌, inl, inr, Option, Some, None, Bool, true, false, codes}
use Rattle.std.specs.Prelude.{if◌then◌else◌}
use Rattle.std.specs.List.{Contains}
use Rattle.std.specs.Str.{bytes_eq}
use Rattle.std.proofs.lemmas.List.Elements.{Contains-append_cases}
use Rattle.wesl_chains.proofs.Members.{in_cases, in_none}
use Rattle.wgsl_skeleton.specs.Skeleton as l
use Rattle.wgsl_skeleton.specs.Skeleton.{Name, Node, occurrence, local, scope, node, Nodes, nil, cons}
use Rattle.wgsl_skeleton.specs.Occurrences.{Occurrence, occurrences, all_occurrences, behind}
use Rattle.wgsl_skeleton.specs.Trees.{leaf, declaration_node}
use Rattle.wgsl_skeleton.specs.Renaming.{Naming, new_name, renamed, all_renamed}
use Rattle.wesl_linking_spec.specs.Written.{reread, all_reread, written, called, called_by, printed}
use Rattle.wesl_linking_spec.specs.Laws.{WrittenHasNoPaths}

abbrev NoPaths : List Occurrence → Type 0
NoPaths os = (o : Occurrence) → Contains os o → o.path ≡ None

none : NoPaths []
none o c = absurd (in_none o c)

both : (xs ys : List Occurrence) → NoPaths xs → NoPaths ys → NoPaths (xs ++ ys)
both xs ys h k o c = elim (Contains-append_cases xs ys o c) [ inl d ↦ h o d | inr d ↦ k o d ]

first : (x : Name) (locals : List Name) (os : List Occurrence) → NoPaths os → NoPaths (record { path = None; name = x; locals = locals } ∷ os)
first x locals os h o c = elim (in_cases (record { path = None; name = x; locals = locals }) os o c) [ inl e ↦ ap (λ v. v.path) (sym e) | inr d ↦ h o d ]

-- a name alone, which may be `_`
alone : (y : Name) (locals : List Name) (b : Bool) → NoPaths (occurrences locals (if b then leaf l.underscore else occurrence None y nil))
alone y locals true = none
alone y locals false = first y locals [] none

module _ (f : Naming) where
  mutual
    node_free : (inner outer : List Name) (n : Node) → NoPaths (occurrences outer (reread (renamed f inner n)))
    node_free inner outer (occurrence path x nil) = alone (new_name f path x inner) outer (bytes_eq (new_name f path x inner) (codes "_"))
    node_free inner outer (occurrence path x (cons n rest)) =
        first (new_name f path x inner) outer (all_occurrences outer (all_reread (all_renamed f inner (cons n rest)))) (nodes_free inner outer (cons n rest))
    node_free inner outer (local x) = none
    node_free inner outer (scope inside) = nodes_free inner outer inside
    node_free inner outer (node label inside) = nodes_free inner outer inside

    nodes_free : (inner outer : List Name) (ns : Nodes) → NoPaths (all_occurrences outer (all_reread (all_renamed f inner ns)))
    nodes_free inner outer nil = none
    nodes_free inner outer (cons n rest) =
        both (occurrences outer (reread (renamed f inner n))) (all_occurrences (behind outer (reread (renamed f inner n))) (all_reread (all_renamed f (behind inner n) rest)))
        (node_free inner outer n) (nodes_free (behind inner n) (behind outer (reread (renamed f inner n))) rest)

called_free : (y : Name) (n : Node) → NoPaths (occurrences [] n) → NoPaths (occurrences [] (called y n))
called_free y (occurrence path x arguments) h = h
called_free y (local x) h = h
called_free y (scope inside) h = h
called_free y (node label inside) h = h

called_by_free : (y : Option Name) (n : Node) → NoPaths (occurrences [] n) → NoPaths (occurrences [] (called_by y n))
called_by_free None n h = h
called_by_free (Some y) n h = called_free y n h

pub written_has_no_paths : WrittenHasNoPaths
written_has_no_paths ms root mangler m k f d e is o c =
    called_by_free (printed ms root mangler m k) (written f (declaration_node d)) (node_free f [] [] (declaration_node d)) o (subst (λ n. Contains (occurrences [] n) o) is c)
