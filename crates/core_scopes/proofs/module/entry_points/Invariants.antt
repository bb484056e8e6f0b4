use Rattle.std.proofs.Common.{◌≡◌, ◌++◌, drop, map}
use Rattle.core_syntax.specs.View.{declaration_tree}
use Rattle.core_link_spec.specs.Kept as spec
use Rattle.core_scopes.proofs.module.entry_points.Given as goal

abbrev pub invariant-loop-declaration : goal.invariant-loop-declaration
invariant-loop-declaration l =
    l.names.items ++ spec.entry_points (map (λ n. declaration_tree n.node) (drop l.declaration-index l.declaration-items))
    ≡ spec.entry_points (map (λ n. declaration_tree n.node) l.declaration-items)
