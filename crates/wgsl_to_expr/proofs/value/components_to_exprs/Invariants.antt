use Rattle.std.proofs.Common.{◌≡◌, map, take}
use Rattle.wgsl_expressions.specs.View.{node_tree}
use Rattle.wgsl_to_expr.specs.Written.{literal_exp}
use Rattle.wgsl_to_expr.proofs.value.components_to_exprs.Given as goal

abbrev pub invariant-loop-component : goal.invariant-loop-component
invariant-loop-component l = map node_tree l.arguments ≡ map literal_exp (take l.component-index l.components)
