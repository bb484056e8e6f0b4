use Rattle.std.proofs.Common.{◌≡◌, ◌+◌, ◌*◌, ◌++◌, drop, map}
use Rattle.wesl_mark.specs.Lists.{flats, OnlyGrows}
use Rattle.wgsl_expressions.specs.Tree.{exps}
use Rattle.wgsl_expressions.specs.View.{node_tree}
use Rattle.wesl_marks.specs.Laid.{in_exps}
use Rattle.wesl_marks.proofs.expressions.+expressions.Given as goal

abbrev pub decreases-mark_expression : goal.decreases-mark_expression
decreases-mark_expression l = 8 * goal.size-mark_expression l + 0

abbrev pub decreases-mark_expressions : goal.decreases-mark_expressions
decreases-mark_expressions l = 8 * goal.size-mark_expressions l + 1

abbrev pub decreases-mark_type : goal.decreases-mark_type
decreases-mark_type l = 8 * goal.size-mark_type l + 2

abbrev pub decreases-mark_call : goal.decreases-mark_call
decreases-mark_call l = 8 * goal.size-mark_call l + 3

abbrev pub invariant-mark_expressions-loop-node : goal.invariant-mark_expressions-loop-node
invariant-mark_expressions-loop-node l = (flats l.list ++ in_exps (exps (map node_tree (drop l.node-index l.nodes))) ≡ flats l.initial.list ++ in_exps (exps (map node_tree l.nodes))) × OnlyGrows l.initial.list l.list

abbrev pub invariant-mark_type-loop-argument : goal.invariant-mark_type-loop-argument
invariant-mark_type-loop-argument l = (flats l.list ++ in_exps (exps (map (λ a. node_tree a.expression) (drop l.argument-index l.argument-items))) ≡ flats l.initial.list ++ in_exps (exps (map (λ a. node_tree a.expression) l.argument-items))) × OnlyGrows l.initial.list l.list
