use Rattle.std.proofs.Common.{◌≡◌, ◌++◌, drop, map}
use Rattle.std.specs.List.{flat_map}
use Rattle.wesl_mark.specs.Lists.{flats, OnlyGrows}
use Rattle.wgsl_expressions.specs.View.{node_tree}
use Rattle.wesl_marks.specs.Laid.{in_exp}
use Rattle.wesl_marks.proofs.expressions.mark_each.Given as goal

abbrev pub invariant-loop-node : goal.invariant-loop-node
invariant-loop-node l = (flats l.list ++ flat_map in_exp (map node_tree (drop l.node-index l.nodes)) ≡ flats l.initial.list ++ flat_map in_exp (map node_tree l.nodes)) × OnlyGrows l.initial.list l.list
