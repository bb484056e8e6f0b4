use Rattle.std.proofs.Common.{◌≡◌, ◌++◌, drop}
use Rattle.wesl_visit_expressions.specs.Types.{in_argument}
use Rattle.wesl_visit_children.specs.Turns.{pointed}
use Rattle.std.specs.List.{flat_map}
use Rattle.wesl_visit_expressions.proofs.types.find.find_arguments.Given as goal

abbrev pub invariant-loop-argument : goal.invariant-loop-argument
invariant-loop-argument l = pointed l.found.items ++ flat_map in_argument (drop l.argument-index l.argument-items) ≡ pointed l.initial.found.items ++ flat_map in_argument l.argument-items
