use Rattle.std.proofs.Common.{◌≡◌, ◌++◌, drop}
use Rattle.std.specs.List.{flat_map}
use Rattle.wesl_visit_children.specs.Parts.{in_expression}
use Rattle.wesl_visit_children.specs.Listed.{parts}
use Rattle.wesl_visit_children.proofs.find.find_arguments.Given as goal

abbrev pub invariant-loop-argument : goal.invariant-loop-argument
invariant-loop-argument l = parts l.found.items ++ flat_map in_expression (drop l.argument-index l.arguments) ≡ parts l.initial.found.items ++ flat_map in_expression l.arguments
