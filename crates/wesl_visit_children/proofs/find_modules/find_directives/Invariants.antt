use Rattle.std.proofs.Common.{◌≡◌, ◌++◌, drop}
use Rattle.wesl_visit_children.specs.Listed.{parts}
use Rattle.std.specs.List.{flat_map}
use Rattle.wesl_visit_children.specs.Parts.{in_directive}
use Rattle.wesl_visit_children.proofs.find_modules.find_directives.Given as goal

abbrev pub invariant-loop-directive : goal.invariant-loop-directive
invariant-loop-directive l = parts l.found.items ++ flat_map in_directive (drop l.directive-index l.directives) ≡ parts l.initial.found.items ++ flat_map in_directive l.directives
