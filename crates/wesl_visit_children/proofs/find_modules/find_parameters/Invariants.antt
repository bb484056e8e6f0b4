use Rattle.std.proofs.Common.{◌≡◌, ◌++◌, drop}
use Rattle.wesl_visit_children.specs.Listed.{parts}
use Rattle.std.specs.List.{flat_map}
use Rattle.wesl_visit_children.specs.Parts.{in_parameter}
use Rattle.wesl_visit_children.proofs.find_modules.find_parameters.Given as goal

abbrev pub invariant-loop-parameter : goal.invariant-loop-parameter
invariant-loop-parameter l = parts l.found.items ++ flat_map in_parameter (drop l.parameter-index l.parameters) ≡ parts l.initial.found.items ++ flat_map in_parameter l.parameters
