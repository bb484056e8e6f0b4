use Rattle.std.proofs.Common.{◌≡◌, ◌++◌, drop, map}
use Rattle.std.specs.List.{flat_map}
use Rattle.core_syntax.specs.View.{parameter_tree}
use Rattle.core_link_spec.specs.Occurrences.{in_parameter}
use Rattle.core_rename.specs.Scopes.{texts}
use Rattle.core_rename.proofs.occurrence.add_signature.Given as goal

abbrev pub invariant-loop-parameter : goal.invariant-loop-parameter
invariant-loop-parameter l =
    texts l.found.items ++ flat_map in_parameter (map parameter_tree (drop l.parameter-index l.parameter-items))
    ≡ texts l.initial.found.items ++ flat_map in_parameter (map parameter_tree l.parameter-items)
