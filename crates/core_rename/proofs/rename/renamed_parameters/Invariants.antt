use Rattle.std.proofs.Common.{◌≡◌, map, take}
use Rattle.core_syntax.specs.View.{parameter_tree}
use Rattle.core_link_spec.specs.Linked.{renamed_parameter}
use Rattle.core_rename.proofs.rename.renamed_parameters.Given as goal

abbrev pub invariant-loop-parameter : goal.invariant-loop-parameter
invariant-loop-parameter g l = map parameter_tree l.renamed ≡ map (λ p. renamed_parameter (g.N.Naming.gives l.naming) (parameter_tree p)) (take l.parameter-index l.parameters)
