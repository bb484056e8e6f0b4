use Rattle.std.proofs.Common.{take, map}
use Rattle.core_syntax.specs.View.{parameter_tree}
use Rattle.core_link_spec.specs.Occurrences.{parameter_names}
use Rattle.core_rename.specs.Scopes.{HasNames}
use Rattle.core_rename.proofs.scope.Scope.body.Given as goal

abbrev pub invariant-loop-parameter : goal.invariant-loop-parameter
invariant-loop-parameter l = HasNames l.names (parameter_names (map parameter_tree (take l.parameter-index l.parameters)))
