use Rattle.std.proofs.Common.{◌≡◌, ◌++◌}
use Rattle.core_link.specs.Clashing as spec
use Rattle.core_rename.specs.Scopes.{texts}
use Rattle.core_link.proofs.rounds.Resolutions.held_names.Given as goal

abbrev pub invariant-loop-module : goal.invariant-loop-module
invariant-loop-module l = texts l.found.items ++ spec.held_names l.self.held l.module-iterator ≡ spec.held_names l.self.held l.self.modules.entries
