use Rattle.std.proofs.Common.{◌≡◌, drop}
use Rattle.wesl_linking_spec.specs.Outlining as spec
use Rattle.wesl_module_index.proofs.imports.longer.Given as goal

abbrev pub invariant-loop-name : goal.invariant-loop-name
invariant-loop-name l = spec.longer l.«module» (drop l.name-index l.names) ≡ spec.longer l.initial.«module» l.names
