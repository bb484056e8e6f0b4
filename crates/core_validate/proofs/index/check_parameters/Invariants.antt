use Rattle.std.proofs.Common.{◌≡◌, [], take, drop}
use Rattle.core_validate.specs.Lookups.{local_names}
use Rattle.core_validate.specs.Faults.{repeats}
use Rattle.core_validate.proofs.index.check_parameters.Given as goal

abbrev pub invariant-loop-at : goal.invariant-loop-at
invariant-loop-at l =
    repeats l.holder (local_names (take l.at l.parameters)) (local_names (drop l.at l.parameters)) ≡ repeats l.holder [] (local_names l.parameters)
