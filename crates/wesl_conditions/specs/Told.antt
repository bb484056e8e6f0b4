-- What a result says of the first error.
use Rattle.std.specs.Prelude.{◌≡◌, ◌⊎◌, Option, Some, None, Result, Ok, Err}
use Rattle.wesl_conditions.specs.declared.features.error.CondCompError.{CondCompError}
use Rattle.wesl_conditions.specs.declared.features.error.CondCompError.TheVariants.{OutOfMemory}

-- There is none, or it is this one, or memory was refused.
abbrev pub TellsFault : {A : Type 0} → Option CondCompError → Result A CondCompError → Type 0
TellsFault fault (Ok x) = fault ≡ None
TellsFault fault (Err error) = (fault ≡ Some error) ⊎ (error ≡ OutOfMemory)
