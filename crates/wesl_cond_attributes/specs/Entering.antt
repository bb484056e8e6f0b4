-- A step of a walk that looks for the first error of a list.
use Rattle.std.specs.Prelude.{◌≡◌, ◌⊎◌, List, ◌∷◌, Bool, Option, Some, None, Result, Ok, Err, if◌then◌else◌}
use Rattle.std.specs.Option.{option_or}
use Rattle.wesl_conditions.specs.declared.features.feature.Features.{Features}
use Rattle.wesl_conditions.specs.declared.features.error.CondCompError.{CondCompError}
use Rattle.wesl_conditions.specs.declared.features.error.CondCompError.TheVariants.{OutOfMemory}
use Rattle.wesl_conditions.specs.Chains.{Mark}
use Rattle.wesl_conditions.specs.Seen.{Seen}
use Rattle.wesl_conditions.specs.Walks.{checked}
use Rattle.wesl_cond_attributes.specs.declared.check.Check.{Check}

-- an item with these conditions, and this error inside
abbrev pub seen : List Mark → Option CondCompError → Seen
seen ms inside = record { conditions = ms; inside = inside }

-- The item is passed, and it is said whether an error inside it counts; or this is the first error of the list, or memory was refused.
abbrev pub Enters : Features → Check → List Mark → Result Bool CondCompError → Check → Type 0
Enters features before ms (Ok counts) after =
    (inside : Option CondCompError) (xs : List Seen)
    → checked features before.chain before.inside (seen ms inside ∷ xs) ≡ checked features after.chain (option_or after.inside (if counts then inside else None)) xs
Enters features before ms (Err error) after =
    ((inside : Option CondCompError) (xs : List Seen) → checked features before.chain before.inside (seen ms inside ∷ xs) ≡ Some error) ⊎ (error ≡ OutOfMemory)
