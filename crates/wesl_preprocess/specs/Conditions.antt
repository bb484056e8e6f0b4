-- What comes of a module whose conditions are decided.
use Rattle.std.specs.Prelude.{Bool, true, false, Option, Some, None, if◌then◌else◌}
use Rattle.wgsl_declarations.specs.Tree.{UnitTree}
use Rattle.wesl_conditions.specs.declared.features.feature.Features.{Features}
use Rattle.wesl_conditions.specs.declared.features.error.CondCompError.{CondCompError}
use Rattle.wesl_conditions.specs.Trees.{unit_left}
use Rattle.wesl_conditions.specs.Faults.{unit_fault}
use Rattle.wesl_cond_left.specs.Open.{unit_open}
use Rattle.wesl_resolvers.specs.Found.{Answer, unit_of, conditioned, left_open}

-- what features leave of it, or that a condition is left there
abbrev pub left_whole : UnitTree → Answer
left_whole u = if unit_open u then left_open else unit_of u

-- by the first error of its conditions, if there is one
abbrev pub decided_by : Option CondCompError → UnitTree → Answer
decided_by (Some e) left = conditioned e
decided_by None left = left_whole left

abbrev pub decided : Features → UnitTree → Answer
decided features u = decided_by (unit_fault features u) (unit_left features u)
