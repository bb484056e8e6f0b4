-- What `run` leaves of a module.
use Rattle.std.proofs.Common.{◌≡◌, sym, ap, ◌∙◌, None}
use Rattle.wgsl_declarations.specs.Tree.{UnitTree}
use Rattle.wesl_conditions.specs.declared.features.feature.Features.{Features}
use Rattle.wesl_conditions.specs.Trees.{unit_under, unit_left}
use Rattle.wesl_conditions.specs.Faults.{unit_fault}
use Rattle.wesl_cond_laws.proofs.Modules.{meaning_stays, twice_is_once, no_fault_is_made}
use Rattle.wesl_cond.specs.Laws.{MeanTheSame}

pub means_the_same : (features : Features) (old new : UnitTree) → new ≡ unit_left features old → MeanTheSame features new old
means_the_same features old new h = λ choice admits. ap (unit_under choice) h ∙ meaning_stays features choice old admits

pub stays_faultless : (features : Features) (old new : UnitTree) → new ≡ unit_left features old → unit_fault features old ≡ None → unit_fault features new ≡ None
stays_faultless features old new h none = ap (unit_fault features) h ∙ no_fault_is_made features old none

pub is_settled : (features : Features) (old new : UnitTree) → new ≡ unit_left features old → unit_left features new ≡ new
is_settled features old new h = ap (unit_left features) h ∙ twice_is_once features old ∙ sym h
