-- The declaration that a refusal names is one that the unit declares, as each step says of its own.
use Rattle.std.proofs.Common.{◌≡◌, subst, Contains}
use Rattle.wgsl_words.specs.Builtin.{builtin_names}
use Rattle.core_validate.specs.Scopes.{names}
use Rattle.core_validate.proofs.Located.{faults_are_in_declarations}
use Rattle.core_lower.proofs.Located as lower
use Rattle.core_unit.specs.declared.error.UnitRefusal.TheVariants.{Validate, UnclearName, Eval, Unprintable, GaveUp, OutOfMemory}
use Rattle.core_unit.specs.Located.{RefusalsAreInDeclarations}

pub refusals_are_in_declarations : RefusalsAreInDeclarations
refusals_are_in_declarations steps unit (Validate f) y refused is =
    let same : f.declaration ≡ y = cc in
    subst (Contains (names unit)) same (faults_are_in_declarations unit builtin_names f refused)
refusals_are_in_declarations steps unit (Eval r) y refused is =
    let same : r.declaration ≡ y = cc in
    subst (Contains (names unit)) same
    (lower.refusals_are_in_declarations steps unit r refused.2)
refusals_are_in_declarations steps unit (UnclearName x) y refused is = absurd (cc)
refusals_are_in_declarations steps unit (Unprintable x) y refused is = absurd (cc)
refusals_are_in_declarations steps unit (GaveUp r) y refused is = absurd (cc)
refusals_are_in_declarations steps unit OutOfMemory y refused is = absurd (cc)
