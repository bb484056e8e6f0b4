-- Ends that are found.
use Rattle.std.proofs.Common.{◌≡◌, refl, true}
use Rattle.std.specs.Prelude.{◌≢◌}
use Rattle.wesl_name_resolution.specs.declared.ends.End.{End}
use Rattle.wesl_name_resolution.specs.declared.ends.End.TheVariants.{Unknown, ReferenceTarget, Declared, Stops, Never}
use Rattle.wesl_name_resolution.specs.Ends.{IsKnown, is_looked_at, said_by}

pub found_or : (e : End) → (e ≢ Unknown) → (e ≢ ReferenceTarget) → IsKnown e
found_or e u s = at e u s
  where
    at : (x : End) → (x ≢ Unknown) → (x ≢ ReferenceTarget) → IsKnown x
    at Unknown u s = u refl
    at ReferenceTarget u s = s refl
    at (Declared spot) u s = tt
    at (Stops via) u s = tt
    at Never u s = tt

pub looked_at : (e : End) → (e ≡ Unknown → ⊥) → true ≡ is_looked_at e
looked_at Unknown u = absurd (u refl)
looked_at ReferenceTarget u = refl
looked_at (Declared spot) u = refl
looked_at (Stops via) u = refl
looked_at Never u = refl

pub says_itself : (e : End) → (e ≡ ReferenceTarget → ⊥) → e ≡ said_by e
says_itself Unknown s = refl
says_itself ReferenceTarget s = absurd (s refl)
says_itself (Declared spot) s = refl
says_itself (Stops via) s = refl
says_itself Never s = refl
