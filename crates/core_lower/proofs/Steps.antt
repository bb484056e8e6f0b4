-- Steps that went well.
use Rattle.std.proofs.Common.{◌≡◌, Ok, Err, refl}
use Rattle.core_meaning.specs.Values.{Checked, and_then}

pub then_ok : {A B : Type 0} (o : Checked A) (f : A → Checked B) (d : B) → and_then o f ≡ Ok d → (x : A) × (o ≡ Ok x) × (f x ≡ Ok d)
then_ok (Ok x) f d e = (x, refl, e)
then_ok (Err g) f d e = absurd (cc)
