-- What two functions of a path say alike.
use Rattle.std.specs.Prelude.{◌↔◌}
use Rattle.wgsl_path.specs.declared.path.ModulePath.{ModulePath}

pub two_same : {X : Type 0} (a b c : ModulePath → X → Type 0) → ((p : ModulePath) (x : X) → a p x ↔ b p x) → ((p : ModulePath) (x : X) → b p x ↔ c p x) → (p : ModulePath) (x : X) → a p x ↔ c p x
two_same a b c one two p x = (λ h. (two p x).0 ((one p x).0 h), λ h. (one p x).1 ((two p x).1 h))
