-- How an evaluation ends, and with how many steps.
use Rattle.std.specs.Prelude.{ℕ, ◌+◌, Result, Ok, Err}
use Rattle.core_meaning.specs.declared.fault.Fault.{Fault}
use Rattle.core_meaning.specs.declared.fault.Fault.TheVariants.{Operation}
use Rattle.wgsl_shader_type.specs.declared.error.Error.{Error}
use Rattle.core_meaning.specs.Values.{Checked}

-- a value and the steps that it took, a fault, or more consts and calls inside one another than the bound allows
pub data Outcome (A : Type 0) : Type 0 where
  Done : A → ℕ → Outcome A
  Failed : Fault → Outcome A
  Deep : Outcome A

-- so many steps more
abbrev pub after : {A : Type 0} → ℕ → Outcome A → Outcome A
after m (Done x n) = Done x (m + n)
after m (Failed f) = Failed f
after m Deep = Deep

-- goes on with the value
abbrev pub bind : {A B : Type 0} → Outcome A → (A → Outcome B) → Outcome B
bind (Done x m) go = after m (go x)
bind (Failed f) go = Failed f
bind Deep go = Deep

-- without a step
abbrev pub at_once : {A : Type 0} → Checked A → Outcome A
at_once (Ok x) = Done x 0
at_once (Err f) = Failed f

abbrev pub computed : {A : Type 0} → Result A Error → Outcome A
computed (Ok x) = Done x 0
computed (Err f) = Failed (Operation f)
