-- What a call of the evaluator gives.
use Rattle.std.specs.Prelude.{◌≡◌, List, ◌++◌, Result, Ok, Err}
use Rattle.wgsl_base.specs.declared.items.error.OrOutOfMemory.{OrOutOfMemory}
use Rattle.wgsl_base.specs.Memory.{UnlessOutOfMemory}
use Rattle.core_meaning.specs.declared.fault.Fault.{Fault}
use Rattle.core_meaning.specs.Values.{Checked}
use Rattle.core_meaning.specs.Outcome.{Outcome, Done, Failed, Deep}

-- this fault, unless memory was refused
abbrev pub IsFault : Fault → OrOutOfMemory Fault → Type 0
IsFault f = UnlessOutOfMemory (λ g. f ≡ g)

-- the value without a step, or the fault, unless memory was refused
abbrev pub Ends : {A : Type 0} → Outcome A → Result A (OrOutOfMemory Fault) → Type 0
Ends o (Ok x) = o ≡ Done x 0
Ends o (Err e) = UnlessOutOfMemory (λ f. o ≡ Failed f) e

-- the same of what is there or is a fault, as contracts see it
abbrev pub Gives : {A B : Type 0} → (A → B) → Checked B → Result A (OrOutOfMemory Fault) → Type 0
Gives view o (Ok x) = o ≡ Ok (view x)
Gives view o (Err e) = UnlessOutOfMemory (λ f. o ≡ Err f) e

-- these before what is left of a list
abbrev pub first_these : {A : Type 0} → List A → Outcome (List A) → Outcome (List A)
first_these vs (Done ws n) = Done (vs ++ ws) n
first_these vs (Failed f) = Failed f
first_these vs Deep = Deep
