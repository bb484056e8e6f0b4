-- Computations that programs are: over memory, with a limit of steps.
use Rattle.std.specs.Prelude.{Bool, true, false, Result, Ok, Err, if◌then◌else◌}
use Rattle.wgsl_shader_type.specs.declared.error.Error.{Error}
use Rattle.wgsl_instance.specs.declared.tree.Instance.{Instance, out-Instance}
use Rattle.wgsl_instance.specs.declared.tree.Instance.TheOpen.{Instance-F}
use Rattle.wgsl_instance.specs.Typed.{type_of}
use Rattle.core_computations.specs.Machine.{Computation, pure, fail, bind, of_result, tick, loaded}
use Rattle.core_programs.specs.Faults.{Fault, StepLimit, Operation, Deferred}

abbrev pub M : Type 0 → Type 0
M A = Computation Fault A

-- the result of an operation
abbrev pub computed : {A : Type 0} → Result A Error → M A
computed r = of_result Operation r

-- what is there, or a fault
abbrev pub Checked : Type 0 → Type 0
Checked A = Result A Fault

abbrev pub at_once : {A : Type 0} → Checked A → M A
at_once (Ok x) = pure x
at_once (Err f) = fail f

abbrev pub is_deferred_layer : {A : Type 0} → Instance-F A → Bool
is_deferred_layer (Instance-F.Deferred t) = true
is_deferred_layer x = false

-- whether only the type of a value is known
abbrev pub is_deferred : Instance → Bool
is_deferred x = is_deferred_layer (out-Instance x)

abbrev pub known : Instance → M Instance
known x = if is_deferred x then fail (Deferred (type_of x)) else pure x

-- a value where it is used: of a reference, what is stored there (WGSL, "Load Rule")
abbrev pub used : Instance → M Instance
used x = bind (loaded Operation x) known

-- a user function is called, or a loop's body is entered
abbrev pub step : M (Unit {0})
step = tick StepLimit
