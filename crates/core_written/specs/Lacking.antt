-- Whether an expression has a value at the const stage. These faults say that it has none; any other is a fault of the unit.
use Rattle.std.specs.Prelude.{Option, Some, None, Bool, true, false, Ok, Err, if◌then◌else◌}
use Rattle.core_syntax.specs.Tree.{Exp}
use Rattle.wgsl_base.specs.declared.items.error.OrOutOfMemory.{OrOutOfMemory}
use Rattle.wgsl_base.specs.declared.items.error.OrOutOfMemory.TheVariants.{Error, OutOfMemory}
use Rattle.wgsl_shader_type.specs.declared.literal.LiteralInstance.{LiteralInstance}
use Rattle.core_meaning.specs.declared.fault.Fault.{Fault}
use Rattle.core_meaning.specs.declared.fault.Fault.TheVariants.{StepLimit, Operation, Deferred, NegativeAttr, Name as Named}
use Rattle.core_meaning.specs.declared.fault.NameFault.{NameFault}
use Rattle.core_meaning.specs.declared.fault.NameFault.TheVariants.{NotAccessible, NotConst}
use Rattle.core_meaning.specs.Values.{Checked}
use Rattle.core_meaning.specs.Outcome.{Outcome, Done, Failed, Deep}
use Rattle.core_meaning.specs.Written.{written}

abbrev pub lacks_value : NameFault → Bool
lacks_value NotAccessible = true
lacks_value NotConst = true
lacks_value f = false

abbrev pub unless_fault : {A : Type 0} → Fault → Checked A → Checked A
unless_fault StepLimit parts = Err StepLimit
unless_fault (Operation f) parts = Err (Operation f)
unless_fault (Deferred t) parts = Err (Deferred t)
unless_fault (NegativeAttr z) parts = Err (NegativeAttr z)
unless_fault (Named f x) parts = if lacks_value f then parts else Err (Named f x)

abbrev pub lacks : OrOutOfMemory Fault → Bool
lacks OutOfMemory = false
lacks (Error StepLimit) = false
lacks (Error (Operation f)) = false
lacks (Error (Deferred t)) = false
lacks (Error (NegativeAttr z)) = false
lacks (Error (Named f x)) = lacks_value f

-- the written value; where there is none, the parts
abbrev pub unless_const : Outcome LiteralInstance → Checked Exp → Checked Exp
unless_const (Done v n) parts = Ok (written v)
unless_const (Failed f) parts = unless_fault f parts
unless_const Deep parts = Err StepLimit

-- the value of an expression, or those of several, if they have them
abbrev pub const_value : {A : Type 0} → Outcome A → Checked (Option A)
const_value (Done v n) = Ok (Some v)
const_value (Failed f) = unless_fault f (Ok None)
const_value Deep = Err StepLimit
