-- What evaluation has beside the scalars' own conversions and operators: faults, literals, and the conversions of a place.
use Rattle.std.specs.Prelude.{◌≡◌, ◌⊎◌, Bool, true, false, Result, Ok, Err}
use Rattle.wgsl_base.specs.declared.items.error.OrOutOfMemory.{OrOutOfMemory}
use Rattle.wgsl_base.specs.declared.items.error.OrOutOfMemory.TheVariants as memory
use Rattle.wgsl_words.specs.declared.operators.BinaryOperator.{BinaryOperator}
use Rattle.wgsl_words.specs.declared.operators.BinaryOperator.TheVariants.{ShortCircuitAnd, ShortCircuitOr}
use Rattle.core_syntax.specs.declared.expression.LiteralExpression.{LiteralExpression}
use Rattle.core_syntax.specs.declared.expression.LiteralExpression.TheVariants as L
use Rattle.wgsl_shader_type.specs.declared.error.Error.{Error}
use Rattle.wgsl_shader_type.specs.declared.error.Error.TheVariants.{OutOfMemory}
use Rattle.wgsl_shader_type.specs.declared.literal.LiteralInstance.{LiteralInstance}
use Rattle.wgsl_shader_type.specs.declared.literal.LiteralInstance.TheVariants as V
use Rattle.core_meaning.specs.declared.fault.Fault.{Fault}
use Rattle.core_meaning.specs.declared.fault.Fault.TheVariants.{Operation}

-- what is there, or a fault
abbrev pub Checked : Type 0 → Type 0
Checked A = Result A Fault

abbrev pub and_then : {A B : Type 0} → Checked A → (A → Checked B) → Checked B
and_then (Ok x) f = f x
and_then (Err e) f = Err e

-- an operation's error as the fault of an evaluation; that memory was refused says nothing of the expression
abbrev pub operation_fault : Error → OrOutOfMemory Fault
operation_fault OutOfMemory = memory.OutOfMemory
operation_fault e = memory.Error (Operation e)

-- that fault, unless memory was refused
abbrev pub IsOperationFault : Error → OrOutOfMemory Fault → Type 0
IsOperationFault e answer = (answer ≡ memory.OutOfMemory) ⊎ (answer ≡ operation_fault e)

-- whether the left operand of `&&` or `||` is the result already (WGSL, "Logical Expressions")
abbrev pub decides : BinaryOperator → LiteralInstance → Bool
decides ShortCircuitAnd (V.Bool false) = true
decides ShortCircuitOr (V.Bool true) = true
decides o x = false

-- what a literal stands for: its suffix says its type (WGSL, "Numeric Literals")
abbrev pub literal_value : LiteralExpression → LiteralInstance
literal_value (L.AbstractInt z) = V.AbstractInt z
literal_value (L.I32 z) = V.I32 z
literal_value (L.U32 n) = V.U32 n
