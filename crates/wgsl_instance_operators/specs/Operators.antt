-- The operators on values at each stage (WGSL, "Arithmetic Expressions", "Comparison Expressions", "Logical Expressions", "Bit Expressions").
use Rattle.std.specs.Prelude.{◌≡◌, ◌⊎◌, List, [], ◌∷◌, Option, Some, None, Result, Ok, Err, MatchResult}
use Rattle.wgsl_words.specs.declared.operators.UnaryOperator.{UnaryOperator}
use Rattle.wgsl_words.specs.declared.operators.UnaryOperator.TheVariants.{AddressOf, Indirection}
use Rattle.wgsl_words.specs.declared.operators.BinaryOperator.{BinaryOperator}
use Rattle.wgsl_words.specs.declared.enumerations.words.ShaderStage.{ShaderStage}
use Rattle.wgsl_shader_type.specs.declared.error.Error.{Error}
use Rattle.wgsl_shader_type.specs.declared.error.Error.TheVariants.{OutOfMemory, Unary, Binary}
use Rattle.wgsl_shader_type.specs.declared.literal.LiteralInstance.{LiteralInstance}
use Rattle.wgsl_shader_type.specs.declared.tree.ShaderType.{ShaderType}
use Rattle.wgsl_type_operators.specs.Operator.{IsBinaryResult, HasNoBinaryCandidate, IsUnaryResult, HasNoUnaryCandidate}
use Rattle.wgsl_type_operators.specs.ResultOf.{unary_fault}
use Rattle.wgsl_scalar.specs.declared.scalar.ScalarType.{ScalarType}
use Rattle.wgsl_scalar.specs.declared.scalar.ScalarType.TheVariants as scalar
use Rattle.wgsl_scalar.specs.Scalars as scalars
use Rattle.wgsl_scalar.specs.Operators as on_scalars
use Rattle.wgsl_instance.specs.declared.tree.VecInstance.{VecInstance}
use Rattle.wgsl_instance.specs.declared.tree.Instance.{Instance, out-Instance}
use Rattle.wgsl_instance.specs.declared.tree.Instance.TheVariants as v
use Rattle.wgsl_instance.specs.declared.tree.Instance.TheOpen.{Instance-F}
use Rattle.wgsl_instance.specs.Answer.{Answers, then_with, collected}
use Rattle.wgsl_instance.specs.Parts.{address_of, indirection}
use Rattle.wgsl_instance.specs.Typed.{type_of}
use Rattle.wgsl_instance.specs.Zero.{Made}

abbrev pub as_literal : Result LiteralInstance Error → Made
as_literal r = then_with r (λ x. Ok (v.Literal x))

-- the type of the first scalar of a list that has one
abbrev pub first_type : List LiteralInstance → ScalarType
first_type [] = scalar.Bool
first_type (x ∷ xs) = scalars.type_of x

-- a vector of the components that an operator gave
abbrev pub vector_of : List LiteralInstance → Instance
vector_of xs = v.Vec (record { ty = first_type xs; components = xs })

abbrev pub as_vector : Result (List LiteralInstance) Error → Made
as_vector r = then_with r (λ xs. Ok (vector_of xs))

-- ---- binary operators

-- of the components of two vectors, pair by pair
abbrev pub of_pairs : ShaderStage → BinaryOperator → List LiteralInstance → List LiteralInstance → Result (List LiteralInstance) Error
of_pairs s o (x ∷ xs) (y ∷ ys) = then_with (on_scalars.binary_value s o x y) (λ z. then_with (of_pairs s o xs ys) (λ zs. Ok (z ∷ zs)))
of_pairs s o xs ys = Ok []

abbrev pub with_right : ShaderStage → BinaryOperator → LiteralInstance → LiteralInstance → Result LiteralInstance Error
with_right s o y x = on_scalars.binary_value s o x y

abbrev pub with_left : ShaderStage → BinaryOperator → LiteralInstance → LiteralInstance → Result LiteralInstance Error
with_left s o x y = on_scalars.binary_value s o x y

abbrev pub no_operands : BinaryOperator → Instance → Instance → Made
no_operands o x y = Err (Binary o (type_of x) (type_of y))

abbrev pub by_right : ShaderStage → BinaryOperator → Made → LiteralInstance → Instance-F Instance → Made
by_right s o other x (Instance-F.Literal y) = as_literal (on_scalars.binary_value s o x y)
by_right s o other x (Instance-F.Vec w) = as_vector (collected (with_left s o x) w.components)
by_right s o other x y = other

abbrev pub by_vector : ShaderStage → BinaryOperator → Made → VecInstance → Instance-F Instance → Made
by_vector s o other a (Instance-F.Literal y) = as_vector (collected (with_right s o y) a.components)
by_vector s o other a (Instance-F.Vec b) = as_vector (of_pairs s o a.components b.components)
by_vector s o other a y = other

abbrev pub by_left : ShaderStage → BinaryOperator → Made → Instance → Instance-F Instance → Made
by_left s o other y (Instance-F.Literal x) = by_right s o other x (out-Instance y)
by_left s o other y (Instance-F.Vec a) = by_vector s o other a (out-Instance y)
by_left s o other y x = other

-- Two scalars; the components of two vectors, pair by pair; or each component of a vector with a scalar. The first component's fault is the fault.
abbrev pub combined : ShaderStage → BinaryOperator → Instance → Instance → Made
combined s o x y = by_left s o (no_operands o x y) y (out-Instance x)

-- The types of the operands have a result.
abbrev pub HasBinaryResult : BinaryOperator → Instance → Instance → Type 0
HasBinaryResult o x y = (t : ShaderType) × IsBinaryResult o (type_of x) (type_of y) t

abbrev pub HasNoBinaryResult : BinaryOperator → Instance → Instance → Type 0
HasNoBinaryResult o x y = HasNoBinaryCandidate o (type_of x) (type_of y)

abbrev pub IsBinaryFault : ShaderStage → BinaryOperator → Instance → Instance → Error → Type 0
IsBinaryFault s o x y error =
    ((error ≡ Binary o (type_of x) (type_of y)) × HasNoBinaryResult o x y) ⊎ (HasBinaryResult o x y × (combined s o x y ≡ Err error))

-- What an operator answers: where the types have a result, the value or its fault; else the operands' types are the fault.
abbrev pub AnswersBinaryValue : ShaderStage → BinaryOperator → Instance → Instance → Made → Type 0
AnswersBinaryValue s o x y answer = MatchResult answer
    (λ value. HasBinaryResult o x y × (combined s o x y ≡ Ok value))
    (λ error. (error ≡ OutOfMemory) ⊎ IsBinaryFault s o x y error)

abbrev pub ChecksTypes : BinaryOperator → ShaderType → ShaderType → Result (Unit {0}) Error → Type 0
ChecksTypes o left right answer = MatchResult answer
    (λ _. (t : ShaderType) × IsBinaryResult o left right t)
    (λ error. (error ≡ OutOfMemory) ⊎ ((error ≡ Binary o left right) × HasNoBinaryCandidate o left right))

-- ---- unary operators

abbrev pub no_operand : UnaryOperator → Instance → Made
no_operand o x = Err (Unary o (type_of x))

abbrev pub component_layer : ShaderStage → UnaryOperator → Made → Instance-F Instance → Made
component_layer s o other (Instance-F.Literal x) = as_literal (on_scalars.unary_value s o x)
component_layer s o other (Instance-F.Vec w) = as_vector (collected (on_scalars.unary_value s o) w.components)
component_layer s o other x = other

-- A scalar, or each component of a vector.
abbrev pub each_component : ShaderStage → UnaryOperator → Instance → Made
each_component s o x = component_layer s o (no_operand o x) (out-Instance x)

abbrev pub HasUnaryResult : UnaryOperator → Instance → Type 0
HasUnaryResult o x = (t : ShaderType) × IsUnaryResult o (type_of x) t

abbrev pub HasNoUnaryResult : UnaryOperator → Instance → Type 0
HasNoUnaryResult o x = HasNoUnaryCandidate o (type_of x)

abbrev pub IsUnaryFault : ShaderStage → UnaryOperator → Instance → Error → Type 0
IsUnaryFault s o x error = ((error ≡ unary_fault o (type_of x)) × HasNoUnaryResult o x) ⊎ (HasUnaryResult o x × (each_component s o x ≡ Err error))

-- What `-`, `!` and `~` answer.
abbrev pub AnswersUnaryValue : ShaderStage → UnaryOperator → Instance → Made → Type 0
AnswersUnaryValue s o x answer = MatchResult answer
    (λ value. HasUnaryResult o x × (each_component s o x ≡ Ok value))
    (λ error. (error ≡ OutOfMemory) ⊎ IsUnaryFault s o x error)

abbrev pub ChecksUnary : UnaryOperator → Instance → Result (Unit {0}) Error → Type 0
ChecksUnary o x answer = MatchResult answer
    (λ _. HasUnaryResult o x)
    (λ error. (error ≡ OutOfMemory) ⊎ ((error ≡ unary_fault o (type_of x)) × HasNoUnaryResult o x))

-- `&` and `*` make pointers and references.
abbrev pub AnswersUnaryCall : ShaderStage → UnaryOperator → Instance → Made → Type 0
AnswersUnaryCall s AddressOf x answer = Answers (address_of x) answer
AnswersUnaryCall s Indirection x answer = Answers (indirection x) answer
AnswersUnaryCall s o x answer = AnswersUnaryValue s o x answer
