-- What an operator answers: its result, or a refusal exactly where no candidate fits, but for want of memory.
use Rattle.std.specs.Prelude.{◌≡◌, ◌⊎◌, Result, MatchResult}
use Rattle.wgsl_words.specs.declared.operators.UnaryOperator.{UnaryOperator}
use Rattle.wgsl_words.specs.declared.operators.BinaryOperator.{BinaryOperator}
use Rattle.wgsl_shader_type.specs.declared.tree.ShaderType.{ShaderType}
use Rattle.wgsl_shader_type.specs.declared.error.Error.{Error}
use Rattle.wgsl_shader_type.specs.declared.error.Error.TheVariants.{OutOfMemory, Binary}
use Rattle.wgsl_type_operators.specs.Operator.{IsBinaryResult, HasNoBinaryCandidate, IsUnaryResult, HasNoUnaryCandidate}
use Rattle.wgsl_type_operators.specs.ResultOf.{unary_fault}

abbrev pub AnswersBinary : BinaryOperator → ShaderType → ShaderType → Result ShaderType Error → Type 0
AnswersBinary operator left right answer = MatchResult answer (IsBinaryResult operator left right)
    (λ error. (error ≡ OutOfMemory) ⊎ ((error ≡ Binary operator left right) × HasNoBinaryCandidate operator left right))

abbrev pub AnswersUnary : UnaryOperator → ShaderType → Result ShaderType Error → Type 0
AnswersUnary operator operand answer = MatchResult answer (IsUnaryResult operator operand)
    (λ error. (error ≡ OutOfMemory) ⊎ ((error ≡ unary_fault operator operand) × HasNoUnaryCandidate operator operand))
