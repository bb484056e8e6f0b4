-- How operators are written (WGSL, "Operator expressions").
use Rattle.std.specs.Prelude.{◌≡◌, ◌≢◌, ℕ, List, Result, MatchResult, codes}
use Rattle.wgsl_words.specs.declared.operators.UnaryOperator.{UnaryOperator}
use Rattle.wgsl_words.specs.declared.operators.UnaryOperator.TheVariants.{LogicalNegation, Negation, BitwiseComplement, AddressOf, Indirection}
use Rattle.wgsl_words.specs.declared.operators.BinaryOperator.{BinaryOperator}
use Rattle.wgsl_words.specs.declared.operators.BinaryOperator.TheVariants.{ShortCircuitOr, ShortCircuitAnd, Addition, Subtraction, Multiplication, Division, Remainder, Equality, Inequality, LessThan, LessThanEqual, GreaterThan, GreaterThanEqual, BitwiseOr, BitwiseAnd, BitwiseXor, ShiftLeft, ShiftRight}

-- A sign is read exactly where it is a value's text.
abbrev pub ParsesExactly : {T E : Type 0} → (T → List ℕ) → List ℕ → Result T E → Type 0
ParsesExactly {T} written text result = MatchResult result (λ value. written value ≡ text) (λ _. (value : T) → written value ≢ text)

abbrev pub unary_text : UnaryOperator → List ℕ
unary_text LogicalNegation = codes "!"
unary_text Negation = codes "-"
unary_text BitwiseComplement = codes "~"
unary_text AddressOf = codes "&"
unary_text Indirection = codes "*"

abbrev pub binary_text : BinaryOperator → List ℕ
binary_text ShortCircuitOr = codes "||"
binary_text ShortCircuitAnd = codes "&&"
binary_text Addition = codes "+"
binary_text Subtraction = codes "-"
binary_text Multiplication = codes "*"
binary_text Division = codes "/"
binary_text Remainder = codes "%"
binary_text Equality = codes "=="
binary_text Inequality = codes "!="
binary_text LessThan = codes "<"
binary_text LessThanEqual = codes "<="
binary_text GreaterThan = codes ">"
binary_text GreaterThanEqual = codes ">="
binary_text BitwiseOr = codes "|"
binary_text BitwiseAnd = codes "&"
binary_text BitwiseXor = codes "^"
binary_text ShiftLeft = codes "<<"
binary_text ShiftRight = codes ">>"
