-- How a value is written (this project's own).
use Rattle.std.specs.Prelude.{◌≡◌, suc, pos, negsuc, true, false, nat_lt, nat_eq, [], ◌∷◌, None, Ok, if◌then◌else◌, codes}
use Rattle.wgsl_words.specs.declared.operators.UnaryOperator.TheVariants.{Negation}
use Rattle.wgsl_words.specs.declared.operators.BinaryOperator.TheVariants.{Subtraction, Equality}
use Rattle.core_syntax.specs.declared.expression.LiteralExpression.TheVariants.{AbstractInt, I32, U32}
use Rattle.core_syntax.specs.Tree.{Exp, literal, parenthesized, unary, binary, call, nil, cons, simple}
use Rattle.wgsl_shader_type.specs.declared.literal.LiteralInstance.{LiteralInstance}
use Rattle.core_meaning.specs.Outcome.{Done}
use Rattle.core_meaning.specs.Meaning.{World, Env, result_here}
use Rattle.wgsl_shader_type.specs.declared.literal.LiteralInstance.TheVariants as V

-- `(-n)`
abbrev pub negative : Exp → Exp
negative e = parenthesized (unary Negation e)

-- `(-9223372036854775807 - 1)`, since 9223372036854775808 is no literal
abbrev pub least_abstract : Exp
least_abstract = parenthesized (binary Subtraction (unary Negation (literal (AbstractInt (pos 9223372036854775807)))) (literal (AbstractInt (pos 1))))

-- `i32(-2147483648)`, since 2147483648i is no literal
abbrev pub least_signed : Exp
least_signed = call (simple None (codes "i32")) (cons (unary Negation (literal (AbstractInt (pos 2147483648)))) nil)

-- `(0 == e)`
abbrev pub equals_zero : Exp → Exp
equals_zero e = parenthesized (binary Equality (literal (AbstractInt (pos 0))) e)

-- the expression that is written for a value: a literal, or in parentheses where the number is negative. The last case of each
-- type of numbers doesn't come: no number of the type is as low. Trees have no literals of truth values yet
abbrev pub written : LiteralInstance → Exp
written (V.AbstractInt (pos n)) = literal (AbstractInt (pos n))
written (V.AbstractInt (negsuc n)) =
    if nat_eq n 9223372036854775807 then least_abstract
    else if nat_lt n 9223372036854775807 then negative (literal (AbstractInt (pos (suc n))))
    else literal (AbstractInt (negsuc n))
written (V.I32 (pos n)) = literal (I32 (pos n))
written (V.I32 (negsuc n)) =
    if nat_eq n 2147483647 then least_signed
    else if nat_lt n 2147483647 then negative (literal (I32 (pos (suc n))))
    else literal (I32 (negsuc n))
written (V.U32 n) = literal (U32 n)
written (V.Bool true) = equals_zero (literal (AbstractInt (pos 0)))
written (V.Bool false) = equals_zero (literal (AbstractInt (pos 1)))

-- `i32` is the constructor there: neither a parameter nor a declaration has the name
pub record HasConstructor (w : World) (env : Env) : Type 0 where
  pub least : result_here w env (Ok (codes "i32")) (V.AbstractInt (negsuc 2147483647) ∷ []) ≡ Done (V.I32 (negsuc 2147483647)) 0
