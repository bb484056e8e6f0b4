-- A condition simplified in two steps: its operands, and then itself.
use Rattle.std.specs.Prelude.{ℕ, List, Bool, true, false, ◌||◌, Option, Some, None, if◌then◌else◌}
use Rattle.wgsl_expressions.specs.Tree.{Exp, parenthesized, unary, binary, named, Typ, simple, templated}
use Rattle.wesl_conditions.specs.declared.features.feature.Features.{Features}
use Rattle.wesl_conditions.specs.Conditions.{is_negation, is_conjunction, is_disjunction, grouped, negated, both_of, one_of, left_of_name}

-- the flag that a name is, where it has no path and no template arguments
abbrev pub flag : Typ → Option (List ℕ)
flag (simple None name) = Some name
flag (simple (Some path) name) = None
flag (templated path name arguments) = None

-- whether it is a condition that has operands
abbrev pub is_operation : Exp → Bool
is_operation (parenthesized x) = true
is_operation (unary operator x) = is_negation operator
is_operation (binary operator x y) = is_conjunction operator || is_disjunction operator
is_operation _ = false

-- an expression with its operands changed
abbrev pub with_operands : (Exp → Exp) → Exp → Exp
with_operands f (parenthesized x) = parenthesized (f x)
with_operands f (unary operator x) = unary operator (f x)
with_operands f (binary operator x y) = binary operator (f x) (f y)
with_operands f x = x

-- the condition itself, where its operands are simplified
abbrev pub absorbed : Features → Exp → Exp
absorbed features (parenthesized x) = grouped x
absorbed features (unary operator x) = if is_negation operator then negated x else unary operator x
absorbed features (binary operator x y) =
    if is_conjunction operator then both_of x y else (if is_disjunction operator then one_of x y else binary operator x y)
absorbed features (named x) = left_of_name features x
absorbed features x = x
