-- Conditions: what an expression says of feature flags (WESL, "Conditional Translation").
use Rattle.std.specs.Prelude.{◌≡◌, ℕ, List, Bool, true, false, not, ◌&&◌, ◌||◌, Option, Some, None, if◌then◌else◌}
use Rattle.std.specs.Option.{option_or}
use Rattle.wgsl_words.specs.declared.operators.UnaryOperator.{UnaryOperator}
use Rattle.wgsl_words.specs.declared.operators.UnaryOperator.TheVariants.{LogicalNegation}
use Rattle.wgsl_words.specs.declared.operators.BinaryOperator.{BinaryOperator}
use Rattle.wgsl_words.specs.declared.operators.BinaryOperator.TheVariants.{ShortCircuitAnd, ShortCircuitOr}
use Rattle.wgsl_expressions.specs.declared.expression.LiteralExpression.{LiteralExpression}
use Rattle.wgsl_expressions.specs.declared.expression.LiteralExpression.TheVariants as l
use Rattle.wgsl_expressions.specs.Tree.{Exp, literal, parenthesized, unary, binary, named, Typ, simple, templated}
use Rattle.wgsl_expressions.specs.Print.{typ_text}
use Rattle.wesl_conditions.specs.declared.features.feature.Feature.{Feature}
use Rattle.wesl_conditions.specs.declared.features.feature.Feature.TheVariants.{Enable, Disable, Keep, Error}
use Rattle.wesl_conditions.specs.declared.features.feature.Features.{Features}
use Rattle.wesl_conditions.specs.declared.features.error.CondCompError.{CondCompError}
use Rattle.wesl_conditions.specs.declared.features.error.CondCompError.TheVariants.{InvalidFeatureFlag, UnexpectedFeatureFlag, InvalidExpression}
use Rattle.wesl_conditions.specs.Settings.{setting}

abbrev pub is_negation : UnaryOperator → Bool
is_negation LogicalNegation = true
is_negation _ = false

abbrev pub is_conjunction : BinaryOperator → Bool
is_conjunction ShortCircuitAnd = true
is_conjunction _ = false

abbrev pub is_disjunction : BinaryOperator → Bool
is_disjunction ShortCircuitOr = true
is_disjunction _ = false

-- the truth value that an expression is, if it is one
abbrev pub known : Exp → Option Bool
known (literal (l.Bool b)) = Some b
known _ = None

abbrev pub truth : Bool → Exp
truth b = literal (l.Bool b)

-- ---- what a condition means

-- a choice gives each flag a truth value
abbrev pub Choice : Type 0
Choice = List ℕ → Bool

abbrev pub holds_literal : LiteralExpression → Bool
holds_literal (l.Bool b) = b
holds_literal _ = false

abbrev pub holds_named : Choice → Typ → Bool
holds_named choice (simple None name) = choice name
holds_named choice (simple (Some path) name) = false
holds_named choice (templated path name arguments) = false

-- whether a condition is true under a choice; what is no condition counts as false
abbrev pub holds : Choice → Exp → Bool
holds choice (literal x) = holds_literal x
holds choice (parenthesized x) = holds choice x
holds choice (unary operator x) = is_negation operator && not (holds choice x)
holds choice (binary operator x y) = (is_conjunction operator && (holds choice x && holds choice y)) || (is_disjunction operator && (holds choice x || holds choice y))
holds choice (named x) = holds_named choice x
holds choice _ = false

-- features admit a choice that makes true what they enable, and false what they disable
pub record Admits (features : Features) (choice : Choice) : Type 0 where
  pub enabled : (name : List ℕ) → setting features name ≡ Enable → choice name ≡ true
  pub disabled : (name : List ℕ) → setting features name ≡ Disable → choice name ≡ false

-- ---- what features leave of a condition

-- in parentheses; a truth value needs none
abbrev pub grouped : Exp → Exp
grouped x = elim (known x) [ Some b ↦ truth b | None ↦ parenthesized x ]

abbrev pub negated : Exp → Exp
negated x = elim (known x) [ Some b ↦ truth (not b) | None ↦ unary LogicalNegation x ]

-- both: `true` goes, and `false` is the whole
abbrev pub both_of : Exp → Exp → Exp
both_of x y =
    elim (known x) [
      | Some b ↦ (if b then y else truth false)
      | None ↦ elim (known y) [ Some b ↦ (if b then x else truth false) | None ↦ binary ShortCircuitAnd x y ]
    ]

-- one of both: `false` goes, and `true` is the whole
abbrev pub one_of : Exp → Exp → Exp
one_of x y =
    elim (known x) [
      | Some b ↦ (if b then truth true else y)
      | None ↦ elim (known y) [ Some b ↦ (if b then truth true else x) | None ↦ binary ShortCircuitOr x y ]
    ]

-- a flag as it is set
abbrev pub set_flag : Feature → List ℕ → Exp
set_flag Enable name = truth true
set_flag Disable name = truth false
set_flag Keep name = named (simple None name)
set_flag Error name = named (simple None name)

abbrev pub left_of_name : Features → Typ → Exp
left_of_name features (simple None name) = set_flag (setting features name) name
left_of_name features (simple (Some path) name) = named (simple (Some path) name)
left_of_name features (templated path name arguments) = named (templated path name arguments)

-- a condition with the flags as they are set: truth values are absorbed from the innermost operators outwards
abbrev pub simplified : Features → Exp → Exp
simplified features (parenthesized x) = grouped (simplified features x)
simplified features (unary operator x) = if is_negation operator then negated (simplified features x) else unary operator x
simplified features (binary operator x y) =
    if is_conjunction operator then both_of (simplified features x) (simplified features y)
    else (if is_disjunction operator then one_of (simplified features x) (simplified features y) else binary operator x y)
simplified features (named x) = left_of_name features x
simplified features x = x

-- ---- the first error

abbrev pub literal_fault : LiteralExpression → Option CondCompError
literal_fault (l.Bool b) = None
literal_fault _ = Some InvalidExpression

abbrev pub flag_fault : Feature → List ℕ → Option CondCompError
flag_fault Error name = Some (UnexpectedFeatureFlag name)
flag_fault _ name = None

-- a flag is a name alone
abbrev pub name_fault : Features → Typ → Option CondCompError
name_fault features (simple None name) = flag_fault (setting features name) name
name_fault features (simple (Some path) name) = Some (InvalidFeatureFlag (typ_text (simple (Some path) name)))
name_fault features (templated path name arguments) = Some (InvalidFeatureFlag (typ_text (templated path name arguments)))

-- the first error of a condition, from left to right; both sides count, whatever the left one is
abbrev pub condition_fault : Features → Exp → Option CondCompError
condition_fault features (literal x) = literal_fault x
condition_fault features (parenthesized x) = condition_fault features x
condition_fault features (unary operator x) = if is_negation operator then condition_fault features x else Some InvalidExpression
condition_fault features (binary operator x y) =
    if is_conjunction operator || is_disjunction operator then option_or (condition_fault features x) (condition_fault features y) else Some InvalidExpression
condition_fault features (named x) = name_fault features x
condition_fault features _ = Some InvalidExpression
