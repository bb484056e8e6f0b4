-- Conditions simplified in two steps.
use Rattle.std.proofs.Common.{◌≡◌, refl, Bool, true, false, ◌||◌}
use Rattle.std.specs.Prelude.{if◌then◌else◌}
use Rattle.wgsl_words.specs.declared.operators.BinaryOperator.{BinaryOperator}
use Rattle.wgsl_words.specs.declared.operators.BinaryOperator.TheVariants as b
use Rattle.wgsl_expressions.specs.Tree.{Exp, literal, parenthesized, component, indexed, unary, binary, call, named}
use Rattle.wesl_conditions.specs.declared.features.feature.Features.{Features}
use Rattle.wesl_conditions.specs.Conditions.{is_negation, is_conjunction, is_disjunction, negated, both_of, one_of, simplified}
use Rattle.wesl_conditions.specs.Absorbed.{is_operation, with_operands, absorbed}

pub from_parts : (features : Features) (e : Exp) → is_operation e ≡ true → absorbed features (with_operands (simplified features) e) ≡ simplified features e
from_parts features (literal l) is = refl
from_parts features (parenthesized x) is = refl
from_parts features (component x name) is = absurd (cc)
from_parts features (indexed x y) is = absurd (cc)
from_parts features (unary operator x) is = by (is_negation operator) is
  where
    by : (o : Bool) → o ≡ true → (if o then negated (simplified features x) else unary operator (simplified features x)) ≡ (if o then negated (simplified features x) else unary operator x)
    by true h = refl
    by false h = absurd (cc)
from_parts features (binary operator x y) is = by (is_conjunction operator) (is_disjunction operator) is
  where
    by : (o p : Bool) → o || p ≡ true
        → (if o then both_of (simplified features x) (simplified features y) else (if p then one_of (simplified features x) (simplified features y) else binary operator (simplified features x) (simplified features y)))
        ≡ (if o then both_of (simplified features x) (simplified features y) else (if p then one_of (simplified features x) (simplified features y) else binary operator x y))
    by true p h = refl
    by false true h = refl
    by false false h = absurd (cc)
from_parts features (call type arguments) is = absurd (cc)
from_parts features (named type) is = absurd (cc)

pub without_parts : (features : Features) (e : Exp) → is_operation e ≡ false → absorbed features e ≡ simplified features e
without_parts features (literal l) is = refl
without_parts features (parenthesized x) is = absurd (cc)
without_parts features (component x name) is = refl
without_parts features (indexed x y) is = refl
without_parts features (unary operator x) is = by (is_negation operator) is
  where
    by : (o : Bool) → o ≡ false → (if o then negated x else unary operator x) ≡ (if o then negated (simplified features x) else unary operator x)
    by true h = absurd (cc)
    by false h = refl
without_parts features (binary operator x y) is = by (is_conjunction operator) (is_disjunction operator) is
  where
    by : (o p : Bool) → o || p ≡ false
        → (if o then both_of x y else (if p then one_of x y else binary operator x y))
        ≡ (if o then both_of (simplified features x) (simplified features y) else (if p then one_of (simplified features x) (simplified features y) else binary operator x y))
    by true p h = absurd (cc)
    by false true h = absurd (cc)
    by false false h = refl
without_parts features (call type arguments) is = refl
without_parts features (named type) is = refl

-- the operator of a conjunction is one
pub conjunction : (operator : BinaryOperator) → is_conjunction operator ≡ true → operator ≡ b.ShortCircuitAnd
conjunction b.ShortCircuitOr is = absurd (cc)
conjunction b.ShortCircuitAnd is = refl
conjunction b.Addition is = absurd (cc)
conjunction b.Subtraction is = absurd (cc)
conjunction b.Multiplication is = absurd (cc)
conjunction b.Division is = absurd (cc)
conjunction b.Remainder is = absurd (cc)
conjunction b.Equality is = absurd (cc)
conjunction b.Inequality is = absurd (cc)
conjunction b.LessThan is = absurd (cc)
conjunction b.LessThanEqual is = absurd (cc)
conjunction b.GreaterThan is = absurd (cc)
conjunction b.GreaterThanEqual is = absurd (cc)
conjunction b.BitwiseOr is = absurd (cc)
conjunction b.BitwiseAnd is = absurd (cc)
conjunction b.BitwiseXor is = absurd (cc)
conjunction b.ShiftLeft is = absurd (cc)
conjunction b.ShiftRight is = absurd (cc)

pub disjunction : (operator : BinaryOperator) → is_disjunction operator ≡ true → operator ≡ b.ShortCircuitOr
disjunction b.ShortCircuitOr is = refl
disjunction b.ShortCircuitAnd is = absurd (cc)
disjunction b.Addition is = absurd (cc)
disjunction b.Subtraction is = absurd (cc)
disjunction b.Multiplication is = absurd (cc)
disjunction b.Division is = absurd (cc)
disjunction b.Remainder is = absurd (cc)
disjunction b.Equality is = absurd (cc)
disjunction b.Inequality is = absurd (cc)
disjunction b.LessThan is = absurd (cc)
disjunction b.LessThanEqual is = absurd (cc)
disjunction b.GreaterThan is = absurd (cc)
disjunction b.GreaterThanEqual is = absurd (cc)
disjunction b.BitwiseOr is = absurd (cc)
disjunction b.BitwiseAnd is = absurd (cc)
disjunction b.BitwiseXor is = absurd (cc)
disjunction b.ShiftLeft is = absurd (cc)
disjunction b.ShiftRight is = absurd (cc)
