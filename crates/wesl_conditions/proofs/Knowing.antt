-- What is known of a condition, from what is known of its operands.
use Rattle.std.proofs.Common.{◌≡◌, refl, Bool, true, false, not, Option, Some, None}
use Rattle.std.specs.Prelude.{if◌then◌else◌}
use Rattle.wgsl_words.specs.declared.operators.UnaryOperator.TheVariants.{LogicalNegation}
use Rattle.wgsl_words.specs.declared.operators.BinaryOperator.{BinaryOperator}
use Rattle.wgsl_words.specs.declared.operators.BinaryOperator.TheVariants.{ShortCircuitAnd, ShortCircuitOr}
use Rattle.wgsl_expressions.specs.Tree.{Exp, parenthesized, unary, binary}
use Rattle.wesl_conditions.specs.Conditions.{known, truth, grouped, negated, both_of, one_of}
use Rattle.wesl_conditions.specs.Values.{opposite_of, both_values, either_value}

pub of_group : (x : Exp) → known (grouped x) ≡ known x
of_group x = by (known x)
  where
    by : (o : Option Bool) → known (elim o [ Some b ↦ truth b | None ↦ parenthesized x ]) ≡ o
    by None = refl
    by (Some b) = refl

pub of_negation : (x : Exp) → known (negated x) ≡ opposite_of (known x)
of_negation x = by (known x)
  where
    by : (o : Option Bool) → known (elim o [ Some b ↦ truth (not b) | None ↦ unary LogicalNegation x ]) ≡ opposite_of o
    by None = refl
    by (Some b) = refl

pub of_both : (x y : Exp) → known (both_of x y) ≡ both_values (known x) (known y)
of_both x y = by (known x) (known y) refl refl
  where
    by : (o p : Option Bool) → known x ≡ o → known y ≡ p
        → known (elim o [ Some b ↦ (if b then y else truth false) | None ↦ elim p [ Some b ↦ (if b then x else truth false) | None ↦ binary ShortCircuitAnd x y ] ]) ≡ both_values o p
    by (Some true) p f g = g
    by (Some false) p f g = refl
    by None (Some true) f g = f
    by None (Some false) f g = refl
    by None None f g = refl

pub of_one : (x y : Exp) → known (one_of x y) ≡ either_value (known x) (known y)
of_one x y = by (known x) (known y) refl refl
  where
    by : (o p : Option Bool) → known x ≡ o → known y ≡ p
        → known (elim o [ Some b ↦ (if b then truth true else y) | None ↦ elim p [ Some b ↦ (if b then truth true else x) | None ↦ binary ShortCircuitOr x y ] ]) ≡ either_value o p
    by (Some true) p f g = refl
    by (Some false) p f g = g
    by None (Some true) f g = refl
    by None (Some false) f g = f
    by None None f g = refl

pub of_junction : (o p : Bool) (operator : BinaryOperator) (x y v w : Exp)
    → known (if o then both_of v w else (if p then one_of v w else binary operator x y))
    ≡ (if o then both_values (known v) (known w) else (if p then either_value (known v) (known w) else None))
of_junction true p operator x y v w = of_both v w
of_junction false true operator x y v w = of_one v w
of_junction false false operator x y v w = refl
