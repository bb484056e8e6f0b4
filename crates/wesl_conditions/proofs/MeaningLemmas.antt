-- A condition that features have simplified means the same under each choice that they admit.
use Rattle.std.proofs.Common.{◌≡◌, refl, sym, ap, ◌∙◌, ℕ, List, Bool, true, false, not, ◌&&◌, ◌||◌, Option, Some, None}
use Rattle.std.specs.Prelude.{if◌then◌else◌}
use Rattle.wgsl_words.specs.declared.operators.UnaryOperator.{UnaryOperator}
use Rattle.wgsl_words.specs.declared.operators.UnaryOperator.TheVariants as u
use Rattle.wgsl_words.specs.declared.operators.BinaryOperator.{BinaryOperator}
use Rattle.wgsl_words.specs.declared.operators.BinaryOperator.TheVariants as b
use Rattle.wgsl_expressions.specs.declared.expression.LiteralExpression.TheVariants as l
use Rattle.wgsl_expressions.specs.Tree.{Exp, Typ, literal, parenthesized, component, indexed, unary, binary, call, named, simple, templated}
use Rattle.wesl_conditions.specs.declared.features.feature.Feature.{Feature}
use Rattle.wesl_conditions.specs.declared.features.feature.Feature.TheVariants.{Enable, Disable, Keep, Error}
use Rattle.wesl_conditions.specs.declared.features.feature.Features.{Features}
use Rattle.wesl_conditions.specs.Settings.{setting}
use Rattle.wesl_conditions.specs.Conditions.{Choice, Admits, known, truth, holds, is_negation, is_conjunction, is_disjunction, grouped, negated, both_of, one_of, set_flag, left_of_name, simplified}

module _ (features : Features) (choice : Choice) (admits : Admits features choice) where
  -- a known truth value is the condition's
  pub known_holds : (x : Exp) (v : Bool) → known x ≡ Some v → holds choice x ≡ v
  known_holds (literal (l.Bool w)) v is = let same : w ≡ v = cc in same
  known_holds (literal (l.AbstractInt n)) v is = absurd (cc)
  known_holds (literal (l.AbstractFloat n)) v is = absurd (cc)
  known_holds (literal (l.I32 n)) v is = absurd (cc)
  known_holds (literal (l.U32 n)) v is = absurd (cc)
  known_holds (literal (l.F32 n)) v is = absurd (cc)
  known_holds (literal (l.F16 n)) v is = absurd (cc)
  known_holds (parenthesized x) v is = absurd (cc)
  known_holds (component x name) v is = absurd (cc)
  known_holds (indexed x y) v is = absurd (cc)
  known_holds (unary o x) v is = absurd (cc)
  known_holds (binary o x y) v is = absurd (cc)
  known_holds (call t xs) v is = absurd (cc)
  known_holds (named t) v is = absurd (cc)

  grouped_holds : (x : Exp) → holds choice (grouped x) ≡ holds choice x
  grouped_holds x = by (known x) refl
    where
      by : (o : Option Bool) → known x ≡ o → holds choice (elim o [ Some v ↦ truth v | None ↦ parenthesized x ]) ≡ holds choice x
      by None is = refl
      by (Some v) is = sym (known_holds x v is)

  negated_holds : (x : Exp) → holds choice (negated x) ≡ not (holds choice x)
  negated_holds x = by (known x) refl
    where
      by : (o : Option Bool) → known x ≡ o → holds choice (elim o [ Some v ↦ truth (not v) | None ↦ unary u.LogicalNegation x ]) ≡ not (holds choice x)
      by None is = refl
      by (Some v) is = ap not (sym (known_holds x v is))

  or_false : (p : Bool) → p || false ≡ p
  or_false true = refl
  or_false false = refl

  and_true : (p : Bool) → p && true ≡ p
  and_true true = refl
  and_true false = refl

  and_false : (p : Bool) → p && false ≡ false
  and_false true = refl
  and_false false = refl

  or_true : (p : Bool) → p || true ≡ true
  or_true true = refl
  or_true false = refl

  both_holds : (x y : Exp) → holds choice (both_of x y) ≡ holds choice x && holds choice y
  both_holds x y = by (known x) (known y) refl refl
    where
      by : (o p : Option Bool) → known x ≡ o → known y ≡ p
          → holds choice (elim o [ Some v ↦ (if v then y else truth false) | None ↦ elim p [ Some v ↦ (if v then x else truth false) | None ↦ binary b.ShortCircuitAnd x y ] ])
          ≡ holds choice x && holds choice y
      by (Some true) p f g = ap (λ q. q && holds choice y) (sym (known_holds x true f))
      by (Some false) p f g = ap (λ q. q && holds choice y) (sym (known_holds x false f))
      by None (Some true) f g = sym (ap (λ q. holds choice x && q) (known_holds y true g) ∙ and_true (holds choice x))
      by None (Some false) f g = sym (ap (λ q. holds choice x && q) (known_holds y false g) ∙ and_false (holds choice x))
      by None None f g = or_false (holds choice x && holds choice y)

  one_holds : (x y : Exp) → holds choice (one_of x y) ≡ holds choice x || holds choice y
  one_holds x y = by (known x) (known y) refl refl
    where
      by : (o p : Option Bool) → known x ≡ o → known y ≡ p
          → holds choice (elim o [ Some v ↦ (if v then truth true else y) | None ↦ elim p [ Some v ↦ (if v then truth true else x) | None ↦ binary b.ShortCircuitOr x y ] ])
          ≡ holds choice x || holds choice y
      by (Some true) p f g = ap (λ q. q || holds choice y) (sym (known_holds x true f))
      by (Some false) p f g = ap (λ q. q || holds choice y) (sym (known_holds x false f))
      by None (Some true) f g = sym (ap (λ q. holds choice x || q) (known_holds y true g) ∙ or_true (holds choice x))
      by None (Some false) f g = sym (ap (λ q. holds choice x || q) (known_holds y false g) ∙ or_false (holds choice x))
      by None None f g = refl

  flag_holds : (name : List ℕ) (s : Feature) → setting features name ≡ s → holds choice (set_flag s name) ≡ choice name
  flag_holds name Enable is = sym (admits.enabled name is)
  flag_holds name Disable is = sym (admits.disabled name is)
  flag_holds name Keep is = refl
  flag_holds name Error is = refl

  name_holds : (t : Typ) → holds choice (left_of_name features t) ≡ holds choice (named t)
  name_holds (simple None name) = flag_holds name (setting features name) refl
  name_holds (simple (Some path) name) = refl
  name_holds (templated path name arguments) = refl

  unary_holds : (o : Bool) (operator : UnaryOperator) (x s : Exp) → is_negation operator ≡ o → holds choice s ≡ holds choice x
      → holds choice (if o then negated s else unary operator x) ≡ is_negation operator && not (holds choice x)
  unary_holds true operator x s is same = negated_holds s ∙ ap not same ∙ sym (ap (λ q. q && not (holds choice x)) is)
  unary_holds false operator x s is same = refl

  binary_holds : (o p : Bool) (operator : BinaryOperator) (x y s t : Exp) → is_conjunction operator ≡ o → is_disjunction operator ≡ p
      → holds choice s ≡ holds choice x → holds choice t ≡ holds choice y
      → (o ≡ true → p ≡ false)
      → holds choice (if o then both_of s t else (if p then one_of s t else binary operator x y)) ≡ holds choice (binary operator x y)
  binary_holds true p operator x y s t f g same also only =
      both_holds s t ∙ (λ k. same k && also k)
      ∙ sym (or_false (holds choice x && holds choice y))
      ∙ sym (λ k. (f k && (holds choice x && holds choice y)) || ((g ∙ only refl) k && (holds choice x || holds choice y)))
  binary_holds false true operator x y s t f g same also only =
      one_holds s t ∙ (λ k. same k || also k)
      ∙ sym (λ k. (f k && (holds choice x && holds choice y)) || (g k && (holds choice x || holds choice y)))
  binary_holds false false operator x y s t f g same also only = refl

  not_both : (operator : BinaryOperator) → is_conjunction operator ≡ true → is_disjunction operator ≡ false
  not_both b.ShortCircuitOr is = absurd (cc)
  not_both b.ShortCircuitAnd is = refl
  not_both b.Addition is = refl
  not_both b.Subtraction is = refl
  not_both b.Multiplication is = refl
  not_both b.Division is = refl
  not_both b.Remainder is = refl
  not_both b.Equality is = refl
  not_both b.Inequality is = refl
  not_both b.LessThan is = refl
  not_both b.LessThanEqual is = refl
  not_both b.GreaterThan is = refl
  not_both b.GreaterThanEqual is = refl
  not_both b.BitwiseOr is = refl
  not_both b.BitwiseAnd is = refl
  not_both b.BitwiseXor is = refl
  not_both b.ShiftLeft is = refl
  not_both b.ShiftRight is = refl

  pub meaning_stays : (e : Exp) → holds choice (simplified features e) ≡ holds choice e
  meaning_stays (literal x) = refl
  meaning_stays (parenthesized x) = grouped_holds (simplified features x) ∙ meaning_stays x
  meaning_stays (component x name) = refl
  meaning_stays (indexed x y) = refl
  meaning_stays (unary operator x) = unary_holds (is_negation operator) operator x (simplified features x) refl (meaning_stays x)
  meaning_stays (binary operator x y) =
      binary_holds (is_conjunction operator) (is_disjunction operator) operator x y (simplified features x) (simplified features y) refl refl (meaning_stays x) (meaning_stays y) (not_both operator)
  meaning_stays (call t xs) = refl
  meaning_stays (named t) = name_holds t
