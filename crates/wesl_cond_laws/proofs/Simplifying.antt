-- A condition that features have simplified: it stays as it is, and has no error where it had none.
use Rattle.std.proofs.Common.{◌≡◌, refl, ap, ◌∙◌, ℕ, List, Bool, true, false, not, ◌||◌, Option, Some, None}
use Rattle.std.specs.Prelude.{if◌then◌else◌}
use Rattle.std.specs.Option.{option_or}
use Rattle.wgsl_words.specs.declared.operators.UnaryOperator.{UnaryOperator}
use Rattle.wgsl_words.specs.declared.operators.UnaryOperator.TheVariants as u
use Rattle.wgsl_words.specs.declared.operators.BinaryOperator.{BinaryOperator}
use Rattle.wgsl_words.specs.declared.operators.BinaryOperator.TheVariants as b
use Rattle.wgsl_expressions.specs.Tree.{Exp, Typ, literal, parenthesized, component, indexed, unary, binary, call, named, simple, templated}
use Rattle.wesl_conditions.specs.declared.features.feature.Feature.{Feature}
use Rattle.wesl_conditions.specs.declared.features.feature.Feature.TheVariants.{Enable, Disable, Keep, Error}
use Rattle.wesl_conditions.specs.declared.features.feature.Features.{Features}
use Rattle.wesl_conditions.specs.declared.features.error.CondCompError.{CondCompError}
use Rattle.wesl_conditions.specs.declared.features.error.CondCompError.TheVariants.{InvalidExpression}
use Rattle.wesl_conditions.specs.Settings.{setting}
use Rattle.wesl_conditions.specs.Conditions.{known, truth, is_negation, is_conjunction, is_disjunction, grouped, negated, both_of, one_of, set_flag, left_of_name, simplified, flag_fault, name_fault, condition_fault}

module _ (features : Features) where
  abbrev Settled : Exp → Type 0
  Settled e = simplified features e ≡ e

  grouped_again : (s : Exp) → Settled s → Settled (grouped s)
  grouped_again s again = by (known s) refl
    where
      by : (o : Option Bool) → known s ≡ o → Settled (elim o [ Some v ↦ truth v | None ↦ parenthesized s ])
      by (Some v) e = refl
      by None e = ap grouped again ∙ ap (λ o. elim o [ Some v ↦ truth v | None ↦ parenthesized s ]) e

  negated_again : (s : Exp) → Settled s → Settled (negated s)
  negated_again s again = by (known s) refl
    where
      by : (o : Option Bool) → known s ≡ o → Settled (elim o [ Some v ↦ truth (not v) | None ↦ unary u.LogicalNegation s ])
      by (Some v) e = refl
      by None e = ap negated again ∙ ap (λ o. elim o [ Some v ↦ truth (not v) | None ↦ unary u.LogicalNegation s ]) e

  both_again : (s t : Exp) → Settled s → Settled t → Settled (both_of s t)
  both_again s t again also = by (known s) (known t) refl refl
    where
      by : (o p : Option Bool) → known s ≡ o → known t ≡ p
          → Settled (elim o [ Some v ↦ (if v then t else truth false) | None ↦ elim p [ Some v ↦ (if v then s else truth false) | None ↦ binary b.ShortCircuitAnd s t ] ])
      by (Some true) p f g = also
      by (Some false) p f g = refl
      by None (Some true) f g = again
      by None (Some false) f g = refl
      by None None f g =
          (λ i. both_of (again i) (also i))
          ∙ (λ i. elim (f i) [ Some v ↦ (if v then t else truth false) | None ↦ elim (g i) [ Some v ↦ (if v then s else truth false) | None ↦ binary b.ShortCircuitAnd s t ] ])

  one_again : (s t : Exp) → Settled s → Settled t → Settled (one_of s t)
  one_again s t again also = by (known s) (known t) refl refl
    where
      by : (o p : Option Bool) → known s ≡ o → known t ≡ p
          → Settled (elim o [ Some v ↦ (if v then truth true else t) | None ↦ elim p [ Some v ↦ (if v then truth true else s) | None ↦ binary b.ShortCircuitOr s t ] ])
      by (Some true) p f g = refl
      by (Some false) p f g = also
      by None (Some true) f g = refl
      by None (Some false) f g = again
      by None None f g =
          (λ i. one_of (again i) (also i))
          ∙ (λ i. elim (f i) [ Some v ↦ (if v then truth true else t) | None ↦ elim (g i) [ Some v ↦ (if v then truth true else s) | None ↦ binary b.ShortCircuitOr s t ] ])

  flag_again : (name : List ℕ) (s : Feature) → setting features name ≡ s → Settled (set_flag s name)
  flag_again name Enable e = refl
  flag_again name Disable e = refl
  flag_again name Keep e = ap (λ s. set_flag s name) e
  flag_again name Error e = ap (λ s. set_flag s name) e

  name_again : (t : Typ) → Settled (left_of_name features t)
  name_again (simple None name) = flag_again name (setting features name) refl
  name_again (simple (Some path) name) = refl
  name_again (templated path name arguments) = refl

  unary_again : (o : Bool) (operator : UnaryOperator) (x : Exp) → is_negation operator ≡ o → Settled (simplified features x)
      → Settled (if o then negated (simplified features x) else unary operator x)
  unary_again true operator x e again = negated_again (simplified features x) again
  unary_again false operator x e again = ap (λ o. if o then negated (simplified features x) else unary operator x) e

  binary_again : (o p : Bool) (operator : BinaryOperator) (x y : Exp) → is_conjunction operator ≡ o → is_disjunction operator ≡ p
      → Settled (simplified features x) → Settled (simplified features y)
      → Settled (if o then both_of (simplified features x) (simplified features y) else (if p then one_of (simplified features x) (simplified features y) else binary operator x y))
  binary_again true p operator x y f g again also = both_again (simplified features x) (simplified features y) again also
  binary_again false true operator x y f g again also = one_again (simplified features x) (simplified features y) again also
  binary_again false false operator x y f g again also = λ i.
      if f i then both_of (simplified features x) (simplified features y) else (if g i then one_of (simplified features x) (simplified features y) else binary operator x y)

  pub simplified_again : (e : Exp) → Settled (simplified features e)
  simplified_again (literal x) = refl
  simplified_again (parenthesized x) = grouped_again (simplified features x) (simplified_again x)
  simplified_again (component x name) = refl
  simplified_again (indexed x y) = refl
  simplified_again (unary operator x) = unary_again (is_negation operator) operator x refl (simplified_again x)
  simplified_again (binary operator x y) = binary_again (is_conjunction operator) (is_disjunction operator) operator x y refl refl (simplified_again x) (simplified_again y)
  simplified_again (call t xs) = refl
  simplified_again (named t) = name_again t

  -- ---- no error

  abbrev Faultless : Exp → Type 0
  Faultless e = condition_fault features e ≡ None

  pub first_none : (p q : Option CondCompError) → option_or p q ≡ None → p ≡ None
  first_none None q h = refl
  first_none (Some x) q h = absurd (cc)

  pub second_none : (p q : Option CondCompError) → option_or p q ≡ None → q ≡ None
  second_none None q h = h
  second_none (Some x) q h = absurd (cc)

  grouped_faultless : (s : Exp) → Faultless s → Faultless (grouped s)
  grouped_faultless s h = by (known s)
    where
      by : (o : Option Bool) → Faultless (elim o [ Some v ↦ truth v | None ↦ parenthesized s ])
      by (Some v) = refl
      by None = h

  negated_faultless : (s : Exp) → Faultless s → Faultless (negated s)
  negated_faultless s h = by (known s)
    where
      by : (o : Option Bool) → Faultless (elim o [ Some v ↦ truth (not v) | None ↦ unary u.LogicalNegation s ])
      by (Some v) = refl
      by None = h

  both_faultless : (s t : Exp) → Faultless s → Faultless t → Faultless (both_of s t)
  both_faultless s t h k = by (known s) (known t)
    where
      by : (o p : Option Bool)
          → Faultless (elim o [ Some v ↦ (if v then t else truth false) | None ↦ elim p [ Some v ↦ (if v then s else truth false) | None ↦ binary b.ShortCircuitAnd s t ] ])
      by (Some true) p = k
      by (Some false) p = refl
      by None (Some true) = h
      by None (Some false) = refl
      by None None = λ i. option_or (h i) (k i)

  one_faultless : (s t : Exp) → Faultless s → Faultless t → Faultless (one_of s t)
  one_faultless s t h k = by (known s) (known t)
    where
      by : (o p : Option Bool)
          → Faultless (elim o [ Some v ↦ (if v then truth true else t) | None ↦ elim p [ Some v ↦ (if v then truth true else s) | None ↦ binary b.ShortCircuitOr s t ] ])
      by (Some true) p = refl
      by (Some false) p = k
      by None (Some true) = refl
      by None (Some false) = h
      by None None = λ i. option_or (h i) (k i)

  flag_faultless : (name : List ℕ) (s : Feature) → flag_fault (setting features name) name ≡ None → Faultless (set_flag s name)
  flag_faultless name Enable h = refl
  flag_faultless name Disable h = refl
  flag_faultless name Keep h = h
  flag_faultless name Error h = h

  name_faultless : (t : Typ) → name_fault features t ≡ None → Faultless (left_of_name features t)
  name_faultless (simple None name) h = flag_faultless name (setting features name) h
  name_faultless (simple (Some path) name) h = h
  name_faultless (templated path name arguments) h = h

  unary_faultless : (o : Bool) (operator : UnaryOperator) (x s : Exp) → (if o then condition_fault features x else Some InvalidExpression) ≡ None
      → (Faultless x → Faultless s) → Faultless (if o then negated s else unary operator x)
  unary_faultless true operator x s h more = negated_faultless s (more h)
  unary_faultless false operator x s h more = absurd (cc)

  binary_faultless : (o p : Bool) (operator : BinaryOperator) (x y s t : Exp)
      → (if o || p then option_or (condition_fault features x) (condition_fault features y) else Some InvalidExpression) ≡ None
      → (Faultless x → Faultless s) → (Faultless y → Faultless t)
      → Faultless (if o then both_of s t else (if p then one_of s t else binary operator x y))
  binary_faultless true p operator x y s t h more also =
      both_faultless s t (more (first_none (condition_fault features x) (condition_fault features y) h)) (also (second_none (condition_fault features x) (condition_fault features y) h))
  binary_faultless false true operator x y s t h more also =
      one_faultless s t (more (first_none (condition_fault features x) (condition_fault features y) h)) (also (second_none (condition_fault features x) (condition_fault features y) h))
  binary_faultless false false operator x y s t h more also = absurd (cc)

  pub simplified_faultless : (e : Exp) → Faultless e → Faultless (simplified features e)
  simplified_faultless (literal x) h = h
  simplified_faultless (parenthesized x) h = grouped_faultless (simplified features x) (simplified_faultless x h)
  simplified_faultless (component x name) h = h
  simplified_faultless (indexed x y) h = h
  simplified_faultless (unary operator x) h = unary_faultless (is_negation operator) operator x (simplified features x) h (simplified_faultless x)
  simplified_faultless (binary operator x y) h =
      binary_faultless (is_conjunction operator) (is_disjunction operator) operator x y (simplified features x) (simplified features y) h (simplified_faultless x) (simplified_faultless y)
  simplified_faultless (call t xs) h = h
  simplified_faultless (named t) h = name_faultless t h
