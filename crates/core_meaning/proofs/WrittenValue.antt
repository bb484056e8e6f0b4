-- What is written for a value has that value.
use Rattle.std.proofs.Common.{◌≡◌, ℕ, suc, ◌≤◌, ◌^◌, [], ◌∷◌, Option, Some, Bool, true, false, refl, sym, ap, ◌∙◌, arith}
use Rattle.std.specs.Prelude.{pos, negsuc, nat_lt, nat_eq, if◌then◌else◌}
use Rattle.std.proofs.lemmas.Bool.Decides.{nat_tests}
use Rattle.core_syntax.specs.declared.expression.LiteralExpression.TheVariants as L
use Rattle.core_syntax.specs.Tree.{Exp, literal}
use Rattle.wgsl_shader_type.specs.declared.literal.LiteralInstance.{LiteralInstance}
use Rattle.wgsl_shader_type.specs.declared.literal.LiteralInstance.TheVariants as V
use Rattle.wgsl_shader_type.specs.declared.error.Error.{Error}
use Rattle.wgsl_shader_type.specs.declared.error.Error.TheVariants.{SubOverflow}
use Rattle.wgsl_scalar.specs.Operators.{or_error}
use Rattle.core_meaning.specs.Outcome.{Done, after, computed, bind}
use Rattle.core_meaning.specs.Meaning.{Env, World, value}
use Rattle.core_meaning.specs.Written.{HasConstructor, written, negative, least_abstract, least_signed}

within : (n m k : ℕ) → nat_lt n m ≡ true → m ≤ k → nat_lt n k ≡ true
within n m k h le = grind (arith, nat_tests)

equal : (n m : ℕ) → nat_eq n m ≡ true → n ≡ m
equal n m h = grind (arith, nat_tests)

exact : (b : Bool) (v : LiteralInstance) (y : Option LiteralInstance) (f : Error) → b ≡ true → after 0 (computed (or_error (if b then Some v else y) f)) ≡ Done v 0
exact b v y f e = ap (λ c. after 0 (computed (or_error (if c then Some v else y) f))) e

module _ (w : World) (env : Env) (has : HasConstructor w env) where
  abbrev Says : Exp → LiteralInstance → Type 0
  Says e v = value w env e ≡ Done v 0

  least_abstract_is : Says least_abstract (V.AbstractInt (negsuc 9223372036854775807))
  least_abstract_is = refl

  least_signed_is : Says least_signed (V.I32 (negsuc 2147483647))
  least_signed_is = ap (λ o. bind (Done (V.AbstractInt (negsuc 2147483647) ∷ []) 0) (λ vs. o)) has.least

  negative_abstract : (n : ℕ) → nat_lt n 9223372036854775807 ≡ true → Says (negative (literal (L.AbstractInt (pos (suc n))))) (V.AbstractInt (negsuc n))
  negative_abstract n h = exact _ (V.AbstractInt (negsuc n)) _ SubOverflow (within n 9223372036854775807 (2 ^ 63) h (omega arith))

  negative_signed : (n : ℕ) → nat_lt n 2147483647 ≡ true → Says (negative (literal (L.I32 (pos (suc n))))) (V.I32 (negsuc n))
  negative_signed n h = exact _ (V.I32 (negsuc n)) _ SubOverflow (within n 2147483647 (2 ^ 31) h (omega arith))

  abstract_at : (n : ℕ) (b c : Bool) → nat_eq n 9223372036854775807 ≡ b → nat_lt n 9223372036854775807 ≡ c →
      Says (if b then least_abstract else if c then negative (literal (L.AbstractInt (pos (suc n)))) else literal (L.AbstractInt (negsuc n))) (V.AbstractInt (negsuc n))
  abstract_at n true c e f = ap (λ m. Done (V.AbstractInt (negsuc m)) 0) (sym (equal n 9223372036854775807 e))
  abstract_at n false true e f = negative_abstract n f
  abstract_at n false false e f = refl

  signed_at : (n : ℕ) (b c : Bool) → nat_eq n 2147483647 ≡ b → nat_lt n 2147483647 ≡ c →
      Says (if b then least_signed else if c then negative (literal (L.I32 (pos (suc n)))) else literal (L.I32 (negsuc n))) (V.I32 (negsuc n))
  signed_at n true c e f = least_signed_is ∙ ap (λ m. Done (V.I32 (negsuc m)) 0) (sym (equal n 2147483647 e))
  signed_at n false true e f = negative_signed n f
  signed_at n false false e f = refl

  pub value-written : (v : LiteralInstance) → value w env (written v) ≡ Done v 0
  value-written (V.AbstractInt (pos n)) = refl
  value-written (V.AbstractInt (negsuc n)) = abstract_at n (nat_eq n 9223372036854775807) (nat_lt n 9223372036854775807) refl refl
  value-written (V.I32 (pos n)) = refl
  value-written (V.I32 (negsuc n)) = signed_at n (nat_eq n 2147483647) (nat_lt n 2147483647) refl refl
  value-written (V.U32 n) = refl
  value-written (V.Bool true) = refl
  value-written (V.Bool false) = refl
