-- What the plain functions on scalars give, which code computes with, is what the expression means: its value or its fault.
use Rattle.std.proofs.Common.{◌≡◌, ℕ, List, ◌∷◌, map, Bool, true, false, Result, Ok, Err, refl, sym, ap, ◌∙◌}
use Rattle.std.specs.Prelude.{if◌then◌else◌}
use Rattle.wgsl_words.specs.declared.operators.UnaryOperator.{UnaryOperator}
use Rattle.wgsl_words.specs.declared.operators.BinaryOperator.{BinaryOperator}
use Rattle.core_syntax.specs.declared.expression.LiteralExpression.{LiteralExpression}
use Rattle.core_syntax.specs.declared.expression.LiteralExpression.TheVariants as L
use Rattle.core_syntax.specs.Tree.{Exp, Exps, literal, parenthesized, unary, binary, call, named, nil, cons, Typ}
use Rattle.wgsl_words.specs.declared.enumerations.words.ShaderStage.{ShaderStage}
use Rattle.wgsl_shader_type.specs.declared.error.Error.{Error}
use Rattle.wgsl_shader_type.specs.declared.literal.LiteralInstance.{LiteralInstance}
use Rattle.wgsl_shader_type.specs.declared.tree.ShaderType.{ShaderType}
use Rattle.wgsl_shader_type.specs.Class.{loaded_type}
use Rattle.wgsl_scalar.specs.declared.scalar.ScalarType.{ScalarType}
use Rattle.wgsl_scalar.specs.Scalars.{scalar_type}
use Rattle.wgsl_scalar.specs.Operators as scalar
use Rattle.wgsl_scalar.specs.OperatorTypes as scalar_types
use Rattle.wgsl_instance.specs.declared.tree.Instance.{Instance}
use Rattle.wgsl_instance.specs.declared.tree.Instance.TheVariants as v
use Rattle.wgsl_instance.specs.Typed.{type_of}
use Rattle.core_lower_expressions.specs.Operators.{as_literal}
use Rattle.core_computations.specs.Machine.{pure, fail, deep, bind}
use Rattle.core_meaning.specs.Outcome.{Done, Failed, Deep}
use Rattle.core_meaning.specs.Outcome as plain
use Rattle.core_meaning.specs.Names as plain_names
use Rattle.core_meaning.specs.Values as plain_values
use Rattle.core_meaning.specs.Meaning as plain_meaning
use Rattle.core_lower_expressions.specs.Computing.{M, computed, at_once, used}
use Rattle.core_lower_expressions.specs.Names.{Env, find}
use Rattle.core_lower_expressions.specs.Operations.{literal_value, operand, operand_type, unary_value, unary_type, binary_value, binary_type}
use Rattle.core_lower_expressions.specs.Meaning.{World, plain_name, name_type, call_type, between, value, values, typed, all_typed}
use Rattle.core_lower_expressions.proofs.Bodies.{name_here, callee_here}
use Rattle.wgsl_scalar.proofs.Types.{others_refused}
use Rattle.core_lower_expressions.proofs.Scalars.{as_type, used_literal, operand_literal, unary_of_scalars, binary_of_scalars, decides_literal, type_of_literal, loaded_scalar, unary_type_of_scalars, binary_type_of_scalars}

abbrev pub as_value : LiteralInstance → Instance
as_value x = v.Literal x

-- an end on scalars as a computation that looks at no state
abbrev pub lift : {A B : Type 0} → (A → B) → plain.Outcome A → M B
lift view (Done x n) = pure (view x)
lift view (Failed f) = fail f
lift view Deep = deep

pub lift_after : {A B : Type 0} (view : A → B) (n : ℕ) (o : plain.Outcome A) → lift view o ≡ lift view (plain.after n o)
lift_after view n (Done x m) = refl
lift_after view n (Failed f) = refl
lift_after view n Deep = refl

-- going on
pub lift_bind : {A B C D : Type 0} (view : A → B) (see : C → D) (o : plain.Outcome A) (f : A → plain.Outcome C) (g : B → M D) → ((x : A) → g (view x) ≡ lift see (f x))
    → bind (lift view o) g ≡ lift see (plain.bind o f)
lift_bind view see (Done x n) f g h = h x ∙ lift_after see n (f x)
lift_bind view see (Failed e) f g h = refl
lift_bind view see Deep f g h = refl

-- what leaves each value as it is
lift_kept : {A B : Type 0} (view : A → B) (o : plain.Outcome A) (g : B → M B) → ((x : A) → g (view x) ≡ pure (view x)) → bind (lift view o) g ≡ lift view o
lift_kept view (Done x n) g h = h x
lift_kept view (Failed e) g h = refl
lift_kept view Deep g h = refl

pub lift_used : (o : plain.Outcome LiteralInstance) → bind (lift as_value o) used ≡ lift as_value o
lift_used o = lift_kept as_value o used used_literal

pub lift_computed : (r : Result LiteralInstance Error) → computed (as_literal r) ≡ lift as_value (plain.computed r)
lift_computed (Ok x) = refl
lift_computed (Err e) = refl

lift_type : (r : Result ScalarType Error) → computed (as_type r) ≡ lift scalar_type (plain.computed r)
lift_type (Ok x) = refl
lift_type (Err e) = refl

pub computed_done : {A : Type 0} (r : Result A Error) (x : A) (n : ℕ) → plain.computed r ≡ Done x n → r ≡ Ok x
computed_done (Ok y) x n e = let same : y ≡ x = cc in ap Ok same
computed_done (Err f) x n e = absurd (cc)

literal_is : (l : LiteralExpression) → literal_value l ≡ v.Literal (plain_values.literal_value l)
literal_is (L.AbstractInt z) = refl
literal_is (L.I32 z) = refl
literal_is (L.U32 n) = refl

-- in worlds in which names and callees mean what they mean on scalars
module _ (t : ShaderStage) (w : plain_meaning.World) (env : plain_meaning.Env) (u : World) (others : Env) (same_stage : w.stage ≡ t)
    (by_name : (x : Typ) → name_here u t others x ≡ lift as_value (plain_meaning.value_here w env (plain_names.plain_name x)))
    (by_call : (f : Typ) (xs : List LiteralInstance) → callee_here u t others f (map as_value xs) ≡ lift as_value (plain_meaning.result_here w env (plain_names.plain_name f) xs)) where
  unaries : (o : UnaryOperator) (x : LiteralInstance) → computed (unary_value t o (v.Literal x)) ≡ lift as_value (plain.computed (scalar.unary_value w.stage o x))
  unaries o x =
      ap computed (unary_of_scalars t o x) ∙ lift_computed (scalar.unary_value t o x) ∙ ap (λ s. lift as_value (plain.computed (scalar.unary_value s o x))) (sym same_stage)

  binaries : (o : BinaryOperator) (x y : LiteralInstance) → computed (binary_value t o (v.Literal x) (v.Literal y)) ≡ lift as_value (plain.computed (scalar.binary_value w.stage o x y))
  binaries o x y =
      ap computed (binary_of_scalars others_refused t o x y) ∙ lift_computed (scalar.binary_value t o x y)
      ∙ ap (λ s. lift as_value (plain.computed (scalar.binary_value s o x y))) (sym same_stage)

  betweens : (o : BinaryOperator) (x : LiteralInstance) (b : plain.Outcome LiteralInstance)
      → between t o (v.Literal x) (lift as_value b) ≡ lift as_value (plain_meaning.between w.stage o x b)
  betweens o x b =
      ap (λ c. if c then pure (v.Literal x) else bind (lift as_value b) (λ y. computed (binary_value t o (v.Literal x) y))) (decides_literal o x) ∙ either (plain_values.decides o x)
    where
      either : (c : Bool) → (if c then pure (v.Literal x) else bind (lift as_value b) (λ y. computed (binary_value t o (v.Literal x) y)))
          ≡ lift as_value (if c then Done x 0 else plain.bind b (λ y. plain.computed (scalar.binary_value w.stage o x y)))
      either true = refl
      either false = lift_bind as_value as_value b (λ y. plain.computed (scalar.binary_value w.stage o x y)) (λ y. computed (binary_value t o (v.Literal x) y)) (binaries o x)

  mutual
    pub computes : (e : Exp) → value u t others e ≡ lift as_value (plain_meaning.value w env e)
    computes (literal l) = ap pure (literal_is l)
    computes (parenthesized e) = computes e
    computes (unary o e) =
        ap (λ m. bind (bind m (operand o)) (λ x. computed (unary_value t o x))) (computes e)
        ∙ ap (λ m. bind m (λ x. computed (unary_value t o x))) (lift_kept as_value (plain_meaning.value w env e) (operand o) (operand_literal o))
        ∙ lift_bind as_value as_value (plain_meaning.value w env e) (λ x. plain.computed (scalar.unary_value w.stage o x)) (λ x. computed (unary_value t o x)) (unaries o)
    computes (binary o a b) =
        ap (λ m. bind (bind m used) (λ x. between t o x (bind (value u t others b) used))) (computes a)
        ∙ ap (λ m. bind m (λ x. between t o x (bind (value u t others b) used))) (lift_used (plain_meaning.value w env a))
        ∙ ap (λ n. bind (lift as_value (plain_meaning.value w env a)) (λ x. between t o x (bind n used))) (computes b)
        ∙ ap (λ n. bind (lift as_value (plain_meaning.value w env a)) (λ x. between t o x n)) (lift_used (plain_meaning.value w env b))
        ∙ lift_bind as_value as_value (plain_meaning.value w env a) (λ x. plain_meaning.between w.stage o x (plain_meaning.value w env b)) (λ x. between t o x (lift as_value (plain_meaning.value w env b)))
        (λ x. betweens o x (plain_meaning.value w env b))
    computes (call f es) =
        ap (λ m. bind m (callee_here u t others f)) (compute_all es)
        ∙ lift_bind (map as_value) as_value (plain_meaning.values w env es) (plain_meaning.result_here w env (plain_names.plain_name f)) (callee_here u t others f) (by_call f)
    computes (named x) = by_name x

    compute_all : (es : Exps) → values u t others es ≡ lift (map as_value) (plain_meaning.values w env es)
    compute_all nil = refl
    compute_all (cons e es) =
        ap (λ m. bind (bind m used) (λ x. bind (values u t others es) (λ xs. pure (x ∷ xs)))) (computes e)
        ∙ ap (λ m. bind m (λ x. bind (values u t others es) (λ xs. pure (x ∷ xs)))) (lift_used (plain_meaning.value w env e))
        ∙ ap (λ n. bind (lift as_value (plain_meaning.value w env e)) (λ x. bind n (λ xs. pure (x ∷ xs)))) (compute_all es)
        ∙ lift_bind as_value (map as_value) (plain_meaning.value w env e) (λ x. plain.bind (plain_meaning.values w env es) (λ xs. Done (x ∷ xs) 0))
        (λ x. bind (lift (map as_value) (plain_meaning.values w env es)) (λ xs. pure (x ∷ xs)))
        (λ x. lift_bind (map as_value) (map as_value) (plain_meaning.values w env es) (λ xs. Done (x ∷ xs) 0) (λ xs. pure (v.Literal x ∷ xs)) (λ xs. refl))

-- ---- types

abbrev pub name_type_here : World → Env → Typ → M ShaderType
name_type_here u others t = bind (at_once (plain_name u others t)) (λ x. name_type u x (find x others) (u.denotes x))

abbrev pub call_type_here : World → Env → Typ → List ShaderType → M ShaderType
call_type_here u others f ts = bind (at_once (plain_name u others f)) (λ g. call_type u g (find g others) (u.denotes g) ts)

module _ (w : plain_meaning.World) (env : plain_meaning.Types) (u : World) (others : Env)
    (by_name : (x : Typ) → name_type_here u others x ≡ lift scalar_type (plain_meaning.type_here w env (plain_names.plain_name x)))
    (by_call : (f : Typ) (ts : List ScalarType) → call_type_here u others f (map scalar_type ts) ≡ lift scalar_type (plain_meaning.result_type_here w env (plain_names.plain_name f) ts)) where
  unary_types : (o : UnaryOperator) (t : ScalarType) → computed (unary_type o (operand_type o (scalar_type t))) ≡ lift scalar_type (plain.computed (scalar_types.unary_type o t))
  unary_types o t = ap computed (unary_type_of_scalars o t) ∙ lift_type (scalar_types.unary_type o t)

  binary_types : (o : BinaryOperator) (s t : ScalarType) → computed (binary_type o (loaded_type (scalar_type s)) (loaded_type (scalar_type t))) ≡ lift scalar_type (plain.computed (scalar_types.binary_type o s t))
  binary_types o s t = ap computed (binary_type_of_scalars o s t) ∙ lift_type (scalar_types.binary_type o s t)

  mutual
    pub types_compute : (e : Exp) → typed u others e ≡ lift scalar_type (plain_meaning.typed w env e)
    types_compute (literal l) = ap (λ x. pure (type_of x)) (literal_is l) ∙ ap pure (type_of_literal (plain_values.literal_value l))
    types_compute (parenthesized e) = types_compute e
    types_compute (unary o e) =
        ap (λ m. bind m (λ t. computed (unary_type o (operand_type o t)))) (types_compute e)
        ∙ lift_bind scalar_type scalar_type (plain_meaning.typed w env e) (λ t. plain.computed (scalar_types.unary_type o t)) (λ t. computed (unary_type o (operand_type o t))) (unary_types o)
    types_compute (binary o a b) =
        ap (λ m. bind m (λ s. bind (typed u others b) (λ t. computed (binary_type o (loaded_type s) (loaded_type t))))) (types_compute a)
        ∙ ap (λ n. bind (lift scalar_type (plain_meaning.typed w env a)) (λ s. bind n (λ t. computed (binary_type o (loaded_type s) (loaded_type t))))) (types_compute b)
        ∙ lift_bind scalar_type scalar_type (plain_meaning.typed w env a) (λ s. plain.bind (plain_meaning.typed w env b) (λ t. plain.computed (scalar_types.binary_type o s t)))
        (λ s. bind (lift scalar_type (plain_meaning.typed w env b)) (λ t. computed (binary_type o (loaded_type s) (loaded_type t))))
        (λ s. lift_bind scalar_type scalar_type (plain_meaning.typed w env b) (λ t. plain.computed (scalar_types.binary_type o s t)) (λ t. computed (binary_type o (loaded_type (scalar_type s)) (loaded_type t))) (binary_types o s))
    types_compute (call f es) =
        ap (λ m. bind m (call_type_here u others f)) (all_types_compute es)
        ∙ lift_bind (map scalar_type) scalar_type (plain_meaning.all_typed w env es) (plain_meaning.result_type_here w env (plain_names.plain_name f)) (call_type_here u others f) (by_call f)
    types_compute (named x) = by_name x

    all_types_compute : (es : Exps) → all_typed u others es ≡ lift (map scalar_type) (plain_meaning.all_typed w env es)
    all_types_compute nil = refl
    all_types_compute (cons e es) =
        ap (λ m. bind m (λ t. bind (all_typed u others es) (λ ts. pure (loaded_type t ∷ ts)))) (types_compute e)
        ∙ ap (λ n. bind (lift scalar_type (plain_meaning.typed w env e)) (λ t. bind n (λ ts. pure (loaded_type t ∷ ts)))) (all_types_compute es)
        ∙ lift_bind scalar_type (map scalar_type) (plain_meaning.typed w env e) (λ t. plain.bind (plain_meaning.all_typed w env es) (λ ts. Done (t ∷ ts) 0))
        (λ t. bind (lift (map scalar_type) (plain_meaning.all_typed w env es)) (λ ts. pure (loaded_type t ∷ ts)))
        (λ t. lift_bind (map scalar_type) (map scalar_type) (plain_meaning.all_typed w env es) (λ ts. Done (t ∷ ts) 0) (λ ts. pure (loaded_type (scalar_type t) ∷ ts))
        (λ ts. ap (λ q. pure (q ∷ map scalar_type ts)) (loaded_scalar t)))
