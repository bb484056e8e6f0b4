-- Where the const stage gives a value, each stage gives the same one in as many steps.
use Rattle.std.proofs.Common.{◌≡◌, ℕ, List, [], ◌∷◌, Result, Ok, Err, refl, sym, subst}
use Rattle.wgsl_words.specs.declared.operators.UnaryOperator.{UnaryOperator}
use Rattle.wgsl_words.specs.declared.operators.UnaryOperator.TheVariants.{AddressOf, Indirection, LogicalNegation, Negation, BitwiseComplement}
use Rattle.wgsl_words.specs.declared.operators.BinaryOperator.{BinaryOperator}
use Rattle.core_syntax.specs.Tree.{Exp}
use Rattle.wgsl_words.specs.declared.enumerations.words.ShaderStage.{ShaderStage}
use Rattle.wgsl_words.specs.declared.enumerations.words.ShaderStage.TheVariants.{Const}
use Rattle.wgsl_shader_type.specs.declared.error.Error.{Error}
use Rattle.wgsl_shader_type.specs.declared.literal.LiteralInstance.{LiteralInstance}
use Rattle.wgsl_shader_type.specs.declared.tree.ShaderType.{ShaderType}
use Rattle.wgsl_scalar.specs.Operators as on_scalars
use Rattle.wgsl_scalar.proofs.Stages.{const_value_holds as binary_holds}
use Rattle.wgsl_scalar.proofs.OperatorTypes.{const_value_holds as unary_holds}
use Rattle.wgsl_instance.specs.declared.tree.VecInstance.{VecInstance}
use Rattle.wgsl_instance.specs.declared.tree.Instance.{Instance, out-Instance}
use Rattle.wgsl_instance.specs.declared.tree.Instance.TheOpen.{Instance-F}
use Rattle.wgsl_instance.specs.Answer.{then_with, collected}
use Rattle.wgsl_instance.specs.Zero.{Made}
use Rattle.wgsl_instance.specs.Typed.{type_of}
use Rattle.wgsl_instance_operators.specs.Operators.{as_literal, as_vector, of_pairs, with_right, with_left, by_right, by_vector, by_left, component_layer, each_component, no_operands, no_operand}
use Rattle.core_computations.specs.Lift.{Same}
use Rattle.core_computations.specs.Compare.{Carries}
use Rattle.core_computations.proofs.Kept.{kept_carries}
use Rattle.core_programs.specs.Faults.{Fault}
use Rattle.core_programs.specs.Computing.{computed}
use Rattle.core_programs.specs.Names.{Path, Env}
use Rattle.core_programs.specs.Operations.{if_typed, unary_type, unary_value, binary_type, binary_value}
use Rattle.core_programs.specs.Meaning.{value}
use Rattle.core_programs.specs.Programs.{Program, Known, calls_inside, world}
use Rattle.core_programs.proofs.Simulates.{StagesMeet}
use Rattle.core_programs.proofs.Bodies.{names_of, value_meets}
use Rattle.core_programs.proofs.Itself.{itself, follows_itself, worlds_meet}

-- a value there is the value here
abbrev pub Holds : {A : Type 0} → Result A Error → Result A Error → Type 0
Holds (Ok x) r = r ≡ Ok x
Holds (Err e) r = Unit {0}

same_holds : {A : Type 0} (r : Result A Error) → Holds r r
same_holds (Ok x) = refl
same_holds (Err e) = tt

holds_of : {A : Type 0} (r q : Result A Error) → ((x : A) → r ≡ Ok x → q ≡ Ok x) → Holds r q
holds_of (Ok x) q h = h x refl
holds_of (Err e) q h = tt

then_holds : {A B : Type 0} (p q : Result A Error) (f g : A → Result B Error) → Holds p q → ((x : A) → Holds (f x) (g x)) → Holds (then_with p f) (then_with q g)
then_holds (Ok x) q f g h k = subst (λ r. Holds (f x) (then_with r g)) (sym h) (k x)
then_holds (Err e) q f g h k = tt

collected_holds : {A B : Type 0} (f g : A → Result B Error) → ((x : A) → Holds (f x) (g x)) → (xs : List A) → Holds (collected f xs) (collected g xs)
collected_holds f g h [] = refl
collected_holds f g h (x ∷ xs) = then_holds (f x) (g x) _ _ (h x) (λ y. then_holds (collected f xs) (collected g xs) _ _ (collected_holds f g h xs) (λ ys. refl))

module _ (t : ShaderStage) where
  of_binary : (o : BinaryOperator) (x y : LiteralInstance) → Holds (on_scalars.binary_value Const o x y) (on_scalars.binary_value t o x y)
  of_binary o x y = holds_of _ _ (λ v h. binary_holds t o x y v h)

  of_unary : (o : UnaryOperator) (x : LiteralInstance) → Holds (on_scalars.unary_value Const o x) (on_scalars.unary_value t o x)
  of_unary o x = holds_of _ _ (λ v h. unary_holds t o x v h)

  literal_holds : (p q : Result LiteralInstance Error) → Holds p q → Holds (as_literal p) (as_literal q)
  literal_holds p q h = then_holds p q _ _ h (λ x. refl)

  vector_holds : (p q : Result (List LiteralInstance) Error) → Holds p q → Holds (as_vector p) (as_vector q)
  vector_holds p q h = then_holds p q _ _ h (λ x. refl)

  pairs_hold : (o : BinaryOperator) (xs ys : List LiteralInstance) → Holds (of_pairs Const o xs ys) (of_pairs t o xs ys)
  pairs_hold o [] ys = refl
  pairs_hold o (x ∷ xs) [] = refl
  pairs_hold o (x ∷ xs) (y ∷ ys) = then_holds (on_scalars.binary_value Const o x y) (on_scalars.binary_value t o x y) _ _ (of_binary o x y) (λ z. then_holds (of_pairs Const o xs ys) (of_pairs t o xs ys) _ _ (pairs_hold o xs ys) (λ zs. refl))

  right_holds : (o : BinaryOperator) (other : Made) (x : LiteralInstance) (y : Instance-F Instance) → Holds (by_right Const o other x y) (by_right t o other x y)
  right_holds o other x (Instance-F.Literal y) = literal_holds _ _ (of_binary o x y)
  right_holds o other x (Instance-F.Vec w) = vector_holds _ _ (collected_holds (with_left Const o x) (with_left t o x) (λ y. of_binary o x y) w.components)
  right_holds o other x (Instance-F.Struct s) = same_holds other
  right_holds o other x (Instance-F.Array s) = same_holds other
  right_holds o other x (Instance-F.Ptr s) = same_holds other
  right_holds o other x (Instance-F.Ref s) = same_holds other
  right_holds o other x (Instance-F.Deferred s) = same_holds other

  by_vector_holds : (o : BinaryOperator) (other : Made) (a : VecInstance) (y : Instance-F Instance) → Holds (by_vector Const o other a y) (by_vector t o other a y)
  by_vector_holds o other a (Instance-F.Literal y) = vector_holds _ _ (collected_holds (with_right Const o y) (with_right t o y) (λ x. of_binary o x y) a.components)
  by_vector_holds o other a (Instance-F.Vec b) = vector_holds _ _ (pairs_hold o a.components b.components)
  by_vector_holds o other a (Instance-F.Struct s) = same_holds other
  by_vector_holds o other a (Instance-F.Array s) = same_holds other
  by_vector_holds o other a (Instance-F.Ptr s) = same_holds other
  by_vector_holds o other a (Instance-F.Ref s) = same_holds other
  by_vector_holds o other a (Instance-F.Deferred s) = same_holds other

  left_holds : (o : BinaryOperator) (other : Made) (y : Instance) (x : Instance-F Instance) → Holds (by_left Const o other y x) (by_left t o other y x)
  left_holds o other y (Instance-F.Literal x) = right_holds o other x (out-Instance y)
  left_holds o other y (Instance-F.Vec a) = by_vector_holds o other a (out-Instance y)
  left_holds o other y (Instance-F.Struct s) = same_holds other
  left_holds o other y (Instance-F.Array s) = same_holds other
  left_holds o other y (Instance-F.Ptr s) = same_holds other
  left_holds o other y (Instance-F.Ref s) = same_holds other
  left_holds o other y (Instance-F.Deferred s) = same_holds other

  component_holds : (o : UnaryOperator) (other : Made) (x : Instance-F Instance) → Holds (component_layer Const o other x) (component_layer t o other x)
  component_holds o other (Instance-F.Literal x) = literal_holds _ _ (of_unary o x)
  component_holds o other (Instance-F.Vec w) = vector_holds _ _ (collected_holds (on_scalars.unary_value Const o) (on_scalars.unary_value t o) (of_unary o) w.components)
  component_holds o other (Instance-F.Struct s) = same_holds other
  component_holds o other (Instance-F.Array s) = same_holds other
  component_holds o other (Instance-F.Ptr s) = same_holds other
  component_holds o other (Instance-F.Ref s) = same_holds other
  component_holds o other (Instance-F.Deferred s) = same_holds other

  typed_holds : (r : Result ShaderType Error) (p q : Made) → Holds p q → Holds (if_typed r p) (if_typed r q)
  typed_holds (Ok ty) p q h = h
  typed_holds (Err e) p q h = tt

  each_holds : (o : UnaryOperator) (x : Instance) → Holds (if_typed (unary_type o (type_of x)) (each_component Const o x)) (if_typed (unary_type o (type_of x)) (each_component t o x))
  each_holds o x = typed_holds (unary_type o (type_of x)) _ _ (component_holds o (no_operand o x) (out-Instance x))

  pub unary_value_holds : (o : UnaryOperator) (x : Instance) → Holds (unary_value Const o x) (unary_value t o x)
  unary_value_holds AddressOf x = same_holds _
  unary_value_holds Indirection x = same_holds _
  unary_value_holds LogicalNegation x = each_holds LogicalNegation x
  unary_value_holds Negation x = each_holds Negation x
  unary_value_holds BitwiseComplement x = each_holds BitwiseComplement x

  pub binary_value_holds : (o : BinaryOperator) (x y : Instance) → Holds (binary_value Const o x y) (binary_value t o x y)
  binary_value_holds o x y = typed_holds (binary_type o (type_of x) (type_of y)) _ _ (left_holds o (no_operands o x y) y (out-Instance x))

  carried : (r q : Made) → Holds r q → Carries Fault Instance Instance Same (computed r) (computed q)
  carried (Ok x) q h = subst (λ z. Carries Fault Instance Instance Same (computed (Ok x)) (computed z)) (sym h) ((kept_carries Fault Same).kept.pure_of Instance Instance Same x x refl)
  carried (Err e) q h = record { from = λ a b begin. tt }

  later : StagesMeet (λ A B S m n. Carries Fault A B S m n) (kept_carries Fault Same).kept Const t
  later = record { by_unary = λ o x. carried _ _ (unary_value_holds o x); by_binary = λ o x y. carried _ _ (binary_value_holds o x y) }

  pub const_values_hold : (p : Program) (known : Known) (k : ℕ) (m : Path) (env : Env) (e : Exp) → Carries Fault Instance Instance Same (value (world p known k m) Const env e) (value (world p known k m) t env e)
  const_values_hold p known k m env e =
      value_meets (λ A B S m n. Carries Fault A B S m n) (kept_carries Fault Same).kept itself Const t (world p known k m) (world p known k m)
      (worlds_meet (λ A B S m n. Carries Fault A B S m n) (kept_carries Fault Same).kept p known m (calls_inside p known k) (calls_inside p known k) Const t later (λ f xs. record { from = λ a b begin. tt }))
      env e e (follows_itself (names_of env) e)
