-- What follows a tree means what the tree means, up to a relation of computations that going on keeps.
use Rattle.std.proofs.Common.{List, [], ◌∷◌, Bool, true, false, Result, Ok, Err, refl, subst}
use Rattle.std.specs.Prelude.{if◌then◌else◌}
use Rattle.wgsl_words.specs.declared.operators.UnaryOperator.{UnaryOperator}
use Rattle.wgsl_words.specs.declared.operators.UnaryOperator.TheVariants.{AddressOf, Indirection, LogicalNegation, Negation, BitwiseComplement}
use Rattle.wgsl_words.specs.declared.operators.BinaryOperator.{BinaryOperator}
use Rattle.core_syntax.specs.Tree.{Exp, Exps, Typ}
use Rattle.wgsl_words.specs.declared.enumerations.words.ShaderStage.{ShaderStage}
use Rattle.wgsl_shader_type.specs.declared.error.Error.{Error}
use Rattle.wgsl_instance.specs.declared.tree.Instance.{Instance}
use Rattle.wgsl_instance.specs.Typed.{type_of}
use Rattle.core_computations.specs.Machine.{pure, fail, bind, loaded}
use Rattle.core_computations.specs.Lift.{Lift, Same, Kept}
use Rattle.core_programs.specs.Faults.{Fault, Operation, Deferred}
use Rattle.core_programs.specs.Computing.{M, Checked, computed, at_once, is_deferred, known, used}
use Rattle.core_programs.specs.Names.{Name, Env, find}
use Rattle.core_programs.specs.Operations.{literal_value, operand, unary_value, binary_value, decides}
use Rattle.core_programs.specs.Meaning.{World, plain_name, name_value, call_value, between, value, values}
use Rattle.core_programs.specs.Follows.{Differences, Follows, FollowAll, keeps_literal, keeps_parentheses, keeps_unary, keeps_binary, keeps_call, keeps_name, replaces, no_more, one_more}

module _ (R : Lift Fault) (kept : Kept Fault Same R) where
  -- going on with one and the same answer
  pub on : (A C D : Type 0) (T : C → D → Type 0) (m n : M A) (f : A → M C) (g : A → M D) → R A A Same m n → ((x : A) → R C D T (f x) (g x)) → R C D T (bind m f) (bind n g)
  on A C D T m n f g r h = kept.going_on A A C D Same T m n f g r (λ x y e. subst (λ z. R C D T (f x) (g z)) e (h x))

  pub pure_same : (A : Type 0) (x : A) → R A A Same (pure x) (pure x)
  pure_same A x = kept.pure_of A A Same x x refl

  pub fail_same : (A : Type 0) (f : Fault) → R A A Same (fail f) (fail f)
  fail_same A f = kept.fail_of A A Same f f refl

  pub computed_same : (A : Type 0) (r : Result A Error) → R A A Same (computed r) (computed r)
  computed_same A (Ok x) = pure_same A x
  computed_same A (Err e) = fail_same A (Operation e)

  pub at_once_same : (A : Type 0) (r : Checked A) → R A A Same (at_once r) (at_once r)
  at_once_same A (Ok x) = pure_same A x
  at_once_same A (Err f) = fail_same A f

  known_same : (x : Instance) → R Instance Instance Same (known x) (known x)
  known_same x = at (is_deferred x)
    where
      at : (b : Bool) → R Instance Instance Same (if b then fail (Deferred (type_of x)) else pure x) (if b then fail (Deferred (type_of x)) else pure x)
      at true = fail_same Instance (Deferred (type_of x))
      at false = pure_same Instance x

  pub used_same : (x : Instance) → R Instance Instance Same (used x) (used x)
  used_same x = on Instance Instance Instance Same (loaded Operation x) (loaded Operation x) known known (kept.loaded_of Operation Operation x (λ e. refl)) known_same

  pub operand_same : (o : UnaryOperator) (x : Instance) → R Instance Instance Same (operand o x) (operand o x)
  operand_same AddressOf x = pure_same Instance x
  operand_same Indirection x = used_same x
  operand_same LogicalNegation x = used_same x
  operand_same Negation x = used_same x
  operand_same BitwiseComplement x = used_same x

  -- the operators of two stages are related
  pub record StagesMeet (s t : ShaderStage) : Type 0 where
    pub by_unary : (o : UnaryOperator) (x : Instance) → R Instance Instance Same (computed (unary_value s o x)) (computed (unary_value t o x))
    pub by_binary : (o : BinaryOperator) (x y : Instance) → R Instance Instance Same (computed (binary_value s o x y)) (computed (binary_value t o x y))

  pub same_stage : (s : ShaderStage) → StagesMeet s s
  same_stage s = record { by_unary = λ o x. computed_same Instance _; by_binary = λ o x y. computed_same Instance _ }

  module _ (s t : ShaderStage) (stages : StagesMeet s t) where
    pub between_meets : (o : BinaryOperator) (x : Instance) (m n : M Instance) → R Instance Instance Same m n → R Instance Instance Same (between s o x m) (between t o x n)
    between_meets o x m n r = at (decides o x)
      where
        at : (b : Bool) → R Instance Instance Same (if b then pure x else bind m (λ y. computed (binary_value s o x y))) (if b then pure x else bind n (λ y. computed (binary_value t o x y)))
        at true = pure_same Instance x
        at false = on Instance Instance Instance Same m n _ _ r (λ y. stages.by_binary o x y)

    -- each side has its own locals
    module _ (D : Differences) (locals : List Name) (w u : World) (env others : Env)
        (by_name : (x y : Typ) → D.names locals x y → R Instance Instance Same (bind (at_once (plain_name w env x)) (λ a. name_value w s a (find a env) (w.denotes a))) (bind (at_once (plain_name u others y)) (λ a. name_value u t a (find a others) (u.denotes a))))
        (by_call : (f g : Typ) (xs : List Instance) → D.callees locals f g → R Instance Instance Same (bind (at_once (plain_name w env f)) (λ a. call_value w s a (find a env) (w.denotes a) xs)) (bind (at_once (plain_name u others g)) (λ a. call_value u t a (find a others) (u.denotes a) xs)))
        (by_replaced : (e d : Exp) → D.replaced locals e d → R Instance Instance Same (value w s env e) (value u t others d)) where
      used_meets : (e d : Exp) → R Instance Instance Same (value w s env e) (value u t others d) → R Instance Instance Same (bind (value w s env e) used) (bind (value u t others d) used)
      used_meets e d r = on Instance Instance Instance Same (value w s env e) (value u t others d) used used r used_same

      mutual
        pub simulates : (e d : Exp) → Follows D locals e d → R Instance Instance Same (value w s env e) (value u t others d)
        simulates e d (keeps_literal {l = l}) = pure_same Instance (literal_value l)
        simulates e d (keeps_parentheses {a = a} {b = b} f) = simulates a b f
        simulates e d (keeps_unary {o = o} {a = a} {b = b} f) =
            on Instance Instance Instance Same (bind (value w s env a) (operand o)) (bind (value u t others b) (operand o)) _ _
            (on Instance Instance Instance Same (value w s env a) (value u t others b) (operand o) (operand o) (simulates a b f) (operand_same o)) (λ x. stages.by_unary o x)
        simulates e d (keeps_binary {o = o} {a = a} {b = b} {c = c} {d = d'} f g) =
            on Instance Instance Instance Same (bind (value w s env a) used) (bind (value u t others b) used) _ _ (used_meets a b (simulates a b f)) (λ x.
            between_meets o x (bind (value w s env c) used) (bind (value u t others d') used) (used_meets c d' (simulates c d' g)))
        simulates e d (keeps_call {f = f} {g = g} {es = es} {ds = ds} c fs) =
            on (List Instance) Instance Instance Same (values w s env es) (values u t others ds) _ _ (simulate_all es ds fs) (λ xs. by_call f g xs c)
        simulates e d (keeps_name {x = x} {y = y} n) = by_name x y n
        simulates e d (replaces k) = by_replaced e d k

        pub simulate_all : (es ds : Exps) → FollowAll D locals es ds → R (List Instance) (List Instance) Same (values w s env es) (values u t others ds)
        simulate_all es ds no_more = pure_same (List Instance) []
        simulate_all es ds (one_more {e = e} {d = d} {es = es'} {ds = ds'} f fs) =
            on Instance (List Instance) (List Instance) Same (bind (value w s env e) used) (bind (value u t others d) used) _ _ (used_meets e d (simulates e d f)) (λ x.
            on (List Instance) (List Instance) (List Instance) Same (values w s env es') (values u t others ds') _ _ (simulate_all es' ds' fs) (λ xs. pure_same (List Instance) (x ∷ xs)))
