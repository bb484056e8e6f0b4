-- Declarations that follow one another mean the same, in worlds whose names meet: consts, functions, calls and entry points.
use Rattle.std.proofs.Common.{◌≡◌, ℕ, suc, List, [], ◌∷◌, map, length, Option, Some, None, Bool, true, false, refl, sym, ap, subst, arith}
use Rattle.std.specs.Prelude.{if◌then◌else◌, ◌==◌}
use Rattle.core_syntax.specs.Tree.{Exp, Exps, Typ, Attr, Stm, Param, Decl}
use Rattle.wgsl_words.specs.declared.enumerations.words.ShaderStage.{ShaderStage}
use Rattle.wgsl_words.specs.declared.enumerations.words.ShaderStage.TheVariants.{Const, Exec}
use Rattle.wgsl_shader_type.specs.declared.tree.ShaderType.{ShaderType}
use Rattle.wgsl_shader_type.specs.Class.{loaded_type}
use Rattle.wgsl_shader_type.specs.Rank.{converts}
use Rattle.wgsl_instance.specs.declared.tree.Instance.{Instance}
use Rattle.wgsl_instance.specs.Typed.{type_of}
use Rattle.wgsl_instance.specs.Converted.{converted}
use Rattle.core_computations.specs.Machine.{pure, fail, bind, scoped}
use Rattle.core_computations.specs.Loops.{Flow, Next, Broke, Goes, Returned}
use Rattle.core_computations.specs.Lift.{Lift, Same, Kept}
use Rattle.core_programs.specs.Faults.{Fault, StepLimit, Operation, OfName, ParamCount, ReturnType, NotEntrypoint}
use Rattle.core_programs.specs.Computing.{M, computed, at_once, used, step}
use Rattle.core_programs.specs.Names.{Name, Has, Env, find}
use Rattle.core_programs.specs.Operations.{literal_value, unary_type, operand_type, binary_type, argument}
use Rattle.core_programs.specs.Meaning.{World, plain_name, name_value, name_type, call_value, call_type, type_written, value, typed, all_typed}
use Rattle.core_programs.specs.Calls.{initial, initialized, const_in, bound, executed, handed_back, returned, ended, written_result, body_of, call_in, result_in}
use Rattle.core_programs.specs.Runs.{Handed, attribute_number, location_of, input_at, inputs_bound, has_stage, entered}
use Rattle.core_programs.specs.Follows.{Differences, Follows, FollowAll, keeps_literal, keeps_parentheses, keeps_unary, keeps_binary, keeps_call, keeps_name, replaces, no_more, one_more, as_it_is, at_the_type, FollowStatements, no_statements, returns_nothing, returns, FollowAttributes, no_attributes, keeps_fragment, keeps_location, FollowType, no_type, keeps_type, FollowParameters, no_parameters, one_parameter, FollowInitializer, no_initializer, keeps_initializer, FollowsDeclaration, keeps_const, keeps_function}
use Rattle.wgsl_shader_type.specs.Alike.{same}
use Rattle.wgsl_shader_type.specs.declared.error.Error.TheVariants.{ParamType}
use Rattle.core_computations.proofs.Laws.{bind_pure}
use Rattle.core_programs.proofs.Simulates as expressions

abbrev pub name_here : World → ShaderStage → Env → Typ → M Instance
name_here w s env x = bind (at_once (plain_name w env x)) (λ a. name_value w s a (find a env) (w.denotes a))

abbrev pub callee_here : World → ShaderStage → Env → Typ → List Instance → M Instance
callee_here w s env f xs = bind (at_once (plain_name w env f)) (λ a. call_value w s a (find a env) (w.denotes a) xs)

abbrev pub name_type_here : World → Env → Typ → M ShaderType
name_type_here w env x = bind (at_once (plain_name w env x)) (λ a. name_type w a (find a env) (w.denotes a))

abbrev pub callee_type_here : World → Env → Typ → List ShaderType → M ShaderType
callee_type_here w env f ts = bind (at_once (plain_name w env f)) (λ a. call_type w a (find a env) (w.denotes a) ts)

abbrev pub names_of : Env → List Name
names_of env = map (λ b. b.0) env

-- one answer, of which P holds
abbrev pub One : {A : Type 0} → (A → Type 0) → A → A → Type 0
One P x y = (x ≡ y) × P x

-- what is written is the type, where there is one
abbrev pub IsResult : (Typ → ShaderType → Type 0) → Option Typ → Option ShaderType → Type 0
IsResult is_type None None = Unit {0}
IsResult is_type (Some x) (Some t) = is_type x t
IsResult is_type None (Some t) = ⊥
IsResult is_type (Some x) None = ⊥

module _ (R : Lift Fault) (kept : Kept Fault Same R) where
  on : (A C D : Type 0) (T : C → D → Type 0) (m n : M A) (f : A → M C) (g : A → M D) → R A A Same m n → ((x : A) → R C D T (f x) (g x)) → R C D T (bind m f) (bind n g)
  on = expressions.on R kept

  pure_same : (A : Type 0) (x : A) → R A A Same (pure x) (pure x)
  pure_same = expressions.pure_same R kept

  fail_same : (A : Type 0) (f : Fault) → R A A Same (fail f) (fail f)
  fail_same = expressions.fail_same R kept

  -- going on with one answer of which something holds
  pub on_one : (A C D : Type 0) (P : A → Type 0) (T : C → D → Type 0) (m n : M A) (f : A → M C) (g : A → M D) → R A A (One P) m n → ((x : A) → P x → R C D T (f x) (g x)) → R C D T (bind m f) (bind n g)
  on_one A C D P T m n f g r h = kept.going_on A A C D (One P) T m n f g r (λ x y e. subst (λ z. R C D T (f x) (g z)) e.0 (h x e.1))

  -- what the names of one world mean, those of the other mean, as far as these differences go
  pub record Meet (D : Differences) (s t : ShaderStage) (w u : World) : Type 1 where
    pub is_type : Typ → ShaderType → Type 0
    pub stages : expressions.StagesMeet R kept s t
    pub names_meet : (env : Env) (x y : Typ) → D.names (names_of env) x y → R Instance Instance Same (name_here w s env x) (name_here u t env y)
    pub callees_meet : (env : Env) (f g : Typ) (xs : List Instance) → D.callees (names_of env) f g → R Instance Instance Same (callee_here w s env f xs) (callee_here u t env g xs)
    pub replaced_meet : (env : Env) (e d : Exp) → D.replaced (names_of env) e d → R Instance Instance Same (value w s env e) (value u t env d)
    pub returned_meet : (env : Env) (f : Name) (type : Option Typ) (e d : Exp) → D.returned (names_of env) type e d → (ty : Option ShaderType) → IsResult is_type type ty
        → R (Option Instance) (Option Instance) Same (returned w s f ty env e) (returned u t f ty env d)
    pub types_meet : (x y : Typ) → D.types x y → R ShaderType ShaderType (One (is_type x)) (type_written w x) (type_written u y)

  -- so do the types of what they mean
  pub record TypesMeet (D : Differences) (w u : World) : Type 0 where
    pub name_types_meet : (x y : Typ) → D.names [] x y → R ShaderType ShaderType Same (name_type_here w [] x) (name_type_here u [] y)
    pub callee_types_meet : (f g : Typ) (ts : List ShaderType) → D.callees [] f g → R ShaderType ShaderType Same (callee_type_here w [] f ts) (callee_type_here u [] g ts)
    pub replaced_types_meet : (e d : Exp) → D.replaced [] e d → R ShaderType ShaderType Same (typed w [] e) (typed u [] d)

  module _ (D : Differences) (s t : ShaderStage) (w u : World) (meet : Meet D s t w u) where
    pub value_meets : (env : Env) (e d : Exp) → Follows D (names_of env) e d → R Instance Instance Same (value w s env e) (value u t env d)
    value_meets env =
        expressions.simulates R kept s t meet.stages D (names_of env) w u env env (meet.names_meet env) (λ f g xs c. meet.callees_meet env f g xs c) (meet.replaced_meet env)

    pub used_meets : (env : Env) (e d : Exp) → Follows D (names_of env) e d → R Instance Instance Same (bind (value w s env e) used) (bind (value u t env d) used)
    used_meets env e d f = on Instance Instance Instance Same (value w s env e) (value u t env d) used used (value_meets env e d f) (expressions.used_same R kept)

    -- ---- types

    pub written_meets : (x y : Typ) → D.types x y → R ShaderType ShaderType (One (meet.is_type x)) (type_written w x) (type_written u y)
    written_meets = meet.types_meet

    pub result_meets : (x y : Option Typ) → FollowType D x y → R (Option ShaderType) (Option ShaderType) (One (IsResult meet.is_type x)) (written_result w x) (written_result u y)
    result_meets x y no_type = kept.pure_of (Option ShaderType) (Option ShaderType) (One (IsResult meet.is_type None)) None None (refl, tt)
    result_meets x y (keeps_type {t = a} {u = b} d) =
        on_one ShaderType (Option ShaderType) (Option ShaderType) (meet.is_type a) (One (IsResult meet.is_type (Some a))) (type_written w a) (type_written u b) _ _ (meet.types_meet a b d)
        (λ ty is. kept.pure_of (Option ShaderType) (Option ShaderType) (One (IsResult meet.is_type (Some a))) (Some ty) (Some ty) (refl, is))

    -- ---- functions

    -- the parameters are the locals
    pub bound_meets : (ps qs : List Param) → FollowParameters D ps qs → (xs : List Instance) → length xs ≡ length ps
        → R Env Env (One (λ env. names_of env ≡ map (λ p. p.name) ps)) (bound w ps xs) (bound u qs xs)
    bound_meets ps qs no_parameters xs e = kept.pure_of Env Env _ [] [] (refl, refl)
    bound_meets ps qs (one_parameter f fs) [] e = absurd (cc)
    bound_meets ps qs (one_parameter {p = p} {q = q} {ps = ps'} {qs = qs'} f fs) (x ∷ xs) e =
        on_one ShaderType Env Env (meet.is_type p.type) _ (type_written w p.type) (type_written u q.type) _ _ (meet.types_meet p.type q.type f.type) (λ ty is.
        on Instance Env Env _ (computed (argument ty x)) (computed (argument ty x)) _ _ (expressions.computed_same R kept Instance (argument ty x)) (λ y.
        on_one Env Env Env (λ env. names_of env ≡ map (λ p. p.name) ps') _ (bound w ps' xs) (bound u qs' xs) _ _ (bound_meets ps' qs' fs xs (cc)) (λ env names.
        kept.pure_of Env Env _ ((p.name, Has y) ∷ env) ((q.name, Has y) ∷ env) (ap (λ a. (a, Has y) ∷ env) f.name, ap (λ l. p.name ∷ l) names))))

    handed_same : (f : Name) (ty : Option ShaderType) (x : Option Instance) → R (Option Instance) (Option Instance) Same (handed_back f ty x) (handed_back f ty x)
    handed_same f None None = pure_same (Option Instance) None
    handed_same f None (Some x) = fail_same (Option Instance) _
    handed_same f (Some ty) None = fail_same (Option Instance) _
    handed_same f (Some ty) (Some x) = at (converts (type_of x) ty)
      where
        at : (b : Bool) → R (Option Instance) (Option Instance) Same (if b then bind (computed (converted x ty)) (λ y. pure (Some y)) else fail (OfName (ReturnType (type_of x) ty) f))
            (if b then bind (computed (converted x ty)) (λ y. pure (Some y)) else fail (OfName (ReturnType (type_of x) ty) f))
        at true = on Instance (Option Instance) (Option Instance) Same (computed (converted x ty)) (computed (converted x ty)) _ _ (expressions.computed_same R kept Instance (converted x ty)) (λ y. pure_same (Option Instance) (Some y))
        at false = fail_same (Option Instance) _

    pub returned_meets : (env : Env) (f : Name) (ty : Option ShaderType) (e d : Exp) → Follows D (names_of env) e d → R (Option Instance) (Option Instance) Same (returned w s f ty env e) (returned u t f ty env d)
    returned_meets env f ty e d g = on Instance (Option Instance) (Option Instance) Same (bind (value w s env e) used) (bind (value u t env d) used) _ _ (used_meets env e d g) (λ x. handed_same f ty (Some x))

    executed_meets : (env : Env) (f : Name) (type : Option Typ) (ty : Option ShaderType) → IsResult meet.is_type type ty → (body others : List Stm) → FollowStatements D (names_of env) type body others
        → R Flow Flow Same (executed w s f ty env body) (executed u t f ty env others)
    executed_meets env f type ty is body others no_statements = pure_same Flow Next
    executed_meets env f type ty is body others (returns_nothing rest) =
        on (Option Instance) Flow Flow Same (handed_back f ty None) (handed_back f ty None) _ _ (handed_same f ty None) (λ y. pure_same Flow (Returned y))
    executed_meets env f type ty is body others (returns {e = e} {d = d} (as_it_is g) rest) =
        on (Option Instance) Flow Flow Same (returned w s f ty env e) (returned u t f ty env d) _ _ (returned_meets env f ty e d g) (λ y. pure_same Flow (Returned y))
    executed_meets env f type ty is body others (returns {e = e} {d = d} (at_the_type g) rest) =
        on (Option Instance) Flow Flow Same (returned w s f ty env e) (returned u t f ty env d) _ _ (meet.returned_meet env f type e d g ty is) (λ y. pure_same Flow (Returned y))

    ended_same : (f : Name) (ty : Option ShaderType) (flow : Flow) → R (Option Instance) (Option Instance) Same (ended f ty flow) (ended f ty flow)
    ended_same f ty (Returned x) = pure_same (Option Instance) x
    ended_same f ty Next = handed_same f ty None
    ended_same f ty Broke = handed_same f ty None
    ended_same f ty Goes = handed_same f ty None

    pub body_meets : (f : Name) (x y : Option Typ) → FollowType D x y → (env : Env) (body others : List Stm) → FollowStatements D (names_of env) x body others
        → R (Option Instance) (Option Instance) Same (body_of w s f x body env) (body_of u t f y others env)
    body_meets f x y types env body others follow =
        on_one (Option ShaderType) (Option Instance) (Option Instance) (IsResult meet.is_type x) Same (written_result w x) (written_result u y) _ _ (result_meets x y types) (λ ty is.
        on Flow (Option Instance) (Option Instance) Same (executed w s f ty env body) (executed u t f ty env others) _ _ (executed_meets env f x ty is body others follow) (ended_same f ty))

    counted : (n m k : ℕ) (f : Name) (a b : M (Option Instance)) → m ≡ k → (n ≡ m → R (Option Instance) (Option Instance) Same a b)
        → R (Option Instance) (Option Instance) Same (if n == m then a else fail (OfName (ParamCount m n) f)) (if n == k then b else fail (OfName (ParamCount k n) f))
    counted n m k f a b e h = subst (λ j. R (Option Instance) (Option Instance) Same (if n == m then a else fail (OfName (ParamCount m n) f)) (if n == j then b else fail (OfName (ParamCount j n) f))) e
        (at (n == m) (λ is. h (equal is)))
      where
        equal : (n == m) ≡ true → n ≡ m
        equal is = grind arith

        at : (c : Bool) → (c ≡ true → R (Option Instance) (Option Instance) Same a b)
            → R (Option Instance) (Option Instance) Same (if c then a else fail (OfName (ParamCount m n) f)) (if c then b else fail (OfName (ParamCount m n) f))
        at true g = g refl
        at false g = fail_same (Option Instance) _

    same_count : (ps qs : List Param) → FollowParameters D ps qs → length ps ≡ length qs
    same_count ps qs no_parameters = refl
    same_count ps qs (one_parameter {ps = ps'} {qs = qs'} f fs) = ap suc (same_count ps' qs' fs)

    -- what a call does after its step
    pub inner_meets : (f : Name) (ps ns : List Param) (a b : Option Typ) (body others : List Stm) → FollowParameters D ps ns → FollowType D a b → FollowStatements D (map (λ p. p.name) ps) a body others
        → (xs : List Instance) → length xs ≡ length ps
        → R (Option Instance) (Option Instance) Same (scoped (bind (bound w ps xs) (body_of w s f a body))) (scoped (bind (bound u ns xs) (body_of u t f b others)))
    inner_meets f ps ns a b body others fp ft fs xs count =
        kept.scoped_of (Option Instance) (Option Instance) Same (bind (bound w ps xs) (body_of w s f a body)) (bind (bound u ns xs) (body_of u t f b others))
        (on_one Env (Option Instance) (Option Instance) (λ env. names_of env ≡ map (λ p. p.name) ps) Same (bound w ps xs) (bound u ns xs) _ _ (bound_meets ps ns fp xs count) (λ env names.
        body_meets f a b ft env body others (subst (λ l. FollowStatements D l a body others) (sym names) fs)))

    pub call_meets : (f : Name) (d e : Decl) → FollowsDeclaration D d e → (xs : List Instance) → R (Option Instance) (Option Instance) Same (call_in w s f (Some d) xs) (call_in u t f (Some e) xs)
    call_meets f d e (keeps_const _ _) xs = fail_same (Option Instance) _
    call_meets f d e (keeps_function {ps = ps} {ns = ns} {t = a} {u = b} {b = body} {c = others} fa fp ft fs) xs =
        counted (length xs) (length ps) (length ns) f _ _ (same_count ps ns fp) (λ count.
        on (Unit {0}) (Option Instance) (Option Instance) Same step step _ _ (kept.tick_of StepLimit StepLimit refl) (λ _.
        inner_meets f ps ns a b body.statements others.statements fp ft fs xs count))

    pub result_type_meets : (f : Name) (d e : Decl) → FollowsDeclaration D d e → R (Option ShaderType) (Option ShaderType) Same (result_in w f (Some d)) (result_in u f (Some e))
    result_type_meets f d e (keeps_const _ _) = fail_same (Option ShaderType) _
    result_type_meets f d e (keeps_function {t = a} {u = b} _ _ ft _) =
        subst (λ m. R (Option ShaderType) (Option ShaderType) Same m (written_result u b)) (bind_pure (written_result w a))
        (subst (λ n. R (Option ShaderType) (Option ShaderType) Same (bind (written_result w a) pure) n) (bind_pure (written_result u b))
        (on_one (Option ShaderType) (Option ShaderType) (Option ShaderType) (IsResult meet.is_type a) Same (written_result w a) (written_result u b) pure pure (result_meets a b ft) (λ ty is. pure_same (Option ShaderType) ty)))

  -- ---- at the const stage: attributes and consts

  module _ (D : Differences) (w u : World) (meet : Meet D Const Const w u) where
    pub location_meets : (x : Name) (as1 as2 : List Attr) → FollowAttributes D as1 as2 → R ℕ ℕ Same (location_of w x as1) (location_of u x as2)
    location_meets x as1 as2 no_attributes = fail_same ℕ _
    location_meets x as1 as2 (keeps_fragment {as1 = as1'} {as2 = as2'} rest) = location_meets x as1' as2' rest
    location_meets x as1 as2 (keeps_location {e = e} {d = d} f rest) =
        on Instance ℕ ℕ Same (bind (value w Const [] e) used) (bind (value u Const [] d) used) _ _ (used_meets D Const Const w u meet [] e d f) (λ v. expressions.at_once_same R kept ℕ (attribute_number v))

    module _ (types : TypesMeet D w u) where
      mutual
        pub typed_meets : (e d : Exp) → Follows D [] e d → R ShaderType ShaderType Same (typed w [] e) (typed u [] d)
        typed_meets e d (keeps_literal {l = l}) = pure_same ShaderType (type_of (literal_value l))
        typed_meets e d (keeps_parentheses {a = a} {b = b} f) = typed_meets a b f
        typed_meets e d (keeps_unary {o = o} {a = a} {b = b} f) =
            on ShaderType ShaderType ShaderType Same (typed w [] a) (typed u [] b) _ _ (typed_meets a b f) (λ x. expressions.computed_same R kept ShaderType (unary_type o (operand_type o x)))
        typed_meets e d (keeps_binary {o = o} {a = a} {b = b} {c = c} {d = d'} f g) =
            on ShaderType ShaderType ShaderType Same (typed w [] a) (typed u [] b) _ _ (typed_meets a b f) (λ x.
            on ShaderType ShaderType ShaderType Same (typed w [] c) (typed u [] d') _ _ (typed_meets c d' g) (λ y. expressions.computed_same R kept ShaderType (binary_type o (loaded_type x) (loaded_type y))))
        typed_meets e d (keeps_call {f = f} {g = g} {es = es} {ds = ds} c fs) =
            on (List ShaderType) ShaderType ShaderType Same (all_typed w [] es) (all_typed u [] ds) _ _ (all_typed_meet es ds fs) (λ xs. types.callee_types_meet f g xs c)
        typed_meets e d (keeps_name {x = x} {y = y} n) = types.name_types_meet x y n
        typed_meets e d (replaces k) = types.replaced_types_meet e d k

        pub all_typed_meet : (es ds : Exps) → FollowAll D [] es ds → R (List ShaderType) (List ShaderType) Same (all_typed w [] es) (all_typed u [] ds)
        all_typed_meet es ds no_more = pure_same (List ShaderType) []
        all_typed_meet es ds (one_more {e = e} {d = d} {es = es'} {ds = ds'} f fs) =
            on ShaderType (List ShaderType) (List ShaderType) Same (typed w [] e) (typed u [] d) _ _ (typed_meets e d f) (λ x.
            on (List ShaderType) (List ShaderType) (List ShaderType) Same (all_typed w [] es') (all_typed u [] ds') _ _ (all_typed_meet es' ds' fs) (λ xs. pure_same (List ShaderType) (loaded_type x ∷ xs)))

      initial_meets : (x y : Option Typ) → FollowType D x y → (e d : Exp) → Follows D [] e d → R Instance Instance Same (initial w x e) (initial u y d)
      initial_meets x y no_type e d f =
          on ShaderType Instance Instance Same (typed w [] e) (typed u [] d) _ _ (typed_meets e d f) (λ _. used_meets D Const Const w u meet [] e d f)
      initial_meets x y (keeps_type {t = a} {u = b} h) e d f =
          on_one ShaderType Instance Instance (meet.is_type a) Same (type_written w a) (type_written u b) _ _ (meet.types_meet a b h) (λ ty _.
          on Instance Instance Instance Same (bind (value w Const [] e) used) (bind (value u Const [] d) used) _ _ (used_meets D Const Const w u meet [] e d f) (λ v. expressions.computed_same R kept Instance (converted v ty)))

      initialized_meets : (z : Name) (x y : Option Typ) → FollowType D x y → (e d : Option Exp) → FollowInitializer D e d → R Instance Instance Same (initialized w z x e) (initialized u z y d)
      initialized_meets z x y h e d no_initializer = fail_same Instance _
      initialized_meets z x y h e d (keeps_initializer {e = a} {d = b} f) = initial_meets x y h a b f

      pub const_meets : (x : Name) (d e : Decl) → FollowsDeclaration D d e → R Instance Instance Same (const_in w x (Some d)) (const_in u x (Some e))
      const_meets x d e (keeps_const {t = a} {u = b} {e = i} {d = j} h f) = initialized_meets x a b h i j f
      const_meets x d e (keeps_function _ _ _ _) = fail_same Instance _

  -- ---- entry points

  module _ (D : Differences) (w u : World) (early : Meet D Const Const w u) (meet : Meet D Exec Exec w u) where
    input_same : (x : Name) (n : ℕ) (ty : ShaderType) (v : Option Instance) → R Instance Instance Same (input_at x n ty v) (input_at x n ty v)
    input_same x n ty None = fail_same Instance _
    input_same x n ty (Some v) = at (same (type_of v) ty)
      where
        at : (b : Bool) → R Instance Instance Same (if b then pure v else fail (Operation (ParamType ty (type_of v)))) (if b then pure v else fail (Operation (ParamType ty (type_of v))))
        at true = pure_same Instance v
        at false = fail_same Instance _

    inputs_meet : (handed : Handed) (ps qs : List Param) → FollowParameters D ps qs → R Env Env (One (λ env. names_of env ≡ map (λ p. p.name) ps)) (inputs_bound w handed ps) (inputs_bound u handed qs)
    inputs_meet handed ps qs no_parameters = kept.pure_of Env Env _ [] [] (refl, refl)
    inputs_meet handed ps qs (one_parameter {p = p} {q = q} {ps = ps'} {qs = qs'} f fs) =
        let T : Env → Env → Type 0 = One (λ env. names_of env ≡ map (λ r. r.name) (p ∷ ps')) in
        let go : Name → ℕ → M Env = λ x n. bind (type_written u q.type) (λ ty. bind (input_at x n ty (handed.inputs n)) (λ v. bind (inputs_bound u handed qs') (λ env. pure ((x, Has v) ∷ env)))) in
        subst (λ x. R Env Env T (inputs_bound w handed (p ∷ ps')) (bind (location_of u x q.attributes) (go x))) f.name
        (on ℕ Env Env T (location_of w p.name p.attributes) (location_of u p.name q.attributes) _ (go p.name) (location_meets D w u early p.name p.attributes q.attributes f.attributes) (λ n.
        on_one ShaderType Env Env (meet.is_type p.type) T (type_written w p.type) (type_written u q.type) _ _ (meet.types_meet p.type q.type f.type) (λ ty _.
        on Instance Env Env T (input_at p.name n ty (handed.inputs n)) (input_at p.name n ty (handed.inputs n)) _ _ (input_same p.name n ty (handed.inputs n)) (λ v.
        on_one Env Env Env (λ env. names_of env ≡ map (λ r. r.name) ps') T (inputs_bound w handed ps') (inputs_bound u handed qs') _ _ (inputs_meet handed ps' qs' fs) (λ env names.
        kept.pure_of Env Env T ((p.name, Has v) ∷ env) ((p.name, Has v) ∷ env) (refl, ap (λ l. p.name ∷ l) names))))))

    same_stages : (as1 as2 : List Attr) → FollowAttributes D as1 as2 → has_stage as1 ≡ has_stage as2
    same_stages as1 as2 no_attributes = refl
    same_stages as1 as2 (keeps_fragment rest) = refl
    same_stages as1 as2 (keeps_location {as1 = as1'} {as2 = as2'} f rest) = same_stages as1' as2' rest

    staged : (b c : Bool) (f : Name) (m n : M (Option Instance)) → b ≡ c → R (Option Instance) (Option Instance) Same m n
        → R (Option Instance) (Option Instance) Same (if b then m else fail (OfName NotEntrypoint f)) (if c then n else fail (OfName NotEntrypoint f))
    staged b c f m n e r = subst (λ x. R (Option Instance) (Option Instance) Same (if b then m else fail (OfName NotEntrypoint f)) (if x then n else fail (OfName NotEntrypoint f))) e (at b)
      where
        at : (b : Bool) → R (Option Instance) (Option Instance) Same (if b then m else fail (OfName NotEntrypoint f)) (if b then n else fail (OfName NotEntrypoint f))
        at true = r
        at false = fail_same (Option Instance) _

    pub entered_meets : (f : Name) (d e : Decl) → FollowsDeclaration D d e → (handed : Handed) → R (Option Instance) (Option Instance) Same (entered w f (Some d) handed) (entered u f (Some e) handed)
    entered_meets f d e (keeps_const h i) handed = fail_same (Option Instance) _
    entered_meets f d e (keeps_function {as1 = as1} {as2 = as2} {ps = ps} {ns = ns} {t = a} {u = b} {b = body} {c = others} fa fp ft fs) handed =
        staged (has_stage as1) (has_stage as2) f _ _ (same_stages as1 as2 fa)
        (on_one Env (Option Instance) (Option Instance) (λ env. names_of env ≡ map (λ p. p.name) ps) Same (inputs_bound w handed ps) (inputs_bound u handed ns) _ _ (inputs_meet handed ps ns fp) (λ env names.
        body_meets D Exec Exec w u meet f a b ft env body.statements others.statements (subst (λ l. FollowStatements D l a body.statements others.statements) (sym names) fs)))
