-- In the lowered unit names, types, written values and written conversions mean what they do in the unit, or better.
use Rattle.std.proofs.Common.{◌≡◌, ℕ, ◌≤◌, List, [], ◌∷◌, Option, Some, None, Bool, true, false, Ok, Err, refl, sym, ap, ◌∙◌, subst}
use Rattle.std.specs.Prelude.{codes, if◌then◌else◌}
use Rattle.std.specs.Str.{bytes_eq}
use Rattle.core_syntax.specs.Tree.{Exp, exps, call, nil, cons, Typ, Decl}
use Rattle.wgsl_words.specs.declared.enumerations.words.ShaderStage.{ShaderStage}
use Rattle.wgsl_words.specs.declared.enumerations.words.ShaderStage.TheVariants.{Const}
use Rattle.wgsl_shader_type.specs.declared.literal.LiteralInstance.{LiteralInstance}
use Rattle.wgsl_shader_type.specs.declared.tree.ShaderType.{ShaderType}
use Rattle.wgsl_scalar.specs.declared.scalar.ScalarType.{ScalarType}
use Rattle.wgsl_scalar.specs.declared.scalar.ScalarType.TheVariants.{Integer}
use Rattle.wgsl_scalar.specs.declared.scalar.IntegerType.{IntegerType}
use Rattle.wgsl_scalar.specs.declared.scalar.IntegerType.TheVariants.{I32, U32}
use Rattle.wgsl_scalar.specs.Scalars.{scalar_type}
use Rattle.wgsl_scalar.specs.Conversions.{constructed}
use Rattle.wgsl_instance.specs.declared.tree.Instance.{Instance}
use Rattle.wgsl_instance.specs.declared.tree.Instance.TheVariants as v
use Rattle.wgsl_instance.specs.Typed.{type_of}
use Rattle.core_lower_expressions.specs.Operators.{as_literal}
use Rattle.core_lower_expressions.specs.Built.{built_scalar}
use Rattle.core_computations.specs.Machine.{State, Outcome, pure, fail, bind, next_of}
use Rattle.core_computations.specs.Machine as machine
use Rattle.core_computations.specs.Lift.{Lift, Same, Kept}
use Rattle.core_computations.specs.Compare.{LikewiseAt, Better}
use Rattle.core_computations.proofs.Kept.{kept_better}
use Rattle.core_computations.proofs.Laws.{bind_bind}
use Rattle.core_meaning.specs.declared.fault.Fault.TheVariants.{Name as Named}
use Rattle.core_meaning.specs.declared.fault.NameFault.TheVariants.{Todo}
use Rattle.core_meaning.specs.Values as plain_values
use Rattle.core_meaning.specs.Outcome.{Done}
use Rattle.core_meaning.specs.Outcome as plain
use Rattle.core_meaning.specs.Names as plain_names
use Rattle.core_meaning.specs.Meaning as plain_meaning
use Rattle.core_meaning.specs.Programs as plain_programs
use Rattle.core_meaning.specs.Meaning.{Types}
use Rattle.core_meaning.specs.ConstStage.{Consts, Scope, stage}
use Rattle.core_meaning.specs.Written.{written}
use Rattle.core_lower_expressions.specs.Faults.{Fault, Operation, Deferred}
use Rattle.core_lower_expressions.specs.Computing.{M, computed, at_once, is_deferred, known, used}
use Rattle.core_lower_expressions.specs.Names.{Name, Symbol, Local, Env, find}
use Rattle.core_lower_expressions.specs.Operations.{construct}
use Rattle.core_lower_expressions.specs.Meaning.{World, name_value, call_value, type_written, value}
use Rattle.core_lower_expressions.specs.Calls.{handed_back, returned}
use Rattle.core_lower_expressions.specs.Programs.{Known, find_known, world, root}
use Rattle.core_lower_expressions.specs.Runs.{find_decl, here_if}
use Rattle.core_lower_expressions.specs.Runs as runs
use Rattle.core_lower_expressions.specs.Follows.{Differences, Follows}
use Rattle.core_lower_expressions.proofs.Simulates as expressions
use Rattle.core_lower_expressions.proofs.Bodies.{One, IsResult, names_of, name_here, callee_here, Meet}
use Rattle.core_lower_expressions.proofs.Itself.{local_same, constructed_same}
use Rattle.core_lower_expressions.proofs.Agreeing.{KnownAgree, LocalsAgree, better_by_const}
use Rattle.core_lower_expressions.proofs.Converting.{IsConcrete, better_returned}
use Rattle.core_lower_expressions.proofs.Scalars.{used_literal, built_of_scalar}
use Rattle.core_lower_expressions.specs.Computed.{lowered, callee_here as scope_callee, all_lowered}
use Rattle.core_lower.proofs.Steps.{then_ok}
use Rattle.core_lower.proofs.Units.{parts_of, after_done}
use Rattle.core_lower.proofs.Computes.{computed_done}
use Rattle.core_lower.proofs.Worlds.{BothFound, both_found, hidden_locals, if_hidden, hidden_found, known_of, built_same, IsType, type_means, denotes_none, AreDeclared, scope_computes, written_means}
use Rattle.core_lower.proofs.Differs.{Case, has, has_none, case_of, scope, Typed, KeptName, KeptCallee, KeptType, HasValue, HasConversion, lowering, goes}

abbrev pub BetterLift : Lift Fault
BetterLift A B S m n = Better Fault A B S m n

pub kept : Kept Fault Same BetterLift
kept = (kept_better Fault Same).kept

-- ---- what is used is no deferred value

pub used_known : (o : Outcome Fault Instance) (x : Instance) (r : State) → next_of o known ≡ machine.Done x r → is_deferred x ≡ false
used_known (machine.Done y s) x r h = at (is_deferred y) refl h
  where
    at : (b : Bool) → is_deferred y ≡ b → (if b then fail (Deferred (type_of y)) else pure y) s ≡ machine.Done x r → is_deferred x ≡ false
    at true is e = absurd (cc)
    at false is e = let same : y ≡ x = cc in ap is_deferred (sym same) ∙ is
used_known (machine.Failed f) x r h = absurd (cc)
used_known machine.Deep x r h = absurd (cc)

abbrev IsKnown : Instance → Type 0
IsKnown x = is_deferred x ≡ false

module _ (P : Instance → Type 0) where
  one_at : (s t : State) (o p : Outcome Fault Instance) → ((x : Instance) (r : State) → o ≡ machine.Done x r → P x) → LikewiseAt (λ a b. a ≤ b) Fault Instance Instance Same s t o p
      → LikewiseAt (λ a b. a ≤ b) Fault Instance Instance (One P) s t o p
  one_at s t (machine.Done x r) p holds b = record { answer = b.answer; state = b.state; ends = b.ends; alike = (b.alike, holds x r refl); cells = b.cells; steps = b.steps }
  one_at s t (machine.Failed f) p holds b = tt
  one_at s t machine.Deep p holds b = tt

  -- an answer of which something holds
  pub better_one : (m n : M Instance) → ((s : State) (x : Instance) (r : State) → m s ≡ machine.Done x r → P x) → Better Fault Instance Instance Same m n → Better Fault Instance Instance (One P) m n
  better_one m n holds b = record { from = λ s t begin. one_at s t (m s) (n t) (holds s) (b.from s t begin) }

-- ---- locals

abbrev IsSome : {A : Type 0} → Option A → Type 0
IsSome {A = A} o = (x : A) × (o ≡ Some x)

found_there : {A B : Type 0} (o : Option A) (q : Option B) (x : A) → BothFound o q → o ≡ Some x → IsSome q
found_there (Some y) (Some z) x h e = (z, refl)
found_there (Some y) None x h e = absurd h
found_there None q x h e = absurd (cc)

none_there : {A B : Type 0} (o : Option A) (q : Option B) → BothFound o q → o ≡ None → q ≡ None
none_there None None h e = refl
none_there None (Some z) h e = absurd h
none_there (Some y) q h e = absurd (cc)

-- hidden ones agree with any of the same names
locals_agree : (t : Option ScalarType) (l : Option Local) → BothFound t l → LocalsAgree (if_hidden t) l
locals_agree (Some t) (Some l) h = tt
locals_agree (Some t) None h = absurd h
locals_agree None (Some l) h = absurd h
locals_agree None None h = tt

-- ---- types of results

pub concrete_of : (x : Name) (t : ScalarType) → plain_names.built_in_type x ≡ Ok t → (i : IntegerType) × (t ≡ Integer i) × IsConcrete i
concrete_of x t h = at (bytes_eq x (codes "i32")) (bytes_eq x (codes "u32")) h
  where
    at : (b c : Bool) → (if b then Ok (Integer I32) else if c then Ok (Integer U32) else Err (Named Todo x)) ≡ Ok t → (i : IntegerType) × (t ≡ Integer i) × IsConcrete i
    at true c e = let same : Integer I32 ≡ t = cc in (I32, sym same, tt)
    at false true e = let same : Integer U32 ≡ t = cc in (U32, sym same, tt)
    at false false e = absurd (cc)

module _ (ds low : List Decl) (cs : Consts) (declared : AreDeclared ds cs) (gone : (x : Name) → plain_names.find_decl x ds ≡ None → plain_names.find_decl x low ≡ None)
    (clear : (x : Name) (t : ScalarType) → plain_names.built_in_type x ≡ Ok t → plain_names.find_decl x ds ≡ None)
    (values_known : Known) (agree : (s : Symbol) → KnownAgree (find_known s (known_of cs)) (find_known s values_known)) (k : ℕ) where
  abbrev from : World
  from = world (runs.plain ds) values_known k root

  abbrev to : World
  to = world (runs.plain low) [] k root

  abbrev D : Differences
  D = lowering ds cs

  module _ (st : ShaderStage) where
    -- ---- names and callees

    name_meets : (env : Env) (x y : Typ) → KeptName ds cs (names_of env) x y → Better Fault Instance Instance Same (name_here from st env x) (name_here to st env y)
    name_meets env x y h =
        let l = found_there (plain_names.find h.name h.typed.types) (find h.name env) h.type (both_found h.typed.types env h.typed.named h.name) h.local in
        subst (λ z. Better Fault Instance Instance Same (name_here from st env x) (name_here to st env z)) h.same_name
        (subst (λ z. Better Fault Instance Instance Same (name_here from st env z) (name_here to st env z)) (sym h.is)
        (subst (λ o. Better Fault Instance Instance Same (name_value from st h.name o (here_if h.name (find_decl h.name ds))) (name_value to st h.name o (here_if h.name (find_decl h.name low)))) (sym l.1)
        (local_same BetterLift kept h.name l.0)))

    callee_meets : (env : Env) (f g : Typ) (xs : List Instance) → KeptCallee ds cs (names_of env) f g → Better Fault Instance Instance Same (callee_here from st env f xs) (callee_here to st env g xs)
    callee_meets env f g xs h =
        let none = none_there (plain_names.find h.name h.typed.types) (find h.name env) (both_found h.typed.types env h.typed.named h.name) h.no_local in
        subst (λ z. Better Fault Instance Instance Same (callee_here from st env f xs) (callee_here to st env z xs)) h.same_callee
        (subst (λ z. Better Fault Instance Instance Same (callee_here from st env z xs) (callee_here to st env z xs)) (sym h.is)
        (subst (λ o. Better Fault Instance Instance Same (call_value from st h.name o (here_if h.name (find_decl h.name ds)) xs) (call_value to st h.name o (here_if h.name (find_decl h.name low)) xs)) (sym none)
        (subst (λ d. Better Fault Instance Instance Same (call_value from st h.name None d xs) (call_value to st h.name None (here_if h.name (find_decl h.name low)) xs)) (sym (denotes_none h.name ds h.undeclared))
        (subst (λ d. Better Fault Instance Instance Same (call_value from st h.name None None xs) (call_value to st h.name None d xs)) (sym (denotes_none h.name low (gone h.name h.undeclared)))
        (constructed_same BetterLift kept h.name xs)))))

    -- ---- written values

    -- what has a const value is that value
    by_value : (env : Env) (l : Typed ds cs (names_of env)) (e : Exp) (y : LiteralInstance) (n : ℕ) → plain_meaning.value (stage (scope ds cs l.types)) [] e ≡ Done y n
        → Better Fault Instance Instance Same (value from st env e) (pure (v.Literal y))
    by_value env l e y n h =
        better_by_const (runs.plain ds) root (known_of cs) values_known 0 k st (hidden_locals l.types) env agree
        (λ x. subst (λ o. LocalsAgree o (find x env)) (sym (hidden_found x l.types)) (locals_agree (plain_names.find x l.types) (find x env) (both_found l.types env l.named x)))
        e (v.Literal y) (scope_computes ds cs declared l.types e y n h)

    writes : (env : Env) (l : Typed ds cs (names_of env)) (y : LiteralInstance) → value to st env (written y) ≡ pure (v.Literal y)
    writes env l y =
        written_means st to env (λ f t is. (none_there (plain_names.find f l.types) (find f env) (both_found l.types env l.named f) (l.clear f t is), denotes_none f low (gone f (clear f t is)))) y

    value_meets : (env : Env) (e d : Exp) → HasValue ds cs (names_of env) e d → Better Fault Instance Instance Same (value from st env e) (value to st env d)
    value_meets env e d h =
        subst (λ z. Better Fault Instance Instance Same (value from st env e) (value to st env z)) h.so_written
        (subst (Better Fault Instance Instance Same (value from st env e)) (sym (writes env h.typed h.its)) (by_value env h.typed e h.its h.steps h.gives))

    pub inside_better : (env : Env) (e d : Exp) → Follows D (names_of env) e d → Better Fault Instance Instance Same (value from st env e) (value to st env d)
    inside_better env =
        expressions.simulates BetterLift kept st st (expressions.same_stage BetterLift kept st) D (names_of env) from to env env (name_meets env) (λ f g xs h. callee_meets env f g xs h) (value_meets env)

    used_better : (env : Env) (e d : Exp) → Better Fault Instance Instance Same (value from st env e) (value to st env d) → Better Fault Instance Instance Same (bind (value from st env e) used) (bind (value to st env d) used)
    used_better env e d h = expressions.on BetterLift kept Instance Instance Instance Same (value from st env e) (value to st env d) used used h (expressions.used_same BetterLift kept)

    -- ---- written types

    pub type_meets : (x y : Typ) → KeptType ds cs x y → Better Fault ShaderType ShaderType (One (λ t. (to : ScalarType) × (t ≡ scalar_type to) × IsType ds x to)) (type_written from x) (type_written to y)
    type_meets x y h =
        let P : ShaderType → Type 0 = λ t. (to : ScalarType) × (t ≡ scalar_type to) × IsType ds x to in
        subst (λ z. Better Fault ShaderType ShaderType (One P) (type_written from x) (type_written to z)) h.same_type
        (subst (λ m. Better Fault ShaderType ShaderType (One P) m (type_written to x)) (sym (type_means ds from (λ z e. denotes_none z ds e) x h.type h.is))
        (subst (λ m. Better Fault ShaderType ShaderType (One P) (pure (scalar_type h.type)) m) (sym (type_means ds to (λ z e. denotes_none z low (gone z e)) x h.type h.is))
        (kept.pure_of ShaderType ShaderType (One P) (scalar_type h.type) (scalar_type h.type) (refl, (h.type, refl, h.is)))))

    -- ---- written conversions

    module _ (env : Env) (l : Typed ds cs (names_of env)) (f : Name) (t : Typ) (is_type : (to : ScalarType) × IsType ds t to) where
      abbrev i : (j : IntegerType) × (is_type.0 ≡ Integer j) × IsConcrete j
      i = concrete_of is_type.1.name is_type.0 is_type.1.built_in

      abbrev T : ShaderType
      T = scalar_type (Integer i.0)

      abbrev hands : Instance → M (Option Instance)
      hands y = handed_back f (Some T) (Some y)

      -- the constructor, and what is handed back of it
      abbrev after_it : M Instance → M (Option Instance)
      after_it m = bind (bind m (λ x. bind (computed (built_scalar T x)) used)) hands

      free : find is_type.1.name env ≡ None
      free = none_there (plain_names.find is_type.1.name l.types) (find is_type.1.name env) (both_found l.types env l.named is_type.1.name) (l.clear is_type.1.name is_type.0 is_type.1.built_in)

      -- a call of it
      called : (xs : List Instance) → callee_here to st env t xs ≡ construct is_type.1.name T xs
      called xs =
          ap (λ z. callee_here to st env z xs) is_type.1.is
          ∙ ap (λ o. call_value to st is_type.1.name o (here_if is_type.1.name (find_decl is_type.1.name low)) xs) free
          ∙ ap (λ d. call_value to st is_type.1.name None d xs) (denotes_none is_type.1.name low (gone is_type.1.name is_type.1.undeclared))
          ∙ ap (λ r. bind (at_once r) (λ u. construct is_type.1.name u xs)) (built_same is_type.1.name is_type.0 is_type.1.built_in ∙ ap (λ u. Ok (scalar_type u)) i.1)

      called_one : (d : Exp) → returned to st f (Some T) env (call t (cons d nil)) ≡ after_it (bind (value to st env d) used)
      called_one d =
          let V : M Instance = bind (value to st env d) used in
          ap (λ m. bind (bind m used) hands) (bind_bind V (λ x. pure (x ∷ [])) (callee_here to st env t))
          ∙ ap (λ (g : Instance → M Instance). bind (bind (bind V g) used) hands) (λ k x. called (x ∷ []) k)
          ∙ ap (λ m. bind m hands) (bind_bind V (λ x. computed (built_scalar T x)) used)

      -- the value is converted, or its constructor is called first
      converted_better : (e : Exp) (n : M Instance) → Better Fault Instance Instance Same (bind (value from st env e) used) n → Better Fault (Option Instance) (Option Instance) Same (returned from st f (Some T) env e) (after_it n)
      converted_better e n h =
          let V : M Instance = bind (value from st env e) used in
          subst (λ m. Better Fault (Option Instance) (Option Instance) Same (returned from st f (Some T) env e) m) (sym (bind_bind n (λ x. bind (computed (built_scalar T x)) used) hands))
          (kept.going_on Instance Instance (Option Instance) (Option Instance) (One IsKnown) Same V n hands (λ x. bind (bind (computed (built_scalar T x)) used) hands)
          (better_one IsKnown V n (λ s x r e. known_after s x r e) h)
          (λ x y same. subst (λ z. Better Fault (Option Instance) (Option Instance) Same (hands x) (bind (bind (computed (built_scalar T z)) used) hands)) same.0 (better_returned f i.0 i.2 x same.1)))
        where
          known_after : (s : State) (x : Instance) (r : State) → bind (value from st env e) used s ≡ machine.Done x r → is_deferred x ≡ false
          known_after s x r h = at (value from st env e s) h
            where
              at : (o : Outcome Fault Instance) → next_of o used ≡ machine.Done x r → is_deferred x ≡ false
              at (machine.Done y q) g = used_known (machine.loaded Operation y q) x r g
              at (machine.Failed w) g = absurd (cc)
              at machine.Deep g = absurd (cc)

      abbrev here : Scope
      here = scope ds cs l.types

      -- the constructor in the scope
      scope_constructs : (xs : List LiteralInstance) → plain_meaning.result_here (stage here) [] (plain_names.plain_name t) xs ≡ plain.after 0 (plain_meaning.construct is_type.1.name (Integer i.0) xs)
      scope_constructs xs =
          ap (λ z. plain_meaning.result_here (stage here) [] (plain_names.plain_name z) xs) is_type.1.is
          ∙ ap (λ o. plain_meaning.called_or is_type.1.name o (plain_programs.called_at Const is_type.1.name (plain_programs.here_if is_type.1.name (plain_names.find_decl is_type.1.name ds)) (λ x zs. plain.Deep) xs)) (l.clear is_type.1.name is_type.0 is_type.1.built_in)
          ∙ ap (λ d. plain_programs.called_at Const is_type.1.name (plain_programs.here_if is_type.1.name d) (λ x zs. plain.Deep) xs) is_type.1.undeclared
          ∙ ap (λ r. plain.bind (plain.at_once r) (λ u. plain_meaning.construct is_type.1.name u xs)) (is_type.1.built_in ∙ ap Ok i.1)

      abbrev BetterTo : Exp → Exp → Type 0
      BetterTo e z = Better Fault (Option Instance) (Option Instance) Same (returned from st f (Some T) env e) (returned to st f (Some T) env z)

      -- what the constructor makes of a scalar is written
      written_is : (x y : LiteralInstance) → constructed (Integer i.0) x ≡ Ok y → after_it (pure (v.Literal x)) ≡ returned to st f (Some T) env (written y)
      written_is x y is =
          ap (λ r. bind (bind (computed r) used) hands) (built_of_scalar x (Integer i.0) ∙ ap as_literal is) ∙ sym (ap (λ m. bind (bind m used) hands) (writes env l y))

      -- the argument has a value, too
      folded : (e : Exp) (y : LiteralInstance) (n : ℕ) → plain_meaning.value (stage here) [] (call t (cons e nil)) ≡ Done y n → BetterTo e (written y)
      folded e y n is =
          let vs = parts_of (List LiteralInstance) LiteralInstance (plain_meaning.values (stage here) [] (cons e nil)) (λ xs. plain_meaning.result_here (stage here) [] (plain_names.plain_name t) xs) y n is in
          let x = parts_of LiteralInstance (List LiteralInstance) (plain_meaning.value (stage here) [] e) (λ x. plain.bind (plain_meaning.values (stage here) [] nil) (λ xs. Done (x ∷ xs) 0)) vs.first vs.steps vs.first_is in
          let listed : x.first ∷ [] ≡ vs.first = cc in
          let made = after_done 0 (plain_meaning.construct is_type.1.name (Integer i.0) (x.first ∷ [])) y vs.more (sym (scope_constructs (x.first ∷ [])) ∙ ap (λ zs. plain_meaning.result_here (stage here) [] (plain_names.plain_name t) zs) listed ∙ vs.then_is) in
          subst (λ m. Better Fault (Option Instance) (Option Instance) Same (returned from st f (Some T) env e) m) (written_is x.first y (computed_done (constructed (Integer i.0) x.first) y made.0 made.1))
          (converted_better e (pure (v.Literal x.first))
          (subst (λ m. Better Fault Instance Instance Same (bind (value from st env e) used) m) (used_literal x.first)
          (expressions.on BetterLift kept Instance Instance Instance Same (value from st env e) (pure (v.Literal x.first)) used used (by_value env l e x.first x.steps x.first_is) (expressions.used_same BetterLift kept))))

      unfolded : (e d : Exp) → plain_values.and_then (scope_callee here t) (λ u. plain_values.and_then (all_lowered here (cons e nil)) (λ xs. Ok (call t (exps xs)))) ≡ Ok d → BetterTo e d
      unfolded e d h =
          let u = then_ok (scope_callee here t) (λ u. plain_values.and_then (all_lowered here (cons e nil)) (λ xs. Ok (call t (exps xs)))) d h in
          let xs = then_ok (all_lowered here (cons e nil)) (λ xs. Ok (call t (exps xs))) d u.2 in
          let x = then_ok (lowered here e) (λ x. plain_values.and_then (all_lowered here nil) (λ more. Ok (x ∷ more))) xs.0 xs.1 in
          let listed : x.0 ∷ [] ≡ xs.0 = cc in
          let to_d : call t (exps xs.0) ≡ d = cc in
          subst (BetterTo e) (ap (λ zs. call t (exps zs)) listed ∙ to_d)
          (subst (λ m. Better Fault (Option Instance) (Option Instance) Same (returned from st f (Some T) env e) m) (sym (called_one x.0))
          (converted_better e (bind (value to st env x.0) used) (used_better env e x.0 (inside_better env e x.0 (goes ds cs (names_of env) l e x.0 x.1)))))

      pub conversion_goes : (e d : Exp) → lowered here (call t (cons e nil)) ≡ Ok d → BetterTo e d
      conversion_goes e d h = at (case_of _ _ d h)
        where
          at : Case (plain_meaning.value (stage here) [] (call t (cons e nil))) (plain_values.and_then (scope_callee here t) (λ u. plain_values.and_then (all_lowered here (cons e nil)) (λ xs. Ok (call t (exps xs))))) d → BetterTo e d
          at (has y n is so) = subst (BetterTo e) so (folded e y n is)
          at (has_none lacks is) = unfolded e d is

    -- ---- the worlds

    abbrev pub IsResultType : Typ → ShaderType → Type 0
    IsResultType x t = (to : ScalarType) × (t ≡ scalar_type to) × IsType ds x to

    returned_meets : (env : Env) (f : Name) (type : Option Typ) (e d : Exp) → HasConversion ds cs (names_of env) type e d → (ty : Option ShaderType) → IsResult IsResultType type ty
        → Better Fault (Option Instance) (Option Instance) Same (returned from st f ty env e) (returned to st f ty env d)
    returned_meets env f type e d h ty is = at ty (subst (λ z. IsResult IsResultType z ty) h.is is)
      where
        at : (u : Option ShaderType) → IsResult IsResultType (Some h.named_type) u → Better Fault (Option Instance) (Option Instance) Same (returned from st f u env e) (returned to st f u env d)
        at None r = absurd r
        at (Some u) r =
            let c = concrete_of r.2.name r.0 r.2.built_in in
            subst (λ z. Better Fault (Option Instance) (Option Instance) Same (returned from st f (Some z) env e) (returned to st f (Some z) env d)) (sym (r.1 ∙ ap scalar_type c.1))
            (conversion_goes env h.typed f h.named_type (r.0, r.2) e d h.goes)

    pub worlds_meet : Meet BetterLift kept D st st from to
    worlds_meet = record {
      is_type = IsResultType;
      stages = expressions.same_stage BetterLift kept st;
      names_meet = name_meets;
      callees_meet = λ env f g xs h. callee_meets env f g xs h;
      replaced_meet = value_meets;
      returned_meet = returned_meets;
      types_meet = type_meets;
    }
