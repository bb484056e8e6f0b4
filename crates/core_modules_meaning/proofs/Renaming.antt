-- A program, and a plain unit in which each held symbol stands renamed: their runs are related.
use Rattle.std.proofs.Common.{◌≡◌, ℕ, zero, suc, List, [], ◌∷◌, ◌++◌, map, Option, Some, None, Bool, true, false, refl, sym, ap, ◌∙◌, subst, Contains, flat_map, option_map}
use Rattle.std.specs.Prelude.{if◌then◌else◌}
use Rattle.std.proofs.lemmas.List.Elements.{Contains-append_left, Contains-append_right}
use Rattle.core_syntax.specs.Tree.{Exp, Exps, literal, parenthesized, unary, binary, call, named, nil, cons, Typ, simple, templated, Attr, fragment, location, Stm, returning, Param, Decl, variable, function}
use Rattle.wgsl_words.specs.declared.enumerations.words.ShaderStage.{ShaderStage}
use Rattle.wgsl_words.specs.declared.enumerations.words.ShaderStage.TheVariants.{Const, Override, Exec}
use Rattle.wgsl_shader_type.specs.declared.tree.ShaderType.{ShaderType}
use Rattle.wgsl_instance.specs.declared.tree.Instance.{Instance}
use Rattle.wgsl_base.proofs.Members.{first_in}
use Rattle.core_computations.specs.Machine.{pure, fail, bind}
use Rattle.core_computations.specs.Lift.{Lift, Same, Kept, KeptThroughout}
use Rattle.core_computations.proofs.Laws.{bind_pure}
use Rattle.core_programs.specs.Faults.{Fault, OfName, UnexpectedTemplate, NotType, Todo}
use Rattle.core_programs.specs.Computing.{M, at_once}
use Rattle.core_programs.specs.Names.{Path, Name, Symbol, Local, Env, find, is_same, built_in_type}
use Rattle.core_programs.specs.Meaning.{World, shown, plain_name, name_value, name_type, needed, call_value, call_type, denoted_type, type_written}
use Rattle.core_programs.specs.Calls.{const_in, call_in, result_in}
use Rattle.core_programs.specs.Programs.{Program, Known, named_in, find_known, known_value, known_type, Calls, at_exec, function_world, result_of_function, module_world, calls_inside, world, root, here}
use Rattle.core_programs.specs.Runs.{Handed, started, entered, run, find_decl, here_if, plain}
use Rattle.core_programs.specs.Follows.{Differences, Follows, FollowAll, keeps_literal, keeps_parentheses, keeps_unary, keeps_binary, keeps_call, keeps_name, no_more, one_more, as_it_is, FollowStatements, no_statements, returns_nothing, returns, FollowAttributes, no_attributes, keeps_fragment, keeps_location, FollowType, no_type, keeps_type, FollowParameters, no_parameters, one_parameter, FollowInitializer, no_initializer, keeps_initializer, FollowsDeclaration, keeps_const, keeps_function}
use Rattle.core_programs.proofs.Simulates as expressions
use Rattle.core_programs.proofs.Bodies.{One, names_of, name_here, callee_here, name_type_here, callee_type_here, Meet, TypesMeet, call_meets, const_meets, entered_meets, result_type_meets}
use Rattle.core_programs.proofs.Known.{or_if, find_behind}
use Rattle.core_programs.proofs.Itself.{local_same, needed_same, constructed_same, constructed_type_same}
use Rattle.core_link_spec.specs.Occurrences.{is_among, unless_local, in_expression, in_expressions, in_type, in_some, in_attributes, in_statement, in_parameter, parameter_names, names_before, names_behind, locals, names_in_body}
use Rattle.core_link_spec.specs.Linked.{new_name, renamed, all_renamed, renamed_type, renamed_attributes, renamed_statement, renamed_parameter, renamed_declaration}
use Rattle.core_modules_meaning.proofs.Members.{find_none, find_some}

-- ---- trees and their renamed ones

module _ (new : Name → Name) (Q : Name → Type 0) where
  -- these names have a meaning, and none of these locals hides a new name, unless it hid the name
  abbrev pub Fit : List Name → List Name → Type 0
  Fit hiding xs = (x : Name) → Contains xs x → Q x × (is_among x hiding ≡ false → is_among (new x) hiding ≡ false)

  pub left : (hiding xs ys : List Name) → Fit hiding (xs ++ ys) → Fit hiding xs
  left hiding xs ys f x c = f x (Contains-append_left xs ys x c)

  pub right : (hiding xs ys : List Name) → Fit hiding (xs ++ ys) → Fit hiding ys
  right hiding xs ys f x c = f x (Contains-append_right xs ys x c)

  pub record DeclFits (d : Decl) : Type 0 where
    pub before : Fit [] (names_before d)
    pub behind : Fit [] (names_behind d)
    pub in_body : Fit (locals d) (names_in_body d)

  pub record Renamed (hiding : List Name) (t s : Typ) : Type 0 where
    pub to : s ≡ renamed_type new hiding t
    pub fit : Fit hiding (in_type hiding t)

  abbrev pub renaming : Differences
  renaming = record { names = Renamed; callees = Renamed; types = Renamed []; replaced = λ l e d. ⊥; returned = λ l t e d. ⊥ }

  module _ (hiding : List Name) where
    mutual
      follows : (e : Exp) → Fit hiding (in_expression hiding e) → Follows renaming hiding e (renamed new hiding e)
      follows (literal l) f = keeps_literal
      follows (parenthesized e) f = keeps_parentheses (follows e f)
      follows (unary o e) f = keeps_unary (follows e f)
      follows (binary o a b) f = keeps_binary (follows a (left hiding _ _ f)) (follows b (right hiding (in_expression hiding a) _ f))
      follows (call t es) f = keeps_call (record { to = refl; fit = left hiding _ _ f }) (follow_all es (right hiding (in_type hiding t) _ f))
      follows (named t) f = keeps_name (record { to = refl; fit = f })

      follow_all : (es : Exps) → Fit hiding (in_expressions hiding es) → FollowAll renaming hiding es (all_renamed new hiding es)
      follow_all nil f = no_more
      follow_all (cons e es) f = one_more (follows e (left hiding _ _ f)) (follow_all es (right hiding (in_expression hiding e) _ f))

    statements : (type : Option Typ) (ss : List Stm) → Fit hiding (flat_map (in_statement hiding) ss) → FollowStatements renaming hiding type ss (map (renamed_statement new hiding) ss)
    statements type [] f = no_statements
    statements type (returning a None ∷ rest) f = returns_nothing (statements type rest (right hiding (in_statement hiding (returning a None)) _ f))
    statements type (returning a (Some e) ∷ rest) f =
        let own : Fit hiding (in_statement hiding (returning a (Some e))) = left hiding (in_statement hiding (returning a (Some e))) (flat_map (in_statement hiding) rest) f in
        returns (as_it_is (follows e (right hiding (in_attributes hiding a) (in_expression hiding e) own))) (statements type rest (right hiding (in_statement hiding (returning a (Some e))) _ f))

  attributes : (a : List Attr) → Fit [] (in_attributes [] a) → FollowAttributes renaming a (renamed_attributes new [] a)
  attributes [] f = no_attributes
  attributes (fragment ∷ rest) f = keeps_fragment (attributes rest f)
  attributes (location e ∷ rest) f = keeps_location (follows [] e (left [] (in_expression [] e) (in_attributes [] rest) f)) (attributes rest (right [] (in_expression [] e) (in_attributes [] rest) f))

  maybe_type : (t : Option Typ) → Fit [] (in_some (in_type []) t) → FollowType renaming t (option_map (renamed_type new []) t)
  maybe_type None f = no_type
  maybe_type (Some t) f = keeps_type (record { to = refl; fit = f })

  initializer : (e : Option Exp) → Fit [] (in_some (in_expression []) e) → FollowInitializer renaming e (option_map (renamed new []) e)
  initializer None f = no_initializer
  initializer (Some e) f = keeps_initializer (follows [] e f)

  parameters : (ps : List Param) → Fit [] (flat_map in_parameter ps) → FollowParameters renaming ps (map (renamed_parameter new) ps)
  parameters [] f = no_parameters
  parameters (p ∷ ps) f =
      let own : Fit [] (in_parameter p) = left [] (in_parameter p) (flat_map in_parameter ps) f in
      one_parameter (record {
        name = refl;
        type = record { to = refl; fit = right [] (in_attributes [] p.attributes) (in_type [] p.type) own };
        attributes = attributes p.attributes (left [] (in_attributes [] p.attributes) (in_type [] p.type) own);
      }) (parameters ps (right [] (in_parameter p) (flat_map in_parameter ps) f))

  pub declaration : (d : Decl) → DeclFits d → FollowsDeclaration renaming d (renamed_declaration new d)
  declaration (variable a kind x t e) f =
      keeps_const (maybe_type t (left [] (in_some (in_type []) t) (in_some (in_expression []) e) f.behind)) (initializer e (right [] (in_some (in_type []) t) (in_some (in_expression []) e) f.behind))
  declaration (function a g ps r t b) f =
      keeps_function (attributes a f.before)
      (parameters ps (left [] (flat_map in_parameter ps) (in_attributes [] r) (left [] (flat_map in_parameter ps ++ in_attributes [] r) (in_some (in_type []) t) f.behind)))
      (maybe_type t (right [] (flat_map in_parameter ps ++ in_attributes [] r) (in_some (in_type []) t) f.behind))
      (statements (parameter_names ps) t b.statements (right (parameter_names ps) (in_attributes (parameter_names ps) b.attributes) (flat_map (in_statement (parameter_names ps)) b.statements) f.in_body))

-- ---- names

-- IsHeld: a symbol is held, and has this name in the unit
module _ (p : Program) (ds : List Decl) (IsHeld : Symbol → Name → Type 0) where
  -- a name denotes a held symbol, and its new name is that symbol's; or it denotes nothing, in the module and in the unit, and stays
  pub data Means (m : Path) (new : Name → Name) (x : Name) : Type 0 where
    of_symbol : (s : Symbol) → p.denotes m x ≡ Some s → IsHeld s (new x) → Means m new x
    of_none : p.denotes m x ≡ None → find_decl x ds ≡ None → new x ≡ x → Means m new x

  -- a held symbol's declaration stands in the unit, renamed
  pub record Stands (s : Symbol) (y : Name) : Type 0 where
    pub printed : p.printed s ≡ y
    pub declaration : Decl
    pub new : Name → Name
    pub item : p.item s ≡ Some declaration
    pub found : find_decl y ds ≡ Some (renamed_declaration new declaration)
    pub fits : DeclFits new (Means s.home new) declaration

  -- the values that are known of held symbols
  pub record KnownAlike (known others : Known) : Type 0 where
    pub same : (s : Symbol) (y : Name) → IsHeld s y → find_known s known ≡ find_known (here y) others

  -- how a name is read in a module, with locals, and its new name in the unit
  data Reads (m : Path) (env : Env) (x y : Name) : Type 0 where
    as_local : (l : Local) → find x env ≡ Some l → find y env ≡ Some l → x ≡ y → Reads m env x y
    as_symbol : (s : Symbol) → find x env ≡ None → find y env ≡ None → p.denotes m x ≡ Some s → IsHeld s y → Reads m env x y
    as_free : find x env ≡ None → find y env ≡ None → p.denotes m x ≡ None → find_decl y ds ≡ None → x ≡ y → Reads m env x y

  reads : (m : Path) (new : Name → Name) (env : Env) (x : Name) → Fit new (Means m new) (names_of env) (unless_local (names_of env) x) → Reads m env x (new_name new (names_of env) x)
  reads m new env x fit = at (is_among x (names_of env)) refl fit
    where
      beyond : find x env ≡ None → find (new x) env ≡ None → Means m new x → Reads m env x (new x)
      beyond a b (of_symbol s den held) = as_symbol s a b den held
      beyond a b (of_none den none same) = as_free a b den (ap (λ z. find_decl z ds) same ∙ none) (sym same)

      at : (b : Bool) → is_among x (names_of env) ≡ b → Fit new (Means m new) (names_of env) (if b then [] else x ∷ []) → Reads m env x (if b then x else new x)
      at true e f = let l = find_some x env e in as_local l.0 l.1 l.1 refl
      at false e f = let q = f x (first_in x []) in beyond (find_none x env e) (find_none (new x) env (q.1 e)) q.0

  module _ (stands : (s : Symbol) (y : Name) → IsHeld s y → Stands s y) where
    found_here : (s : Symbol) (y : Name) → IsHeld s y → here_if y (find_decl y ds) ≡ Some (here y)
    found_here s y h = ap (here_if y) (stands s y h).found

    -- what is said of a name by its local, its symbol, or neither
    module _ (X : Type 0) (P : X → X → Type 0) (m : Path) (env : Env) (F G : Name → Option Local → Option Symbol → X)
        (on_local : (x : Name) (l : Local) (d e : Option Symbol) → P (F x (Some l) d) (G x (Some l) e))
        (on_symbol : (x y : Name) (s : Symbol) → IsHeld s y → P (F x None (Some s)) (G y None (Some (here y))))
        (on_free : (x : Name) → P (F x None None) (G x None None)) where
      read_alike : (x y : Name) → Reads m env x y → P (F x (find x env) (p.denotes m x)) (G y (find y env) (here_if y (find_decl y ds)))
      read_alike x y (as_local l e f same) =
          subst (λ o. P (F x o (p.denotes m x)) (G y (find y env) (here_if y (find_decl y ds)))) (sym e)
          (subst (λ o. P (F x (Some l) (p.denotes m x)) (G y o (here_if y (find_decl y ds)))) (sym f)
          (subst (λ z. P (F x (Some l) (p.denotes m x)) (G z (Some l) (here_if y (find_decl y ds)))) same (on_local x l (p.denotes m x) (here_if y (find_decl y ds)))))
      read_alike x y (as_symbol s e f den held) =
          subst (λ o. P (F x o (p.denotes m x)) (G y (find y env) (here_if y (find_decl y ds)))) (sym e)
          (subst (λ o. P (F x None (p.denotes m x)) (G y o (here_if y (find_decl y ds)))) (sym f)
          (subst (λ o. P (F x None o) (G y None (here_if y (find_decl y ds)))) (sym den)
          (subst (λ o. P (F x None (Some s)) (G y None o)) (sym (found_here s y held)) (on_symbol x y s held))))
      read_alike x y (as_free e f den none same) =
          subst (λ o. P (F x o (p.denotes m x)) (G y (find y env) (here_if y (find_decl y ds)))) (sym e)
          (subst (λ o. P (F x None (p.denotes m x)) (G y o (here_if y (find_decl y ds)))) (sym f)
          (subst (λ o. P (F x None o) (G y None (here_if y (find_decl y ds)))) (sym den)
          (subst (λ o. P (F x None None) (G y None (here_if y o))) (sym none)
          (subst (λ z. P (F x None None) (G z None None)) same (on_free x)))))

    module _ (R : Lift Fault) (kept : Kept Fault Same R) (known others : Known) (values : KnownAlike known others) where
      pure_same : (A : Type 0) (x : A) → R A A Same (pure x) (pure x)
      pure_same = expressions.pure_same R kept

      fail_same : (A : Type 0) (f : Fault) → R A A Same (fail f) (fail f)
      fail_same = expressions.fail_same R kept

      known_alike : (s : Symbol) (y : Name) → IsHeld s y → R Instance Instance Same (known_value (p.printed s) (find_known s known) (p.item s)) (known_value y (find_known (here y) others) (find_decl y ds))
      known_alike s y held = let st = stands s y held in
          subst (λ o. R Instance Instance Same (known_value (p.printed s) (find_known s known) (p.item s)) (known_value y o (find_decl y ds))) (values.same s y held)
          (subst (λ o. R Instance Instance Same (known_value (p.printed s) (find_known s known) o) (known_value y (find_known s known) (find_decl y ds))) (sym st.item)
          (subst (λ o. R Instance Instance Same (known_value (p.printed s) (find_known s known) (Some st.declaration)) (known_value y (find_known s known) o)) (sym st.found)
          (subst (λ z. R Instance Instance Same (known_value (p.printed s) (find_known s known) (Some st.declaration)) (known_value z (find_known s known) (Some (renamed_declaration st.new st.declaration)))) st.printed
          (at (p.printed s) (find_known s known) st.declaration st.new))))
        where
          at : (x : Name) (v : Option Instance) (d : Decl) (new : Name → Name) → R Instance Instance Same (known_value x v (Some d)) (known_value x v (Some (renamed_declaration new d)))
          at x (Some v) d new = pure_same Instance v
          at x None (variable a kind z t e) new = fail_same Instance _
          at x None (function a f ps r t b) new = fail_same Instance _

      known_type_alike : (s : Symbol) (y : Name) → IsHeld s y → R ShaderType ShaderType Same (known_type (p.printed s) (find_known s known) (p.item s)) (known_type y (find_known (here y) others) (find_decl y ds))
      known_type_alike s y held = let st = stands s y held in
          subst (λ o. R ShaderType ShaderType Same (known_type (p.printed s) (find_known s known) (p.item s)) (known_type y o (find_decl y ds))) (values.same s y held)
          (subst (λ o. R ShaderType ShaderType Same (known_type (p.printed s) (find_known s known) o) (known_type y (find_known s known) (find_decl y ds))) (sym st.item)
          (subst (λ o. R ShaderType ShaderType Same (known_type (p.printed s) (find_known s known) (Some st.declaration)) (known_type y (find_known s known) o)) (sym st.found)
          (subst (λ z. R ShaderType ShaderType Same (known_type (p.printed s) (find_known s known) (Some st.declaration)) (known_type z (find_known s known) (Some (renamed_declaration st.new st.declaration)))) st.printed
          (at (p.printed s) (find_known s known) st.declaration st.new))))
        where
          at : (x : Name) (v : Option Instance) (d : Decl) (new : Name → Name) → R ShaderType ShaderType Same (known_type x v (Some d)) (known_type x v (Some (renamed_declaration new d)))
          at x (Some v) d new = pure_same ShaderType _
          at x None (variable a kind z t e) new = fail_same ShaderType _
          at x None (function a f ps r t b) new = fail_same ShaderType _

      -- the world of a module, and that of the unit
      module _ (m : Path) (new : Name → Name) (calls calls' : Calls) (results results' : Symbol → M (Option ShaderType))
          (called : (st : ShaderStage) (s : Symbol) (y : Name) (xs : List Instance) → IsHeld s y → R (Option Instance) (Option Instance) Same (at_exec st (p.printed s) (calls st s xs)) (at_exec st y (calls' st (here y) xs)))
          (typed : (s : Symbol) (y : Name) → IsHeld s y → R (Option ShaderType) (Option ShaderType) Same (results s) (results' (here y))) where
        abbrev Source : World
        Source = named_in p known m calls results

        abbrev Target : World
        Target = named_in (plain ds) others root calls' results'

        shown_alike : (env : Env) (x y : Name) → Reads m env x y → shown Source x (find x env) (p.denotes m x) ≡ shown Target y (find y env) (here_if y (find_decl y ds))
        shown_alike env = read_alike Name (λ a b. a ≡ b) m env (shown Source) (shown Target) (λ x l d e. refl) (λ x y s held. (stands s y held).printed) (λ x. refl)

        module _ (A : Type 0) (F G : Name → Option Local → Option Symbol → M A)
            (on_local : (x : Name) (l : Local) (d e : Option Symbol) → R A A Same (F x (Some l) d) (G x (Some l) e))
            (on_symbol : (x y : Name) (s : Symbol) → IsHeld s y → R A A Same (F x None (Some s)) (G y None (Some (here y))))
            (on_free : (x : Name) → R A A Same (F x None None) (G x None None)) (env : Env) where
          of_type : (t : Typ) → Fit new (Means m new) (names_of env) (in_type (names_of env) t)
              → R A A Same (bind (at_once (plain_name Source env t)) (λ a. F a (find a env) (p.denotes m a))) (bind (at_once (plain_name Target env (renamed_type new (names_of env) t))) (λ a. G a (find a env) (here_if a (find_decl a ds))))
          of_type (simple None x) fit = read_alike (M A) (λ a b. R A A Same a b) m env F G on_local on_symbol on_free x (new_name new (names_of env) x) (reads m new env x fit)
          of_type (simple (Some path) x) fit = fail_same A _
          of_type (templated None x arguments) fit =
              subst (λ z. R A A Same (fail (OfName UnexpectedTemplate (shown Source x (find x env) (p.denotes m x)))) (fail (OfName UnexpectedTemplate z)))
              (shown_alike env x (new_name new (names_of env) x) (reads m new env x (left new (Means m new) (names_of env) (unless_local (names_of env) x) (in_expressions (names_of env) arguments) fit)))
              (fail_same A _)
          of_type (templated (Some path) x arguments) fit = fail_same A _

          pub of_renamed : (t s : Typ) → Renamed new (Means m new) (names_of env) t s
              → R A A Same (bind (at_once (plain_name Source env t)) (λ a. F a (find a env) (p.denotes m a))) (bind (at_once (plain_name Target env s)) (λ a. G a (find a env) (here_if a (find_decl a ds))))
          of_renamed t s r = subst (λ z. R A A Same (bind (at_once (plain_name Source env t)) (λ a. F a (find a env) (p.denotes m a))) (bind (at_once (plain_name Target env z)) (λ a. G a (find a env) (here_if a (find_decl a ds))))) (sym r.to) (of_type t r.fit)

        values_meet : (st : ShaderStage) (env : Env) (x y : Typ) → Renamed new (Means m new) (names_of env) x y → R Instance Instance Same (name_here Source st env x) (name_here Target st env y)
        values_meet st env = of_renamed Instance (name_value Source st) (name_value Target st) (λ x l d e. local_same R kept x l) (λ x y s held. known_alike s y held) (λ x. fail_same Instance _) env

        callees_meet : (st : ShaderStage) (env : Env) (f g : Typ) (xs : List Instance) → Renamed new (Means m new) (names_of env) f g → R Instance Instance Same (callee_here Source st env f xs) (callee_here Target st env g xs)
        callees_meet st env f g xs = of_renamed Instance (λ a l d. call_value Source st a l d xs) (λ a l d. call_value Target st a l d xs) (λ x l d e. fail_same Instance _)
            (λ x y s held. expressions.on R kept (Option Instance) Instance Instance Same (at_exec st (p.printed s) (calls st s xs)) (at_exec st y (calls' st (here y) xs)) _ _ (called st s y xs held)
            (λ v. subst (λ z. R Instance Instance Same (needed (p.printed s) v) (needed z v)) (stands s y held).printed (needed_same R kept Instance (p.printed s) v)))
            (λ x. constructed_same R kept x xs) env f g

        -- in the scope of a module there are no locals
        abbrev if_no_local : Name → Option Local → M ShaderType → M ShaderType
        if_no_local x (Some l) other = fail (OfName NotType x)
        if_no_local x None other = other

        written : (x y : Typ) → Renamed new (Means m new) [] x y → R ShaderType ShaderType Same (type_written Source x) (type_written Target y)
        written = of_renamed ShaderType (λ a l d. if_no_local a l (denoted_type Source a d)) (λ a l d. if_no_local a l (denoted_type Target a d)) (λ x l d e. fail_same ShaderType _)
            (λ x y s held. subst (λ z. R ShaderType ShaderType Same (fail (OfName NotType (p.printed s))) (fail (OfName NotType z))) (stands s y held).printed (fail_same ShaderType _))
            (λ x. expressions.at_once_same R kept ShaderType (built_in_type x)) []

        name_types_meet : (x y : Typ) → Renamed new (Means m new) [] x y → R ShaderType ShaderType Same (name_type_here Source [] x) (name_type_here Target [] y)
        name_types_meet = of_renamed ShaderType (name_type Source) (name_type Target) (λ x l d e. pure_same ShaderType _) (λ x y s held. known_type_alike s y held) (λ x. fail_same ShaderType _) []

        callee_types_meet : (f g : Typ) (ts : List ShaderType) → Renamed new (Means m new) [] f g → R ShaderType ShaderType Same (callee_type_here Source [] f ts) (callee_type_here Target [] g ts)
        callee_types_meet f g ts = of_renamed ShaderType (λ a l d. call_type Source a l d ts) (λ a l d. call_type Target a l d ts) (λ x l d e. fail_same ShaderType _)
            (λ x y s held. expressions.on R kept (Option ShaderType) ShaderType ShaderType Same (results s) (results' (here y)) _ _ (typed s y held)
            (λ v. subst (λ z. R ShaderType ShaderType Same (needed (p.printed s) v) (needed z v)) (stands s y held).printed (needed_same R kept ShaderType (p.printed s) v)))
            (λ x. constructed_type_same R kept x ts) [] f g

        -- an answer of which nothing is said
        of_one : (a b : M ShaderType) → R ShaderType ShaderType Same a b → R ShaderType ShaderType (One (λ t. Unit {0})) a b
        of_one a b r =
            subst (λ c. R ShaderType ShaderType (One (λ t. Unit {0})) c b) (bind_pure a) (subst (λ c. R ShaderType ShaderType (One (λ t. Unit {0})) (bind a pure) c) (bind_pure b)
            (expressions.on R kept ShaderType ShaderType ShaderType (One (λ t. Unit {0})) a b pure pure r (λ x. kept.pure_of ShaderType ShaderType (One (λ t. Unit {0})) x x (refl, tt))))

        pub worlds_meet : (st : ShaderStage) → Meet R kept (renaming new (Means m new)) st st Source Target
        worlds_meet st = record {
          is_type = λ x ty. Unit {0};
          stages = expressions.same_stage R kept st;
          names_meet = values_meet st;
          callees_meet = callees_meet st;
          replaced_meet = λ env e d h. absurd h;
          returned_meet = λ env f type e d h. absurd h;
          types_meet = λ x y r. of_one (type_written Source x) (type_written Target y) (written x y r);
        }

        pub types_of_worlds_meet : TypesMeet R kept (renaming new (Means m new)) Source Target
        types_of_worlds_meet = record { name_types_meet = name_types_meet; callee_types_meet = callee_types_meet; replaced_types_meet = λ e d h. absurd h }

      -- what fails alike in both
      todo_alike : (A : Type 0) (s : Symbol) (y : Name) → IsHeld s y → R A A Same (fail (OfName Todo (p.printed s))) (fail (OfName Todo y))
      todo_alike A s y held = subst (λ z. R A A Same (fail (OfName Todo (p.printed s))) (fail (OfName Todo z))) (stands s y held).printed (fail_same A _)

      no_call : (st : ShaderStage) (s : Symbol) (y : Name) → IsHeld s y → R (Option Instance) (Option Instance) Same (at_exec st (p.printed s) (fail (OfName Todo (p.printed s)))) (at_exec st y (fail (OfName Todo y)))
      no_call Exec s y held = todo_alike (Option Instance) s y held
      no_call Const s y held = todo_alike (Option Instance) s y held
      no_call Override s y held = todo_alike (Option Instance) s y held

      -- a function's type, where it is declared
      results_alike : (s : Symbol) (y : Name) → IsHeld s y → R (Option ShaderType) (Option ShaderType) Same (result_of_function p known s) (result_of_function (plain ds) others (here y))
      results_alike s y held = let st = stands s y held in
          subst (λ o. R (Option ShaderType) (Option ShaderType) Same (result_in (function_world p known s) (p.printed s) o) (result_in (function_world (plain ds) others (here y)) y (find_decl y ds))) (sym st.item)
          (subst (λ o. R (Option ShaderType) (Option ShaderType) Same (result_in (function_world p known s) (p.printed s) (Some st.declaration)) (result_in (function_world (plain ds) others (here y)) y o)) (sym st.found)
          (subst (λ z. R (Option ShaderType) (Option ShaderType) Same (result_in (function_world p known s) (p.printed s) (Some st.declaration)) (result_in (function_world (plain ds) others (here y)) z (Some (renamed_declaration st.new st.declaration)))) st.printed
          (result_type_meets R kept (renaming st.new (Means s.home st.new)) Exec Exec (function_world p known s) (function_world (plain ds) others (here y))
          (worlds_meet s.home st.new (λ st g xs. fail (OfName Todo (p.printed g))) (λ st g xs. fail (OfName Todo g.called)) (λ g. fail (OfName Todo (p.printed g))) (λ g. fail (OfName Todo g.called))
          (λ st g z xs held. no_call st g z held) (λ g z held. todo_alike (Option ShaderType) g z held) Exec)
          (p.printed s) st.declaration (renamed_declaration st.new st.declaration) (declaration st.new (Means s.home st.new) st.declaration st.fits))))

      -- ---- calls inside one another

      abbrev CallsAlike : Calls → Calls → Type 0
      CallsAlike calls calls' = (st : ShaderStage) (s : Symbol) (y : Name) (xs : List Instance) → IsHeld s y → R (Option Instance) (Option Instance) Same (calls st s xs) (calls' st (here y) xs)

      called_alike : (calls calls' : Calls) → CallsAlike calls calls' → (st : ShaderStage) (s : Symbol) (y : Name) (xs : List Instance) → IsHeld s y
          → R (Option Instance) (Option Instance) Same (at_exec st (p.printed s) (calls st s xs)) (at_exec st y (calls' st (here y) xs))
      called_alike calls calls' h Exec s y xs held = h Exec s y xs held
      called_alike calls calls' h Const s y xs held = todo_alike (Option Instance) s y held
      called_alike calls calls' h Override s y xs held = todo_alike (Option Instance) s y held

      module _ (calls calls' : Calls) (h : CallsAlike calls calls') where
        opened : (m : Path) (new : Name → Name) (st : ShaderStage) → Meet R kept (renaming new (Means m new)) st st (module_world p known m calls) (module_world (plain ds) others root calls')
        opened m new = worlds_meet m new calls calls' (result_of_function p known) (result_of_function (plain ds) others) (called_alike calls calls' h) results_alike

        opened_types : (m : Path) (new : Name → Name) → TypesMeet R kept (renaming new (Means m new)) (module_world p known m calls) (module_world (plain ds) others root calls')
        opened_types m new = types_of_worlds_meet m new calls calls' (result_of_function p known) (result_of_function (plain ds) others) (called_alike calls calls' h) results_alike

        -- a held symbol's declaration in the one, and the renamed one in the other
        module _ (X : Type 0) (P : X → X → Type 0) (F G : Name → Option Decl → X) (s : Symbol) (y : Name) (held : IsHeld s y)
            (same : (new : Name → Name) (x : Name) (d : Decl) → FollowsDeclaration (renaming new (Means s.home new)) d (renamed_declaration new d) → P (F x (Some d)) (G x (Some (renamed_declaration new d)))) where
          of_declaration : P (F (p.printed s) (p.item s)) (G y (find_decl y ds))
          of_declaration = let st = stands s y held in
              subst (λ o. P (F (p.printed s) o) (G y (find_decl y ds))) (sym st.item) (subst (λ o. P (F (p.printed s) (Some st.declaration)) (G y o)) (sym st.found)
              (subst (λ z. P (F (p.printed s) (Some st.declaration)) (G z (Some (renamed_declaration st.new st.declaration)))) st.printed
              (same st.new (p.printed s) st.declaration (declaration st.new (Means s.home st.new) st.declaration st.fits))))

        call_alike : (st : ShaderStage) (s : Symbol) (y : Name) (xs : List Instance) → IsHeld s y
            → R (Option Instance) (Option Instance) Same (call_in (module_world p known s.home calls) st (p.printed s) (p.item s) xs) (call_in (module_world (plain ds) others root calls') st y (find_decl y ds) xs)
        call_alike st s y xs held = of_declaration (M (Option Instance)) (λ a b. R (Option Instance) (Option Instance) Same a b)
            (λ x d. call_in (module_world p known s.home calls) st x d xs) (λ x d. call_in (module_world (plain ds) others root calls') st x d xs) s y held
            (λ new x d f. call_meets R kept (renaming new (Means s.home new)) st st (module_world p known s.home calls) (module_world (plain ds) others root calls') (opened s.home new st) x d (renamed_declaration new d) f xs)

        const_alike : (s : Symbol) (y : Name) → IsHeld s y
            → R Instance Instance Same (const_in (module_world p known s.home calls) (p.printed s) (p.item s)) (const_in (module_world (plain ds) others root calls') y (find_decl y ds))
        const_alike s y held = of_declaration (M Instance) (λ a b. R Instance Instance Same a b)
            (const_in (module_world p known s.home calls)) (const_in (module_world (plain ds) others root calls')) s y held
            (λ new x d f. const_meets R kept (renaming new (Means s.home new)) (module_world p known s.home calls) (module_world (plain ds) others root calls') (opened s.home new Const) (opened_types s.home new) x d (renamed_declaration new d) f)

        entered_alike : (s : Symbol) (y : Name) (handed : Handed) → IsHeld s y
            → R (Option Instance) (Option Instance) Same (entered (module_world p known s.home calls) (p.printed s) (p.item s) handed) (entered (module_world (plain ds) others root calls') y (find_decl y ds) handed)
        entered_alike s y handed held = of_declaration (M (Option Instance)) (λ a b. R (Option Instance) (Option Instance) Same a b)
            (λ x d. entered (module_world p known s.home calls) x d handed) (λ x d. entered (module_world (plain ds) others root calls') x d handed) s y held
            (λ new x d f. entered_meets R kept (renaming new (Means s.home new)) (module_world p known s.home calls) (module_world (plain ds) others root calls') (opened s.home new Const) (opened s.home new Exec) x d (renamed_declaration new d) f handed)

    -- ---- runs

    -- the values in the order of the start, each with its name in the unit
    pub data InOrder : List Symbol → List Symbol → Type 0 where
      none_left : InOrder [] []
      next : {ss ts : List Symbol} (s : Symbol) (y : Name) → IsHeld s y → InOrder ss ts → InOrder (s ∷ ss) (here y ∷ ts)

    module _ (R : Lift Fault) (throughout : KeptThroughout Fault Same R) where
      calls_alike : (known others : Known) (values : KnownAlike known others) (k : ℕ) → CallsAlike R throughout.kept known others values (calls_inside p known k) (calls_inside (plain ds) others k)
      calls_alike known others values zero st s y xs held = throughout.deep_of (Option Instance) (Option Instance) Same
      calls_alike known others values (suc k) st s y xs held =
          call_alike R throughout.kept known others values (calls_inside p known k) (calls_inside (plain ds) others k) (calls_alike known others values k) st s y xs held

      module _ (apart : (s t : Symbol) (y z : Name) → IsHeld s y → IsHeld t z → is_same s t ≡ is_same (here y) (here z)) where
        extended : (known others : Known) → KnownAlike known others → (s : Symbol) (y : Name) → IsHeld s y → (v : Instance) → KnownAlike (known ++ (s, v) ∷ []) (others ++ (here y, v) ∷ [])
        extended known others values s y held v = record {
          same = λ t z h. find_behind t known s v ∙ ap (λ o. or_if o (is_same t s) v) (values.same t z h) ∙ ap (λ b. or_if (find_known (here z) others) b v) (apart t s z y h held) ∙ sym (find_behind (here z) others (here y) v);
        }

        started_alike : (k : ℕ) (known others : Known) → KnownAlike known others → (ss ts : List Symbol) → InOrder ss ts → R Known Known KnownAlike (started p k known ss) (started (plain ds) k others ts)
        started_alike k known others values ss ts none_left = throughout.kept.pure_of Known Known KnownAlike known others values
        started_alike k known others values ss ts (next {ss = ss'} {ts = ts'} s y held rest) =
            expressions.on R throughout.kept Instance Known Known KnownAlike (const_in (world p known k s.home) (p.printed s) (p.item s)) (const_in (world (plain ds) others k root) y (find_decl y ds)) _ _
            (const_alike R throughout.kept known others values (calls_inside p known k) (calls_inside (plain ds) others k) (calls_alike known others values k) s y held)
            (λ v. started_alike k (known ++ (s, v) ∷ []) (others ++ (here y, v) ∷ []) (extended known others values s y held v) ss' ts' rest)

        nothing_known : KnownAlike [] []
        nothing_known = record { same = λ s y h. refl }

        -- runs of a held symbol, with starts in one order
        pub runs_alike : (k : ℕ) (ss ts : List Symbol) → InOrder ss ts → (s : Symbol) (y : Name) → IsHeld s y → (handed : Handed)
            → R (Option Instance) (Option Instance) Same (run p k ss s handed) (run (plain ds) k ts (here y) handed)
        runs_alike k ss ts order s y held handed =
            throughout.kept.going_on Known Known (Option Instance) (Option Instance) KnownAlike Same (started p k [] ss) (started (plain ds) k [] ts) _ _ (started_alike k [] [] nothing_known ss ts order) (λ known others values.
            entered_alike R throughout.kept known others values (calls_inside p known k) (calls_inside (plain ds) others k) (calls_alike known others values k) s y handed held)
