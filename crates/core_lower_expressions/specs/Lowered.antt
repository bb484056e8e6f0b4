-- The lowered unit (this project's own): constant expressions are written as their values, consts go, what a function returns is
-- converted where WGSL would convert it, and bodies that do nothing are cleared. What an expression means is said by programs alone.
use Rattle.std.specs.Prelude.{◌≡◌, ℕ, suc, List, [], ◌∷◌, ◌++◌, Option, Some, None, Bool, true, false, Result, Ok, Err, slice_get, if◌then◌else◌}
use Rattle.core_syntax.specs.Tree.{Exp, Exps, literal, parenthesized, unary, binary, call, named, nil, cons, exps, Typ, Attr, fragment, location, Stm, returning, Block, Param, Decl, variable, function, UnitTree as Module}
use Rattle.wgsl_words.specs.declared.enumerations.words.ShaderStage.TheVariants.{Const}
use Rattle.wgsl_shader_type.specs.declared.tree.ShaderType.{ShaderType}
use Rattle.wgsl_shader_type.specs.Class.{is_abstract}
use Rattle.core_programs.specs.Instance.{Instance, out-Instance}
use Rattle.core_programs.specs.Instance.TheOpen.{Instance-F}
use Rattle.core_programs.specs.Machine.{Outcome, Done, Failed, Deep}
use Rattle.core_meaning.specs.Values.{Checked, and_then}
use Rattle.core_meaning.specs.Written as literals
use Rattle.core_programs.specs.Faults.{Fault, StepLimit, Operation, Deferred, NegativeAttr, OfName, NameFault, NotAccessible, NotConst, NotCallable, Todo}
use Rattle.core_programs.specs.Computing.{M}
use Rattle.core_programs.specs.Names.{Name, Symbol, Local, Hidden, Env, find, built_in_type}
use Rattle.core_programs.specs.Meaning.{World, plain_name, type_written, value, typed}
use Rattle.core_programs.specs.Calls.{const_in}
use Rattle.core_programs.specs.Programs.{Known, world, root, here}
use Rattle.core_programs.specs.Runs.{allowed, find_decl, plain}
pub use Rattle.core_written.specs.Lacking.{lacks_value, unless_fault}
use Rattle.core_lower_expressions.specs.Cleared.{does_nothing, cleared}
use Rattle.core_written.specs.DeclarationFault.{DeclarationFault}
use Rattle.core_written.specs.Start.{then_more}
use Rattle.wgsl_base.specs.declared.items.error.OrOutOfMemory.{OrOutOfMemory}
use Rattle.wgsl_base.specs.Memory.{UnlessOutOfMemory}
use Rattle.core_programs.specs.Units.{IsStartOrderOf}

-- ---- values

-- What a computation gives within so many steps, from no cells. A call is a step, so calls are never deeper inside one another than
-- there are steps (`larger_bounds_agree`, `limits_come_first`).
abbrev pub outcome_given : {A : Type 0} → Outcome Fault A → Checked A
outcome_given (Done x s) = Ok x
outcome_given (Failed f) = Err f
outcome_given Deep = Err StepLimit

abbrev pub given : {A : Type 0} → ℕ → M A → Checked A
given steps m = outcome_given (m (allowed steps))

-- how a value is written. Expressions of today's language have no values but scalars
abbrev pub written_layer : {A : Type 0} → Exp → Instance-F A → Exp
written_layer e (Instance-F.Literal x) = literals.written x
written_layer e x = e

-- an expression, or how its value is written
abbrev pub written_for : Exp → Instance → Exp
written_for e x = written_layer e (out-Instance x)

-- the written value; where there is none, the parts
abbrev pub unless_const : Exp → Checked Instance → Checked Exp → Checked Exp
unless_const e (Ok v) parts = Ok (written_for e v)
unless_const e (Err f) parts = unless_fault f parts

-- ---- expressions

-- the type that a name constructs: no local and no declaration has the name, and of the built-in types it is one that is evaluated
abbrev pub constructed_by : World → Name → Option Local → Option Symbol → Checked ShaderType
constructed_by w f (Some l) d = Err (OfName NotCallable f)
constructed_by w f None (Some s) = Err (OfName Todo (w.printed s))
constructed_by w f None None = built_in_type f

abbrev pub constructed_type : World → Env → Typ → Checked ShaderType
constructed_type w env t = and_then (plain_name w env t) (λ f. constructed_by w f (find f env) (w.denotes f))

-- a value of an abstract type that is returned gets the constructor of the function's type
abbrev pub constructor_call : Typ → Exp → Checked ShaderType → Checked Exp
constructor_call t e (Ok u) = if is_abstract u then Ok (call t (cons e nil)) else Ok e
constructor_call t e (Err f) = Err f

-- a fault is told with the declaration in which it is
abbrev pub in_declaration : {A : Type 0} → Name → Checked A → Result A DeclarationFault
in_declaration x (Ok v) = Ok v
in_declaration x (Err f) = Err (record { declaration = x; fault = f })

module _ (steps : ℕ) (w : World) where
  -- Outermost constant expressions are written as their values; each may take so many steps. A call that isn't constant is a
  -- constructor's; of functions it isn't lowered yet
  abbrev mutual
    pub lowered : Env → Exp → Checked Exp
    lowered env (literal l) = unless_const (literal l) (given steps (value w Const env (literal l))) (Ok (literal l))
    lowered env (parenthesized e) = unless_const (parenthesized e) (given steps (value w Const env (parenthesized e))) (and_then (lowered env e) (λ d. Ok (parenthesized d)))
    lowered env (unary o e) = unless_const (unary o e) (given steps (value w Const env (unary o e))) (and_then (lowered env e) (λ d. Ok (unary o d)))
    lowered env (binary o a b) =
        unless_const (binary o a b) (given steps (value w Const env (binary o a b))) (and_then (lowered env a) (λ c. and_then (lowered env b) (λ d. Ok (binary o c d))))
    lowered env (call f es) =
        unless_const (call f es) (given steps (value w Const env (call f es))) (and_then (constructed_type w env f) (λ t. and_then (all_lowered env es) (λ ds. Ok (call f (exps ds)))))
    lowered env (named x) = unless_const (named x) (given steps (value w Const env (named x))) (Ok (named x))

    pub all_lowered : Env → Exps → Checked (List Exp)
    all_lowered env nil = Ok []
    all_lowered env (cons e es) = and_then (lowered env e) (λ d. and_then (all_lowered env es) (λ ds. Ok (d ∷ ds)))

  -- ---- what a function returns

  abbrev pub converted_exp : Env → Option Typ → Exp → Checked Exp
  converted_exp env (Some t) e = constructor_call t e (given steps (typed w env e))
  converted_exp env None e = Ok e

  abbrev pub lowered_return : Env → Option Typ → Exp → Checked Exp
  lowered_return env t e = and_then (converted_exp env t e) (lowered env)

  -- ---- functions

  abbrev pub lowered_attribute : Env → Attr → Checked Attr
  lowered_attribute env fragment = Ok fragment
  lowered_attribute env (location e) = and_then (lowered env e) (λ d. Ok (location d))

  abbrev pub lowered_attributes : Env → List Attr → Checked (List Attr)
  lowered_attributes env [] = Ok []
  lowered_attributes env (a ∷ rest) = and_then (lowered_attribute env a) (λ b. and_then (lowered_attributes env rest) (λ more. Ok (b ∷ more)))

  -- a type that is evaluated
  abbrev pub type_here : Typ → Checked ShaderType
  type_here t = given steps (type_written w t)

  abbrev pub lowered_parameter : Param → Checked Param
  lowered_parameter p =
      and_then (lowered_attributes [] p.attributes) (λ attributes. and_then (type_here p.type) (λ t.
      Ok (record { attributes = attributes; name = p.name; type = p.type })))

  abbrev pub lowered_parameters : List Param → Checked (List Param)
  lowered_parameters [] = Ok []
  lowered_parameters (p ∷ ps) = and_then (lowered_parameter p) (λ q. and_then (lowered_parameters ps) (λ more. Ok (q ∷ more)))

  -- inside of the function only the types of its parameters are known
  abbrev pub parameter_locals : List Param → Checked Env
  parameter_locals [] = Ok []
  parameter_locals (p ∷ ps) = and_then (type_here p.type) (λ t. and_then (parameter_locals ps) (λ more. Ok ((p.name, Hidden t) ∷ more)))

  abbrev pub checked_type : Option Typ → Checked (Unit {0})
  checked_type None = Ok tt
  checked_type (Some t) = and_then (type_here t) (λ u. Ok tt)

  abbrev pub lowered_statement : Env → Option Typ → Stm → Checked Stm
  lowered_statement env t (returning attributes None) = and_then (lowered_attributes env attributes) (λ more. Ok (returning more None))
  lowered_statement env t (returning attributes (Some e)) =
      and_then (lowered_attributes env attributes) (λ more. and_then (lowered_return env t e) (λ d. Ok (returning more (Some d))))

  abbrev pub lowered_statements : Env → Option Typ → List Stm → Checked (List Stm)
  lowered_statements env t [] = Ok []
  lowered_statements env t (x ∷ rest) = and_then (lowered_statement env t x) (λ y. and_then (lowered_statements env t rest) (λ others. Ok (y ∷ others)))

  abbrev pub lowered_body : Env → Option Typ → Block → Checked Block
  lowered_body env t b =
      and_then (lowered_attributes env b.attributes) (λ attributes. and_then (lowered_statements env t b.statements) (λ statements.
      Ok (record { attributes = attributes; statements = statements })))

  -- in text order; a body that is cleared is lowered first
  abbrev pub lowered_function : List Attr → Name → List Param → List Attr → Option Typ → Block → Checked Decl
  lowered_function attributes f parameters return_attributes type body =
      and_then (lowered_attributes [] attributes) (λ as'. and_then (lowered_parameters parameters) (λ ps. and_then (parameter_locals parameters) (λ env.
      and_then (lowered_attributes [] return_attributes) (λ rs. and_then (checked_type type) (λ u. and_then (lowered_body env type body) (λ b.
      Ok (function as' f ps rs type (cleared (does_nothing as' ps type) b))))))))

  -- ---- units

  -- the rewritten functions, in text order; consts go
  abbrev pub lowered_declarations : List Decl → Result (List Decl) DeclarationFault
  lowered_declarations [] = Ok []
  lowered_declarations (variable attributes kind x type e ∷ ds) = lowered_declarations ds
  lowered_declarations (function attributes f parameters return_attributes type body ∷ ds) =
      then_more (in_declaration f (lowered_function attributes f parameters return_attributes type body)) (λ d. then_more (lowered_declarations ds) (λ more. Ok (d ∷ more)))

-- ---- the start

module _ (steps : ℕ) (ds : List Decl) where
  -- a plain unit in which so much is known; as many calls may be inside one another as there are steps, and one more
  abbrev pub unit_world : Known → World
  unit_world known = world (plain ds) known (suc steps) root

  -- one const more, if it is one; each may take so many steps
  abbrev pub started_const : Known → Name → Option Decl → Result Known DeclarationFault
  started_const known x (Some (variable attributes kind y type e)) =
      then_more (in_declaration x (given steps (const_in (unit_world known) x (Some (variable attributes kind y type e))))) (λ v. Ok (known ++ (here x, v) ∷ []))
  started_const known x (Some (function attributes f parameters return_attributes type body)) = Ok known
  started_const known x None = Ok known

  abbrev pub started_at : Known → Option Decl → Result Known DeclarationFault
  started_at known (Some (variable attributes kind x type e)) = started_const known x (find_decl x ds)
  started_at known (Some (function attributes f parameters return_attributes type body)) = Ok known
  started_at known None = Ok known

  -- the consts at these positions, one after another, each known to those behind it; or the first fault
  abbrev pub started_consts : Known → List ℕ → Result Known DeclarationFault
  started_consts known [] = Ok known
  started_consts known (i ∷ is) = then_more (started_at known (slice_get ds i)) (λ more. started_consts more is)

-- first the consts at these positions get their values, then functions are rewritten, in text order; the refusal is the first
abbrev pub lowered_after : ℕ → List ℕ → Module → Result Module DeclarationFault
lowered_after steps order u =
    then_more (started_consts steps u.declarations [] order) (λ known.
    then_more (lowered_declarations steps (unit_world steps u.declarations known) u.declarations) (λ low. Ok (record { imports = []; declarations = low })))

-- What a unit is lowered to, or its refusal, where each evaluation of an expression or a declaration may take so many steps: every
-- const gets its value at the start, each after those that it reaches.
pub record Lowers (steps : ℕ) (u : Module) (o : Result Module DeclarationFault) : Type 0 where
  pub order : List ℕ
  pub is_order : IsStartOrderOf u.declarations order
  pub comes : lowered_after steps order u ≡ o

-- an answer is that, unless memory was refused
abbrev pub IsLowering : {A : Type 0} → (A → Module) → ℕ → Module → Result A (OrOutOfMemory DeclarationFault) → Type 0
IsLowering view steps u (Ok low) = Lowers steps u (Ok (view low))
IsLowering view steps u (Err e) = UnlessOutOfMemory (λ r. Lowers steps u (Err r)) e
