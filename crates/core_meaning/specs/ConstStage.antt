-- The const stage of a plain unit, where some consts have their values and the parameters of a function are in scope.
use Rattle.std.specs.Prelude.{◌≡◌, ℕ, List, [], ◌∷◌, ◌++◌, Option, Some, None, Err}
use Rattle.core_meaning.specs.Values.{Checked, and_then}
use Rattle.core_syntax.specs.Tree.{Typ, Decl, variable, function}
use Rattle.wgsl_words.specs.declared.enumerations.words.ShaderStage.TheVariants.{Const}
use Rattle.wgsl_shader_type.specs.declared.literal.LiteralInstance.{LiteralInstance}
use Rattle.wgsl_scalar.specs.declared.scalar.ScalarType.{ScalarType}
use Rattle.core_meaning.specs.declared.fault.Fault.TheVariants.{Name as Named}
use Rattle.core_meaning.specs.declared.fault.NameFault.TheVariants.{CyclicDecl, UnknownDecl, NotAccessible, NotCallable, Todo, Void}
use Rattle.core_meaning.specs.Outcome.{Outcome, Done, Failed, Deep, bind, at_once}
use Rattle.core_meaning.specs.Names.{Name, find, find_decl, built_in_type, plain_name}
use Rattle.core_meaning.specs.Meaning.{World, Types, called_or, const_in, construct_type}
use Rattle.core_meaning.specs.Programs.{called_at, type_at, here_if}

-- consts with their values
abbrev pub Consts : Type 0
Consts = List (Name × LiteralInstance)

-- what is in scope: the declaration of a name, the value of a const that has one by now, and the parameters' types
pub record Scope : Type 0 where
  pub declared : Name → Option Decl
  pub known : Name → Option LiteralInstance
  pub parameters : Types

-- a parameter has no value at this stage
abbrev pub hidden : {A B : Type 0} → Name → Option A → Outcome B → Outcome B
hidden x (Some t) o = Failed (Named NotAccessible x)
hidden x None o = o

-- a const without a value yet is asked for while its own value is sought
abbrev pub const_known : Name → Option LiteralInstance → Option Decl → Outcome LiteralInstance
const_known x (Some v) d = Done v 0
const_known x None (Some (variable attributes kind y type e)) = Failed (Named CyclicDecl x)
const_known x None (Some (function attributes f parameters return_attributes type body)) = Failed (Named UnknownDecl x)
const_known x None None = Failed (Named UnknownDecl x)

-- the type of what a function hands back, as it is written
abbrev pub result_written : Scope → Name → Option Typ → Outcome ScalarType
result_written s f None = Failed (Named Void f)
result_written s f (Some t) = at_once (and_then (plain_name t) (λ x. type_at x (here_if x (s.declared x))))

abbrev pub call_type_at : Scope → Name → Option Decl → List ScalarType → Outcome ScalarType
call_type_at s f (Some (function attributes g parameters return_attributes type body)) ts = result_written s f type
call_type_at s f (Some (variable attributes kind y type e)) ts = Failed (Named NotCallable f)
call_type_at s f None ts = bind (at_once (built_in_type f)) (λ t. construct_type f t ts)

abbrev pub stage : Scope → World
stage s = record {
  stage = Const;
  value_of = λ x. hidden x (find x s.parameters) (const_known x (s.known x) (s.declared x));
  result_of = λ f vs. called_or f (find f s.parameters) (called_at Const f (here_if f (s.declared f)) (λ x xs. Deep) vs);
  result_type = λ f ts. call_type_at s f (s.declared f) ts;
  type_named = λ x. type_at x (here_if x (s.declared x));
}

-- outside of functions
abbrev pub module_scope : List Decl → Consts → Scope
module_scope ds cs = record { declared = λ x. find_decl x ds; known = λ x. find x cs; parameters = [] }

-- each const has its value by those before it in the list
pub data Settled (ds : List Decl) : Consts → Type 0 where
  nothing : Settled ds []
  another : (cs : Consts) (x : Name) (v : LiteralInstance) (n : ℕ) → Settled ds cs → const_in (stage (module_scope ds cs)) x (find_decl x ds) ≡ Done v n →
      Settled ds (cs ++ (x, v) ∷ [])

-- the type that a name constructs: no parameter and no declaration has the name, and of the built-in types it is one that is
-- evaluated
abbrev pub callee_at : Name → Option ScalarType → Option Decl → Checked ScalarType
callee_at f (Some t) d = Err (Named NotCallable f)
callee_at f None (Some d) = Err (Named Todo f)
callee_at f None None = built_in_type f

abbrev pub callee_of : Scope → Name → Checked ScalarType
callee_of s f = callee_at f (find f s.parameters) (s.declared f)
