-- Programs, and what the names of their modules mean once values are known.
use Rattle.std.specs.Prelude.{◌≡◌, ℕ, zero, suc, List, [], ◌∷◌, Option, Some, None, Bool, true, false, if◌then◌else◌}
use Rattle.std.specs.List.{Contains}
use Rattle.wgsl_path.specs.declared.path.PathOrigin.TheVariants.{Absolute}
use Rattle.wgsl_path.specs.Paths.{path_text}
use Rattle.core_syntax.specs.Tree.{Decl, variable, function}
use Rattle.core_link_spec.specs.Occurrences.{occurrences}
use Rattle.wgsl_words.specs.declared.enumerations.words.ShaderStage.{ShaderStage}
use Rattle.wgsl_words.specs.declared.enumerations.words.ShaderStage.TheVariants.{Const, Override, Exec}
use Rattle.wgsl_shader_type.specs.declared.tree.ShaderType.{ShaderType}
use Rattle.wgsl_instance.specs.declared.tree.Instance.{Instance}
use Rattle.wgsl_instance.specs.Typed.{type_of}
use Rattle.core_computations.specs.Machine.{pure, fail, deep}
use Rattle.core_programs.specs.Faults.{OfName, UnknownDecl, CyclicDecl, Todo}
use Rattle.core_programs.specs.Computing.{M}
use Rattle.core_programs.specs.Names.{Path, Name, Symbol, is_same}
use Rattle.core_programs.specs.Meaning.{World}
use Rattle.core_programs.specs.Calls.{call_in, result_in}
use Rattle.core_order.specs.Order.{IsStartOrder}

-- what is held, what each symbol declares and how it is printed, and what a name means in a module
pub record Program : Type 0 where
  pub held : List Symbol
  pub item : Symbol → Option Decl
  pub printed : Symbol → Name
  pub denotes : Path → Name → Option Symbol

-- ---- known values

-- declared values that are known
abbrev pub Known : Type 0
Known = List (Symbol × Instance)

abbrev pub find_known : Symbol → Known → Option Instance
find_known s [] = None
find_known s (b ∷ bs) = if is_same s b.0 then Some b.1 else find_known s bs

-- a value that isn't known yet is asked for while it is sought
abbrev pub known_value : Name → Option Instance → Option Decl → M Instance
known_value x (Some v) d = pure v
known_value x None (Some (variable attributes kind y type e)) = fail (OfName CyclicDecl x)
known_value x None (Some (function attributes f parameters return_attributes type body)) = fail (OfName UnknownDecl x)
known_value x None None = fail (OfName UnknownDecl x)

-- its type is that of its value
abbrev pub known_type : Name → Option Instance → Option Decl → M ShaderType
known_type x (Some v) d = pure (type_of v)
known_type x None (Some (variable attributes kind y type e)) = fail (OfName CyclicDecl x)
known_type x None (Some (function attributes f parameters return_attributes type body)) = fail (OfName UnknownDecl x)
known_type x None None = fail (OfName UnknownDecl x)

-- ---- worlds

-- functions are called when the shader runs; of constant expressions they aren't yet
abbrev pub at_exec : {A : Type 0} → ShaderStage → Name → M A → M A
at_exec Exec f inner = inner
at_exec Const f inner = fail (OfName Todo f)
at_exec Override f inner = fail (OfName Todo f)

-- a function inside of which calls mean what is said
abbrev pub Calls : Type 0
Calls = ShaderStage → Symbol → List Instance → M (Option Instance)

-- the names of a module, without a function's type
abbrev pub named_in : Program → Known → Path → Calls → (Symbol → M (Option ShaderType)) → World
named_in p known m calls results = record {
  denotes = p.denotes m;
  printed = p.printed;
  value_of = λ s x. known_value (p.printed x) (find_known x known) (p.item x);
  value_type = λ x. known_type (p.printed x) (find_known x known) (p.item x);
  result_of = λ s f xs. at_exec s (p.printed f) (calls s f xs);
  result_type = results;
}

-- the type of what a function hands back is written where it is declared; no call is in it
abbrev pub function_world : Program → Known → Symbol → World
function_world p known f = named_in p known f.home (λ s g xs. fail (OfName Todo (p.printed g))) (λ g. fail (OfName Todo (p.printed g)))

abbrev pub result_of_function : Program → Known → Symbol → M (Option ShaderType)
result_of_function p known f = result_in (function_world p known f) (p.printed f) (p.item f)

abbrev pub module_world : Program → Known → Path → Calls → World
module_world p known m calls = named_in p known m calls (result_of_function p known)

-- at most so many calls inside one another
abbrev pub calls_inside : Program → Known → ℕ → Calls
calls_inside p known zero s f xs = deep
calls_inside p known (suc k) s f xs = call_in (module_world p known f.home (calls_inside p known k)) s (p.printed f) (p.item f) xs

abbrev pub world : Program → Known → ℕ → Path → World
world p known k m = module_world p known m (calls_inside p known k)

-- ---- the order of the start

abbrev pub is_value : Option Decl → Bool
is_value (Some (variable attributes kind x type e)) = true
is_value (Some (function attributes f parameters return_attributes type body)) = false
is_value None = false

-- the held values, in order
abbrev pub values_among : Program → List Symbol → List Symbol
values_among p [] = []
values_among p (s ∷ rest) = if is_value (p.item s) then s ∷ values_among p rest else values_among p rest

-- a name that occurs in what a symbol declares denotes another one
pub record Mentions (p : Program) (s t : Symbol) : Type 0 where
  pub declaration : Decl
  pub declares : p.item s ≡ Some declaration
  pub name : Name
  pub occurs : Contains (occurrences declaration) name
  pub denotes : p.denotes s.home name ≡ Some t

-- a chain of mentions
pub data Reaches (p : Program) : Symbol → Symbol → Type 0 where
  mention : {s t : Symbol} → Mentions p s t → Reaches p s t
  onward : {s t u : Symbol} → Mentions p s t → Reaches p t u → Reaches p s u

-- every held value once: in the order in which they are held, but each after those that it reaches, these by the same rule
abbrev pub IsOrderOf : Program → List Symbol → Type 0
IsOrderOf p order = IsStartOrder (Reaches p) (values_among p p.held) order

-- ---- a plain unit: one module, without imports

abbrev pub root : Path
root = path_text (record { origin = Absolute; components = [] })

abbrev pub here : Name → Symbol
here x = record { home = root; called = x }
