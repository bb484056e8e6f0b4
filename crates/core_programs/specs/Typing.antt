-- A value has its type: what typing finds of an expression, its value is of (WGSL, "Type Checking").
use Rattle.std.specs.Prelude.{◌≡◌, ℕ, List, map, All, Option, Some, None, false}
use Rattle.core_syntax.specs.Tree.{Exp}
use Rattle.wgsl_words.specs.declared.enumerations.words.ShaderStage.{ShaderStage}
use Rattle.wgsl_shader_type.specs.declared.tree.ShaderType.{ShaderType}
use Rattle.wgsl_shader_type.specs.Class.{is_handle}
use Rattle.wgsl_instance.specs.declared.tree.Instance.{Instance}
use Rattle.wgsl_instance.specs.Typed.{type_of, IsWellFormed}
use Rattle.core_computations.specs.Machine.{State, Done}
use Rattle.core_programs.specs.Computing.{M}
use Rattle.core_programs.specs.Names.{Name, Path, Symbol, Local, Has, Hidden, local_type, Env}
use Rattle.core_programs.specs.Meaning.{typed, value}
use Rattle.core_programs.specs.Programs.{Program, Known, result_of_function, calls_inside, world}
use Rattle.core_programs.specs.Runs.{started, Handed, run}

-- from some state it ends well, with this answer
pub record Gives {A : Type 0} (m : M A) (x : A) : Type 0 where
  pub from : State
  pub after : State
  pub ends : m from ≡ Done x after

-- a well formed value, neither a reference nor a pointer
pub record IsProper (x : Instance) : Type 0 where
  pub formed : IsWellFormed x
  pub no_handle : is_handle (type_of x) ≡ false

-- such a value, of this type
pub record IsOfType (t : ShaderType) (x : Instance) : Type 0 where
  pub proper : IsProper x
  pub typed : type_of x ≡ t

-- ---- what is known

abbrev pub AreProper : Known → Type 0
AreProper known = All (λ b. IsProper b.1) known

-- a local's value, where it is known
abbrev pub IsProperLocal : Local → Type 0
IsProperLocal (Has x) = IsProper x
IsProperLocal (Hidden t) = Unit {0}

abbrev pub AreProperLocals : Env → Type 0
AreProperLocals env = All (λ b. IsProperLocal b.1) env

-- the locals with their types alone
abbrev pub local_types : Env → List (Name × ShaderType)
local_types env = map (λ b. (b.0, local_type b.1)) env

-- ---- what a function hands back

abbrev pub IsProperResult : Option Instance → Type 0
IsProperResult (Some x) = IsProper x
IsProperResult None = Unit {0}

-- a value of the function's type, or nothing where it has none
abbrev pub IsOfResultType : Option ShaderType → Option Instance → Type 0
IsOfResultType (Some t) (Some x) = IsOfType t x
IsOfResultType None None = Unit {0}
IsOfResultType t x = ⊥

-- ---- what is handed in

abbrev pub AreWellFormed : Handed → Type 0
AreWellFormed handed = (n : ℕ) (x : Instance) → handed.inputs n ≡ Some x → IsWellFormed x

-- ---- laws

-- The value of an expression is proper, where known values and locals are
abbrev pub ValuesAreProper : Type 0
ValuesAreProper = (p : Program) (known : Known) (k : ℕ) (m : Path) (stage : ShaderStage) (env : Env) (e : Exp) (x : Instance)
    → AreProper known → AreProperLocals env → Gives (value (world p known k m) stage env e) x → IsProper x

-- It has the type of the expression. The typing may hide values of locals, and go by another bound
abbrev pub ValuesHaveTheirTypes : Type 0
ValuesHaveTheirTypes = (p : Program) (known : Known) (j k : ℕ) (m : Path) (stage : ShaderStage) (hidden env : Env) (e : Exp) (t : ShaderType) (x : Instance)
    → AreProper known → AreProperLocals env → local_types hidden ≡ local_types env
    → Gives (typed (world p known j m) hidden e) t → Gives (value (world p known k m) stage env e) x → IsOfType t x

-- What a function hands back has its type
abbrev pub ResultsHaveTheirTypes : Type 0
ResultsHaveTheirTypes = (p : Program) (known : Known) (k : ℕ) (stage : ShaderStage) (f : Symbol) (xs : List Instance) (t : Option ShaderType) (x : Option Instance)
    → AreProper known → All IsProper xs → Gives (result_of_function p known f) t → Gives (calls_inside p known k stage f xs) x → IsOfResultType t x

-- The start makes proper values known
abbrev pub StartedValuesAreProper : Type 0
StartedValuesAreProper = (p : Program) (k : ℕ) (known after : Known) (order : List Symbol) → AreProper known → Gives (started p k known order) after → AreProper after

-- What a run answers has the type of its entry point's result. (No value is in that type.)
abbrev pub RunsHaveTheirTypes : Type 0
RunsHaveTheirTypes = (p : Program) (k : ℕ) (order : List Symbol) (s : Symbol) (handed : Handed) (known : Known) (t : Option ShaderType) (answer : Option Instance)
    → AreWellFormed handed → Gives (result_of_function p known s) t → Gives (run p k order s handed) answer → IsOfResultType t answer
