-- Names and what they denote (WGSL, "Declaration and Scope").
use Rattle.std.specs.Prelude.{ℕ, List, [], ◌∷◌, Option, Some, None, Ok, Err, Bool, ◌&&◌, codes, if◌then◌else◌}
use Rattle.std.specs.Str.{bytes_eq}
use Rattle.wgsl_shader_type.specs.declared.tree.ShaderType.{ShaderType}
use Rattle.wgsl_shader_type.specs.declared.tree.ShaderType.TheVariants as type
use Rattle.wgsl_instance.specs.declared.tree.Instance.{Instance}
use Rattle.wgsl_instance.specs.Typed.{type_of}
use Rattle.core_programs.specs.Faults.{OfName, Todo}
use Rattle.core_programs.specs.Computing.{Checked}

abbrev pub Name : Type 0
Name = List ℕ

-- a module, by its printed path
abbrev pub Path : Type 0
Path = List ℕ

-- a declaration's module and name
pub record Symbol : Type 0 where
  pub home : Path
  pub called : Name

abbrev pub is_same : Symbol → Symbol → Bool
is_same s t = bytes_eq s.home t.home && bytes_eq s.called t.called

-- ---- locals

-- a local with its value, or one whose value isn't known, of a type
pub data Local : Type 0 where
  Has : Instance → Local
  Hidden : ShaderType → Local

abbrev pub Env : Type 0
Env = List (Name × Local)

abbrev pub local_type : Local → ShaderType
local_type (Has v) = type_of v
local_type (Hidden t) = t

-- the nearest local of a name
abbrev pub find : {A : Type 0} → Name → List (Name × A) → Option A
find x [] = None
find x (b ∷ bs) = if bytes_eq x b.0 then Some b.1 else find x bs

-- ---- written names

-- the built-in types that are evaluated (WGSL, "Predeclared Types")
abbrev pub built_in_type : Name → Checked ShaderType
built_in_type x = if bytes_eq x (codes "i32") then Ok type.I32 else if bytes_eq x (codes "u32") then Ok type.U32 else Err (OfName Todo x)
