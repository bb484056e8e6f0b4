-- What names of a plain unit mean where they are called, or name a type.
use Rattle.std.specs.Prelude.{List, Option, Some, None, Err, []}
use Rattle.core_syntax.specs.ModulePath.{ModulePath}
use Rattle.core_syntax.specs.PathOrigin.TheVariants.{Absolute}
use Rattle.core_syntax.specs.Tree.{Decl}
use Rattle.wgsl_words.specs.declared.enumerations.words.ShaderStage.{ShaderStage}
use Rattle.wgsl_words.specs.declared.enumerations.words.ShaderStage.TheVariants.{Const, Override, Exec}
use Rattle.wgsl_shader_type.specs.declared.literal.LiteralInstance.{LiteralInstance}
use Rattle.wgsl_scalar.specs.declared.scalar.ScalarType.{ScalarType}
use Rattle.core_meaning.specs.declared.fault.Fault.TheVariants.{Name as Named}
use Rattle.core_meaning.specs.declared.fault.NameFault.TheVariants.{NotType, Todo}
use Rattle.core_meaning.specs.Values.{Checked}
use Rattle.core_meaning.specs.Outcome.{Outcome, Failed, bind, at_once}
use Rattle.core_meaning.specs.Names.{Name, Symbol, built_in_type}
use Rattle.core_meaning.specs.Meaning.{construct}

-- ---- a plain unit: one module, without imports

abbrev pub root : ModulePath
root = record { origin = Absolute; components = [] }

abbrev pub here : Name → Symbol
here x = record { home = root; called = x }

abbrev pub here_if : Name → Option Decl → Option Symbol
here_if x (Some d) = Some (here x)
here_if x None = None

-- ---- callees and types

-- a function, else a built-in constructor. A call of a function is evaluated when the shader runs; of constant expressions it
-- isn't yet
abbrev pub called_at : ShaderStage → Name → Option Symbol → (Symbol → List LiteralInstance → Outcome LiteralInstance) → List LiteralInstance → Outcome LiteralInstance
called_at Exec f (Some s) inner vs = inner s vs
called_at Const f (Some s) inner vs = Failed (Named Todo f)
called_at Override f (Some s) inner vs = Failed (Named Todo f)
called_at stage f None inner vs = bind (at_once (built_in_type f)) (λ t. construct f t vs)

abbrev pub type_at : Name → Option Symbol → Checked ScalarType
type_at x (Some s) = Err (Named NotType x)
type_at x None = built_in_type x
