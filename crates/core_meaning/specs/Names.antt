-- Names: of types, of built-in constructors, of parameters (WGSL, "Declaration and Scope").
use Rattle.std.specs.Prelude.{ℕ, List, [], ◌∷◌, Option, Some, None, Ok, Err, codes, if◌then◌else◌}
use Rattle.std.specs.Str.{bytes_eq}
use Rattle.core_syntax.specs.ModulePath.{ModulePath}
use Rattle.core_syntax.specs.Tree.{Typ, simple, templated, Decl}
use Rattle.core_syntax.specs.Names.{declared_name}
use Rattle.wgsl_scalar.specs.declared.scalar.ScalarType.{ScalarType}
use Rattle.wgsl_scalar.specs.declared.scalar.ScalarType.TheVariants.{Integer}
use Rattle.wgsl_scalar.specs.declared.scalar.IntegerType.TheVariants.{I32, U32}
use Rattle.core_meaning.specs.declared.fault.Fault.TheVariants.{Name as Named}
use Rattle.core_meaning.specs.declared.fault.NameFault.TheVariants.{Todo, UnexpectedTemplate, UnknownDecl}
use Rattle.core_meaning.specs.Values.{Checked}

abbrev pub Name : Type 0
Name = List ℕ

-- a declaration's module and name
pub record Symbol : Type 0 where
  pub home : ModulePath
  pub called : Name

-- what stands first under a name
abbrev pub find : {A : Type 0} → Name → List (Name × A) → Option A
find x [] = None
find x (b ∷ bs) = if bytes_eq x b.0 then Some b.1 else find x bs

-- the first declaration of a name
abbrev pub find_decl : Name → List Decl → Option Decl
find_decl x [] = None
find_decl x (d ∷ ds) = if bytes_eq x (declared_name d) then Some d else find_decl x ds

-- the types that texts name (WGSL, "Predeclared Types"). Of the others none is evaluated yet
abbrev pub built_in_type : Name → Checked ScalarType
built_in_type x = if bytes_eq x (codes "i32") then Ok (Integer I32) else if bytes_eq x (codes "u32") then Ok (Integer U32) else Err (Named Todo x)

-- a plain name, without path and template arguments
abbrev pub plain_name : Typ → Checked Name
plain_name (simple None x) = Ok x
plain_name (simple (Some path) x) = Err (Named UnknownDecl x)
plain_name (templated None x arguments) = Err (Named UnexpectedTemplate x)
plain_name (templated (Some path) x arguments) = Err (Named UnknownDecl x)
