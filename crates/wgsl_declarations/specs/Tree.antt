-- Declarations and modules without places: what a text says, whatever its layout. A `;` alone is no declaration.
use Rattle.std.specs.Prelude.{ℕ, List, Option}
use Rattle.wgsl_declarations.specs.ExpressionsTree.{Exp, Typ}
use Rattle.wgsl_declarations.specs.AttributesTree.{Attr}
use Rattle.wgsl_statements.specs.DeclarationKind.{DeclarationKind}
use Rattle.wgsl_statements.specs.Tree.{Block}
use Rattle.wgsl_declarations.specs.ImportsTree.{Importing, Directive}

-- a member of a structure (WGSL, "Structure Types")
pub record Member : Type 0 where
  pub attributes : List Attr
  pub name : List ℕ
  pub type : Typ

-- a parameter of a function (WGSL, "Functions")
pub record Param : Type 0 where
  pub attributes : List Attr
  pub name : List ℕ
  pub type : Typ

-- a declaration of a module: of a value, another name for a type, a structure, a function, or what has to be true
pub data Decl : Type 0 where
  variable : List Attr → DeclarationKind → List ℕ → Option Typ → Option Exp → Decl
  alias : List Attr → List ℕ → Typ → Decl
  structure : List Attr → List ℕ → List Member → Decl
  function : List Attr → List ℕ → List Param → List Attr → Option Typ → Block → Decl
  assertion : List Attr → Exp → Decl

-- a module
pub record UnitTree : Type 0 where
  pub imports : List Importing
  pub directives : List Directive
  pub declarations : List Decl
