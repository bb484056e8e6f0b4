-- Trees without places: what a text says, whatever its layout. Printing, linking and meaning are defined on these; two code
-- trees are equal where these are (`View`).
use Rattle.std.specs.Prelude.{ℕ, List, [], ◌∷◌, Option}
use Rattle.wgsl_words.specs.declared.operators.UnaryOperator.{UnaryOperator}
use Rattle.wgsl_words.specs.declared.operators.BinaryOperator.{BinaryOperator}
use Rattle.wgsl_path.specs.declared.path.ModulePath.{ModulePath}
use Rattle.core_syntax.specs.declared.expression.LiteralExpression.{LiteralExpression}
use Rattle.core_syntax.specs.declared.declaration.DeclarationKind.{DeclarationKind}

mutual
  -- an expression
  pub data Exp : Type 0 where
    literal : LiteralExpression → Exp
    parenthesized : Exp → Exp
    unary : UnaryOperator → Exp → Exp
    binary : BinaryOperator → Exp → Exp → Exp
    call : Typ → Exps → Exp
    named : Typ → Exp

  -- a list of expressions
  pub data Exps : Type 0 where
    nil : Exps
    cons : Exp → Exps → Exps

  -- a name, maybe behind the path of a module: plain, or with template arguments
  pub data Typ : Type 0 where
    simple : Option ModulePath → List ℕ → Typ
    templated : Option ModulePath → List ℕ → Exps → Typ

abbrev pub exps : List Exp → Exps
exps [] = nil
exps (x ∷ xs) = cons x (exps xs)

pub data Attr : Type 0 where
  fragment : Attr
  location : Exp → Attr

pub data Stm : Type 0 where
  returning : List Attr → Option Exp → Stm

pub record Block : Type 0 where
  pub attributes : List Attr
  pub statements : List Stm

pub record Param : Type 0 where
  pub attributes : List Attr
  pub name : List ℕ
  pub type : Typ

-- a declaration of a module: of a value or of a function
pub data Decl : Type 0 where
  variable : List Attr → DeclarationKind → List ℕ → Option Typ → Option Exp → Decl
  function : List Attr → List ℕ → List Param → List Attr → Option Typ → Block → Decl

-- an import: the path of a module, an item there, and maybe another name for it
pub record Imp : Type 0 where
  pub attributes : List Attr
  pub path : Option ModulePath
  pub item : List ℕ
  pub rename : Option (List ℕ)

pub record UnitTree : Type 0 where
  pub imports : List Imp
  pub declarations : List Decl
