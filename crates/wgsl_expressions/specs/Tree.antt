-- Expressions without places: what a text says, whatever its layout. Two code trees are equal where these are (`View`).
use Rattle.std.specs.Prelude.{ℕ, List, [], ◌∷◌, Option}
use Rattle.wgsl_words.specs.declared.operators.UnaryOperator.{UnaryOperator}
use Rattle.wgsl_words.specs.declared.operators.BinaryOperator.{BinaryOperator}
use Rattle.wgsl_path.specs.declared.path.ModulePath.{ModulePath}
use Rattle.wgsl_expressions.specs.declared.expression.LiteralExpression.{LiteralExpression}

mutual
  -- an expression (WGSL, "Expressions")
  pub data Exp : Type 0 where
    literal : LiteralExpression → Exp
    parenthesized : Exp → Exp
    component : Exp → List ℕ → Exp
    indexed : Exp → Exp → Exp
    unary : UnaryOperator → Exp → Exp
    binary : BinaryOperator → Exp → Exp → Exp
    call : Typ → Exps → Exp
    named : Typ → Exp

  -- a list of expressions
  pub data Exps : Type 0 where
    nil : Exps
    cons : Exp → Exps → Exps

  -- a name, maybe behind the path of a module: plain, or with template arguments
  pub data Typ : Type 0 where
    simple : Option ModulePath → List ℕ → Typ
    templated : Option ModulePath → List ℕ → Exps → Typ

abbrev pub exps : List Exp → Exps
exps [] = nil
exps (x ∷ xs) = cons x (exps xs)
