-- How many empty items there are. An empty item is a `;` alone.
use Rattle.std.specs.Prelude.{ℕ, ◌+◌, List, [], ◌∷◌, Option, Some, None}
use Rattle.wgsl_path.specs.declared.span.Spanned.{Spanned}
use Rattle.wgsl_statements.specs.declared.statement.Statement.{Statement, fold-Statement}
use Rattle.wgsl_statements.specs.declared.statement.Statement.TheOpen.{Statement-F}
use Rattle.wgsl_statements.specs.declared.statement.CompoundStatementOf.{CompoundStatementOf}
use Rattle.wgsl_statements.specs.declared.statement.ElseIfClauseOf.{ElseIfClauseOf}
use Rattle.wgsl_statements.specs.declared.statement.ElseClauseOf.{ElseClauseOf}
use Rattle.wgsl_statements.specs.declared.statement.SwitchClauseOf.{SwitchClauseOf}
use Rattle.wgsl_statements.specs.declared.statement.ContinuingStatementOf.{ContinuingStatementOf}
use Rattle.wgsl_declarations.specs.declared.declaration.GlobalDeclaration.{GlobalDeclaration}
use Rattle.wgsl_declarations.specs.declared.declaration.GlobalDeclaration.TheVariants as code
use Rattle.wgsl_declarations.specs.declared.unit.TranslationUnit.{TranslationUnit}

-- in a node, from how many there are in its parts
module _ {A : Type 0} (f : A → ℕ) where
  abbrev pub in_nodes : List (Spanned A) → ℕ
  in_nodes [] = 0
  in_nodes (n ∷ ns) = f n.node + in_nodes ns

  abbrev pub in_block : CompoundStatementOf A → ℕ
  in_block x = in_nodes x.statements

  abbrev pub in_else_ifs : List (ElseIfClauseOf A) → ℕ
  in_else_ifs [] = 0
  in_else_ifs (c ∷ cs) = in_block c.body + in_else_ifs cs

  abbrev pub in_else : Option (ElseClauseOf A) → ℕ
  in_else None = 0
  in_else (Some c) = in_block c.body

  abbrev pub in_clauses : List (SwitchClauseOf A) → ℕ
  in_clauses [] = 0
  in_clauses (c ∷ cs) = in_block c.body + in_clauses cs

  abbrev pub in_continuing : Option (ContinuingStatementOf A) → ℕ
  in_continuing None = 0
  in_continuing (Some x) = in_block x.body

  abbrev pub in_part : Option (Spanned A) → ℕ
  in_part None = 0
  in_part (Some n) = f n.node

  -- a `;` alone counts itself
  abbrev pub in_layer : Statement-F A → ℕ
  in_layer Statement-F.Void = 1
  in_layer (Statement-F.Compound x) = in_block x
  in_layer (Statement-F.If x) = in_block x.if_clause.body + (in_else_ifs x.else_if_clauses + in_else x.else_clause)
  in_layer (Statement-F.Switch x) = in_clauses x.clauses
  in_layer (Statement-F.Loop x) = in_block x.body + in_continuing x.continuing
  in_layer (Statement-F.For x) = in_part x.initializer + (in_part x.update + in_block x.body)
  in_layer (Statement-F.While x) = in_block x.body
  in_layer (Statement-F.Assignment x) = 0
  in_layer (Statement-F.Increment x) = 0
  in_layer (Statement-F.Decrement x) = 0
  in_layer (Statement-F.Break x) = 0
  in_layer (Statement-F.Continue x) = 0
  in_layer (Statement-F.Return x) = 0
  in_layer (Statement-F.Discard x) = 0
  in_layer (Statement-F.FunctionCall x) = 0
  in_layer (Statement-F.ConstAssert x) = 0
  in_layer (Statement-F.Declaration x) = 0

-- how many empty items there are in a statement, at every depth; a `;` alone is one
abbrev pub voids : Statement → ℕ
voids = fold-Statement ℕ (in_layer (λ n. n))

abbrev pub voids_in_declaration : GlobalDeclaration → ℕ
voids_in_declaration code.Void = 1
voids_in_declaration (code.Function x) = in_block voids x.body
voids_in_declaration (code.Declaration x) = 0
voids_in_declaration (code.TypeAlias x) = 0
voids_in_declaration (code.Struct x) = 0
voids_in_declaration (code.ConstAssert x) = 0

-- how many empty items there are in a module, at every depth
abbrev pub voids_in_declarations : List (Spanned GlobalDeclaration) → ℕ
voids_in_declarations [] = 0
voids_in_declarations (n ∷ ns) = voids_in_declaration n.node + voids_in_declarations ns

abbrev pub voids_in_unit : TranslationUnit → ℕ
voids_in_unit u = voids_in_declarations u.global_declarations
