-- How many empty items there are, behind a map of a statement's parts.
use Rattle.std.proofs.Common.{◌≡◌, refl, ap, ◌∙◌, ℕ, ◌+◌, List, [], ◌∷◌, map, Option, Some, None}
use Rattle.wgsl_path.specs.declared.span.Spanned.{Spanned}
use Rattle.wgsl_statements.specs.declared.statement.CompoundStatementOf.{CompoundStatementOf}
use Rattle.wgsl_statements.specs.declared.statement.IfStatementOf.{IfStatementOf}
use Rattle.wgsl_statements.specs.declared.statement.ElseIfClauseOf.{ElseIfClauseOf}
use Rattle.wgsl_statements.specs.declared.statement.ElseClauseOf.{ElseClauseOf}
use Rattle.wgsl_statements.specs.declared.statement.SwitchClauseOf.{SwitchClauseOf}
use Rattle.wgsl_statements.specs.declared.statement.LoopStatementOf.{LoopStatementOf}
use Rattle.wgsl_statements.specs.declared.statement.ContinuingStatementOf.{ContinuingStatementOf}
use Rattle.wgsl_statements.specs.declared.statement.ForStatementOf.{ForStatementOf}
use Rattle.wgsl_statements.specs.declared.statement.Statement.{Statement, out-Statement, map-Statement, fold_out-Statement}
use Rattle.wgsl_statements.specs.declared.statement.Statement.TheOpen.{Statement-F}
use Rattle.wgsl_empty_items.specs.Counts.{in_nodes, in_block, in_else_ifs, in_clauses, in_layer, voids}

module _ {A : Type 0} (f : A → ℕ) where
  abbrev node_map : Spanned A → Spanned ℕ
  node_map n = record { node = f n.node; span = n.span }

  abbrev body_map : CompoundStatementOf A → CompoundStatementOf ℕ
  body_map x = record { attributes = x.attributes; statements = map node_map x.statements }

  abbrev else_if_map : ElseIfClauseOf A → ElseIfClauseOf ℕ
  else_if_map c = record { expression = c.expression; body = body_map c.body }

  abbrev clause_map : SwitchClauseOf A → SwitchClauseOf ℕ
  clause_map c = record { case_selectors = c.case_selectors; body = body_map c.body }

  abbrev itself : ℕ → ℕ
  itself n = n

  nodes-count : (ns : List (Spanned A)) → in_nodes itself (map node_map ns) ≡ in_nodes f ns
  nodes-count [] = refl
  nodes-count (n ∷ ns) = ap (λ t. f n.node + t) (nodes-count ns)

  block-count : (x : CompoundStatementOf A) → in_block itself (body_map x) ≡ in_block f x
  block-count x = nodes-count x.statements

  else-ifs-count : (cs : List (ElseIfClauseOf A)) → in_else_ifs itself (map else_if_map cs) ≡ in_else_ifs f cs
  else-ifs-count [] = refl
  else-ifs-count (c ∷ cs) = λ k. block-count c.body k + else-ifs-count cs k

  clauses-count : (cs : List (SwitchClauseOf A)) → in_clauses itself (map clause_map cs) ≡ in_clauses f cs
  clauses-count [] = refl
  clauses-count (c ∷ cs) = λ k. block-count c.body k + clauses-count cs k

  abbrev Same : Statement-F A → Type 0
  Same x = in_layer itself (map-Statement A ℕ f x) ≡ in_layer f x

  abbrev if_of : IfStatementOf A → Option (ElseClauseOf A) → IfStatementOf A
  if_of x o = record { attributes = x.attributes; if_clause = x.if_clause; else_if_clauses = x.else_if_clauses; else_clause = o }

  if-count : (x : IfStatementOf A) (o : Option (ElseClauseOf A)) → Same (Statement-F.If (if_of x o))
  if-count x None = λ k. block-count x.if_clause.body k + (else-ifs-count x.else_if_clauses k + 0)
  if-count x (Some c) = λ k. block-count x.if_clause.body k + (else-ifs-count x.else_if_clauses k + block-count c.body k)

  abbrev loop_of : LoopStatementOf A → Option (ContinuingStatementOf A) → LoopStatementOf A
  loop_of x o = record { attributes = x.attributes; body = x.body; continuing = o }

  loop-count : (x : LoopStatementOf A) (o : Option (ContinuingStatementOf A)) → Same (Statement-F.Loop (loop_of x o))
  loop-count x None = λ k. block-count x.body k + 0
  loop-count x (Some c) = λ k. block-count x.body k + block-count c.body k

  abbrev for_of : ForStatementOf A → Option (Spanned A) → Option (Spanned A) → ForStatementOf A
  for_of x i u = record { attributes = x.attributes; initializer = i; condition = x.condition; update = u; body = x.body }

  for-count : (x : ForStatementOf A) (i u : Option (Spanned A)) → Same (Statement-F.For (for_of x i u))
  for-count x None None = λ k. 0 + (0 + block-count x.body k)
  for-count x None (Some u) = λ k. 0 + (f u.node + block-count x.body k)
  for-count x (Some i) None = λ k. f i.node + (0 + block-count x.body k)
  for-count x (Some i) (Some u) = λ k. f i.node + (f u.node + block-count x.body k)

  pub layer-count : (x : Statement-F A) → Same x
  layer-count Statement-F.Void = refl
  layer-count (Statement-F.Compound x) = block-count x
  layer-count (Statement-F.Assignment x) = refl
  layer-count (Statement-F.Increment x) = refl
  layer-count (Statement-F.Decrement x) = refl
  layer-count (Statement-F.If x) = if-count x x.else_clause
  layer-count (Statement-F.Switch x) = clauses-count x.clauses
  layer-count (Statement-F.Loop x) = loop-count x x.continuing
  layer-count (Statement-F.For x) = for-count x x.initializer x.update
  layer-count (Statement-F.While x) = block-count x.body
  layer-count (Statement-F.Break x) = refl
  layer-count (Statement-F.Continue x) = refl
  layer-count (Statement-F.Return x) = refl
  layer-count (Statement-F.Discard x) = refl
  layer-count (Statement-F.FunctionCall x) = refl
  layer-count (Statement-F.ConstAssert x) = refl
  layer-count (Statement-F.Declaration x) = refl

pub voids_out : (s : Statement) → voids s ≡ in_layer voids (out-Statement s)
voids_out s = fold_out-Statement ℕ (in_layer (λ n. n)) s ∙ layer-count voids (out-Statement s)
