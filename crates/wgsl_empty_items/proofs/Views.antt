-- The statement that a code tree stands for, behind a map of its parts.
use Rattle.std.proofs.Common.{◌≡◌, refl, ap, List, [], ◌∷◌, map, Option, Some, None}
use Rattle.std.specs.Option.{option_map}
use Rattle.wgsl_path.specs.declared.span.Spanned.{Spanned}
use Rattle.wgsl_expressions.specs.View.{node_tree}
use Rattle.wgsl_expressions.specs.AttributesView.{attributes_tree}
use Rattle.wgsl_simple_statements.specs.View.{break_if_tree, selector_tree}
use Rattle.wgsl_statements.specs.declared.statement.CompoundStatementOf.{CompoundStatementOf}
use Rattle.wgsl_statements.specs.declared.statement.IfStatementOf.{IfStatementOf}
use Rattle.wgsl_statements.specs.declared.statement.ElseIfClauseOf.{ElseIfClauseOf}
use Rattle.wgsl_statements.specs.declared.statement.ElseClauseOf.{ElseClauseOf}
use Rattle.wgsl_statements.specs.declared.statement.SwitchStatementOf.{SwitchStatementOf}
use Rattle.wgsl_statements.specs.declared.statement.SwitchClauseOf.{SwitchClauseOf}
use Rattle.wgsl_statements.specs.declared.statement.LoopStatementOf.{LoopStatementOf}
use Rattle.wgsl_statements.specs.declared.statement.ContinuingStatementOf.{ContinuingStatementOf}
use Rattle.wgsl_statements.specs.declared.statement.ForStatementOf.{ForStatementOf}
use Rattle.wgsl_statements.specs.declared.statement.Statement.{map-Statement}
use Rattle.wgsl_statements.specs.declared.statement.Statement.TheOpen.{Statement-F}
use Rattle.wgsl_statements.specs.Tree.{Stm, compound_statement, if_statement, switch_statement, loop_statement, for_statement, while_statement, Block, block, else_clause, else_if_clause, switch_clause, no_continuing, continuing_statement}
use Rattle.wgsl_empty_items.proofs.Layers.{map-map}
use Rattle.wgsl_statements.specs.View.{stms, block_layer, else_layer, elses_layer, clauses_layer, part_layer, layer}

module _ {A B : Type 0} (g : B → Option Stm) (f : A → B) where
  abbrev both : A → Option Stm
  both a = g (f a)

  abbrev node_map : Spanned A → Spanned B
  node_map n = record { node = f n.node; span = n.span }

  abbrev body_map : CompoundStatementOf A → CompoundStatementOf B
  body_map x = record { attributes = x.attributes; statements = map node_map x.statements }

  abbrev else_if_map : ElseIfClauseOf A → ElseIfClauseOf B
  else_if_map c = record { expression = c.expression; body = body_map c.body }

  abbrev else_map : ElseClauseOf A → ElseClauseOf B
  else_map c = record { body = body_map c.body }

  abbrev clause_map : SwitchClauseOf A → SwitchClauseOf B
  clause_map c = record { case_selectors = c.case_selectors; body = body_map c.body }

  block-map : (x : CompoundStatementOf A) → block_layer g (body_map x) ≡ block_layer both x
  block-map x = ap (λ t. block (attributes_tree x.attributes) (stms t)) (map-map (λ n. g n.node) node_map x.statements)

  elses-map : (cs : List (ElseIfClauseOf A)) (last : Option (ElseClauseOf B)) (last' : Option (ElseClauseOf A)) → else_layer g last ≡ else_layer both last'
      → elses_layer g (map else_if_map cs) last ≡ elses_layer both cs last'
  elses-map [] last last' same = same
  elses-map (c ∷ cs) last last' same = λ k. else_if_clause (node_tree c.expression) (block-map c.body k) (elses-map cs last last' same k)

  clauses-map : (cs : List (SwitchClauseOf A)) → clauses_layer g (map clause_map cs) ≡ clauses_layer both cs
  clauses-map [] = refl
  clauses-map (c ∷ cs) = λ k. switch_clause (map selector_tree c.case_selectors) (block-map c.body k) (clauses-map cs k)

  abbrev Same : Statement-F A → Type 0
  Same x = layer g (map-Statement A B f x) ≡ layer both x

  abbrev with_else : IfStatementOf A → Option (ElseClauseOf A) → IfStatementOf A
  with_else x o = record { attributes = x.attributes; if_clause = x.if_clause; else_if_clauses = x.else_if_clauses; else_clause = o }

  if-map : (x : IfStatementOf A) (o : Option (ElseClauseOf A)) → Same (Statement-F.If (with_else x o))
  if-map x None = λ k.
      Some (if_statement (attributes_tree x.attributes) (node_tree x.if_clause.expression) (block-map x.if_clause.body k)
      (elses-map x.else_if_clauses None None refl k))
  if-map x (Some c) = λ k.
      Some (if_statement (attributes_tree x.attributes) (node_tree x.if_clause.expression) (block-map x.if_clause.body k)
      (elses-map x.else_if_clauses (Some (else_map c)) (Some c) (ap else_clause (block-map c.body)) k))

  switch-map : (x : SwitchStatementOf A) → Same (Statement-F.Switch x)
  switch-map x = ap (λ t. Some (switch_statement (attributes_tree x.attributes) (node_tree x.expression) (attributes_tree x.body_attributes) t)) (clauses-map x.clauses)

  abbrev with_continuing : LoopStatementOf A → Option (ContinuingStatementOf A) → LoopStatementOf A
  with_continuing x o = record { attributes = x.attributes; body = x.body; continuing = o }

  loop-map : (x : LoopStatementOf A) (o : Option (ContinuingStatementOf A)) → Same (Statement-F.Loop (with_continuing x o))
  loop-map x None = ap (λ t. Some (loop_statement (attributes_tree x.attributes) t no_continuing)) (block-map x.body)
  loop-map x (Some c) = λ k.
      Some (loop_statement (attributes_tree x.attributes) (block-map x.body k)
      (continuing_statement (attributes_tree c.attributes) (block-map c.body k) (option_map break_if_tree c.break_if)))

  abbrev with_parts : ForStatementOf A → Option (Spanned A) → Option (Spanned A) → ForStatementOf A
  with_parts x i u = record { attributes = x.attributes; initializer = i; condition = x.condition; update = u; body = x.body }

  abbrev for_of : ForStatementOf A → Option (Spanned A) → Option (Spanned A) → Block → Option Stm
  for_of x i u b = Some (for_statement (attributes_tree x.attributes) (part_layer both i) (option_map node_tree x.condition) (part_layer both u) b)

  for-map : (x : ForStatementOf A) (i u : Option (Spanned A)) → Same (Statement-F.For (with_parts x i u))
  for-map x None None = ap (for_of x None None) (block-map x.body)
  for-map x None (Some u) = ap (for_of x None (Some u)) (block-map x.body)
  for-map x (Some i) None = ap (for_of x (Some i) None) (block-map x.body)
  for-map x (Some i) (Some u) = ap (for_of x (Some i) (Some u)) (block-map x.body)

  pub view-map : (x : Statement-F A) → Same x
  view-map Statement-F.Void = refl
  view-map (Statement-F.Compound x) = ap (λ t. Some (compound_statement t)) (block-map x)
  view-map (Statement-F.Assignment x) = refl
  view-map (Statement-F.Increment x) = refl
  view-map (Statement-F.Decrement x) = refl
  view-map (Statement-F.If x) = if-map x x.else_clause
  view-map (Statement-F.Switch x) = switch-map x
  view-map (Statement-F.Loop x) = loop-map x x.continuing
  view-map (Statement-F.For x) = for-map x x.initializer x.update
  view-map (Statement-F.While x) = ap (λ t. Some (while_statement (attributes_tree x.attributes) (node_tree x.condition) t)) (block-map x.body)
  view-map (Statement-F.Break x) = refl
  view-map (Statement-F.Continue x) = refl
  view-map (Statement-F.Return x) = refl
  view-map (Statement-F.Discard x) = refl
  view-map (Statement-F.FunctionCall x) = refl
  view-map (Statement-F.ConstAssert x) = refl
  view-map (Statement-F.Declaration x) = refl
