-- What each kind of statement stands for, from what its parts stand for.
use Rattle.std.proofs.Common.{◌≡◌, refl, ap, ◌∙◌, List, [], ◌∷◌, map, Option, Some, None}
use Rattle.std.specs.Option.{option_map}
use Rattle.wgsl_simple_statements.specs.Spanned.{Spanned}
use Rattle.wgsl_simple_statements.specs.ExpressionsView.{node_tree}
use Rattle.wgsl_simple_statements.specs.AttributesView.{attributes_tree}
use Rattle.wgsl_simple_statements.specs.declared.declaration.Declaration.{Declaration}
use Rattle.wgsl_simple_statements.specs.declared.declaration.ConstAssert.{ConstAssert}
use Rattle.wgsl_simple_statements.specs.declared.statement.AssignmentStatement.{AssignmentStatement}
use Rattle.wgsl_simple_statements.specs.declared.statement.IncrementStatement.{IncrementStatement}
use Rattle.wgsl_simple_statements.specs.declared.statement.DecrementStatement.{DecrementStatement}
use Rattle.wgsl_simple_statements.specs.declared.statement.BreakStatement.{BreakStatement}
use Rattle.wgsl_simple_statements.specs.declared.statement.ContinueStatement.{ContinueStatement}
use Rattle.wgsl_simple_statements.specs.declared.statement.ReturnStatement.{ReturnStatement}
use Rattle.wgsl_simple_statements.specs.declared.statement.DiscardStatement.{DiscardStatement}
use Rattle.wgsl_simple_statements.specs.declared.statement.FunctionCallStatement.{FunctionCallStatement}
use Rattle.wgsl_simple_statements.specs.View.{assignment_tree, increment_tree, decrement_tree, break_tree, continue_tree, return_tree, discard_tree, call_tree, assertion_tree, value_tree, break_if_tree, selector_tree}
use Rattle.wgsl_statements.specs.declared.statement.CompoundStatementOf.{CompoundStatementOf}
use Rattle.wgsl_statements.specs.declared.statement.IfStatementOf.{IfStatementOf}
use Rattle.wgsl_statements.specs.declared.statement.ElseIfClauseOf.{ElseIfClauseOf}
use Rattle.wgsl_statements.specs.declared.statement.ElseClauseOf.{ElseClauseOf}
use Rattle.wgsl_statements.specs.declared.statement.SwitchStatementOf.{SwitchStatementOf}
use Rattle.wgsl_statements.specs.declared.statement.SwitchClauseOf.{SwitchClauseOf}
use Rattle.wgsl_statements.specs.declared.statement.LoopStatementOf.{LoopStatementOf}
use Rattle.wgsl_statements.specs.declared.statement.ContinuingStatementOf.{ContinuingStatementOf}
use Rattle.wgsl_statements.specs.declared.statement.ForStatementOf.{ForStatementOf}
use Rattle.wgsl_statements.specs.declared.statement.WhileStatementOf.{WhileStatementOf}
use Rattle.wgsl_statements.specs.declared.statement.Statement.{Statement, out-Statement, map-Statement, fold_out-Statement}
use Rattle.wgsl_statements.specs.declared.statement.Statement.TheOpen.{Statement-F}
use Rattle.wgsl_statements.specs.declared.statement.Statement.TheVariants.{Void, outs-Void, Compound, outs-Compound, Assignment, outs-Assignment, Increment, outs-Increment, Decrement, outs-Decrement, If, outs-If, Switch, outs-Switch, Loop, outs-Loop, For, outs-For, While, outs-While, Break, outs-Break, Continue, outs-Continue, Return, outs-Return, Discard, outs-Discard, FunctionCall, outs-FunctionCall, ConstAssert as Assert, outs-ConstAssert, Declaration as Value, outs-Declaration}
use Rattle.wgsl_statements.specs.Tree.{Stm, simple, compound_statement, if_statement, switch_statement, loop_statement, for_statement, while_statement, Block, block, else_clause, else_if_clause, switch_clause, no_continuing, continuing_statement}
use Rattle.wgsl_statements.specs.View.{stms, block_layer, else_layer, elses_layer, if_layer, clauses_layer, switch_layer, loop_layer, part_layer, for_layer, while_layer, layer, statement_tree, block_tree}

map-map : {A B C : Type 0} (f : B → C) (h : A → B) (xs : List A) → map f (map h xs) ≡ map (λ x. f (h x)) xs
map-map f h [] = refl
map-map f h (x ∷ xs) = ap (λ t. f (h x) ∷ t) (map-map f h xs)

module _ {A : Type 0} (f : A → Option Stm) where
  abbrev node_map : Spanned A → Spanned (Option Stm)
  node_map n = record { node = f n.node; span = n.span }

  abbrev body_map : CompoundStatementOf A → CompoundStatementOf (Option Stm)
  body_map x = record { attributes = x.attributes; statements = map node_map x.statements }

  abbrev else_if_map : ElseIfClauseOf A → ElseIfClauseOf (Option Stm)
  else_if_map c = record { expression = c.expression; body = body_map c.body }

  abbrev else_map : ElseClauseOf A → ElseClauseOf (Option Stm)
  else_map c = record { body = body_map c.body }

  abbrev clause_map : SwitchClauseOf A → SwitchClauseOf (Option Stm)
  clause_map c = record { case_selectors = c.case_selectors; body = body_map c.body }

  block-map : (x : CompoundStatementOf A) → block_layer (λ x. x) (body_map x) ≡ block_layer f x
  block-map x = ap (λ t. block (attributes_tree x.attributes) (stms t)) (map-map (λ n. n.node) node_map x.statements)

  elses-map : (cs : List (ElseIfClauseOf A)) (last : Option (ElseClauseOf (Option Stm))) (last' : Option (ElseClauseOf A)) → else_layer (λ x. x) last ≡ else_layer f last'
      → elses_layer (λ x. x) (map else_if_map cs) last ≡ elses_layer f cs last'
  elses-map [] last last' same = same
  elses-map (c ∷ cs) last last' same = λ k. else_if_clause (node_tree c.expression) (block-map c.body k) (elses-map cs last last' same k)

  clauses-map : (cs : List (SwitchClauseOf A)) → clauses_layer (λ x. x) (map clause_map cs) ≡ clauses_layer f cs
  clauses-map [] = refl
  clauses-map (c ∷ cs) = λ k. switch_clause (map selector_tree c.case_selectors) (block-map c.body k) (clauses-map cs k)

  abbrev Same : Statement-F A → Type 0
  Same x = layer (λ x. x) (map-Statement A (Option Stm) f x) ≡ layer f x

  abbrev with_else : IfStatementOf A → Option (ElseClauseOf A) → IfStatementOf A
  with_else x o = record { attributes = x.attributes; if_clause = x.if_clause; else_if_clauses = x.else_if_clauses; else_clause = o }

  if-map : (x : IfStatementOf A) (o : Option (ElseClauseOf A)) → Same (Statement-F.If (with_else x o))
  if-map x None = λ k.
      Some (if_statement (attributes_tree x.attributes) (node_tree x.if_clause.expression) (block-map x.if_clause.body k)
      (elses-map x.else_if_clauses None None refl k))
  if-map x (Some c) = λ k.
      Some (if_statement (attributes_tree x.attributes) (node_tree x.if_clause.expression) (block-map x.if_clause.body k)
      (elses-map x.else_if_clauses (Some (else_map c)) (Some c) (ap else_clause (block-map c.body)) k))

  switch-map : (x : SwitchStatementOf A) → Same (Statement-F.Switch x)
  switch-map x = ap (λ t. Some (switch_statement (attributes_tree x.attributes) (node_tree x.expression) (attributes_tree x.body_attributes) t)) (clauses-map x.clauses)

  abbrev with_continuing : LoopStatementOf A → Option (ContinuingStatementOf A) → LoopStatementOf A
  with_continuing x o = record { attributes = x.attributes; body = x.body; continuing = o }

  loop-map : (x : LoopStatementOf A) (o : Option (ContinuingStatementOf A)) → Same (Statement-F.Loop (with_continuing x o))
  loop-map x None = ap (λ t. Some (loop_statement (attributes_tree x.attributes) t no_continuing)) (block-map x.body)
  loop-map x (Some c) = λ k.
      Some (loop_statement (attributes_tree x.attributes) (block-map x.body k)
      (continuing_statement (attributes_tree c.attributes) (block-map c.body k) (option_map break_if_tree c.break_if)))

  abbrev with_parts : ForStatementOf A → Option (Spanned A) → Option (Spanned A) → ForStatementOf A
  with_parts x i u = record { attributes = x.attributes; initializer = i; condition = x.condition; update = u; body = x.body }

  abbrev for_of : ForStatementOf A → Option (Spanned A) → Option (Spanned A) → Block → Option Stm
  for_of x i u b = Some (for_statement (attributes_tree x.attributes) (part_layer f i) (option_map node_tree x.condition) (part_layer f u) b)

  for-map : (x : ForStatementOf A) (i u : Option (Spanned A)) → Same (Statement-F.For (with_parts x i u))
  for-map x None None = ap (for_of x None None) (block-map x.body)
  for-map x None (Some u) = ap (for_of x None (Some u)) (block-map x.body)
  for-map x (Some i) None = ap (for_of x (Some i) None) (block-map x.body)
  for-map x (Some i) (Some u) = ap (for_of x (Some i) (Some u)) (block-map x.body)

  pub layer-map : (x : Statement-F A) → Same x
  layer-map Statement-F.Void = refl
  layer-map (Statement-F.Compound x) = ap (λ t. Some (compound_statement t)) (block-map x)
  layer-map (Statement-F.Assignment x) = refl
  layer-map (Statement-F.Increment x) = refl
  layer-map (Statement-F.Decrement x) = refl
  layer-map (Statement-F.If x) = if-map x x.else_clause
  layer-map (Statement-F.Switch x) = switch-map x
  layer-map (Statement-F.Loop x) = loop-map x x.continuing
  layer-map (Statement-F.For x) = for-map x x.initializer x.update
  layer-map (Statement-F.While x) = ap (λ t. Some (while_statement (attributes_tree x.attributes) (node_tree x.condition) t)) (block-map x.body)
  layer-map (Statement-F.Break x) = refl
  layer-map (Statement-F.Continue x) = refl
  layer-map (Statement-F.Return x) = refl
  layer-map (Statement-F.Discard x) = refl
  layer-map (Statement-F.FunctionCall x) = refl
  layer-map (Statement-F.ConstAssert x) = refl
  layer-map (Statement-F.Declaration x) = refl

pub tree_out : (s : Statement) → statement_tree s ≡ layer statement_tree (out-Statement s)
tree_out s = fold_out-Statement (Option Stm) (layer (λ x. x)) s ∙ layer-map statement_tree (out-Statement s)

pub tree_of_void : statement_tree Void ≡ None
tree_of_void = tree_out Void ∙ ap (layer statement_tree) outs-Void

pub tree_of_compound : (x : CompoundStatementOf Statement) → statement_tree (Compound x) ≡ Some (compound_statement (block_tree x))
tree_of_compound x = tree_out (Compound x) ∙ ap (layer statement_tree) (outs-Compound x)

pub tree_of_assignment : (x : AssignmentStatement) → statement_tree (Assignment x) ≡ Some (simple (assignment_tree x))
tree_of_assignment x = tree_out (Assignment x) ∙ ap (layer statement_tree) (outs-Assignment x)

pub tree_of_increment : (x : IncrementStatement) → statement_tree (Increment x) ≡ Some (simple (increment_tree x))
tree_of_increment x = tree_out (Increment x) ∙ ap (layer statement_tree) (outs-Increment x)

pub tree_of_decrement : (x : DecrementStatement) → statement_tree (Decrement x) ≡ Some (simple (decrement_tree x))
tree_of_decrement x = tree_out (Decrement x) ∙ ap (layer statement_tree) (outs-Decrement x)

pub tree_of_if : (x : IfStatementOf Statement) → statement_tree (If x) ≡ Some (if_layer statement_tree x)
tree_of_if x = tree_out (If x) ∙ ap (layer statement_tree) (outs-If x)

pub tree_of_switch : (x : SwitchStatementOf Statement) → statement_tree (Switch x) ≡ Some (switch_layer statement_tree x)
tree_of_switch x = tree_out (Switch x) ∙ ap (layer statement_tree) (outs-Switch x)

pub tree_of_loop : (x : LoopStatementOf Statement) → statement_tree (Loop x) ≡ Some (loop_layer statement_tree x)
tree_of_loop x = tree_out (Loop x) ∙ ap (layer statement_tree) (outs-Loop x)

pub tree_of_for : (x : ForStatementOf Statement) → statement_tree (For x) ≡ Some (for_layer statement_tree x)
tree_of_for x = tree_out (For x) ∙ ap (layer statement_tree) (outs-For x)

pub tree_of_while : (x : WhileStatementOf Statement) → statement_tree (While x) ≡ Some (while_layer statement_tree x)
tree_of_while x = tree_out (While x) ∙ ap (layer statement_tree) (outs-While x)

pub tree_of_break : (x : BreakStatement) → statement_tree (Break x) ≡ Some (simple (break_tree x))
tree_of_break x = tree_out (Break x) ∙ ap (layer statement_tree) (outs-Break x)

pub tree_of_continue : (x : ContinueStatement) → statement_tree (Continue x) ≡ Some (simple (continue_tree x))
tree_of_continue x = tree_out (Continue x) ∙ ap (layer statement_tree) (outs-Continue x)

pub tree_of_return : (x : ReturnStatement) → statement_tree (Return x) ≡ Some (simple (return_tree x))
tree_of_return x = tree_out (Return x) ∙ ap (layer statement_tree) (outs-Return x)

pub tree_of_discard : (x : DiscardStatement) → statement_tree (Discard x) ≡ Some (simple (discard_tree x))
tree_of_discard x = tree_out (Discard x) ∙ ap (layer statement_tree) (outs-Discard x)

pub tree_of_call : (x : FunctionCallStatement) → statement_tree (FunctionCall x) ≡ Some (simple (call_tree x))
tree_of_call x = tree_out (FunctionCall x) ∙ ap (layer statement_tree) (outs-FunctionCall x)

pub tree_of_assertion : (x : ConstAssert) → statement_tree (Assert x) ≡ Some (simple (assertion_tree x))
tree_of_assertion x = tree_out (Assert x) ∙ ap (layer statement_tree) (outs-ConstAssert x)

pub tree_of_value : (x : Declaration) → statement_tree (Value x) ≡ Some (simple (value_tree x))
tree_of_value x = tree_out (Value x) ∙ ap (layer statement_tree) (outs-Declaration x)
