-- The statement without places that a code tree stands for. `Void` stands for none.
use Rattle.std.specs.Prelude.{List, [], ◌∷◌, map, Option, Some, None}
use Rattle.std.specs.Option.{option_map}
use Rattle.wgsl_simple_statements.specs.Spanned.{Spanned}
use Rattle.wgsl_simple_statements.specs.ExpressionsView.{node_tree}
use Rattle.wgsl_simple_statements.specs.AttributesView.{attributes_tree}
use Rattle.wgsl_simple_statements.specs.View.{assignment_tree, increment_tree, decrement_tree, break_tree, continue_tree, return_tree, discard_tree, call_tree, assertion_tree, value_tree, break_if_tree, selector_tree}
use Rattle.wgsl_statements.specs.declared.statement.Statement.{Statement, fold-Statement}
use Rattle.wgsl_statements.specs.declared.statement.Statement.TheOpen.{Statement-F}
use Rattle.wgsl_statements.specs.declared.statement.CompoundStatementOf.{CompoundStatementOf}
use Rattle.wgsl_statements.specs.declared.statement.IfStatementOf.{IfStatementOf}
use Rattle.wgsl_statements.specs.declared.statement.ElseIfClauseOf.{ElseIfClauseOf}
use Rattle.wgsl_statements.specs.declared.statement.ElseClauseOf.{ElseClauseOf}
use Rattle.wgsl_statements.specs.declared.statement.SwitchStatementOf.{SwitchStatementOf}
use Rattle.wgsl_statements.specs.declared.statement.SwitchClauseOf.{SwitchClauseOf}
use Rattle.wgsl_statements.specs.declared.statement.LoopStatementOf.{LoopStatementOf}
use Rattle.wgsl_statements.specs.declared.statement.ContinuingStatementOf.{ContinuingStatementOf}
use Rattle.wgsl_statements.specs.declared.statement.ForStatementOf.{ForStatementOf}
use Rattle.wgsl_statements.specs.declared.statement.WhileStatementOf.{WhileStatementOf}
use Rattle.wgsl_statements.specs.Tree.{Stm, simple, compound_statement, if_statement, switch_statement, loop_statement, for_statement, while_statement, Stms, nil, cons, Block, block, Elses, no_else, else_clause, else_if_clause, Clauses, no_clauses, switch_clause, Continuing, no_continuing, continuing_statement, Part, absent, present}

-- those that stand for a statement
abbrev pub stms : List (Option Stm) → Stms
stms [] = nil
stms (None ∷ xs) = stms xs
stms (Some x ∷ xs) = cons x (stms xs)

abbrev pub part : Option Stm → Part
part None = absent
part (Some x) = present x

abbrev pub nodes_layer : {A : Type 0} → (A → Option Stm) → List (Spanned A) → Stms
nodes_layer f nodes = stms (map (λ n. f n.node) nodes)

abbrev pub block_layer : {A : Type 0} → (A → Option Stm) → CompoundStatementOf A → Block
block_layer f b = block (attributes_tree b.attributes) (nodes_layer f b.statements)

abbrev pub else_layer : {A : Type 0} → (A → Option Stm) → Option (ElseClauseOf A) → Elses
else_layer f None = no_else
else_layer f (Some c) = else_clause (block_layer f c.body)

abbrev pub elses_layer : {A : Type 0} → (A → Option Stm) → List (ElseIfClauseOf A) → Option (ElseClauseOf A) → Elses
elses_layer f [] last = else_layer f last
elses_layer f (c ∷ cs) last = else_if_clause (node_tree c.expression) (block_layer f c.body) (elses_layer f cs last)

abbrev pub if_layer : {A : Type 0} → (A → Option Stm) → IfStatementOf A → Stm
if_layer f x =
    if_statement (attributes_tree x.attributes) (node_tree x.if_clause.expression) (block_layer f x.if_clause.body)
    (elses_layer f x.else_if_clauses x.else_clause)

abbrev pub clauses_layer : {A : Type 0} → (A → Option Stm) → List (SwitchClauseOf A) → Clauses
clauses_layer f [] = no_clauses
clauses_layer f (c ∷ cs) = switch_clause (map selector_tree c.case_selectors) (block_layer f c.body) (clauses_layer f cs)

abbrev pub switch_layer : {A : Type 0} → (A → Option Stm) → SwitchStatementOf A → Stm
switch_layer f x =
    switch_statement (attributes_tree x.attributes) (node_tree x.expression) (attributes_tree x.body_attributes) (clauses_layer f x.clauses)

abbrev pub continuing_layer : {A : Type 0} → (A → Option Stm) → Option (ContinuingStatementOf A) → Continuing
continuing_layer f None = no_continuing
continuing_layer f (Some x) = continuing_statement (attributes_tree x.attributes) (block_layer f x.body) (option_map break_if_tree x.break_if)

abbrev pub loop_layer : {A : Type 0} → (A → Option Stm) → LoopStatementOf A → Stm
loop_layer f x = loop_statement (attributes_tree x.attributes) (block_layer f x.body) (continuing_layer f x.continuing)

abbrev pub part_layer : {A : Type 0} → (A → Option Stm) → Option (Spanned A) → Part
part_layer f None = absent
part_layer f (Some n) = part (f n.node)

abbrev pub for_layer : {A : Type 0} → (A → Option Stm) → ForStatementOf A → Stm
for_layer f x =
    for_statement (attributes_tree x.attributes) (part_layer f x.initializer) (option_map node_tree x.condition)
    (part_layer f x.update) (block_layer f x.body)

abbrev pub while_layer : {A : Type 0} → (A → Option Stm) → WhileStatementOf A → Stm
while_layer f x = while_statement (attributes_tree x.attributes) (node_tree x.condition) (block_layer f x.body)

-- a node, from what its parts stand for
abbrev pub layer : {A : Type 0} → (A → Option Stm) → Statement-F A → Option Stm
layer f Statement-F.Void = None
layer f (Statement-F.Compound x) = Some (compound_statement (block_layer f x))
layer f (Statement-F.Assignment x) = Some (simple (assignment_tree x))
layer f (Statement-F.Increment x) = Some (simple (increment_tree x))
layer f (Statement-F.Decrement x) = Some (simple (decrement_tree x))
layer f (Statement-F.If x) = Some (if_layer f x)
layer f (Statement-F.Switch x) = Some (switch_layer f x)
layer f (Statement-F.Loop x) = Some (loop_layer f x)
layer f (Statement-F.For x) = Some (for_layer f x)
layer f (Statement-F.While x) = Some (while_layer f x)
layer f (Statement-F.Break x) = Some (simple (break_tree x))
layer f (Statement-F.Continue x) = Some (simple (continue_tree x))
layer f (Statement-F.Return x) = Some (simple (return_tree x))
layer f (Statement-F.Discard x) = Some (simple (discard_tree x))
layer f (Statement-F.FunctionCall x) = Some (simple (call_tree x))
layer f (Statement-F.ConstAssert x) = Some (simple (assertion_tree x))
layer f (Statement-F.Declaration x) = Some (simple (value_tree x))

-- nothing where it is `Void`
abbrev pub statement_tree : Statement → Option Stm
statement_tree = fold-Statement (Option Stm) (layer (λ x. x))

abbrev pub statements_tree : List (Spanned Statement) → Stms
statements_tree = nodes_layer statement_tree

abbrev pub block_tree : CompoundStatementOf Statement → Block
block_tree = block_layer statement_tree
