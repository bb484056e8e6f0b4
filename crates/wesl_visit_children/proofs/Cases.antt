-- The expressions in each kind of statement, and all of it but these.
use Rattle.std.proofs.Common.{◌≡◌, ap, ◌∙◌, List, []}
use Rattle.wgsl_path.specs.declared.span.Spanned.{Spanned}
use Rattle.wgsl_expressions.specs.declared.expression.Expression.{Expression}
use Rattle.wgsl_simple_statements.specs.declared.statement.AssignmentStatement.{AssignmentStatement}
use Rattle.wgsl_simple_statements.specs.declared.statement.IncrementStatement.{IncrementStatement}
use Rattle.wgsl_simple_statements.specs.declared.statement.DecrementStatement.{DecrementStatement}
use Rattle.wgsl_simple_statements.specs.declared.statement.BreakStatement.{BreakStatement}
use Rattle.wgsl_simple_statements.specs.declared.statement.ContinueStatement.{ContinueStatement}
use Rattle.wgsl_simple_statements.specs.declared.statement.ReturnStatement.{ReturnStatement}
use Rattle.wgsl_simple_statements.specs.declared.statement.DiscardStatement.{DiscardStatement}
use Rattle.wgsl_simple_statements.specs.declared.statement.FunctionCallStatement.{FunctionCallStatement}
use Rattle.wgsl_simple_statements.specs.declared.declaration.ConstAssert.{ConstAssert}
use Rattle.wgsl_simple_statements.specs.declared.declaration.Declaration.{Declaration}
use Rattle.wgsl_statements.specs.declared.statement.CompoundStatementOf.{CompoundStatementOf}
use Rattle.wgsl_statements.specs.declared.statement.IfStatementOf.{IfStatementOf}
use Rattle.wgsl_statements.specs.declared.statement.SwitchStatementOf.{SwitchStatementOf}
use Rattle.wgsl_statements.specs.declared.statement.LoopStatementOf.{LoopStatementOf}
use Rattle.wgsl_statements.specs.declared.statement.ForStatementOf.{ForStatementOf}
use Rattle.wgsl_statements.specs.declared.statement.WhileStatementOf.{WhileStatementOf}
use Rattle.wgsl_statements.specs.declared.statement.Statement.{Statement, out-Statement, fold_out-Statement}
use Rattle.wgsl_statements.specs.declared.statement.Statement.TheVariants as code
use Rattle.wesl_visit_children.specs.Parts.{Part, in_block, in_assignment, in_increment, in_decrement, in_if, in_switch, in_loop, in_for, in_while, in_break, in_continue, in_return, in_discard, in_call_statement, in_const_assert, in_declared, in_layer, parts_in_statement}
use Rattle.wesl_visit_children.specs.Rest.{Rest, around_block, around_assignment, around_increment, around_decrement, around_if, around_switch, around_loop, around_for, around_while, around_break, around_continue, around_return, around_discard, around_call_statement, around_const_assert, around_declared, around_layer, around_parts_in_statement}
use Rattle.wesl_visit_children.proofs.Layers.{layer-in, layer-around}

in_out : (s : Statement) → parts_in_statement s ≡ in_layer parts_in_statement (out-Statement s)
in_out s = fold_out-Statement (List Part) (in_layer (λ x. x)) s ∙ layer-in parts_in_statement (out-Statement s)

around_out : (k : Rest) (s : Statement) → around_parts_in_statement k s ≡ around_layer k (around_parts_in_statement k) (out-Statement s)
around_out k s = fold_out-Statement Statement (around_layer k (λ x. x)) s ∙ layer-around k (around_parts_in_statement k) (out-Statement s)

pub in_of_void : parts_in_statement code.Void ≡ []
in_of_void = in_out code.Void ∙ ap (in_layer parts_in_statement) code.outs-Void

pub around_of_void : (k : Rest) → around_parts_in_statement k code.Void ≡ code.Void
around_of_void k = around_out k code.Void ∙ ap (around_layer k (around_parts_in_statement k)) code.outs-Void

pub in_of_block : (x : CompoundStatementOf Statement) → parts_in_statement (code.Compound x) ≡ in_block parts_in_statement x
in_of_block x = in_out (code.Compound x) ∙ ap (in_layer parts_in_statement) (code.outs-Compound x)

pub around_of_block : (k : Rest) (x : CompoundStatementOf Statement) → around_parts_in_statement k (code.Compound x) ≡ code.Compound (around_block k (around_parts_in_statement k) x)
around_of_block k x = around_out k (code.Compound x) ∙ ap (around_layer k (around_parts_in_statement k)) (code.outs-Compound x)

pub in_of_assignment : (x : AssignmentStatement) → parts_in_statement (code.Assignment x) ≡ in_assignment x
in_of_assignment x = in_out (code.Assignment x) ∙ ap (in_layer parts_in_statement) (code.outs-Assignment x)

pub around_of_assignment : (k : Rest) (x : AssignmentStatement) → around_parts_in_statement k (code.Assignment x) ≡ code.Assignment (around_assignment k x)
around_of_assignment k x = around_out k (code.Assignment x) ∙ ap (around_layer k (around_parts_in_statement k)) (code.outs-Assignment x)

pub in_of_increment : (x : IncrementStatement) → parts_in_statement (code.Increment x) ≡ in_increment x
in_of_increment x = in_out (code.Increment x) ∙ ap (in_layer parts_in_statement) (code.outs-Increment x)

pub around_of_increment : (k : Rest) (x : IncrementStatement) → around_parts_in_statement k (code.Increment x) ≡ code.Increment (around_increment k x)
around_of_increment k x = around_out k (code.Increment x) ∙ ap (around_layer k (around_parts_in_statement k)) (code.outs-Increment x)

pub in_of_decrement : (x : DecrementStatement) → parts_in_statement (code.Decrement x) ≡ in_decrement x
in_of_decrement x = in_out (code.Decrement x) ∙ ap (in_layer parts_in_statement) (code.outs-Decrement x)

pub around_of_decrement : (k : Rest) (x : DecrementStatement) → around_parts_in_statement k (code.Decrement x) ≡ code.Decrement (around_decrement k x)
around_of_decrement k x = around_out k (code.Decrement x) ∙ ap (around_layer k (around_parts_in_statement k)) (code.outs-Decrement x)

pub in_of_if : (x : IfStatementOf Statement) → parts_in_statement (code.If x) ≡ in_if parts_in_statement x
in_of_if x = in_out (code.If x) ∙ ap (in_layer parts_in_statement) (code.outs-If x)

pub around_of_if : (k : Rest) (x : IfStatementOf Statement) → around_parts_in_statement k (code.If x) ≡ code.If (around_if k (around_parts_in_statement k) x)
around_of_if k x = around_out k (code.If x) ∙ ap (around_layer k (around_parts_in_statement k)) (code.outs-If x)

pub in_of_switch : (x : SwitchStatementOf Statement) → parts_in_statement (code.Switch x) ≡ in_switch parts_in_statement x
in_of_switch x = in_out (code.Switch x) ∙ ap (in_layer parts_in_statement) (code.outs-Switch x)

pub around_of_switch : (k : Rest) (x : SwitchStatementOf Statement) → around_parts_in_statement k (code.Switch x) ≡ code.Switch (around_switch k (around_parts_in_statement k) x)
around_of_switch k x = around_out k (code.Switch x) ∙ ap (around_layer k (around_parts_in_statement k)) (code.outs-Switch x)

pub in_of_loop : (x : LoopStatementOf Statement) → parts_in_statement (code.Loop x) ≡ in_loop parts_in_statement x
in_of_loop x = in_out (code.Loop x) ∙ ap (in_layer parts_in_statement) (code.outs-Loop x)

pub around_of_loop : (k : Rest) (x : LoopStatementOf Statement) → around_parts_in_statement k (code.Loop x) ≡ code.Loop (around_loop k (around_parts_in_statement k) x)
around_of_loop k x = around_out k (code.Loop x) ∙ ap (around_layer k (around_parts_in_statement k)) (code.outs-Loop x)

pub in_of_for : (x : ForStatementOf Statement) → parts_in_statement (code.For x) ≡ in_for parts_in_statement x
in_of_for x = in_out (code.For x) ∙ ap (in_layer parts_in_statement) (code.outs-For x)

pub around_of_for : (k : Rest) (x : ForStatementOf Statement) → around_parts_in_statement k (code.For x) ≡ code.For (around_for k (around_parts_in_statement k) x)
around_of_for k x = around_out k (code.For x) ∙ ap (around_layer k (around_parts_in_statement k)) (code.outs-For x)

pub in_of_while : (x : WhileStatementOf Statement) → parts_in_statement (code.While x) ≡ in_while parts_in_statement x
in_of_while x = in_out (code.While x) ∙ ap (in_layer parts_in_statement) (code.outs-While x)

pub around_of_while : (k : Rest) (x : WhileStatementOf Statement) → around_parts_in_statement k (code.While x) ≡ code.While (around_while k (around_parts_in_statement k) x)
around_of_while k x = around_out k (code.While x) ∙ ap (around_layer k (around_parts_in_statement k)) (code.outs-While x)

pub in_of_break : (x : BreakStatement) → parts_in_statement (code.Break x) ≡ in_break x
in_of_break x = in_out (code.Break x) ∙ ap (in_layer parts_in_statement) (code.outs-Break x)

pub around_of_break : (k : Rest) (x : BreakStatement) → around_parts_in_statement k (code.Break x) ≡ code.Break (around_break k x)
around_of_break k x = around_out k (code.Break x) ∙ ap (around_layer k (around_parts_in_statement k)) (code.outs-Break x)

pub in_of_continue : (x : ContinueStatement) → parts_in_statement (code.Continue x) ≡ in_continue x
in_of_continue x = in_out (code.Continue x) ∙ ap (in_layer parts_in_statement) (code.outs-Continue x)

pub around_of_continue : (k : Rest) (x : ContinueStatement) → around_parts_in_statement k (code.Continue x) ≡ code.Continue (around_continue k x)
around_of_continue k x = around_out k (code.Continue x) ∙ ap (around_layer k (around_parts_in_statement k)) (code.outs-Continue x)

pub in_of_return : (x : ReturnStatement) → parts_in_statement (code.Return x) ≡ in_return x
in_of_return x = in_out (code.Return x) ∙ ap (in_layer parts_in_statement) (code.outs-Return x)

pub around_of_return : (k : Rest) (x : ReturnStatement) → around_parts_in_statement k (code.Return x) ≡ code.Return (around_return k x)
around_of_return k x = around_out k (code.Return x) ∙ ap (around_layer k (around_parts_in_statement k)) (code.outs-Return x)

pub in_of_discard : (x : DiscardStatement) → parts_in_statement (code.Discard x) ≡ in_discard x
in_of_discard x = in_out (code.Discard x) ∙ ap (in_layer parts_in_statement) (code.outs-Discard x)

pub around_of_discard : (k : Rest) (x : DiscardStatement) → around_parts_in_statement k (code.Discard x) ≡ code.Discard (around_discard k x)
around_of_discard k x = around_out k (code.Discard x) ∙ ap (around_layer k (around_parts_in_statement k)) (code.outs-Discard x)

pub in_of_call_statement : (x : FunctionCallStatement) → parts_in_statement (code.FunctionCall x) ≡ in_call_statement x
in_of_call_statement x = in_out (code.FunctionCall x) ∙ ap (in_layer parts_in_statement) (code.outs-FunctionCall x)

pub around_of_call_statement : (k : Rest) (x : FunctionCallStatement) → around_parts_in_statement k (code.FunctionCall x) ≡ code.FunctionCall (around_call_statement k x)
around_of_call_statement k x = around_out k (code.FunctionCall x) ∙ ap (around_layer k (around_parts_in_statement k)) (code.outs-FunctionCall x)

pub in_of_const_assert : (x : ConstAssert) → parts_in_statement (code.ConstAssert x) ≡ in_const_assert x
in_of_const_assert x = in_out (code.ConstAssert x) ∙ ap (in_layer parts_in_statement) (code.outs-ConstAssert x)

pub around_of_const_assert : (k : Rest) (x : ConstAssert) → around_parts_in_statement k (code.ConstAssert x) ≡ code.ConstAssert (around_const_assert k x)
around_of_const_assert k x = around_out k (code.ConstAssert x) ∙ ap (around_layer k (around_parts_in_statement k)) (code.outs-ConstAssert x)

pub in_of_declared : (x : Declaration) → parts_in_statement (code.Declaration x) ≡ in_declared x
in_of_declared x = in_out (code.Declaration x) ∙ ap (in_layer parts_in_statement) (code.outs-Declaration x)

pub around_of_declared : (k : Rest) (x : Declaration) → around_parts_in_statement k (code.Declaration x) ≡ code.Declaration (around_declared k x)
around_of_declared k x = around_out k (code.Declaration x) ∙ ap (around_layer k (around_parts_in_statement k)) (code.outs-Declaration x)

pub ruleset inner = (in_of_void, in_of_block, in_of_assignment, in_of_increment, in_of_decrement, in_of_if, in_of_switch, in_of_loop, in_of_for, in_of_while, in_of_break, in_of_continue, in_of_return, in_of_discard, in_of_call_statement, in_of_const_assert, in_of_declared)

pub ruleset outer = (around_of_void, around_of_block, around_of_assignment, around_of_increment, around_of_decrement, around_of_if, around_of_switch, around_of_loop, around_of_for, around_of_while, around_of_break, around_of_continue, around_of_return, around_of_discard, around_of_call_statement, around_of_const_assert, around_of_declared)
