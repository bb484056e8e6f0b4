-- The statements inside each kind of statement, and all of it but these.
use Rattle.std.proofs.Common.{◌≡◌, ap, []}
use Rattle.wgsl_simple_statements.specs.declared.declaration.Declaration.{Declaration}
use Rattle.wgsl_simple_statements.specs.declared.declaration.ConstAssert.{ConstAssert}
use Rattle.wgsl_simple_statements.specs.declared.statement.AssignmentStatement.{AssignmentStatement}
use Rattle.wgsl_simple_statements.specs.declared.statement.IncrementStatement.{IncrementStatement}
use Rattle.wgsl_simple_statements.specs.declared.statement.DecrementStatement.{DecrementStatement}
use Rattle.wgsl_simple_statements.specs.declared.statement.BreakStatement.{BreakStatement}
use Rattle.wgsl_simple_statements.specs.declared.statement.ContinueStatement.{ContinueStatement}
use Rattle.wgsl_simple_statements.specs.declared.statement.ReturnStatement.{ReturnStatement}
use Rattle.wgsl_simple_statements.specs.declared.statement.DiscardStatement.{DiscardStatement}
use Rattle.wgsl_simple_statements.specs.declared.statement.FunctionCallStatement.{FunctionCallStatement}
use Rattle.wgsl_statements.specs.declared.statement.CompoundStatementOf.{CompoundStatementOf}
use Rattle.wgsl_statements.specs.declared.statement.IfStatementOf.{IfStatementOf}
use Rattle.wgsl_statements.specs.declared.statement.SwitchStatementOf.{SwitchStatementOf}
use Rattle.wgsl_statements.specs.declared.statement.LoopStatementOf.{LoopStatementOf}
use Rattle.wgsl_statements.specs.declared.statement.ForStatementOf.{ForStatementOf}
use Rattle.wgsl_statements.specs.declared.statement.WhileStatementOf.{WhileStatementOf}
use Rattle.wgsl_statements.specs.declared.statement.Statement.{Statement}
use Rattle.wgsl_statements.specs.declared.statement.Statement.TheVariants as code
use Rattle.wesl_visit.specs.Statements.{in_block, in_if, in_switch, in_loop, in_for, in_while, in_layer, statements_in, around_block, around_if, around_switch, around_loop, around_for, around_while, around_layer, around_statements}

pub in_of_void : statements_in code.Void ≡ []
in_of_void = ap in_layer code.outs-Void

pub around_of_void : around_statements code.Void ≡ code.Void
around_of_void = ap around_layer code.outs-Void

pub in_of_compound : (x : CompoundStatementOf Statement) → statements_in (code.Compound x) ≡ in_block x
in_of_compound x = ap in_layer (code.outs-Compound x)

pub around_of_compound : (x : CompoundStatementOf Statement) → around_statements (code.Compound x) ≡ code.Compound (around_block x)
around_of_compound x = ap around_layer (code.outs-Compound x)

pub in_of_if : (x : IfStatementOf Statement) → statements_in (code.If x) ≡ in_if x
in_of_if x = ap in_layer (code.outs-If x)

pub around_of_if : (x : IfStatementOf Statement) → around_statements (code.If x) ≡ code.If (around_if x)
around_of_if x = ap around_layer (code.outs-If x)

pub in_of_switch : (x : SwitchStatementOf Statement) → statements_in (code.Switch x) ≡ in_switch x
in_of_switch x = ap in_layer (code.outs-Switch x)

pub around_of_switch : (x : SwitchStatementOf Statement) → around_statements (code.Switch x) ≡ code.Switch (around_switch x)
around_of_switch x = ap around_layer (code.outs-Switch x)

pub in_of_loop : (x : LoopStatementOf Statement) → statements_in (code.Loop x) ≡ in_loop x
in_of_loop x = ap in_layer (code.outs-Loop x)

pub around_of_loop : (x : LoopStatementOf Statement) → around_statements (code.Loop x) ≡ code.Loop (around_loop x)
around_of_loop x = ap around_layer (code.outs-Loop x)

pub in_of_for : (x : ForStatementOf Statement) → statements_in (code.For x) ≡ in_for x
in_of_for x = ap in_layer (code.outs-For x)

pub around_of_for : (x : ForStatementOf Statement) → around_statements (code.For x) ≡ code.For (around_for x)
around_of_for x = ap around_layer (code.outs-For x)

pub in_of_while : (x : WhileStatementOf Statement) → statements_in (code.While x) ≡ in_while x
in_of_while x = ap in_layer (code.outs-While x)

pub around_of_while : (x : WhileStatementOf Statement) → around_statements (code.While x) ≡ code.While (around_while x)
around_of_while x = ap around_layer (code.outs-While x)

pub in_of_assignment : (x : AssignmentStatement) → statements_in (code.Assignment x) ≡ []
in_of_assignment x = ap in_layer (code.outs-Assignment x)

pub around_of_assignment : (x : AssignmentStatement) → around_statements (code.Assignment x) ≡ code.Assignment x
around_of_assignment x = ap around_layer (code.outs-Assignment x)

pub in_of_increment : (x : IncrementStatement) → statements_in (code.Increment x) ≡ []
in_of_increment x = ap in_layer (code.outs-Increment x)

pub around_of_increment : (x : IncrementStatement) → around_statements (code.Increment x) ≡ code.Increment x
around_of_increment x = ap around_layer (code.outs-Increment x)

pub in_of_decrement : (x : DecrementStatement) → statements_in (code.Decrement x) ≡ []
in_of_decrement x = ap in_layer (code.outs-Decrement x)

pub around_of_decrement : (x : DecrementStatement) → around_statements (code.Decrement x) ≡ code.Decrement x
around_of_decrement x = ap around_layer (code.outs-Decrement x)

pub in_of_break : (x : BreakStatement) → statements_in (code.Break x) ≡ []
in_of_break x = ap in_layer (code.outs-Break x)

pub around_of_break : (x : BreakStatement) → around_statements (code.Break x) ≡ code.Break x
around_of_break x = ap around_layer (code.outs-Break x)

pub in_of_continue : (x : ContinueStatement) → statements_in (code.Continue x) ≡ []
in_of_continue x = ap in_layer (code.outs-Continue x)

pub around_of_continue : (x : ContinueStatement) → around_statements (code.Continue x) ≡ code.Continue x
around_of_continue x = ap around_layer (code.outs-Continue x)

pub in_of_return : (x : ReturnStatement) → statements_in (code.Return x) ≡ []
in_of_return x = ap in_layer (code.outs-Return x)

pub around_of_return : (x : ReturnStatement) → around_statements (code.Return x) ≡ code.Return x
around_of_return x = ap around_layer (code.outs-Return x)

pub in_of_discard : (x : DiscardStatement) → statements_in (code.Discard x) ≡ []
in_of_discard x = ap in_layer (code.outs-Discard x)

pub around_of_discard : (x : DiscardStatement) → around_statements (code.Discard x) ≡ code.Discard x
around_of_discard x = ap around_layer (code.outs-Discard x)

pub in_of_function_call : (x : FunctionCallStatement) → statements_in (code.FunctionCall x) ≡ []
in_of_function_call x = ap in_layer (code.outs-FunctionCall x)

pub around_of_function_call : (x : FunctionCallStatement) → around_statements (code.FunctionCall x) ≡ code.FunctionCall x
around_of_function_call x = ap around_layer (code.outs-FunctionCall x)

pub in_of_const_assert : (x : ConstAssert) → statements_in (code.ConstAssert x) ≡ []
in_of_const_assert x = ap in_layer (code.outs-ConstAssert x)

pub around_of_const_assert : (x : ConstAssert) → around_statements (code.ConstAssert x) ≡ code.ConstAssert x
around_of_const_assert x = ap around_layer (code.outs-ConstAssert x)

pub in_of_declaration : (x : Declaration) → statements_in (code.Declaration x) ≡ []
in_of_declaration x = ap in_layer (code.outs-Declaration x)

pub around_of_declaration : (x : Declaration) → around_statements (code.Declaration x) ≡ code.Declaration x
around_of_declaration x = ap around_layer (code.outs-Declaration x)

pub ruleset inner = (in_of_void, in_of_compound, in_of_if, in_of_switch, in_of_loop, in_of_for, in_of_while, in_of_assignment, in_of_increment, in_of_decrement, in_of_break, in_of_continue, in_of_return, in_of_discard, in_of_function_call, in_of_const_assert, in_of_declaration)

pub ruleset outer = (around_of_void, around_of_compound, around_of_if, around_of_switch, around_of_loop, around_of_for, around_of_while, around_of_assignment, around_of_increment, around_of_decrement, around_of_break, around_of_continue, around_of_return, around_of_discard, around_of_function_call, around_of_const_assert, around_of_declaration)
