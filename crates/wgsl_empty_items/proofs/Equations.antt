-- A statement without its empty items, from its parts without theirs.
use Rattle.std.proofs.Common.{◌≡◌, ap, ◌∙◌}
use Rattle.wgsl_simple_statements.specs.declared.declaration.Declaration.{Declaration}
use Rattle.wgsl_simple_statements.specs.declared.declaration.ConstAssert.{ConstAssert}
use Rattle.wgsl_simple_statements.specs.declared.statement.AssignmentStatement.{AssignmentStatement}
use Rattle.wgsl_simple_statements.specs.declared.statement.IncrementStatement.{IncrementStatement}
use Rattle.wgsl_simple_statements.specs.declared.statement.DecrementStatement.{DecrementStatement}
use Rattle.wgsl_simple_statements.specs.declared.statement.BreakStatement.{BreakStatement}
use Rattle.wgsl_simple_statements.specs.declared.statement.ContinueStatement.{ContinueStatement}
use Rattle.wgsl_simple_statements.specs.declared.statement.ReturnStatement.{ReturnStatement}
use Rattle.wgsl_simple_statements.specs.declared.statement.DiscardStatement.{DiscardStatement}
use Rattle.wgsl_simple_statements.specs.declared.statement.FunctionCallStatement.{FunctionCallStatement}
use Rattle.wgsl_statements.specs.declared.statement.CompoundStatementOf.{CompoundStatementOf}
use Rattle.wgsl_statements.specs.declared.statement.IfStatementOf.{IfStatementOf}
use Rattle.wgsl_statements.specs.declared.statement.SwitchStatementOf.{SwitchStatementOf}
use Rattle.wgsl_statements.specs.declared.statement.LoopStatementOf.{LoopStatementOf}
use Rattle.wgsl_statements.specs.declared.statement.ForStatementOf.{ForStatementOf}
use Rattle.wgsl_statements.specs.declared.statement.WhileStatementOf.{WhileStatementOf}
use Rattle.wgsl_statements.specs.declared.statement.Statement.{Statement, out-Statement, fold_out-Statement}
use Rattle.wgsl_statements.specs.declared.statement.Statement.TheVariants as code
use Rattle.wgsl_empty_items.specs.Statements.{with_block, with_if, with_switch, with_loop, with_for, with_while, layer, without_voids}
use Rattle.wgsl_empty_items.proofs.Layers.{layer-map}

pub without_out : (s : Statement) → without_voids s ≡ layer without_voids (out-Statement s)
without_out s = fold_out-Statement Statement (layer (λ x. x)) s ∙ layer-map (λ x. x) without_voids (out-Statement s)

pub without_void : without_voids code.Void ≡ code.Void
without_void = without_out code.Void ∙ ap (layer without_voids) code.outs-Void

pub without_compound : (x : CompoundStatementOf Statement) → without_voids (code.Compound x) ≡ code.Compound (with_block without_voids x)
without_compound x = without_out (code.Compound x) ∙ ap (layer without_voids) (code.outs-Compound x)

pub without_assignment : (x : AssignmentStatement) → without_voids (code.Assignment x) ≡ code.Assignment x
without_assignment x = without_out (code.Assignment x) ∙ ap (layer without_voids) (code.outs-Assignment x)

pub without_increment : (x : IncrementStatement) → without_voids (code.Increment x) ≡ code.Increment x
without_increment x = without_out (code.Increment x) ∙ ap (layer without_voids) (code.outs-Increment x)

pub without_decrement : (x : DecrementStatement) → without_voids (code.Decrement x) ≡ code.Decrement x
without_decrement x = without_out (code.Decrement x) ∙ ap (layer without_voids) (code.outs-Decrement x)

pub without_if : (x : IfStatementOf Statement) → without_voids (code.If x) ≡ code.If (with_if without_voids x)
without_if x = without_out (code.If x) ∙ ap (layer without_voids) (code.outs-If x)

pub without_switch : (x : SwitchStatementOf Statement) → without_voids (code.Switch x) ≡ code.Switch (with_switch without_voids x)
without_switch x = without_out (code.Switch x) ∙ ap (layer without_voids) (code.outs-Switch x)

pub without_loop : (x : LoopStatementOf Statement) → without_voids (code.Loop x) ≡ code.Loop (with_loop without_voids x)
without_loop x = without_out (code.Loop x) ∙ ap (layer without_voids) (code.outs-Loop x)

pub without_for : (x : ForStatementOf Statement) → without_voids (code.For x) ≡ code.For (with_for without_voids x)
without_for x = without_out (code.For x) ∙ ap (layer without_voids) (code.outs-For x)

pub without_while : (x : WhileStatementOf Statement) → without_voids (code.While x) ≡ code.While (with_while without_voids x)
without_while x = without_out (code.While x) ∙ ap (layer without_voids) (code.outs-While x)

pub without_break : (x : BreakStatement) → without_voids (code.Break x) ≡ code.Break x
without_break x = without_out (code.Break x) ∙ ap (layer without_voids) (code.outs-Break x)

pub without_continue : (x : ContinueStatement) → without_voids (code.Continue x) ≡ code.Continue x
without_continue x = without_out (code.Continue x) ∙ ap (layer without_voids) (code.outs-Continue x)

pub without_return : (x : ReturnStatement) → without_voids (code.Return x) ≡ code.Return x
without_return x = without_out (code.Return x) ∙ ap (layer without_voids) (code.outs-Return x)

pub without_discard : (x : DiscardStatement) → without_voids (code.Discard x) ≡ code.Discard x
without_discard x = without_out (code.Discard x) ∙ ap (layer without_voids) (code.outs-Discard x)

pub without_function_call : (x : FunctionCallStatement) → without_voids (code.FunctionCall x) ≡ code.FunctionCall x
without_function_call x = without_out (code.FunctionCall x) ∙ ap (layer without_voids) (code.outs-FunctionCall x)

pub without_const_assert : (x : ConstAssert) → without_voids (code.ConstAssert x) ≡ code.ConstAssert x
without_const_assert x = without_out (code.ConstAssert x) ∙ ap (layer without_voids) (code.outs-ConstAssert x)

pub without_declaration : (x : Declaration) → without_voids (code.Declaration x) ≡ code.Declaration x
without_declaration x = without_out (code.Declaration x) ∙ ap (layer without_voids) (code.outs-Declaration x)
