-- The attributes of some kinds of statements, and these statements with others.
use Rattle.std.proofs.Common.{◌≡◌, ap, Some}
use Rattle.wgsl_statements.specs.declared.statement.IfStatementOf.{IfStatementOf}
use Rattle.wgsl_statements.specs.declared.statement.SwitchStatementOf.{SwitchStatementOf}
use Rattle.wgsl_statements.specs.declared.statement.LoopStatementOf.{LoopStatementOf}
use Rattle.wgsl_statements.specs.declared.statement.ForStatementOf.{ForStatementOf}
use Rattle.wgsl_simple_statements.specs.declared.statement.FunctionCallStatement.{FunctionCallStatement}
use Rattle.wgsl_simple_statements.specs.declared.declaration.Declaration.{Declaration}
use Rattle.wgsl_statements.specs.declared.statement.Statement.{Statement}
use Rattle.wgsl_statements.specs.declared.statement.Statement.TheVariants as code
use Rattle.wgsl_nodes.specs.Statements.{attributes_in, with_in, statement_attributes, statement_with}

pub own_of_if : (x : IfStatementOf Statement) → statement_attributes (code.If x) ≡ Some (x.attributes)
own_of_if x = ap attributes_in (code.outs-If x)

pub with_of_if : (x : IfStatementOf Statement) → statement_with (code.If x) ≡ (λ attributes. code.If (record x { attributes = attributes }))
with_of_if x = ap with_in (code.outs-If x)

pub own_of_switch : (x : SwitchStatementOf Statement) → statement_attributes (code.Switch x) ≡ Some (x.attributes)
own_of_switch x = ap attributes_in (code.outs-Switch x)

pub with_of_switch : (x : SwitchStatementOf Statement) → statement_with (code.Switch x) ≡ (λ attributes. code.Switch (record x { attributes = attributes }))
with_of_switch x = ap with_in (code.outs-Switch x)

pub own_of_loop : (x : LoopStatementOf Statement) → statement_attributes (code.Loop x) ≡ Some (x.attributes)
own_of_loop x = ap attributes_in (code.outs-Loop x)

pub with_of_loop : (x : LoopStatementOf Statement) → statement_with (code.Loop x) ≡ (λ attributes. code.Loop (record x { attributes = attributes }))
with_of_loop x = ap with_in (code.outs-Loop x)

pub own_of_for : (x : ForStatementOf Statement) → statement_attributes (code.For x) ≡ Some (x.attributes)
own_of_for x = ap attributes_in (code.outs-For x)

pub with_of_for : (x : ForStatementOf Statement) → statement_with (code.For x) ≡ (λ attributes. code.For (record x { attributes = attributes }))
with_of_for x = ap with_in (code.outs-For x)

pub own_of_call : (x : FunctionCallStatement) → statement_attributes (code.FunctionCall x) ≡ Some (x.attributes)
own_of_call x = ap attributes_in (code.outs-FunctionCall x)

pub with_of_call : (x : FunctionCallStatement) → statement_with (code.FunctionCall x) ≡ (λ attributes. code.FunctionCall (record x { attributes = attributes }))
with_of_call x = ap with_in (code.outs-FunctionCall x)

pub own_of_value : (x : Declaration) → statement_attributes (code.Declaration x) ≡ Some (x.attributes)
own_of_value x = ap attributes_in (code.outs-Declaration x)

pub with_of_value : (x : Declaration) → statement_with (code.Declaration x) ≡ (λ attributes. code.Declaration (record x { attributes = attributes }))
with_of_value x = ap with_in (code.outs-Declaration x)
