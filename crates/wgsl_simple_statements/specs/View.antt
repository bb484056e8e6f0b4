-- The statement without places that a code tree stands for.
use Rattle.std.specs.Prelude.{map}
use Rattle.std.specs.Option.{option_map}
use Rattle.wgsl_expressions.specs.Tree.{exps}
use Rattle.wgsl_expressions.specs.View.{node_tree, type_tree}
use Rattle.wgsl_expressions.specs.AttributesView.{attributes_tree}
use Rattle.wgsl_simple_statements.specs.declared.declaration.Declaration.{Declaration}
use Rattle.wgsl_simple_statements.specs.declared.declaration.ConstAssert.{ConstAssert}
use Rattle.wgsl_simple_statements.specs.declared.statement.AssignmentStatement.{AssignmentStatement}
use Rattle.wgsl_simple_statements.specs.declared.statement.IncrementStatement.{IncrementStatement}
use Rattle.wgsl_simple_statements.specs.declared.statement.DecrementStatement.{DecrementStatement}
use Rattle.wgsl_simple_statements.specs.declared.statement.BreakStatement.{BreakStatement}
use Rattle.wgsl_simple_statements.specs.declared.statement.ContinueStatement.{ContinueStatement}
use Rattle.wgsl_simple_statements.specs.declared.statement.ReturnStatement.{ReturnStatement}
use Rattle.wgsl_simple_statements.specs.declared.statement.DiscardStatement.{DiscardStatement}
use Rattle.wgsl_simple_statements.specs.declared.statement.FunctionCallStatement.{FunctionCallStatement}
use Rattle.wgsl_simple_statements.specs.declared.statement.BreakIfStatement.{BreakIfStatement}
use Rattle.wgsl_simple_statements.specs.declared.statement.CaseSelector.{CaseSelector}
use Rattle.wgsl_simple_statements.specs.declared.statement.CaseSelector.TheVariants as case_selector
use Rattle.wgsl_simple_statements.specs.Tree.{Simple, assignment, increment, decrement, breaking, continuing, returning, discarding, calling, asserting, declaring, BreakIf, Selector, default_selector, selected}

abbrev pub assignment_tree : AssignmentStatement → Simple
assignment_tree x = assignment (attributes_tree x.attributes) x.operator (node_tree x.lhs) (node_tree x.rhs)

abbrev pub increment_tree : IncrementStatement → Simple
increment_tree x = increment (attributes_tree x.attributes) (node_tree x.expression)

abbrev pub decrement_tree : DecrementStatement → Simple
decrement_tree x = decrement (attributes_tree x.attributes) (node_tree x.expression)

abbrev pub break_tree : BreakStatement → Simple
break_tree x = breaking (attributes_tree x.attributes)

abbrev pub continue_tree : ContinueStatement → Simple
continue_tree x = continuing (attributes_tree x.attributes)

abbrev pub return_tree : ReturnStatement → Simple
return_tree x = returning (attributes_tree x.attributes) (option_map node_tree x.expression)

abbrev pub discard_tree : DiscardStatement → Simple
discard_tree x = discarding (attributes_tree x.attributes)

abbrev pub call_tree : FunctionCallStatement → Simple
call_tree x = calling (attributes_tree x.attributes) (type_tree x.call.ty) (exps (map node_tree x.call.arguments))

abbrev pub assertion_tree : ConstAssert → Simple
assertion_tree x = asserting (attributes_tree x.attributes) (node_tree x.expression)

abbrev pub value_tree : Declaration → Simple
value_tree x = declaring (attributes_tree x.attributes) x.kind x.ident.name (option_map type_tree x.ty) (option_map node_tree x.initializer)

abbrev pub break_if_tree : BreakIfStatement → BreakIf
break_if_tree x = record { attributes = attributes_tree x.attributes; condition = node_tree x.expression }

abbrev pub selector_tree : CaseSelector → Selector
selector_tree case_selector.Default = default_selector
selector_tree (case_selector.Expression x) = selected (node_tree x)
