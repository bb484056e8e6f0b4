-- What parts of attributes, statements, imports, declarations and modules say that may be absent.
use Rattle.std.specs.Prelude.{ℕ, List, [], Option, Some, None}
use Rattle.wgsl_path.specs.declared.span.Spanned.{Spanned}
use Rattle.wgsl_simple_statements.specs.declared.statement.BreakIfStatement.{BreakIfStatement}
use Rattle.wgsl_statements.specs.declared.statement.Statement.{Statement}
use Rattle.wgsl_statements.specs.declared.statement.ElseIfClauseOf.{ElseIfClauseOf}
use Rattle.wgsl_statements.specs.declared.statement.ElseClauseOf.{ElseClauseOf}
use Rattle.wgsl_statements.specs.declared.statement.ContinuingStatementOf.{ContinuingStatementOf}
use Rattle.wgsl_semantic_values.specs.declared.part.Part.{Part}
use Rattle.wgsl_semantic_values.specs.declared.part.Part.TheVariants as part
use Rattle.wgsl_path.specs.declared.path.ModulePath.{ModulePath}
use Rattle.wgsl_expressions.specs.declared.expression.Expression.{Expression}
use Rattle.wgsl_expressions.specs.declared.expression.TypeExpressionOf.{TypeExpressionOf}
use Rattle.wgsl_expressions.specs.declared.attributes.attribute.Attribute.{Attribute}
use Rattle.wgsl_declarations.specs.declared.imports.import.ImportStatement.{ImportStatement}
use Rattle.wgsl_declarations.specs.declared.imports.directive.GlobalDirective.{GlobalDirective}
use Rattle.wgsl_nodes.specs.FormalParameter.{FormalParameter}
use Rattle.wgsl_nodes.specs.GlobalDeclaration.{GlobalDeclaration}

-- the arguments of an attribute, which has parentheses or has none
abbrev pub arguments_in : Part → Option (List (Spanned Expression))
arguments_in (part.Arguments xs) = Some xs
arguments_in _ = None

abbrev pub statement_in : Part → Option (Spanned Statement)
statement_in (part.Statement x) = Some x
statement_in _ = None

-- the block behind `else`
abbrev pub else_in : Part → Option (ElseClauseOf Statement)
else_in (part.Block body) = Some (record { body = body })
else_in _ = None

abbrev pub continuing_in : Part → Option (ContinuingStatementOf Statement)
continuing_in (part.Continuing x) = Some x
continuing_in _ = None

abbrev pub break_if_in : Part → Option BreakIfStatement
break_if_in (part.BreakIf x) = Some x
break_if_in _ = None

abbrev pub statements_of : Part → List (Spanned Statement)
statements_of (part.Statements xs) = xs
statements_of _ = []

abbrev pub else_ifs_of : Part → List (ElseIfClauseOf Statement)
else_ifs_of (part.ElseIfs xs) = xs
else_ifs_of _ = []

abbrev pub path_in : Part → Option ModulePath
path_in (part.ModulePath x) = Some x
path_in _ = None

abbrev pub names_of : Part → List (List ℕ)
names_of (part.Texts xs) = xs
names_of _ = []

abbrev pub parameters_of : Part → List FormalParameter
parameters_of (part.Parameters xs) = xs
parameters_of _ = []

abbrev pub imports_of : Part → List ImportStatement
imports_of (part.Imports xs) = xs
imports_of _ = []

abbrev pub directives_of : Part → List GlobalDirective
directives_of (part.Directives xs) = xs
directives_of _ = []

abbrev pub globals_of : Part → List (Spanned GlobalDeclaration)
globals_of (part.Globals xs) = xs
globals_of _ = []

-- the attributes and the type of a function's result
abbrev pub return_attributes_of : Part → List (Spanned Attribute)
return_attributes_of (part.Result x) = x.attributes
return_attributes_of _ = []

abbrev pub return_type_in : Part → Option (TypeExpressionOf Expression)
return_type_in (part.Result x) = Some x.ty
return_type_in _ = None
