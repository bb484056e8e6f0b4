use Rattle.wgsl_empty_items.proofs.Imports.{contents_decide, imports_decide, directives_decide}
use Rattle.wgsl_empty_items.proofs.equality.laws.imports_are_equal_where_their_trees_are.Goals as goal

pub returns-clause-content : goal.returns-clause-content
returns-clause-content c = contents_decide

pub returns-clause-statement : goal.returns-clause-statement
returns-clause-statement c = imports_decide

pub returns-clause-directive : goal.returns-clause-directive
returns-clause-directive c = directives_decide
