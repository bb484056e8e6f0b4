use Rattle.wgsl_empty_items.proofs.Declarations.{variables_decide, aliases_decide, structures_decide, members_decide, parameters_decide, claims_decide}
use Rattle.wgsl_empty_items.proofs.equality.module_laws.declarations_are_equal_where_their_trees_are.Goals as goal

pub returns-clause-value : goal.returns-clause-value
returns-clause-value c = variables_decide

pub returns-clause-alias : goal.returns-clause-alias
returns-clause-alias c = aliases_decide

pub returns-clause-structure : goal.returns-clause-structure
returns-clause-structure c = structures_decide

pub returns-clause-member : goal.returns-clause-member
returns-clause-member c = members_decide

pub returns-clause-parameter : goal.returns-clause-parameter
returns-clause-parameter c = parameters_decide

pub returns-clause-assertion : goal.returns-clause-assertion
returns-clause-assertion c = claims_decide
