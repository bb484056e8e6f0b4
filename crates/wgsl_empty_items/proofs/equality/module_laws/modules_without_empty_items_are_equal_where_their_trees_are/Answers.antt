use Rattle.wgsl_empty_items.proofs.EqualityModules.{function_decides, declaration_decides, units_decide, units_decide_once}
use Rattle.wgsl_empty_items.proofs.equality.module_laws.modules_without_empty_items_are_equal_where_their_trees_are.Goals as goal

pub returns-clause-function : goal.returns-clause-function
returns-clause-function c = function_decides

pub returns-clause-declaration : goal.returns-clause-declaration
returns-clause-declaration c = declaration_decides

pub returns-clause-unit : goal.returns-clause-unit
returns-clause-unit c = units_decide

pub returns-clause-left_out : goal.returns-clause-left_out
returns-clause-left_out c = units_decide_once
