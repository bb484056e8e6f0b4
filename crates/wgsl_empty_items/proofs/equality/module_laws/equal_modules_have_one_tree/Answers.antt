use Rattle.wgsl_empty_items.proofs.Declarations.{functions_true, declarations_true, units_true}
use Rattle.wgsl_empty_items.proofs.equality.module_laws.equal_modules_have_one_tree.Goals as goal

pub returns-clause-function : goal.returns-clause-function
returns-clause-function c = functions_true

pub returns-clause-declaration : goal.returns-clause-declaration
returns-clause-declaration c = declarations_true

pub returns-clause-unit : goal.returns-clause-unit
returns-clause-unit c = units_true
