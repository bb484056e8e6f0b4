use Rattle.wgsl_print_laws.proofs.Expressions as expressions
use Rattle.wgsl_print_laws.proofs.trees.laws.expressions_are_laid_out.Goals as goal

pub returns : goal.returns
returns c = expressions.expressions_are_laid_out
