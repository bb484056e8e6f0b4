use Rattle.wgsl_print_laws.proofs.DirectiveLines as directives
use Rattle.wgsl_print_laws.proofs.trees.laws.directives_are_laid_out.Goals as goal

pub returns : goal.returns
returns c = directives.directives_are_laid_out
