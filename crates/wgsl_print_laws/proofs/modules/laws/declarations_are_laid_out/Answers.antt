use Rattle.wgsl_print_laws.proofs.Declarations as declarations
use Rattle.wgsl_print_laws.proofs.modules.laws.declarations_are_laid_out.Goals as goal

pub returns : goal.returns
returns c = declarations.declarations_are_laid_out
