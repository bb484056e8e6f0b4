use Rattle.wgsl_print_laws.proofs.ModulesLemmas as modules
use Rattle.wgsl_print_laws.proofs.modules.laws.modules_are_laid_out.Goals as goal

pub returns : goal.returns
returns c = modules.modules_are_laid_out
