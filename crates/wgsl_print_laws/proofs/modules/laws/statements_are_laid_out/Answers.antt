use Rattle.wgsl_print_laws.proofs.Statements as statements
use Rattle.wgsl_print_laws.proofs.modules.laws.statements_are_laid_out.Goals as goal

pub returns : goal.returns
returns c = statements.statements_are_laid_out
