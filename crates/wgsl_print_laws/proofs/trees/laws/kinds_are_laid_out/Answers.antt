use Rattle.wgsl_print_laws.proofs.DeclarationKinds as kinds
use Rattle.wgsl_print_laws.proofs.trees.laws.kinds_are_laid_out.Goals as goal

pub returns : goal.returns
returns c = kinds.kinds_are_laid_out
