use Rattle.wgsl_print_laws.proofs.Attributes as attributes
use Rattle.wgsl_print_laws.proofs.trees.laws.attributes_are_laid_out.Goals as goal

pub returns : goal.returns
returns c = attributes.attributes_are_laid_out
