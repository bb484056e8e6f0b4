use Rattle.wgsl_print_laws.proofs.Imports as imports
use Rattle.wgsl_print_laws.proofs.trees.laws.imports_are_laid_out.Goals as goal

pub returns : goal.returns
returns c = imports.imports_are_laid_out
