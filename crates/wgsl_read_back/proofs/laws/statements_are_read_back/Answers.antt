use Rattle.wgsl_read_back.proofs.ModuleLaws as whole
use Rattle.wgsl_read_back.proofs.laws.statements_are_read_back.Goals as goal

pub returns : goal.returns
returns c = whole.statements_are_read_back
