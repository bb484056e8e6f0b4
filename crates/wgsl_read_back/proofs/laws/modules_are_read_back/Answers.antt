use Rattle.wgsl_read_back.proofs.ModuleLaws as whole
use Rattle.wgsl_read_back.proofs.laws.modules_are_read_back.Goals as goal

pub returns : goal.returns
returns c = whole.modules_are_read_back
