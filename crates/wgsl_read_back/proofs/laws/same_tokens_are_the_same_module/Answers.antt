use Rattle.wgsl_read_back.proofs.ModuleLaws as whole
use Rattle.wgsl_read_back.proofs.laws.same_tokens_are_the_same_module.Goals as goal

pub returns : goal.returns
returns c = whole.same_tokens_are_the_same_module
