use Rattle.wgsl_read_back.proofs.One as one
use Rattle.wgsl_read_back.proofs.laws.texts_have_one_module.Goals as goal

pub returns : goal.returns
returns c = one.texts_have_one_module
