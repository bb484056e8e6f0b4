use Rattle.wgsl_read_back.proofs.Apart as apart
use Rattle.wgsl_read_back.proofs.laws.imports_of_texts_are_apart.Goals as goal

pub returns : goal.returns
returns c = apart.imports_of_texts_are_apart
