use Rattle.wgsl_parser.proofs.Once as once
use Rattle.wgsl_parser.proofs.laws.module_texts_have_one_answer.Goals as goal

pub returns : goal.returns
returns c = (once.module_fault_once, once.module_apart)
