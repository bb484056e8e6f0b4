use Rattle.wgsl_lex.proofs.Once as once
use Rattle.wgsl_lex.proofs.laws.lexed_once.Goals as goal

pub returns : goal.returns
returns c = once.lexed_once
