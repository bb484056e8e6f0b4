use Rattle.wgsl_templates.proofs.Once as once
use Rattle.wgsl_templates.proofs.meaning.laws.lexed_once.Goals as goal

pub returns : goal.returns
returns c = once.lexed_once
