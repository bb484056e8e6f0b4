use Rattle.wesl_resolve.proofs.Items as items
use Rattle.wesl_resolve.proofs.laws.mangled_once.Goals as goal

pub returns : goal.returns
returns c = items.mangled_once
