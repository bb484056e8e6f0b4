use Rattle.wesl_chains.proofs.Onward.{handled_onward as law}
use Rattle.wesl_chains.proofs.laws.handled_onward.Goals as goal

pub returns : goal.returns
returns c = law
