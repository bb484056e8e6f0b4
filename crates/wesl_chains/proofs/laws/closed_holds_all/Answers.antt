use Rattle.wesl_chains.proofs.Onward.{closed_holds_all as law}
use Rattle.wesl_chains.proofs.laws.closed_holds_all.Goals as goal

pub returns : goal.returns
returns c = law
