use Rattle.core_programs.proofs.Typing.{results_have_their_types as law}
use Rattle.core_programs.proofs.laws.results_have_their_types.Goals as goal

pub returns : goal.returns
returns c p known k stage f xs t x all args g h = law p known k stage f xs t x all args g h
