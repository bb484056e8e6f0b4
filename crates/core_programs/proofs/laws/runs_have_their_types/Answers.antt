use Rattle.core_programs.proofs.Typing.{runs_have_their_types as law}
use Rattle.core_programs.proofs.laws.runs_have_their_types.Goals as goal

pub returns : goal.returns
returns c p k order s handed known t answer formed g h = law p k order s handed known t answer formed g h
