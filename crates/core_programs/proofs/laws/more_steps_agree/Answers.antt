use Rattle.core_programs.proofs.Answers.{more_steps as law}
use Rattle.core_programs.proofs.laws.more_steps_agree.Goals as goal

pub returns : goal.returns
returns c p s handed n m answer more ends = law p s handed n m answer more ends
