use Rattle.core_programs.proofs.Answers.{runs_agree as law}
use Rattle.core_programs.proofs.laws.runs_have_one_answer.Goals as goal

pub returns : goal.returns
returns c p s handed n m a b first second = law p s handed n m a b first second
