use Rattle.wgsl_skeleton.proofs.Agreeing.{renaming_looks_at_occurrences as law}
use Rattle.wgsl_skeleton.proofs.laws.renaming_looks_at_occurrences.Goals as goal

pub returns : goal.returns
returns c f g locals n same = law f g locals n same
