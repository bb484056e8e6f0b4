use Rattle.wgsl_skeleton.proofs.Replays.{flat_says_uses as law}
use Rattle.wgsl_skeleton.proofs.Tidy.{declarations_are_tidy}
use Rattle.wgsl_skeleton.proofs.laws.flat_says_uses.Goals as goal

pub returns-clause-uses : goal.returns-clause-uses
returns-clause-uses c = law

pub returns-clause-declarations : goal.returns-clause-declarations
returns-clause-declarations c = declarations_are_tidy
