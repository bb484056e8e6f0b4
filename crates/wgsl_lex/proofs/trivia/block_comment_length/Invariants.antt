use Rattle.std.proofs.Common.{◌-◌, length}
use Rattle.wgsl_lex.proofs.First.{IsOpen}
use Rattle.wgsl_lex.proofs.trivia.block_comment_length.Given as goal

abbrev pub decreases-loop-depth : goal.decreases-loop-depth
decreases-loop-depth l = length l.behind - l.at

abbrev pub invariant-loop-depth : goal.invariant-loop-depth
invariant-loop-depth l = IsOpen l.behind l.at l.depth
