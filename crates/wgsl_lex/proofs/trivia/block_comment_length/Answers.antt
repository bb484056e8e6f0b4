use Rattle.std.proofs.Common.{arith, inl, inr, ◌≡◌, sym, ◌∙◌}
use Rattle.wgsl_lex.proofs.First.{closes_one, opens_one, passes_one, ends_open}
use Rattle.wgsl_lex.proofs.trivia.block_comment_length.Goals as goal

pub loop-depth-preserved-then-is_pair : goal.loop-depth-preserved-then-is_pair
loop-depth-preserved-then-is_pair c = closes_one _ _ _ _ c.loop-depth.invariant c.loop-depth-test.true c.split_at.ensures.back (sym c.is_pair.ensures ∙ c.if-is_pair.true)

pub loop-depth-preserved-then-is_pair-2 : goal.loop-depth-preserved-then-is_pair-2
loop-depth-preserved-then-is_pair-2 c = opens_one _ _ _ _ c.loop-depth.invariant c.loop-depth-test.true c.split_at.ensures.back (sym c.is_pair-else-is_pair.ensures ∙ c.if-is_pair-2.true)

pub loop-depth-preserved : goal.loop-depth-preserved
loop-depth-preserved c =
    passes_one _ _ _ _ c.loop-depth.invariant c.loop-depth-test.true c.if-at-behind.true c.split_at.ensures.back (sym c.is_pair.ensures ∙ c.if-is_pair.false) (sym c.is_pair-else-is_pair.ensures ∙ c.if-is_pair-2.false)

pub returns-else-at-behind-clause-longest : goal.returns-else-at-behind-clause-longest
returns-else-at-behind-clause-longest c = ends_open _ _ _ c.loop-depth.invariant (inr c.if-at-behind.false)

pub returns-after-loop-depth-clause-longest : goal.returns-after-loop-depth-clause-longest
returns-after-loop-depth-clause-longest c = let none : c.loop-depth.depth ≡ 0 = omega arith in ends_open _ _ _ c.loop-depth.invariant (inl none)
