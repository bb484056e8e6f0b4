use Rattle.std.proofs.Common.{◌∙◌, sym}
use Rattle.wgsl_templates.proofs.Faults.{found, searched_more}
use Rattle.wgsl_templates.proofs.reading.tokens.first_fault.Goals as goal

pub returns-then-is_fault : goal.returns-then-is_fault
returns-then-is_fault c = (
  c.loop-at-test.true,
  found c.args.tokens.now c.loop-at.at c.index-tokens-at.result c.loop-at-test.true c.index-tokens-at.is (sym c.is_fault.ensures ∙ c.if-is_fault.true) c.loop-at.invariant,
)

pub loop-at-preserved : goal.loop-at-preserved
loop-at-preserved c =
    searched_more c.args.tokens.now c.loop-at.at c.index-tokens-at.result c.loop-at-test.true c.index-tokens-at.is (sym c.is_fault.ensures ∙ c.if-is_fault.false) c.loop-at.invariant
