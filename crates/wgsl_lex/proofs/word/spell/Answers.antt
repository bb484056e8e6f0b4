use Rattle.std.proofs.Common.{arith, sym}
use Rattle.std.proofs.lemmas.Bool.{ltb-true}
use Rattle.wgsl_lex.proofs.Sizes.{spells_first, spells_more}
use Rattle.wgsl_lex.proofs.word.spell.Goals as goal

pub loop-at-init : goal.loop-at-init
loop-at-init c = spells_first c.args.bytes.now c.args.first (omega arith) (ltb-true _ _ (sym c.if-not-is_ascii.ensures))

pub loop-at-preserved : goal.loop-at-preserved
loop-at-preserved c = spells_more c.loop-at.bytes c.args.behind.now c.args.first c.loop-at.at c.index-behind-at.result (omega arith) c.loop-at-test.true c.index-behind-at.is (ltb-true _ _ (sym c.if-not-is_ascii-2.ensures)) c.loop-at.invariant
