use Rattle.std.proofs.Common.{◌+◌, arith, sym}
use Rattle.std.proofs.lemmas.Bool.{ltb-true}
use Rattle.unicode_ident.specs.Ident.{is_xid_continue}
use Rattle.wgsl_lex.proofs.Sizes.{spells_first, spells_more}
use Rattle.wgsl_lex.proofs.Letters.{each_more, ascii_more}
use Rattle.wgsl_lex.proofs.short.spell_word.Goals as goal

pub loop-at-init : goal.loop-at-init
loop-at-init c = (omega arith, ascii_more c.args.bytes.now 0 c.args.first (omega arith) (ltb-true _ _ (sym c.if-not-is_ascii.ensures)) (λ i. omega arith), spells_first c.args.bytes.now c.args.first (omega arith) (ltb-true _ _ (sym c.if-not-is_ascii.ensures)), λ k h. absurd (omega arith))

pub loop-at-preserved : goal.loop-at-preserved
loop-at-preserved c = (
  omega (arith, c.loop-at.invariant.0, c.if-at-eq15.false),
  ascii_more c.loop-at.bytes (c.loop-at.at + 1) c.index-behind-at.result (omega (arith, c.loop-at.invariant.0, c.if-at-eq15.false)) (ltb-true _ _ (sym c.if-not-is_ascii-2.ensures)) c.loop-at.invariant.1,
  spells_more c.loop-at.bytes c.args.behind.now c.args.first c.loop-at.at c.index-behind-at.result (omega (arith, c.loop-at.invariant.0, c.if-at-eq15.false)) c.loop-at-test.true c.index-behind-at.is (ltb-true _ _ (sym c.if-not-is_ascii-2.ensures)) c.loop-at.invariant.2,
  each_more is_xid_continue c.args.behind.now c.loop-at.at c.index-behind-at.result c.loop-at-test.true c.index-behind-at.is (sym c.if-not-continues_in_ascii.ensures) c.loop-at.invariant.3,
)
