use Rattle.std.proofs.Common.{arith, rules}
use Rattle.std.proofs.lemmas.Grind.{common_steps}
use Rattle.wgsl_statements.proofs.Texts.{block_pieces, continuing_whole, for_whole, if_whole, loop_whole, switch_whole}
use Rattle.wgsl_statements.proofs.print.+display.Goals as goal

pub write_block-returns : goal.write_block-returns
write_block-returns g t c = rw (block_pieces c.args.level c.args.compound.now.statements c.is_block_filled-filled.result c.is_block_filled-filled.ensures) (first_of (search rules, grind (arith, common_steps)))

pub write_continuing-returns : goal.write_continuing-returns
write_continuing-returns g t c = rw (continuing_whole c.args.level c.args.x.now c.is_filled-filled.result (rw c.is_some.ensures at c.is_filled-filled.ensures)) (grind (arith, common_steps))

pub write_for-returns : goal.write_for-returns
write_for-returns g t c = rw (for_whole c.args.level c.args.x.now) (grind (arith, common_steps))

pub write_if-returns : goal.write_if-returns
write_if-returns g t c = rw (if_whole c.args.level c.args.x.now) (grind (arith, common_steps))

pub write_loop-returns : goal.write_loop-returns
write_loop-returns g t c = rw (loop_whole c.args.level c.args.x.now c.is_filled-filled.result (rw c.is_some.ensures at c.is_filled-filled.ensures)) (grind (arith, common_steps))

pub write_switch-returns : goal.write_switch-returns
write_switch-returns g t c = rw (switch_whole c.args.level c.args.x.now c.has_clause-filled.result c.has_clause-filled.ensures) (grind (arith, common_steps))
