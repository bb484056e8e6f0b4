use Rattle.std.proofs.Common.{arith, sym}
use Rattle.wgsl_templates.proofs.Here.{here_closing, here_asked, here_plain}
use Rattle.wgsl_templates.proofs.piece.told_symbol.Goals as goal

pub returns-then-closes : goal.returns-then-closes
returns-then-closes c at = here_closing _ _ _ _ _ (omega arith) c.requires.first (sym c.if-closes.ensures)

pub returns-then-is_asked : goal.returns-then-is_asked
returns-then-is_asked c at = here_asked _ _ _ _ _ (omega arith) c.requires.first _ _ _ (sym c.if-is_asked.ensures) c.requires.table c.requires.covered c.is_some.ensures c.less_or_start.ensures

pub returns : goal.returns
returns c at = here_plain _ _ _ _ _ (omega arith) c.requires.first (sym c.if-closes.ensures) (sym c.if-is_asked.ensures)
