use Rattle.std.proofs.Common.{sym}
use Rattle.wgsl_templates.proofs.Here.{here_closing, here_asked, here_plain}
use Rattle.wgsl_templates.proofs.piece.told.Goals as goal

pub returns-then-closes-clause-first : goal.returns-then-closes-clause-first
returns-then-closes-clause-first c at = here_closing _ _ _ _ _ c.requires.within c.requires.first (sym c.if-closes.ensures)

pub returns-then-is_asked-clause-first : goal.returns-then-is_asked-clause-first
returns-then-is_asked-clause-first c at = here_asked _ _ _ _ _ c.requires.within c.requires.first _ _ _ (sym c.if-is_asked.ensures) c.requires.table c.requires.covered c.is_some.ensures c.less_or_start.ensures

pub returns-clause-first : goal.returns-clause-first
returns-clause-first c at = here_plain _ _ _ _ _ c.requires.within c.requires.first (sym c.if-closes.ensures) (sym c.if-is_asked.ensures)
