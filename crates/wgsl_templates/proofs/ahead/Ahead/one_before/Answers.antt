use Rattle.std.proofs.Common.{sym}
use Rattle.wgsl_templates.proofs.Lines.{before_break, before_other}
use Rattle.wgsl_templates.proofs.ahead.Ahead.one_before.Goals as goal

pub returns-then-is_line_break : goal.returns-then-is_line_break
returns-then-is_line_break c = before_break _ _ _ (sym c.if-is_line_break.ensures) c.requires

pub returns : goal.returns
returns c = before_other _ _ _ _ (sym c.if-is_line_break.ensures) c.skip_before.ensures c.requires
