use Rattle.std.proofs.Common.{sym}
use Rattle.wgsl_templates.proofs.Lines.{entry_commented, entry_uncommented}
use Rattle.wgsl_templates.proofs.table.comment.Goals as goal

pub returns-then-begins_with_slash : goal.returns-then-begins_with_slash
returns-then-begins_with_slash c = entry_commented _ _ _ c.ends.ensures (sym c.if-begins_with_slash.ensures) c.requires

pub returns : goal.returns
returns c = entry_uncommented _ _ c.none.ensures
