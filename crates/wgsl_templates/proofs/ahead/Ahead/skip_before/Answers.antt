use Rattle.std.proofs.Common.{sym, arith}
use Rattle.wgsl_templates.proofs.Lines.{skips_none, skips_blank, commented_ahead}
use Rattle.wgsl_templates.proofs.ahead.Ahead.skip_before.Goals as goal

pub returns-then-is_blankspace : goal.returns-then-is_blankspace
returns-then-is_blankspace c = skips_blank _ _ _ (sym c.if-is_blankspace.ensures) c.requires.skip

pub returns-then-is_comment : goal.returns-then-is_comment
returns-then-is_comment c = commented_ahead _ _ _ (sym c.if-is_comment.ensures) c.requires

pub returns : goal.returns
returns c = skips_none _ _ (omega arith)
