use Rattle.std.proofs.Common.{refl}
use Rattle.wgsl_templates.proofs.Within.{if_some, comment_there}
use Rattle.wgsl_templates.proofs.level.comment_end.Goals as goal

pub returns-clause-within : goal.returns-clause-within
returns-clause-within c = if_some _ _ (λ count same. (comment_there _ _ _ _ c.if-first-ne47.false c.requires.table c.requires.covered refl count same).0)

pub returns-clause-skips : goal.returns-clause-skips
returns-clause-skips c = if_some _ _ (λ count same. (comment_there _ _ _ _ c.if-first-ne47.false c.requires.table c.requires.covered refl count same).1)
