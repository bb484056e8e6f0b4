use Rattle.std.proofs.Common.{refl}
use Rattle.weslc_workspace.proofs.content.Workspace.link.Goals as goal

pub returns : goal.returns
returns c =
    let after = c.relink.ensures in (
      (refl, λ _. tt, record { content = after.content; runs = after.runs; stale = after.stale; asked = after.asked; compiled = after.compiled; parses = after.parses }),
      record { fresh = after.fresh; lent = tt },
    )
