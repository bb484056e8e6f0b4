use Rattle.std.proofs.Common.{refl}
use Rattle.weslc_workspace.proofs.content.Workspace.compile.Goals as goal

pub returns : goal.returns
returns c =
    let after = c.refresh.ensures in (
      (refl, λ _. tt, (record { content = after.content; runs = after.runs; stale = after.stale; asked = after.asked; parses = after.parses }, refl)),
      record { fresh = after.fresh; kept = after.kept; answers = after.answers; lent = tt },
    )
