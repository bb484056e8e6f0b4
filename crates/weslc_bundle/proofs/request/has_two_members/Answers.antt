use Rattle.weslc_bundle.proofs.Keys.{two_members}
use Rattle.weslc_bundle.proofs.request.has_two_members.Goals as goal

pub returns-in-Some : goal.returns-in-Some
returns-in-Some c = rw (c.len.ensures.len) (two_members c.in-Some.members.now.entries _ c.in-Some.ensures)
