use Rattle.std.proofs.Common.{◌≡◌}
use Rattle.wesl_name_resolution.proofs.Ways.{Underway}
use Rattle.wesl_name_resolution.proofs.ends.Ends.walk.Given as goal

abbrev pub invariant-loop-item : goal.invariant-loop-item
invariant-loop-item l = Underway l.modules l.fn.self.ends.items l.fn.first l.via l.met.items l.self.ends.items l._item
