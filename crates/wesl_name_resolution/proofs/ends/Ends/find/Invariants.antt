use Rattle.std.proofs.Common.{◌≡◌, take}
use Rattle.wesl_name_resolution.specs.Ends.{SetsAll}
use Rattle.wesl_name_resolution.proofs.ends.Ends.find.Given as goal

abbrev pub invariant-loop-via : goal.invariant-loop-via
invariant-loop-via l = SetsAll l.initial.self.ends.items (take l.via-index l.via-items) l.end l.self.ends.items
