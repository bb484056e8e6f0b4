use Rattle.wesl_reachability.proofs.Added.{AreEntryPoints}
use Rattle.wesl_reachability.proofs.starts.entry_points.Given as goal

abbrev pub invariant-loop-place : goal.invariant-loop-place
invariant-loop-place l = AreEntryPoints l.root l.place l.spots.items
