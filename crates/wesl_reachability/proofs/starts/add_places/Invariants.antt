use Rattle.wesl_reachability.specs.Starts.{AddsPlaces}
use Rattle.wesl_reachability.proofs.starts.add_places.Given as goal

abbrev pub invariant-loop-place : goal.invariant-loop-place
invariant-loop-place l = AddsPlaces l.number l.place l.fn.spots.items l.spots.items
