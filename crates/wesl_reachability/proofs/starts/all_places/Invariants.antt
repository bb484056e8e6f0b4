use Rattle.std.proofs.Common.{◌≤◌}
use Rattle.wesl_reachability.proofs.Added.{AreBetween}
use Rattle.wesl_reachability.proofs.starts.all_places.Given as goal

abbrev pub invariant-loop-number : goal.invariant-loop-number
invariant-loop-number l = record {
  between : AreBetween l.modules.list.items l.first l.number l.spots.items;
  behind : l.first ≤ l.number;
}
