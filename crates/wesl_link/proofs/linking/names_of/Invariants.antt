use Rattle.std.proofs.Common.{◌≡◌}
use Rattle.wesl_link.proofs.linking.names_of.Given as goal

abbrev pub invariant-loop-spot : goal.invariant-loop-spot
invariant-loop-spot g l = record {
  names : g.M.Mangler.names l.mangler ≡ g.M.Mangler.names l.initial.mangler;
  holds : g.M.Mangler.holds l.mangler ≡ g.M.Mangler.holds l.initial.mangler;
}
