use Rattle.std.proofs.Common.{◌≡◌}
use Rattle.core_resolver.specs.Asked.{StayAsked}
use Rattle.weslc_link.proofs.map.source_map.Given as goal

abbrev pub invariant-loop-number : goal.invariant-loop-number
invariant-loop-number g l = record {
  asked : StayAsked (g.R.Resolver.asked l.initial.resolver) (g.R.Resolver.asked l.resolver);
  holds : g.R.Resolver.holds l.resolver ≡ g.R.Resolver.holds l.initial.resolver;
}
