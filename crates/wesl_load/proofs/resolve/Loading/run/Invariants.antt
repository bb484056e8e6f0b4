use Rattle.std.proofs.Common.{◌≡◌}
use Rattle.wesl_resolvers.specs.Found.{SameAnswers, SameTexts}
use Rattle.wesl_load.specs.Asked.{StayAsked}
use Rattle.wesl_load.proofs.resolve.Loading.run.Given as goal

abbrev pub invariant-loop-round : goal.invariant-loop-round
invariant-loop-round g l = record {
  answers : SameAnswers (g.R.Resolver.answers l.initial.resolver) (g.R.Resolver.answers l.resolver);
  texts : SameTexts (g.R.Resolver.texts l.initial.resolver) (g.R.Resolver.texts l.resolver);
  names : g.R.Resolver.display_names l.resolver ≡ g.R.Resolver.display_names l.initial.resolver;
  holds : g.R.Resolver.holds l.resolver ≡ g.R.Resolver.holds l.initial.resolver;
  asked : StayAsked (g.R.Resolver.asked l.initial.resolver) (g.R.Resolver.asked l.resolver);
}
