use Rattle.std.proofs.Common.{◌≡◌}
use Rattle.wesl_resolvers.specs.Found.{SameAnswers, SameTexts}
use Rattle.wesl_load.specs.Asked.{StayAsked}
use Rattle.wesl_load.proofs.loading.Loaded.load_all.Given as goal

abbrev pub invariant-loop-found : goal.invariant-loop-found
invariant-loop-found g l = record {
  answers : SameAnswers (g.R.Resolver.answers l.initial.resolver) (g.R.Resolver.answers l.resolver);
  texts : SameTexts (g.R.Resolver.texts l.initial.resolver) (g.R.Resolver.texts l.resolver);
  names : g.R.Resolver.display_names l.resolver ≡ g.R.Resolver.display_names l.initial.resolver;
  holds : g.R.Resolver.holds l.resolver ≡ g.R.Resolver.holds l.initial.resolver;
  asked : StayAsked (g.R.Resolver.asked l.initial.resolver) (g.R.Resolver.asked l.resolver);
}
