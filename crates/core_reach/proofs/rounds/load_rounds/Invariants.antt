use Rattle.std.proofs.Common.{◌≡◌}
use Rattle.std.specs.Prelude.{string_bytes}
use Rattle.wesl_resolve.specs.Found.{SameAnswers, SameTexts}
use Rattle.core_reach.specs.Loading.{IsRoundEnd}
use Rattle.core_reach.specs.Asking.{IsAskedEnd}
use Rattle.core_reach.specs.Alone.{only, Alone, AsksMore}
use Rattle.core_reach.proofs.rounds.load_rounds.Given as goal

abbrev pub invariant-loop-round : goal.invariant-loop-round
invariant-loop-round g l = record {
  answers : SameAnswers (g.R.Resolver.answers l.initial.resolver) (g.R.Resolver.answers l.resolver);
  texts : SameTexts (g.R.Resolver.texts l.initial.resolver) (g.R.Resolver.texts l.resolver);
  root : string_bytes l.reached.root ≡ string_bytes l.initial.reached.root;
  loading : IsRoundEnd (g.R.Resolver.answers l.initial.resolver) l.max_modules (string_bytes l.initial.reached.root) l.keep l.initial.reached l.initial.asked 1
      → IsRoundEnd (g.R.Resolver.answers l.initial.resolver) l.max_modules (string_bytes l.initial.reached.root) l.keep l.reached l.asked l._round;
  names : g.R.Resolver.display_names l.resolver ≡ g.R.Resolver.display_names l.initial.resolver;
  reference : g.R.Resolver.holds l.resolver ≡ g.R.Resolver.holds l.initial.resolver;
  asks : IsAskedEnd (g.R.Resolver.answers l.initial.resolver) (string_bytes l.initial.reached.root) l.keep l.max_modules (g.R.Resolver.asked l.initial.resolver) (g.R.Resolver.asked l.initial.resolver) l.initial.reached l.initial.asked 1
      → IsAskedEnd (g.R.Resolver.answers l.initial.resolver) (string_bytes l.initial.reached.root) l.keep l.max_modules (g.R.Resolver.asked l.initial.resolver) (g.R.Resolver.asked l.resolver) l.reached l.asked l._round;
  more : AsksMore (g.R.Resolver.asked l.initial.resolver) (g.R.Resolver.asked l.resolver);
  alone : Alone (g.R.Resolver.asked l.initial.resolver) (g.R.Resolver.asked l.resolver)
      (λ inside. IsRoundEnd (only inside (g.R.Resolver.answers l.initial.resolver)) l.max_modules (string_bytes l.initial.reached.root) l.keep l.initial.reached l.initial.asked 1
      → IsRoundEnd (only inside (g.R.Resolver.answers l.initial.resolver)) l.max_modules (string_bytes l.initial.reached.root) l.keep l.reached l.asked l._round);
}
