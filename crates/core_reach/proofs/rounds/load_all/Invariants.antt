use Rattle.std.proofs.Common.{◌≡◌}
use Rattle.wesl_resolve.specs.Found.{SameAnswers, SameTexts}
use Rattle.core_link_spec.specs.Modules.{Modules as ListedModules}
use Rattle.core_reach.specs.Loading.{AreTabled, AreSought}
use Rattle.core_reach.proofs.LoadLemmas.{IsLoadedTo}
use Rattle.core_reach.specs.Alone.{only, Alone, AsksMore}
use Rattle.core_reach.proofs.AskingLemmas.{IsAskedTo}
use Rattle.core_reach.proofs.rounds.load_all.Given as goal

abbrev pub invariant-loop-text : goal.invariant-loop-text
invariant-loop-text g l = record {
  answers : SameAnswers (g.R.Resolver.answers l.initial.resolver) (g.R.Resolver.answers l.resolver);
  texts : SameTexts (g.R.Resolver.texts l.initial.resolver) (g.R.Resolver.texts l.resolver);
  loads : (listed : ListedModules) → AreTabled l.initial.modules listed → AreSought l.initial.modules l.asked
      → IsLoadedTo (g.R.Resolver.answers l.initial.resolver) l.max_modules l.initial.modules listed l.asked l.modules l.text-iterator;
  names : g.R.Resolver.display_names l.resolver ≡ g.R.Resolver.display_names l.initial.resolver;
  reference : g.R.Resolver.holds l.resolver ≡ g.R.Resolver.holds l.initial.resolver;
  asks : (listed : ListedModules) → AreTabled l.initial.modules listed → AreSought l.initial.modules l.asked
      → IsAskedTo (g.R.Resolver.answers l.initial.resolver) l.max_modules l.initial.modules listed l.asked (g.R.Resolver.asked l.initial.resolver) (g.R.Resolver.asked l.resolver) l.modules l.text-iterator;
  more : AsksMore (g.R.Resolver.asked l.initial.resolver) (g.R.Resolver.asked l.resolver);
  alone : Alone (g.R.Resolver.asked l.initial.resolver) (g.R.Resolver.asked l.resolver)
      (λ inside. (listed : ListedModules) → AreTabled l.initial.modules listed → AreSought l.initial.modules l.asked
      → IsLoadedTo (only inside (g.R.Resolver.answers l.initial.resolver)) l.max_modules l.initial.modules listed l.asked l.modules l.text-iterator);
}
