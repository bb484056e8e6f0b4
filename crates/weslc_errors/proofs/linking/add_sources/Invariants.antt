use Rattle.std.proofs.Common.{◌≡◌, ℕ, ◌<◌, map, Some, Bor}
use Rattle.std.specs.List.{slice_get}
use Rattle.wgsl_path.specs.declared.path.ModulePath.{ModulePath as Path}
use Rattle.wesl_resolve.specs.Found.{SameAnswers, SameTexts}
use Rattle.weslc_errors.specs.Mapped.{HasText, AddsOnly, HasNames}
use Rattle.weslc_errors.proofs.linking.add_sources.Given as goal

-- the texts of the paths so far are recorded, and nothing else is changed
abbrev pub invariant-loop-path : goal.invariant-loop-path
invariant-loop-path g l = record {
  texts : (k : ℕ) (q : Bor Path) → k < l.path-index → slice_get l.paths k ≡ Some q → HasText (g.R.Resolver.texts l.initial.resolver) l.recorded q.now;
  only : AddsOnly (map (λ p. p.now) l.paths) l.initial.recorded l.recorded;
  names : HasNames (g.R.Resolver.display_names l.initial.resolver) l.initial.recorded → HasNames (g.R.Resolver.display_names l.initial.resolver) l.recorded;
  decls : l.recorded.decls ≡ l.initial.recorded.decls;
  same_answers : SameAnswers (g.R.Resolver.answers l.initial.resolver) (g.R.Resolver.answers l.resolver);
  same_texts : SameTexts (g.R.Resolver.texts l.initial.resolver) (g.R.Resolver.texts l.resolver);
  same_names : g.R.Resolver.display_names l.resolver ≡ g.R.Resolver.display_names l.initial.resolver;
  same_reference : g.R.Resolver.holds l.resolver ≡ g.R.Resolver.holds l.initial.resolver;
  same_asked : g.R.Resolver.asked l.resolver ≡ g.R.Resolver.asked l.initial.resolver;
}
