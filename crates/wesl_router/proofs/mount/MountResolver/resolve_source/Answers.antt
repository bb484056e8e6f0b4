-- What the box holds says the same before and after.
use Rattle.std.proofs.Common.{◌≡◌, ℕ, List, Option, subst}
use Rattle.std.specs.Prelude.{IfOk}
use Rattle.wesl_resolvers.specs.Found.{TellsUnit, TellsText, SameAnswers, SameTexts}
use Rattle.wesl_router.proofs.mount.MountResolver.resolve_source.Goals as goal

pub returns-clause-text : goal.returns-clause-text
returns-clause-text g c = subst (λ (w : (x : g.dyn-1.0.I) × (g.dyn-1.0.entry x).0.Denot). TellsText ((g.dyn-1.0.entry w.0).1.answers w.1 c.args.path.now) ((g.dyn-1.0.entry w.0).1.texts w.1 c.args.path.now) c.args.path.now c.resolve_source.result) c.deref_box_mut-1.ensures.value.1 c.resolve_source.ensures.0

pub returns-clause-same_answers : goal.returns-clause-same_answers
returns-clause-same_answers g c = subst (λ (w : (x : g.dyn-1.0.I) × (g.dyn-1.0.entry x).0.Denot). SameAnswers ((g.dyn-1.0.entry w.0).1.answers w.1) ((g.dyn-1.0.entry c.deref_box_mut-1.result.now.0).1.answers c.resolve_source.new.self)) c.deref_box_mut-1.ensures.value.1 c.resolve_source.ensures.1.0

pub returns-clause-same_texts : goal.returns-clause-same_texts
returns-clause-same_texts g c = subst (λ (w : (x : g.dyn-1.0.I) × (g.dyn-1.0.entry x).0.Denot). SameTexts ((g.dyn-1.0.entry w.0).1.texts w.1) ((g.dyn-1.0.entry c.deref_box_mut-1.result.now.0).1.texts c.resolve_source.new.self)) c.deref_box_mut-1.ensures.value.1 c.resolve_source.ensures.1.1.0

pub returns-clause-same_names : goal.returns-clause-same_names
returns-clause-same_names g c = subst (λ (w : (x : g.dyn-1.0.I) × (g.dyn-1.0.entry x).0.Denot). (g.dyn-1.0.entry c.deref_box_mut-1.result.now.0).1.display_names c.resolve_source.new.self ≡ (g.dyn-1.0.entry w.0).1.display_names w.1) c.deref_box_mut-1.ensures.value.1 c.resolve_source.ensures.1.1.1.0
