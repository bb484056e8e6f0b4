-- What the box holds says the same before and after.
use Rattle.std.proofs.Common.{◌≡◌, ℕ, List, Option, subst}
use Rattle.std.specs.Prelude.{IfOk}
use Rattle.wesl_resolvers.specs.Found.{TellsUnit, TellsText, SameAnswers, SameTexts}
use Rattle.wesl_router.proofs.mount.MountResolver.display_name.Goals as goal

pub returns-clause-name : goal.returns-clause-name
returns-clause-name g c = subst (λ (w : (x : g.dyn-1.0.I) × (g.dyn-1.0.entry x).0.Denot). IfOk c.display_name.result (λ name. name ≡ (g.dyn-1.0.entry w.0).1.display_names w.1 c.args.path.now)) c.deref_box_mut-1.ensures.value.1 c.display_name.ensures.0

pub returns-clause-same_answers : goal.returns-clause-same_answers
returns-clause-same_answers g c = subst (λ (w : (x : g.dyn-1.0.I) × (g.dyn-1.0.entry x).0.Denot). SameAnswers ((g.dyn-1.0.entry w.0).1.answers w.1) ((g.dyn-1.0.entry c.deref_box_mut-1.result.now.0).1.answers c.display_name.new.self)) c.deref_box_mut-1.ensures.value.1 c.display_name.ensures.1.0

pub returns-clause-same_texts : goal.returns-clause-same_texts
returns-clause-same_texts g c = subst (λ (w : (x : g.dyn-1.0.I) × (g.dyn-1.0.entry x).0.Denot). SameTexts ((g.dyn-1.0.entry w.0).1.texts w.1) ((g.dyn-1.0.entry c.deref_box_mut-1.result.now.0).1.texts c.display_name.new.self)) c.deref_box_mut-1.ensures.value.1 c.display_name.ensures.1.1.0

pub returns-clause-same_names : goal.returns-clause-same_names
returns-clause-same_names g c = subst (λ (w : (x : g.dyn-1.0.I) × (g.dyn-1.0.entry x).0.Denot). (g.dyn-1.0.entry c.deref_box_mut-1.result.now.0).1.display_names c.display_name.new.self ≡ (g.dyn-1.0.entry w.0).1.display_names w.1) c.deref_box_mut-1.ensures.value.1 c.display_name.ensures.1.1.1.0
