use Rattle.std.proofs.Common.{refl, ◌∙◌}
use Rattle.wesl_load.proofs.Same.{two_same}
use Rattle.wesl_load.proofs.loading.Loaded.load_all.Goals as goal

pub loop-found-init : goal.loop-found-init
loop-found-init g c = record {
  answers = λ p a. (λ x. x, λ x. x);
  texts = λ p a. (λ x. x, λ x. x);
  names = refl;
  holds = refl;
  asked = λ p is. is;
}

pub loop-found-preserved : goal.loop-found-preserved
loop-found-preserved g c = record {
  answers = two_same _ _ _ c.loop-found.invariant.answers c.load.ensures.same_answers;
  texts = two_same _ _ _ c.loop-found.invariant.texts c.load.ensures.same_texts;
  names = c.load.ensures.same_names ∙ c.loop-found.invariant.names;
  holds = c.load.ensures.same_reference ∙ c.loop-found.invariant.holds;
  asked = λ p is. c.load.ensures.asked p (c.loop-found.invariant.asked p is);
}
