use Rattle.std.proofs.Common.{refl, ◌∙◌}
use Rattle.wesl_load.proofs.Same.{two_same}
use Rattle.wesl_load.proofs.resolve.Loading.run.Goals as goal

pub loop-round-init : goal.loop-round-init
loop-round-init g c = record {
  answers = λ p a. (λ x. x, λ x. x);
  texts = λ p a. (λ x. x, λ x. x);
  names = refl;
  holds = refl;
  asked = λ p is. is;
}

pub loop-round-preserved : goal.loop-round-preserved
loop-round-preserved g c = record {
  answers = two_same _ _ _ c.loop-round.invariant.answers c.next_round.ensures.same_answers;
  texts = two_same _ _ _ c.loop-round.invariant.texts c.next_round.ensures.same_texts;
  names = c.next_round.ensures.same_names ∙ c.loop-round.invariant.names;
  holds = c.next_round.ensures.same_reference ∙ c.loop-round.invariant.holds;
  asked = λ p is. c.next_round.ensures.asked p (c.loop-round.invariant.asked p is);
}
