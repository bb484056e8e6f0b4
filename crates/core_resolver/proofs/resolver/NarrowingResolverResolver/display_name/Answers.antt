-- Nothing is found otherwise than before.
use Rattle.core_resolver.proofs.Telling.{same_part}
use Rattle.core_resolver.proofs.resolver.NarrowingResolverResolver.display_name.Goals as goal

pub returns-in_err-name-clause-same_answers : goal.returns-in_err-name-clause-same_answers
returns-in_err-name-clause-same_answers g c = same_part _ _ c.display_name.ensures.same_answers

pub returns-clause-same_answers : goal.returns-clause-same_answers
returns-clause-same_answers g c = same_part _ _ c.display_name.ensures.same_answers
