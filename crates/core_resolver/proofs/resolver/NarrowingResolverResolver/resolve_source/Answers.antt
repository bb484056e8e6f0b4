-- Nothing is found otherwise than before.
use Rattle.core_resolver.proofs.Telling.{same_part}
use Rattle.core_resolver.proofs.resolver.NarrowingResolverResolver.resolve_source.Goals as goal

pub returns-in-Ok-clause-same_answers : goal.returns-in-Ok-clause-same_answers
returns-in-Ok-clause-same_answers g c = same_part _ _ c.resolve_source.ensures.same_answers

pub returns-clause-same_answers : goal.returns-clause-same_answers
returns-clause-same_answers g c = same_part _ _ c.resolve_source.ensures.same_answers
