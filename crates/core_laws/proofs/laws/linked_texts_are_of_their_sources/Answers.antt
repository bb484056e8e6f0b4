use Rattle.core_laws.proofs.Headline.{linked_texts_are_of_their_sources}
use Rattle.core_laws.proofs.laws.linked_texts_are_of_their_sources.Goals as goal

pub returns : goal.returns
returns c start resolver = linked_texts_are_of_their_sources _
