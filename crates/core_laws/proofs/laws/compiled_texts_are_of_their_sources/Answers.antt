use Rattle.core_laws.proofs.Headline.{compiled_texts_are_of_their_sources}
use Rattle.core_laws.proofs.laws.compiled_texts_are_of_their_sources.Goals as goal

pub returns : goal.returns
returns c start resolver = compiled_texts_are_of_their_sources _
