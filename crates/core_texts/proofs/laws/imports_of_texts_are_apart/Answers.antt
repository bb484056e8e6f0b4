use Rattle.core_texts.proofs.Whole as law
use Rattle.core_texts.proofs.laws.imports_of_texts_are_apart.Goals as goal

pub returns : goal.returns
returns c = law.imports_of_texts_are_apart
