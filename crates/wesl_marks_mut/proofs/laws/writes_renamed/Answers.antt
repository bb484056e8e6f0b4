use Rattle.wesl_marks_mut.proofs.Renames as lemmas
use Rattle.wesl_marks_mut.proofs.laws.writes_renamed.Goals as goal

pub returns-clause-expressions : goal.returns-clause-expressions
returns-clause-expressions c = lemmas.expressions_are_renamed

pub returns-clause-attributes : goal.returns-clause-attributes
returns-clause-attributes c = lemmas.attributes_are_renamed

pub returns-clause-declarations : goal.returns-clause-declarations
returns-clause-declarations c = lemmas.declarations_are_renamed
