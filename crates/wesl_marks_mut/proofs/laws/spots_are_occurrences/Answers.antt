use Rattle.wesl_marks_mut.proofs.Occurring as lemmas
use Rattle.wesl_marks_mut.proofs.laws.spots_are_occurrences.Goals as goal

pub returns-clause-nodes : goal.returns-clause-nodes
returns-clause-nodes c = lemmas.spots_are_occurrences

pub returns-clause-declarations : goal.returns-clause-declarations
returns-clause-declarations c = lemmas.declarations_are_occurrences
