use Rattle.wesl_mark.proofs.Growing.{reference_within}
use Rattle.wesl_mark.proofs.mark.MarkList.occurs.Goals as goal

pub returns-in_err-reference-clause-grows : goal.returns-in_err-reference-clause-grows
returns-in_err-reference-clause-grows c first grown = c.number_reference.ensures.grows first (c.number.ensures.grows first grown)

pub returns-in_err-numbered-in-Some-arguments-clause-grows : goal.returns-in_err-numbered-in-Some-arguments-clause-grows
returns-in_err-numbered-in-Some-arguments-clause-grows c first grown = c.number_reference.ensures.grows first (c.number.ensures.grows first grown)

pub add-requires : goal.add-requires
add-requires c = reference_within c.number_reference.new.self.references.keys c.in_ok-reference.reference _ c.in_ok-reference.ensures.reads

pub returns-clause-grows : goal.returns-clause-grows
returns-clause-grows c first grown = c.add.ensures.grows first (c.number_reference.ensures.grows first (c.number.ensures.grows first grown))
