use Rattle.wesl_mark.proofs.mark.MarkList.local.Goals as goal

pub returns-clause-grows : goal.returns-clause-grows
returns-clause-grows c first grown = c.add.ensures.grows first (c.number.ensures.grows first grown)
