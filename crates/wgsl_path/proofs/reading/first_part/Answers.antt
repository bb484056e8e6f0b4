use Rattle.wgsl_path.proofs.PartsLemmas.{none_cut, some_cut}
use Rattle.wgsl_path.proofs.reading.first_part.Goals as goal

pub returns-in-None-clause-first : goal.returns-in-None-clause-first
returns-in-None-clause-first c = none_cut c.args.text.now c.in-None.ensures.cases

pub returns-in-Some-clause-first : goal.returns-in-Some-clause-first
returns-in-Some-clause-first c = some_cut c.args.text.now c.in-Some.part c.in-Some.rest c.in-Some.ensures.cases
