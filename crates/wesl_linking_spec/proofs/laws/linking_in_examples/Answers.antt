use Rattle.wesl_linking_spec.proofs.Assembled.{linked}
use Rattle.wesl_linking_spec.proofs.Loaded.{asked, refused_so}
use Rattle.wesl_linking_spec.proofs.Shown.{held, stripped}
use Rattle.wesl_linking_spec.proofs.laws.linking_in_examples.Goals as goal

pub returns-clause-held : goal.returns-clause-held
returns-clause-held c = held

pub returns-clause-stripped : goal.returns-clause-stripped
returns-clause-stripped c = stripped

pub returns-clause-asked : goal.returns-clause-asked
returns-clause-asked c = asked

pub returns-clause-refused : goal.returns-clause-refused
returns-clause-refused c = refused_so

pub returns-clause-linked : goal.returns-clause-linked
returns-clause-linked c = linked
