use Rattle.std.proofs.Common.{refl}
use Rattle.wesl_linking_spec.proofs.Shown.{directives, clashes}
use Rattle.wesl_linking_spec.proofs.laws.writing_in_examples.Goals as goal

pub returns-clause-written : goal.returns-clause-written
returns-clause-written c = refl

pub returns-clause-names : goal.returns-clause-names
returns-clause-names c = refl

pub returns-clause-mentions : goal.returns-clause-mentions
returns-clause-mentions c = refl

pub returns-clause-hidden : goal.returns-clause-hidden
returns-clause-hidden c = refl

pub returns-clause-directives : goal.returns-clause-directives
returns-clause-directives c = directives

pub returns-clause-clashes : goal.returns-clause-clashes
returns-clause-clashes c = clashes
