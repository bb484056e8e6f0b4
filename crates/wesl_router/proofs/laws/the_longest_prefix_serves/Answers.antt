use Rattle.wesl_router.proofs.Longest.{the_longest_serves, others_serve_nothing}
use Rattle.wesl_router.proofs.laws.the_longest_prefix_serves.Goals as goal

pub returns-clause-longest : goal.returns-clause-longest
returns-clause-longest c = the_longest_serves

pub returns-clause-none : goal.returns-clause-none
returns-clause-none c = others_serve_nothing
