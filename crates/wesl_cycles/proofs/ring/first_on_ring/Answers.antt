use Rattle.std.proofs.Common.{arith}
use Rattle.wesl_cycles.proofs.SearchLemmas.{starts_within}
use Rattle.wesl_cycles.proofs.ring.first_on_ring.Goals as goal

pub returns-clause-none : goal.returns-clause-none
returns-clause-none c = λ i ring. c.loop-position.invariant i (omega (arith, starts_within c.args.rows.now i i ring)) ring
