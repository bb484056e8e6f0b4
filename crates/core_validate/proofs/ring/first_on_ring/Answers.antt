use Rattle.std.proofs.Common.{arith}
use Rattle.core_validate.proofs.SearchLemmas.{starts_within}
use Rattle.core_validate.proofs.ring.first_on_ring.Goals as goal

pub returns-clause-none : goal.returns-clause-none
returns-clause-none c = λ i ring. c.loop-position.invariant i (omega (arith, starts_within c.args.rows.now i i ring)) ring
