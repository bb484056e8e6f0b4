use Rattle.std.proofs.Common.{arith, rules}
use Rattle.core_validate.proofs.SearchLemmas.{ranked_ringless}
use Rattle.core_validate.proofs.ring.is_on_ring.Goals as goal

pub returns-then-rank_of-gt0 : goal.returns-then-rank_of-gt0
returns-then-rank_of-gt0 c = ((λ t. absurd (search rules)), (λ ring. absurd (ranked_ringless c.args.ranks.now c.args.rows.now (c.requires (search rules)) c.args.position (omega arith) ring)))
