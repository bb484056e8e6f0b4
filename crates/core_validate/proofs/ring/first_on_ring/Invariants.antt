use Rattle.std.proofs.Common.{ℕ, ◌<◌}
use Rattle.core_validate.specs.Rings.{IsOnRing}
use Rattle.core_validate.proofs.ring.first_on_ring.Given as goal

abbrev pub invariant-loop-position : goal.invariant-loop-position
invariant-loop-position l = (j : ℕ) → j < l.position → IsOnRing l.rows j → ⊥
