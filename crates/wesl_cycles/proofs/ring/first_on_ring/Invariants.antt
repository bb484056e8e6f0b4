use Rattle.std.proofs.Common.{ℕ, ◌<◌}
use Rattle.wesl_cycles.specs.Rings.{IsOnRing}
use Rattle.wesl_cycles.proofs.ring.first_on_ring.Given as goal

abbrev pub invariant-loop-position : goal.invariant-loop-position
invariant-loop-position l = (j : ℕ) → j < l.position → IsOnRing l.rows j → ⊥
