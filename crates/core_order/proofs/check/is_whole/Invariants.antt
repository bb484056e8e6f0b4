use Rattle.std.proofs.Common.{ℕ, ◌<◌}
use Rattle.std.specs.List.{Contains}
use Rattle.core_order.specs.Checks.{IsValue}
use Rattle.core_order.proofs.check.is_whole.Given as goal

abbrev pub invariant-loop-position : goal.invariant-loop-position
invariant-loop-position l = (x : ℕ) → x < l.position → IsValue l.rows x → Contains l.order x
