use Rattle.std.proofs.Common.{◌≡◌, take, length}
use Rattle.wgsl_memory.proofs.memory.truncate_cells.Given as goal

abbrev pub invariant-loop-cells : goal.invariant-loop-cells
invariant-loop-cells l = take l.len l.cells ≡ take l.len l.fn.cells

abbrev pub decreases-loop-cells : goal.decreases-loop-cells
decreases-loop-cells l = length l.cells
