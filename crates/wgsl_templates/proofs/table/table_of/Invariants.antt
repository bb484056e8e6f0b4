use Rattle.std.proofs.Common.{◌≡◌, ◌≤◌, ◌-◌, length, take, drop}
use Rattle.wgsl_templates.specs.Levels.{IsAhead, IsTable}
use Rattle.wgsl_templates.proofs.table.table_of.Given as goal

abbrev pub decreases-loop-place : goal.decreases-loop-place
decreases-loop-place g l = l.place

abbrev pub invariant-loop-place : goal.invariant-loop-place
invariant-loop-place g l = (l.place ≤ length l.text) × (length l.table.items ≡ length l.text) × IsTable l.text (take (length l.text - l.place) l.table.items) × IsAhead (drop l.place l.text) l.ahead
