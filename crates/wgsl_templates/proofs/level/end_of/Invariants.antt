use Rattle.std.proofs.Common.{◌≡◌, length, [], ◌∷◌}
use Rattle.wgsl_templates.specs.Levels.{bracket}
use Rattle.wgsl_templates.proofs.Within.{IsReading}
use Rattle.wgsl_templates.proofs.level.end_of.Given as goal

abbrev pub decreases-loop-first : goal.decreases-loop-first
decreases-loop-first g l = length l.rest

abbrev pub invariant-loop-first : goal.invariant-loop-first
invariant-loop-first g l = IsReading l.enclosing l.fn.place l.fn.text l.table l.state l.after_word l.rest × (l.opened ≡ bracket l.enclosing ∷ [])
