use Rattle.std.proofs.Common.{◌≡◌, ◌++◌}
use Rattle.wgsl_path.specs.Paths.{supers}
use Rattle.weslc_workspace.proofs.printed.behind_supers.Given as goal

abbrev pub invariant-loop-level : goal.invariant-loop-level
invariant-loop-level l = l.fn.text ≡ supers l._level ++ l.rest
