use Rattle.std.proofs.Common.{◌≡◌, ℕ, ◌<◌, true, get_or}
use Rattle.wgsl_lex.specs.Runs.{is_no_line_break}
use Rattle.wgsl_lex.proofs.run.line_run.Given as goal

abbrev pub invariant-loop-count : goal.invariant-loop-count
invariant-loop-count l = (k : ℕ) → k < l.count → is_no_line_break (get_or l.characters k 0) ≡ true
