use Rattle.std.proofs.Common.{◌≡◌, ℕ, ◌<◌, true, get_or}
use Rattle.std.specs.Char.{is_ascii_hexdigit}
use Rattle.wgsl_lex.proofs.run.hexadecimal_run.Given as goal

abbrev pub invariant-loop-count : goal.invariant-loop-count
invariant-loop-count l = (k : ℕ) → k < l.count → is_ascii_hexdigit (get_or l.characters k 0) ≡ true
