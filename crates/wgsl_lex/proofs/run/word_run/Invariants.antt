use Rattle.std.proofs.Common.{◌≡◌, ℕ, ◌<◌, true, get_or}
use Rattle.unicode_ident.specs.Ident.{is_xid_continue}
use Rattle.wgsl_lex.proofs.run.word_run.Given as goal

abbrev pub invariant-loop-count : goal.invariant-loop-count
invariant-loop-count l = (k : ℕ) → k < l.count → is_xid_continue (get_or l.characters k 0) ≡ true
