use Rattle.std.proofs.Common.{◌≡◌, drop}
use Rattle.wgsl_words.specs.Names.{is_in, texts}
use Rattle.wgsl_words.proofs.builtin.is_known.Given as goal

abbrev pub invariant-loop-known : goal.invariant-loop-known
invariant-loop-known l = is_in l.name (texts (drop l.known-index l.table)) ≡ is_in l.name (texts l.table)
