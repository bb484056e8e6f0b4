use Rattle.std.proofs.Common.{◌≡◌, ◌++◌}
use Rattle.wgsl_parse.proofs.iterator.recognize.listed.Given as goal

abbrev pub invariant-loop-token : goal.invariant-loop-token
invariant-loop-token g l = l.list.items ++ g.I.TokenIterator.left l.token-iterator ≡ g.I.TokenIterator.left l.fn.tokens
