use Rattle.std.proofs.Common.{length}
use Rattle.wgsl_lex.proofs.Reading.{IsReadTo}
use Rattle.wgsl_lex.proofs.lexer.lex.Given as goal

abbrev pub decreases-loop-first : goal.decreases-loop-first
decreases-loop-first l = length l.rest

abbrev pub invariant-loop-first : goal.invariant-loop-first
invariant-loop-first l = IsReadTo l.fn.text l.start l.rest l.tokens
