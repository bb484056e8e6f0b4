use Rattle.std.proofs.Common.{◌≡◌, ◌+◌, ◌*◌, List, [], length}
use Rattle.wgsl_grammar_tables.specs.Machine.{Outcome, ahead, Comes}
use Rattle.wgsl_grammar_tables.proofs.shift_reduce.machine.run.Given as goal

-- What comes of the stack and the tokens that are left comes of all tokens.
abbrev pub invariant-loop-steps : goal.invariant-loop-steps
invariant-loop-steps g l = record {
  comes : (r : Outcome g.row.D-Value.Denot) (left : List g.row.D-Token.Denot) → Comes g.D.Driver.grammar (g.D.Driver.tables l.fn.driver) l.from l.stack l.tokens r left
      → Comes g.D.Driver.grammar (g.D.Driver.tables l.fn.driver) l.from [] l.fn.tokens r left;
  next : l.ahead ≡ ahead g.D.Driver.grammar l.tokens;
}

-- Each token is worth one step more than are allowed for it.
abbrev pub decreases-loop-steps : goal.decreases-loop-steps
decreases-loop-steps g l = l.steps + 65 * length l.tokens
