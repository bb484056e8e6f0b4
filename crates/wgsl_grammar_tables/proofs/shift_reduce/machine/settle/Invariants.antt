use Rattle.std.proofs.Common.{ℕ}
use Rattle.wgsl_grammar_tables.specs.Runs.{Passes}
use Rattle.wgsl_grammar_tables.proofs.shift_reduce.machine.settle.Given as goal

-- What is passed on from here is passed on from the first state.
abbrev pub invariant-loop-step : goal.invariant-loop-step
invariant-loop-step g l = (t : ℕ) → Passes g.D.Driver.grammar (g.D.Driver.tables l.fn.driver) l.below l.ahead l.part l.state t → Passes g.D.Driver.grammar (g.D.Driver.tables l.fn.driver) l.below l.ahead l.part l.fn.from t
