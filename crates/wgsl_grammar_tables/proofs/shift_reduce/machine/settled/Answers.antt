use Rattle.std.proofs.Common.{subst}
use Rattle.wgsl_grammar_tables.specs.Runs.{Passes}
use Rattle.wgsl_grammar_tables.proofs.Moves.{settles}
use Rattle.wgsl_grammar_tables.proofs.shift_reduce.machine.settled.Goals as goal

pub returns : goal.returns
returns g c =
    settles g.D.Driver.grammar (g.D.Driver.tables c.args.driver.now) c.args.from c.args.ahead c.in_ok-state.field-0.state c.in-Some.entry.now c.args.stack.now c.in_ok-state.field-0.action c.in-Some.ensures.value
    (subst (λ n. Passes g.D.Driver.grammar (g.D.Driver.tables c.args.driver.now) n c.args.ahead c.in-Some.entry.now.value c.in-Some.entry.now.state c.in_ok-state.field-0.state) c.state_below-below.ensures c.in_ok-state.ensures.passes)
    c.in_ok-state.ensures.action
