use Rattle.wgsl_grammar_tables.proofs.Moves.{shift_settled, reduce_settled, accept_settled, stop_settled}
use Rattle.wgsl_grammar_tables.proofs.shift_reduce.machine.advance.Goals as goal

pub returns-in_ok-shift-in-Shift : goal.returns-in_ok-shift-in-Shift
returns-in_ok-shift-in-Shift g c =
    shift_settled g.D.Driver.grammar (g.D.Driver.tables c.args.driver.now) _ _ _ _ _ _ _ _ _ c.in_ok-to.ensures c.requires c.in-Shift.is c.in_ok-shift-in-Shift.ensures

pub returns-in_ok-reduce-in-Reduce : goal.returns-in_ok-reduce-in-Reduce
returns-in_ok-reduce-in-Reduce g c =
    reduce_settled g.D.Driver.grammar (g.D.Driver.tables c.args.driver.now) _ _ _ _ _ _ _ _ c.in_ok-to.ensures c.requires c.in-Reduce.is c.in_ok-reduce-in-Reduce.ensures

pub returns-in-Some : goal.returns-in-Some
returns-in-Some g c = accept_settled g.D.Driver.grammar (g.D.Driver.tables c.args.driver.now) _ _ _ _ _ _ _ _ c.in_ok-to.ensures c.requires c.in-Accept.is c.in-Some.ensures

pub returns-in-Stop : goal.returns-in-Stop
returns-in-Stop g c = stop_settled g.D.Driver.grammar (g.D.Driver.tables c.args.driver.now) _ _ _ _ _ _ c.in_ok-to.ensures c.requires c.in-Stop.is
