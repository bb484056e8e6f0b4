use Rattle.wgsl_grammar_tables.proofs.Moves.{by_action}
use Rattle.wgsl_grammar_tables.proofs.shift_reduce.machine.passes_by.Goals as goal

pub returns-in-Reduce : goal.returns-in-Reduce
returns-in-Reduce g c = by_action g.D.Driver.grammar g.D.Driver.kept c.args.action c.in-Reduce.rule c.passes_to.result c.in-Reduce.is c.passes_to.ensures
