use Rattle.wgsl_grammar_tables.proofs.Whole as whole
use Rattle.wgsl_grammar_tables.proofs.shift_reduce.laws.answers_are_exact.Goals as goal

pub returns : goal.returns
returns g c = whole.answers_are_exact
