use Rattle.wgsl_grammar_tables.proofs.Whole as whole
use Rattle.wgsl_grammar_tables.proofs.shift_reduce.laws.trees_are_unique.Goals as goal

pub returns : goal.returns
returns g c = whole.trees_are_unique
