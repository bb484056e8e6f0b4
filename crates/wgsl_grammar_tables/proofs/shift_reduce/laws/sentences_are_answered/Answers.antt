use Rattle.wgsl_grammar_tables.proofs.Whole as whole
use Rattle.wgsl_grammar_tables.proofs.shift_reduce.laws.sentences_are_answered.Goals as goal

pub returns : goal.returns
returns g c = whole.sentences_are_answered
