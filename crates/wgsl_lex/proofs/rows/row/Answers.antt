use Rattle.wgsl_lex.proofs.Words.{row_within}
use Rattle.wgsl_lex.proofs.rows.row.Goals as goal

pub returns-clause-within : goal.returns-clause-within
returns-clause-within c = row_within c.place.result _ 0 c.place.ensures
