use Rattle.wesl_mark.proofs.Interned.{apart_by_distinct}
use Rattle.wesl_mark.proofs.names.name_number.Goals as goal

pub returns-clause-apart : goal.returns-clause-apart
returns-clause-apart c = apart_by_distinct c.insert_full.new.self.keys c.insert_full.ensures.unique
