use Rattle.std.proofs.Common.{sym}
use Rattle.wgsl_attribute_words.proofs.ChoicesLemmas.{severity_none}
use Rattle.wgsl_attribute_words.proofs.choices.severity.Goals as goal

pub returns-in-Err : goal.returns-in-Err
returns-in-Err c = sym (severity_none c.args.word.now c.in-Err.ensures)
