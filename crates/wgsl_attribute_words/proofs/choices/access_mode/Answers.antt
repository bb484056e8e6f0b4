use Rattle.std.proofs.Common.{sym}
use Rattle.wgsl_attribute_words.proofs.ChoicesLemmas.{access_mode_none}
use Rattle.wgsl_attribute_words.proofs.choices.access_mode.Goals as goal

pub returns-in-Err : goal.returns-in-Err
returns-in-Err c = sym (access_mode_none c.args.word.now c.in-Err.ensures)
