use Rattle.std.proofs.Common.{sym}
use Rattle.wgsl_attribute_words.proofs.ChoicesLemmas.{builtin_value_none}
use Rattle.wgsl_attribute_words.proofs.choices.builtin_value.Goals as goal

pub returns-in-Err : goal.returns-in-Err
returns-in-Err c = sym (builtin_value_none c.args.word.now c.in-Err.ensures)
