use Rattle.std.proofs.Common.{sym}
use Rattle.wgsl_attribute_words.proofs.ChoicesLemmas.{interpolation_type_none}
use Rattle.wgsl_attribute_words.proofs.choices.interpolation_type.Goals as goal

pub returns-in-Err : goal.returns-in-Err
returns-in-Err c = sym (interpolation_type_none c.args.word.now c.in-Err.ensures)
