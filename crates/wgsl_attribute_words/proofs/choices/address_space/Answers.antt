use Rattle.std.proofs.Common.{sym}
use Rattle.wgsl_attribute_words.proofs.ChoicesLemmas.{address_space_none}
use Rattle.wgsl_attribute_words.proofs.choices.address_space.Goals as goal

pub returns-in-Err : goal.returns-in-Err
returns-in-Err c = sym (address_space_none c.args.word.now c.in-Err.ensures)
