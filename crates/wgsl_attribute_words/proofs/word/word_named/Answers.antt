use Rattle.std.proofs.Common.{sym}
use Rattle.wgsl_attribute_words.proofs.Words.{word_none}
use Rattle.wgsl_attribute_words.proofs.word.word_named.Goals as goal

pub returns-in-Err : goal.returns-in-Err
returns-in-Err c = sym (word_none c.args.word.now c.in-Err.ensures)
