use Rattle.std.proofs.Common.{sym}
use Rattle.wgsl_lex.proofs.First.{piece_stands, blank_first}
use Rattle.wgsl_lex.proofs.Letters.{letter_opens}
use Rattle.wgsl_lex.proofs.lexer.first_piece.Goals as goal

pub word-requires : goal.word-requires
word-requires c = letter_opens _ _ (sym c.if-is_ascii_alphabetic.ensures.value)

pub returns-then-is_blankspace-clause-first : goal.returns-then-is_blankspace-clause-first
returns-then-is_blankspace-clause-first c = piece_stands _ _ _ _ c.trivia.ensures (blank_first _ _ (sym c.if-is_blankspace.ensures))
