use Rattle.std.proofs.Common.{refl, sym}
use Rattle.wgsl_lex.proofs.First.{blank_first}
use Rattle.wgsl_templates.proofs.Here.{here_trivia, here_word}
use Rattle.wgsl_templates.proofs.Blanks.{found_word}
use Rattle.wgsl_templates.proofs.piece.next_at_once.Goals as goal

pub returns-in-Some-clause-first : goal.returns-in-Some-clause-first
returns-in-Some-clause-first g c at = here_word _ _ _ _ (found_word _ _ _ _ c.in_ok-length.ensures c.in-Some.is)

pub returns-then-is_blankspace-clause-first : goal.returns-then-is_blankspace-clause-first
returns-then-is_blankspace-clause-first g c at = here_trivia _ _ _ _ _ (blank_first _ _ (sym c.if-is_blankspace.ensures)) refl
