use Rattle.wgsl_templates.proofs.Blanks.{found_word}
use Rattle.wgsl_templates.proofs.Here.{here_trivia, here_word}
use Rattle.wgsl_templates.proofs.piece.next.Goals as goal

pub returns-in-Some-clause-first : goal.returns-in-Some-clause-first
returns-in-Some-clause-first g c at = here_word _ _ _ _ (found_word _ _ _ _ c.in_ok-number.ensures c.in-Some.is)

pub returns-in_default-token-clause-first : goal.returns-in_default-token-clause-first
returns-in_default-token-clause-first g c at = here_trivia _ _ _ _ _ c.in_ok-length.ensures.first c.in_default-token.is
