use Rattle.wgsl_lex.proofs.Floats.{suffixed_piece, float_piece}
use Rattle.wgsl_lex.proofs.number.float_number.Goals as goal

pub returns-in-Some-clause-first : goal.returns-in-Some-clause-first
returns-in-Some-clause-first c = suffixed_piece _ _ _ _ _ _ _ _ _ c.requires.some c.requires.stem c.split_at.ensures.front c.split_at.ensures.back c.in_ok-token.ensures c.in-Some.is c.piece.ensures

pub returns-clause-first : goal.returns-clause-first
returns-clause-first c = float_piece _ _ _ _ _ _ _ _ _ c.requires.some c.requires.stem c.split_at.ensures.front c.split_at.ensures.back c.in_ok-token.ensures c.in_default.is c.in_ok-text.ensures c.piece-2.ensures
