use Rattle.std.proofs.Common.{arith, ◌≡◌, ◌∷◌, true, false, refl, ap, ◌∙◌}
use Rattle.wgsl_lex.specs.Tokens.{magnitude}
use Rattle.wgsl_lex.proofs.First.{piece_stands}
use Rattle.wgsl_lex.proofs.Floats.{get_within, signed_stands, unsigned_stands, float_suffix_stands, abstract_stands, decimal_takes, answered}
use Rattle.wgsl_lex.proofs.number.whole_number.Goals as goal

pub returns-then-is_at-clause-first : goal.returns-then-is_at-clause-first
returns-then-is_at-clause-first c = piece_stands _ _ _ _ c.piece.ensures (signed_stands _ _ _ _ c.requires.stem _ (c.if-is_at.ensures.0 refl) c.signed_token.ensures)

pub returns-then-is_at-2-clause-within : goal.returns-then-is_at-2-clause-within
returns-then-is_at-2-clause-within c = omega (arith, get_within c.args.behind.now c.args.whole.length 117 (c.if-is_at-2.ensures.0 refl), ap (λ p. p.length) c.piece-then-is_at-2.ensures)

pub returns-then-is_at-2-clause-first : goal.returns-then-is_at-2-clause-first
returns-then-is_at-2-clause-first c = piece_stands _ _ _ _ c.piece-then-is_at-2.ensures (unsigned_stands _ _ _ _ c.requires.stem _ (c.if-is_at-2.ensures.0 refl) c.unsigned_token.ensures)

pub suffixed_float-requires : goal.suffixed_float-requires
suffixed_float-requires c = c.is_decimal.ensures ∙ decimal_takes _ _ _ (ap (λ xs. magnitude (c.args.first ∷ xs)) c.split_at.ensures.front ∙ c.requires.stem.is)

pub returns-in-Some-clause-first : goal.returns-in-Some-clause-first
returns-in-Some-clause-first c =
    piece_stands _ _ _ _ c.piece-in-Some.ensures (float_suffix_stands _ _ _ _ c.requires.stem _ _ _ c.split_at.ensures.front c.split_at.ensures.back (answered _ _ _ _ c.in_ok-token.ensures c.in-Some.is))

pub returns-in-None-clause-first : goal.returns-in-None-clause-first
returns-in-None-clause-first c =
    piece_stands _ _ _ _ c.piece-in-None.ensures
    (abstract_stands _ _ _ _ c.requires.stem _ _ _ c.split_at.ensures.front c.split_at.ensures.back (λ e. let h : false ≡ true = c.if-is_at.ensures.1 e in cc) (λ e. let h : false ≡ true = c.if-is_at-2.ensures.1 e in cc)
    (answered _ _ _ _ c.in_ok-token.ensures c.in-None.is) c.abstract_token.ensures)
