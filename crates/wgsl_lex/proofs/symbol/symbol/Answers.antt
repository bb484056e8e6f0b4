use Rattle.std.proofs.Common.{◌∙◌, sym}
use Rattle.wgsl_lex.proofs.Symbols.{one_is}
use Rattle.wgsl_lex.proofs.First.{starts, piece_stands, one_first, two_first, three_first, none_first}
use Rattle.wgsl_lex.proofs.symbol.symbol.Goals as goal

pub returns-in-Some-clause-first : goal.returns-in-Some-clause-first
returns-in-Some-clause-first c = piece_stands _ _ _ _ c.fixed_piece.ensures (three_first _ _ c.requires _ (sym (c.three_at.ensures (starts _ _ c.requires)) ∙ c.in-Some.is))

pub returns-in-Some-two_at-clause-first : goal.returns-in-Some-two_at-clause-first
returns-in-Some-two_at-clause-first c =
    piece_stands _ _ _ _ c.fixed_piece-in-Some-two_at.ensures
    (two_first _ _ c.requires _ (sym (c.three_at.ensures (starts _ _ c.requires)) ∙ c.in_default.is) (sym (c.two_at.ensures (starts _ _ c.requires)) ∙ c.in-Some-two_at.is))

pub returns-in-Some-one-clause-first : goal.returns-in-Some-one-clause-first
returns-in-Some-one-clause-first c =
    piece_stands _ _ _ _ c.fixed_piece-in-Some-one.ensures
    (one_first _ _ c.requires _ (sym (c.three_at.ensures (starts _ _ c.requires)) ∙ c.in_default.is) (sym (c.two_at.ensures (starts _ _ c.requires)) ∙ c.in_default-two_at.is)
    (sym (one_is _ (starts _ _ c.requires)) ∙ sym c.one.ensures ∙ c.in-Some-one.is))

pub returns-clause-first : goal.returns-clause-first
returns-clause-first c =
    none_first _ _ c.requires (sym (c.three_at.ensures (starts _ _ c.requires)) ∙ c.in_default.is) (sym (c.two_at.ensures (starts _ _ c.requires)) ∙ c.in_default-two_at.is)
    (sym (one_is _ (starts _ _ c.requires)) ∙ sym c.one.ensures ∙ c.in_default-one.is)
