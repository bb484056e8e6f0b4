use Rattle.std.proofs.Common.{sym, inl, inr}
use Rattle.wgsl_lex.proofs.Alone.{stands_alone}
use Rattle.wgsl_lex.proofs.symbol.symbol_alone.Goals as goal

pub returns-then-is_lone : goal.returns-then-is_lone
returns-then-is_lone c = stands_alone _ _ (sym c.in_ok-fixed.ensures) _ (sym c.if-opens_number.ensures) (inl (sym c.if-is_lone.ensures))

pub returns : goal.returns
returns c = stands_alone _ _ (sym c.in_ok-fixed.ensures) _ (sym c.if-opens_number.ensures) (inr (sym c.if-begins_with_second.ensures))
