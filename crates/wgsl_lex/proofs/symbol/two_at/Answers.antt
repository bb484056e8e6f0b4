use Rattle.std.proofs.Common.{◌∙◌}
use Rattle.wgsl_lex.proofs.Symbols.{two_is}
use Rattle.wgsl_lex.proofs.First.{spelled_two}
use Rattle.wgsl_lex.proofs.symbol.two_at.Goals as goal

pub returns : goal.returns
returns c = λ starts. c.two.ensures ∙ two_is _ _ starts ∙ spelled_two _ _ _ c.in_ok-first.ensures.value
