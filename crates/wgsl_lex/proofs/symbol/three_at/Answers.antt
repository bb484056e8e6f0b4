use Rattle.std.proofs.Common.{◌∙◌}
use Rattle.wgsl_lex.proofs.Symbols.{three_is}
use Rattle.wgsl_lex.proofs.First.{spelled_three}
use Rattle.wgsl_lex.proofs.symbol.three_at.Goals as goal

pub returns : goal.returns
returns c = λ starts. c.three.ensures ∙ three_is _ _ _ starts ∙ spelled_three _ _ _ _ c.in_ok-first.ensures.value c.in_ok-get.ensures.lookup.0 c.in_ok-get.ensures.lookup.1
