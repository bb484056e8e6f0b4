use Rattle.std.proofs.Common.{sym, ◌∙◌}
use Rattle.wgsl_lex.specs.Rows.{is_there, is_other}
use Rattle.wgsl_lex.proofs.word.found.Goals as goal

pub returns-then-eq : goal.returns-then-eq
returns-then-eq c = is_there _ (sym c.eq.ensures ∙ c.if-eq.true)

pub returns-else-eq : goal.returns-else-eq
returns-else-eq c = is_other _ (sym c.eq.ensures ∙ c.if-eq.false)
