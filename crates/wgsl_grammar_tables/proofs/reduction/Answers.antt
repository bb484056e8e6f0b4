use Rattle.std.proofs.Common.{◌∙◌, sym}
use Rattle.wgsl_grammar_tables.proofs.Read.{finals_row}
use Rattle.wgsl_grammar_tables.proofs.StepsLemmas.{reduced_by_only, reduced_by_others}
use Rattle.wgsl_grammar_tables.proofs.reduction.Goals as goal

pub returns-in-Some : goal.returns-in-Some
returns-in-Some c = reduced_by_only c.args.state c.args.ahead c.in-Some.rule (sym c.in-Some.ensures)

pub returns-in-None : goal.returns-in-None
returns-in-None c = c.first_before.ensures ∙ reduced_by_others c.args.state c.args.ahead c.row.result.now (sym c.in-None.ensures) (c.row.ensures ∙ finals_row c.args.state)
