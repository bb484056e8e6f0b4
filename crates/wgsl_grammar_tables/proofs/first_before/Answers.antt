use Rattle.std.proofs.Common.{◌∙◌, ap, sym, cond, Some, drop, ◌+◌, slice_index_or}
use Rattle.wgsl_grammar_tables.specs.Listed.{first_before}
use Rattle.wgsl_grammar_tables.specs.Decoded.{listed}
use Rattle.wgsl_grammar_tables.proofs.Read.{first_step}
use Rattle.wgsl_grammar_tables.proofs.first_before.Goals as goal

pub returns-then-contains : goal.returns-then-contains
returns-then-contains c =
    let i = c.loop-rule.rule-index in
    let ps = c.args.rules.now in
    let e = first_step c.args.ahead i ps c.rule_left.result c.row.result.now c.contains.result c.loop-rule-test.true c.rule_left.ensures c.row.ensures c.contains.ensures in
    sym (e ∙ ap (λ z. cond z (Some (slice_index_or ps i 0)) (first_before listed c.args.ahead (drop (i + 1) ps))) c.if-contains.true) ∙ c.loop-rule.invariant

pub loop-rule-preserved : goal.loop-rule-preserved
loop-rule-preserved c =
    let i = c.loop-rule.rule-index in
    let ps = c.args.rules.now in
    let e = first_step c.args.ahead i ps c.rule_left.result c.row.result.now c.contains.result c.loop-rule-test.true c.rule_left.ensures c.row.ensures c.contains.ensures in
    sym (e ∙ ap (λ z. cond z (Some (slice_index_or ps i 0)) (first_before listed c.args.ahead (drop (i + 1) ps))) c.if-contains.false) ∙ c.loop-rule.invariant
