use Rattle.std.proofs.Common.{sym}
use Rattle.wgsl_grammar_tables.specs.Decoded.{listed}
use Rattle.wgsl_grammar_tables.proofs.Driving.{rule_given}
use Rattle.wgsl_grammar_tables.proofs.drive.shape.Goals as goal

pub returns-then-rule-lt-RULE_COUNT : goal.returns-then-rule-lt-RULE_COUNT
returns-then-rule-lt-RULE_COUNT c = (listed.rule c.args.rule, rule_given c.args.rule c.if-rule-lt-RULE_COUNT.true, sym c.rule_left.ensures, sym c.rule_length.ensures)
