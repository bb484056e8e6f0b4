use Rattle.core_syntax.specs.View.{node_tree}
use Rattle.core_syntax.proofs.Texts.{exps_text_commas, typed_text}
use Rattle.core_syntax.proofs.print.+display.Goals as goal

pub write_expressions-returns : goal.write_expressions-returns
write_expressions-returns g t c = rw (exps_text_commas node_tree c.args.nodes.now) c.write_nodes.ensures

pub write_template_arguments-returns : goal.write_template_arguments-returns
write_template_arguments-returns g t c = rw (exps_text_commas (λ a. node_tree a.expression) c.args.arguments.now) c.write_arguments.ensures

pub TypeExpressionDisplay::fmt-returns-clause-writes : goal.TypeExpressionDisplay::fmt-returns-clause-writes
TypeExpressionDisplay::fmt-returns-clause-writes g t c = rw (typed_text c.args.self.now) c.write_type.ensures
