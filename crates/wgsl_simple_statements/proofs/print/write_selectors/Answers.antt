use Rattle.wgsl_expressions.proofs.Commas.{commas_map}
use Rattle.wgsl_simple_statements.specs.View.{selector_tree}
use Rattle.wgsl_simple_statements.specs.Print.{selector_text}
use Rattle.wgsl_simple_statements.proofs.print.write_selectors.Goals as goal

pub returns : goal.returns
returns g c = rw (commas_map selector_text selector_tree c.args.selectors.now) c.write_each_selector.ensures
