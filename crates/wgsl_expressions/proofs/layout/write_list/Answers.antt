use Rattle.wgsl_expressions.specs.View.{node_tree}
use Rattle.wgsl_expressions.specs.Print.{exp_text}
use Rattle.wgsl_expressions.proofs.Commas.{commas_map}
use Rattle.wgsl_expressions.proofs.layout.write_list.Goals as goal

pub returns : goal.returns
returns g c = rw (commas_map exp_text node_tree c.args.nodes.now) c.write_nodes.ensures
