use Rattle.wgsl_declarations.proofs.Commas.{commas_map}
use Rattle.wgsl_declarations.specs.View.{parameter_tree}
use Rattle.wgsl_declarations.specs.Print.{param_text}
use Rattle.wgsl_declarations.proofs.print.write_parameters.Goals as goal

pub returns : goal.returns
returns g c = rw (commas_map param_text parameter_tree c.args.parameters.now) c.write_each_parameter.ensures
