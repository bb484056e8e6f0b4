use Rattle.core_syntax.proofs.Texts.{params_text_commas}
use Rattle.core_syntax.proofs.print_declarations.write_parameters.Goals as goal

pub returns : goal.returns
returns g c = rw (params_text_commas c.args.parameters.now) c.write_each_parameter.ensures
