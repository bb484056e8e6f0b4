use Rattle.wgsl_declarations.proofs.Texts.{declaration_lines}
use Rattle.wgsl_declarations.proofs.print_unit.write_declarations.Goals as goal

pub returns : goal.returns
returns g c = rw (declaration_lines c.args.declarations.now) c.write_each_declaration.ensures
