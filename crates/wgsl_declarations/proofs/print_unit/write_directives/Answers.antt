use Rattle.std.proofs.lemmas.List.Folds.{flat_map-map}
use Rattle.wgsl_declarations.specs.ImportsView.{directive_tree}
use Rattle.wgsl_declarations.specs.ImportsPrint.{directive_text}
use Rattle.wgsl_declarations.proofs.print_unit.write_directives.Goals as goal

pub returns : goal.returns
returns g c = rw (flat_map-map directive_text directive_tree c.args.directives.now) c.write_each_directive.ensures
