use Rattle.std.proofs.lemmas.List.Folds.{flat_map-map}
use Rattle.wgsl_declarations.specs.ImportsView.{importing_tree}
use Rattle.wgsl_declarations.specs.ImportsPrint.{importing_text}
use Rattle.wgsl_declarations.proofs.print_unit.write_imports.Goals as goal

pub returns : goal.returns
returns g c = rw (flat_map-map importing_text importing_tree c.args.imports.now) c.write_each_import.ensures
