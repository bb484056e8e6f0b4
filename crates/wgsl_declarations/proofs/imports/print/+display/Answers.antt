use Rattle.wgsl_declarations.specs.ImportsView.{import_tree}
use Rattle.wgsl_declarations.proofs.ImportsTexts.{imps_text_commas}
use Rattle.wgsl_declarations.proofs.imports.print.+display.Goals as goal

pub write_imports-returns : goal.write_imports-returns
write_imports-returns g t c = rw (imps_text_commas import_tree c.args.imports.now) c.write_each_import.ensures
