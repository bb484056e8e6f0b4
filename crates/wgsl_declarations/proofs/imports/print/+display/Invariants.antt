use Rattle.std.proofs.Common.{◌+◌, ◌*◌, ◌++◌, take, codes}
use Rattle.std.specs.List.{flat_map}
use Rattle.std.specs.Fmt.{HasWritten, IsPlainFormatter}
use Rattle.wgsl_declarations.specs.ImportsView.{import_tree}
use Rattle.wgsl_declarations.specs.ImportsPrint.{imp_text}
use Rattle.wgsl_declarations.proofs.imports.print.+display.Given as goal

abbrev pub decreases-ImportContentDisplay::fmt : goal.decreases-ImportContentDisplay::fmt
decreases-ImportContentDisplay::fmt g l = 8 * goal.size-ImportContentDisplay::fmt g l

abbrev pub decreases-ImportDisplay::fmt : goal.decreases-ImportDisplay::fmt
decreases-ImportDisplay::fmt g l = 8 * goal.size-ImportDisplay::fmt g l + 1

abbrev pub decreases-write_each_import : goal.decreases-write_each_import
decreases-write_each_import g l = 8 * goal.size-write_each_import g l + 2

abbrev pub decreases-write_imports : goal.decreases-write_imports
decreases-write_imports g l = 8 * goal.size-write_imports g l + 3

abbrev pub decreases-write_collection : goal.decreases-write_collection
decreases-write_collection g l = 8 * goal.size-write_collection g l + 4

abbrev pub invariant-write_each_import-loop-import : goal.invariant-write_each_import-loop-import
invariant-write_each_import-loop-import g l =
    IsPlainFormatter l.initial.f
    → HasWritten g.W.Write.write_str_gives l.initial.f (flat_map (λ i. codes ", " ++ imp_text (import_tree i)) (take l.import-index l.rest)) l.f
