use Rattle.std.proofs.Common.{take}
use Rattle.std.specs.List.{flat_map}
use Rattle.std.specs.Fmt.{HasWritten, IsPlainFormatter}
use Rattle.wgsl_declarations.specs.ImportsView.{importing_tree}
use Rattle.wgsl_declarations.specs.ImportsPrint.{importing_text}
use Rattle.wgsl_declarations.proofs.print_unit.write_each_import.Given as goal

abbrev pub invariant-loop-import : goal.invariant-loop-import
invariant-loop-import g l =
    IsPlainFormatter l.initial.f → HasWritten g.W.Write.write_str_gives l.initial.f (flat_map (λ i. importing_text (importing_tree i)) (take l.import-index l.imports)) l.f
