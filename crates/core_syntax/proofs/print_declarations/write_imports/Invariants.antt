use Rattle.std.proofs.Common.{take}
use Rattle.std.specs.List.{flat_map}
use Rattle.std.specs.Fmt.{HasWritten, IsPlainFormatter}
use Rattle.core_syntax.specs.View.{import_tree}
use Rattle.core_syntax.specs.Print.{imp_text}
use Rattle.core_syntax.proofs.print_declarations.write_imports.Given as goal

abbrev pub invariant-loop-import : goal.invariant-loop-import
invariant-loop-import g l =
    IsPlainFormatter l.initial.f → HasWritten g.W.Write.write_str_gives l.initial.f (flat_map (λ i. imp_text (import_tree i)) (take l.import-index l.imports)) l.f
