use Rattle.std.proofs.Common.{take}
use Rattle.std.specs.List.{flat_map}
use Rattle.std.specs.Fmt.{HasWritten, IsPlainFormatter}
use Rattle.wgsl_declarations.specs.ImportsView.{directive_tree}
use Rattle.wgsl_declarations.specs.ImportsPrint.{directive_text}
use Rattle.wgsl_declarations.proofs.print_unit.write_each_directive.Given as goal

abbrev pub invariant-loop-directive : goal.invariant-loop-directive
invariant-loop-directive g l =
    IsPlainFormatter l.initial.f → HasWritten g.W.Write.write_str_gives l.initial.f (flat_map (λ d. directive_text (directive_tree d)) (take l.directive-index l.directives)) l.f
