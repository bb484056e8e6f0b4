use Rattle.std.proofs.Common.{take}
use Rattle.std.specs.List.{flat_map}
use Rattle.std.specs.Fmt.{HasWritten, IsPlainFormatter}
use Rattle.wgsl_declarations.specs.View.{declaration_tree}
use Rattle.wgsl_declarations.specs.Print.{lines_text}
use Rattle.wgsl_declarations.proofs.print_unit.write_each_declaration.Given as goal

abbrev pub invariant-loop-declaration : goal.invariant-loop-declaration
invariant-loop-declaration g l =
    IsPlainFormatter l.initial.f → HasWritten g.W.Write.write_str_gives l.initial.f (flat_map (λ n. lines_text (declaration_tree n.node)) (take l.declaration-index l.declarations)) l.f
