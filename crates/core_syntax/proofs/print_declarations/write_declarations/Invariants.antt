use Rattle.std.proofs.Common.{take}
use Rattle.std.specs.List.{flat_map}
use Rattle.std.specs.Fmt.{HasWritten, IsPlainFormatter}
use Rattle.core_syntax.specs.View.{declaration_tree}
use Rattle.core_syntax.specs.Print.{decl_text}
use Rattle.core_syntax.proofs.print_declarations.write_declarations.Given as goal

abbrev pub invariant-loop-declaration : goal.invariant-loop-declaration
invariant-loop-declaration g l =
    IsPlainFormatter l.initial.f → HasWritten g.W.Write.write_str_gives l.initial.f (flat_map (λ n. decl_text (declaration_tree n.node)) (take l.declaration-index l.declarations)) l.f
