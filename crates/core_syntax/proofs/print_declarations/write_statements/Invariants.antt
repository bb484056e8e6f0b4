use Rattle.std.proofs.Common.{take}
use Rattle.std.specs.List.{flat_map}
use Rattle.std.specs.Fmt.{HasWritten, IsPlainFormatter}
use Rattle.core_syntax.specs.View.{statement_tree}
use Rattle.core_syntax.specs.Print.{stm_text}
use Rattle.core_syntax.proofs.print_declarations.write_statements.Given as goal

abbrev pub invariant-loop-statement : goal.invariant-loop-statement
invariant-loop-statement g l =
    IsPlainFormatter l.initial.f → HasWritten g.W.Write.write_str_gives l.initial.f (flat_map (λ n. stm_text l.fn.level (statement_tree n.node)) (take l.statement-index l.statements)) l.f
