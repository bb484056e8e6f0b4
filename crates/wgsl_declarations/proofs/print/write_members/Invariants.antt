use Rattle.std.proofs.Common.{◌++◌, take}
use Rattle.std.specs.List.{flat_map}
use Rattle.std.specs.Fmt.{HasWritten, IsPlainFormatter}
use Rattle.wgsl_declarations.specs.ExpressionsPrint.{indent}
use Rattle.wgsl_declarations.specs.View.{member_tree}
use Rattle.wgsl_declarations.specs.Print.{member_text}
use Rattle.wgsl_declarations.proofs.print.write_members.Given as goal

abbrev pub invariant-loop-member : goal.invariant-loop-member
invariant-loop-member g l =
    IsPlainFormatter l.initial.f → HasWritten g.W.Write.write_str_gives l.initial.f (flat_map (λ n. indent 1 ++ member_text (member_tree n.node)) (take l.member-index l.members)) l.f
