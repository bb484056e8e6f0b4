use Rattle.std.proofs.Common.{◌++◌, take, codes}
use Rattle.std.specs.List.{flat_map}
use Rattle.std.specs.Fmt.{HasWritten, IsPlainFormatter}
use Rattle.core_syntax.specs.View.{parameter_tree}
use Rattle.core_syntax.specs.Print.{param_text}
use Rattle.core_syntax.proofs.print_declarations.write_each_parameter.Given as goal

abbrev pub invariant-loop-parameter : goal.invariant-loop-parameter
invariant-loop-parameter g l =
    IsPlainFormatter l.initial.f → HasWritten g.W.Write.write_str_gives l.initial.f (flat_map (λ p. codes ", " ++ param_text (parameter_tree p)) (take l.parameter-index l.rest)) l.f
