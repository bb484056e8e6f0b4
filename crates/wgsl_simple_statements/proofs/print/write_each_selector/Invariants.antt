use Rattle.std.proofs.Common.{◌++◌, take, codes}
use Rattle.std.specs.List.{flat_map}
use Rattle.std.specs.Fmt.{HasWritten, IsPlainFormatter}
use Rattle.wgsl_simple_statements.specs.View.{selector_tree}
use Rattle.wgsl_simple_statements.specs.Print.{selector_text}
use Rattle.wgsl_simple_statements.proofs.print.write_each_selector.Given as goal

abbrev pub invariant-loop-selector : goal.invariant-loop-selector
invariant-loop-selector g l =
    IsPlainFormatter l.initial.f → HasWritten g.W.Write.write_str_gives l.initial.f (flat_map (λ s. codes ", " ++ selector_text (selector_tree s)) (take l.selector-index l.rest)) l.f
