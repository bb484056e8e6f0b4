use Rattle.std.proofs.Common.{◌++◌, take, codes}
use Rattle.std.specs.List.{flat_map}
use Rattle.std.specs.Fmt.{HasWritten, IsPlainFormatter}
use Rattle.core_syntax.specs.View.{attribute_tree}
use Rattle.core_syntax.specs.Print.{attr_text}
use Rattle.core_syntax.proofs.print_declarations.write_each_attribute.Given as goal

abbrev pub invariant-loop-attribute : goal.invariant-loop-attribute
invariant-loop-attribute g l =
    IsPlainFormatter l.initial.f → HasWritten g.W.Write.write_str_gives l.initial.f (flat_map (λ n. attr_text (attribute_tree n.node) ++ codes " ") (take l.attribute-index l.attributes)) l.f
