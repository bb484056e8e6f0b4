use Rattle.std.proofs.Common.{◌≡◌, map, take, []}
use Rattle.core_syntax.specs.View.{attribute_tree, attributes_tree}
use Rattle.core_link_spec.specs.Linked.{renamed_attribute}
use Rattle.core_rename.proofs.rename.renamed_each_attribute.Given as goal

abbrev pub invariant-loop-attribute : goal.invariant-loop-attribute
invariant-loop-attribute g l = attributes_tree l.renamed ≡ map (λ n. renamed_attribute (g.N.Naming.gives l.naming) [] (attribute_tree n.node)) (take l.attribute-index l.attributes)
