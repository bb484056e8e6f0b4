use Rattle.wgsl_expressions.specs.contracts.attributes.attribute.AttributePartialEq.TheImpl as at
use Rattle.wgsl_expressions.specs.AttributesView.{attribute_tree}
use Rattle.wgsl_empty_items.proofs.Attributes.{attributes_decide}
use Rattle.wgsl_empty_items.proofs.Contained.{contained}
use Rattle.wgsl_empty_items.proofs.equality.laws.attributes_are_contained_where_their_trees_are.Goals as goal

pub returns : goal.returns
returns c = contained _ attribute_tree attributes_decide
