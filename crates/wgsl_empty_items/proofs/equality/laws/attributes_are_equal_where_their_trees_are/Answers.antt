use Rattle.wgsl_empty_items.proofs.Attributes.{attributes_decide}
use Rattle.wgsl_empty_items.proofs.equality.laws.attributes_are_equal_where_their_trees_are.Goals as goal

pub returns : goal.returns
returns c = attributes_decide
