use Rattle.wgsl_empty_items.proofs.Expressions.{same_out}
use Rattle.wgsl_empty_items.proofs.equality.laws.expressions_are_equal_by_their_parts.Goals as goal

pub returns : goal.returns
returns c = same_out
