use Rattle.std.proofs.Common.{refl}
use Rattle.wgsl_nodes.proofs.Turns.{at_some}
use Rattle.wgsl_nodes.proofs.node.SyntaxNode.retain_attributes_mut.Goals as goal

pub returns-in-Some : goal.returns-in-Some
returns-in-Some g c = at_some _ _ _ _ c.in-Some.ensures.value (c.keep_in_place.new.attributes, c.keep_in_place.ensures, refl)
