use Rattle.std.proofs.Common.{rules, ◌∙◌}
use Rattle.wgsl_lower.specs.Bodies.{around_body_node}
use Rattle.wgsl_lower.proofs.Lists.{map_stays}
use Rattle.wgsl_lower.proofs.pruning.unit.prune_declarations.Goals as goal

pub loop-i-preserved : goal.loop-i-preserved
loop-i-preserved c = (
  search rules,
  map_stays around_body_node c.loop-i.declarations c.loop-i.i c.get_mut.result.now c.prune_node.new.node (search rules) c.get_mut.ensures.value c.prune_node.ensures
      ∙ c.loop-i.invariant.1,
)
