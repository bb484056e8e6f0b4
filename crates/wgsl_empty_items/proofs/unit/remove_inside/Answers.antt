use Rattle.std.proofs.Common.{rules, ap, ◌∙◌, slice_set}
use Rattle.std.proofs.lemmas.List.Edits.{map_over_more}
use Rattle.wgsl_empty_items.specs.Units.{node_without_voids}
use Rattle.wgsl_empty_items.proofs.unit.remove_inside.Goals as goal

pub loop-i-preserved : goal.loop-i-preserved
loop-i-preserved c =
    ap (slice_set c.loop-i.declarations c.loop-i.i) c.remove_in_node.ensures
    ∙ map_over_more node_without_voids c.args.declarations.now c.loop-i.declarations c.loop-i.i c.get_mut.result.now (search rules) c.loop-i.invariant c.get_mut.ensures.value
