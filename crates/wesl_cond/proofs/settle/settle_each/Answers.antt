use Rattle.std.proofs.Common.{rules}
use Rattle.std.specs.Option.{option_map}
use Rattle.wgsl_declarations.specs.View.{declaration_tree}
use Rattle.wesl_cond.proofs.Changing.{changed_more}
use Rattle.wesl_cond.specs.Declarations.{declaration_left}
use Rattle.wesl_cond.proofs.settle.settle_each.Goals as goal

pub loop-i-preserved : goal.loop-i-preserved
loop-i-preserved c =
    changed_more (λ n. declaration_tree n.node) (option_map (declaration_left c.args.features.now)) c.args.nodes.now c.loop-i.nodes c.loop-i.i c.get_mut.result.now c.settle_node.new.node
    (search rules) c.loop-i.invariant c.get_mut.ensures.value c.settle_node.ensures
