-- Each node up to the first that no text derives.
use Rattle.std.proofs.Common.{ap, ◌∙◌}
use Rattle.std.specs.Option.{option_copied, option_or}
use Rattle.wgsl_check_unit.proofs.Telling.{if_ok}
use Rattle.wgsl_check_unit.proofs.Naming.{named_here, named_further, named_rest}
use Rattle.wgsl_check_unit.proofs.named.named.Goals as goal

pub returns-then-not-branch : goal.returns-then-not-branch
returns-then-not-branch c =
    if_ok c.copied.result (λ name same. named_here (option_copied c.args.owner) (option_copied c.args.rest) c.args.nodes.now c.loop-node.node-index c.node-item.result c.loop-node-test.true c.node-item.is c.loop-node.invariant
    c.in_ok-is_node_derivable.field-0 c.in_ok-is_node_derivable.ensures c.if-not-branch.true name (same ∙ c.either.ensures ∙ ap (λ z. option_or z (option_copied c.args.owner)) c.node_name.ensures)) c.copied.ensures

pub loop-node-preserved : goal.loop-node-preserved
loop-node-preserved c =
    named_further (option_copied c.args.owner) (option_copied c.args.rest) c.args.nodes.now c.loop-node.node-index c.node-item.result c.loop-node-test.true c.node-item.is c.loop-node.invariant
    c.in_ok-is_node_derivable.field-0 c.in_ok-is_node_derivable.ensures c.if-not-branch.false

pub returns : goal.returns
returns c =
    if_ok c.copied-2.result (λ name same. named_rest (option_copied c.args.owner) (option_copied c.args.rest) c.args.nodes.now c.loop-node.node-index c.loop-node.invariant c.loop-node-test.false name same) c.copied-2.ensures
