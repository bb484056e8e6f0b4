use Rattle.std.proofs.Common.{ap, sym, ◌∙◌}
use Rattle.std.proofs.lemmas.Map.Text.{hash_map_updates_str}
use Rattle.core_syntax.specs.View.{declaration_tree}
use Rattle.core_syntax.specs.Names.{declared_name}
use Rattle.core_eval.proofs.Tables.{declares_new, declares_old}
use Rattle.core_eval.proofs.find.declarations_of.Goals as goal

pub loop-node-preserved-then-contains_key : goal.loop-node-preserved-then-contains_key
loop-node-preserved-then-contains_key c =
    let same = c.declared_name-name.ensures ∙ ap (λ n. declared_name (declaration_tree n)) c.node.ensures in
    declares_old c.args.nodes.now c.loop-node.node-index c.node-item.result c.loop-node-test.true c.node-item.is c.loop-node.table _ same
    (sym c.contains_key.ensures ∙ c.if-contains_key.true) c.loop-node.invariant

pub loop-node-preserved : goal.loop-node-preserved
loop-node-preserved c =
    let same = c.declared_name-name.ensures ∙ ap (λ n. declared_name (declaration_tree n)) c.node.ensures in
    declares_new c.args.nodes.now c.loop-node.node-index c.node-item.result c.loop-node-test.true c.node-item.is c.loop-node.table c.insert.new.self _ _ same
    c.node-in-loop-node.ensures (sym c.contains_key.ensures ∙ c.if-contains_key.false)
    (hash_map_updates_str c.declared_name-name.result.now c.loop-node.table c.insert.new.self _ c.in_ok-insert.ensures.updates) c.loop-node.invariant
