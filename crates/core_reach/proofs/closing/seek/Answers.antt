use Rattle.std.proofs.Common.{refl, true}
use Rattle.std.proofs.lemmas.Result.{on_ok_weaker}
use Rattle.core_reach.specs.Stages.{asks, stage}
use Rattle.core_reach.proofs.OrderLemmas.{placed_item, same_order}
use Rattle.core_reach.proofs.SeekLemmas.{moves_missing, unfound_sought}
use Rattle.core_reach.proofs.closing.seek.Goals as goal

pub returns-in-Declared-clause-in_order : goal.returns-in-Declared-clause-in_order
returns-in-Declared-clause-in_order c = λ keyed before.
    on_ok_weaker c.reach.result (same_order c.args.linking.now c.args.held.now c.reach.new.held c.args.found.now.asked before)
    (c.reach.ensures.named (placed_item c.args.linking.now.modules.now c.args.text.now c.args.name.now c.in-Declared.symbol keyed c.in-Declared.ensures.stands c.in-Declared.ensures.found) before.named)

pub returns-in-Imported : goal.returns-in-Imported
returns-in-Imported c = record {
  sound = λ lead sound. sound;
  in_order = λ keyed before. before;
  moves = moves_missing c.args.held.now (asks c.args.found.now.asked) c.args.found.now.is_missing c.args.found.now.reached.items;
  handled = unfound_sought c.args.linking.now (stage c.args.held.now (asks c.args.found.now.asked) true c.args.found.now.reached.items) c.args.text.now c.args.name.now c.item_of.result c.in-Imported.is c.item_of.ensures.found refl;
}
