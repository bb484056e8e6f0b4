use Rattle.std.proofs.Common.{◌≡◌, drop, filter_map}
use Rattle.std.specs.Option.{option_map}
use Rattle.wesl_conditions.specs.Seen.{list_fault}
use Rattle.wesl_conditions.specs.Walks.{checked}
use Rattle.wesl_cond.specs.Passing.{see}
use Rattle.wesl_cond.proofs.list.check_list.Given as goal

abbrev pub invariant-loop-item : goal.invariant-loop-item
invariant-loop-item g l =
    checked l.features l.check.chain l.check.inside (filter_map (λ x. option_map (see g.T.Item.has (g.T.Item.inside l.features)) (g.T.Item.tree x)) (drop l.item-index l.items))
    ≡ list_fault l.features (filter_map (λ x. option_map (see g.T.Item.has (g.T.Item.inside l.features)) (g.T.Item.tree x)) l.items)
