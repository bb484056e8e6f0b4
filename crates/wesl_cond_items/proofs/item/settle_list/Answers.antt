use Rattle.std.proofs.Common.{rules, ◌≡◌, refl, ap, ◌∙◌, filter_map}
use Rattle.wesl_conditions.specs.Walks.{settled}
use Rattle.wesl_conditions.proofs.Walking.{settled_is_left}
use Rattle.wesl_conditions.proofs.Turns.{settles}
use Rattle.wesl_cond_items.proofs.item.settle_list.Goals as goal

pub returns : goal.returns
returns g c =
    settles c.args.features.now g.T.Item.has g.T.Item.tree _ (λ s. s.0) (λ s. s.1.now ≡ c.args.features.now)
    (λ s x b t y fit r. (search rules, search rules)) _ refl _ _ c.retain_mut.ensures
    ∙ ap (λ chain. settled c.args.features.now g.T.Item.has chain (filter_map g.T.Item.tree c.args.items.now)) c.start-chain.ensures
    ∙ settled_is_left c.args.features.now g.T.Item.has (filter_map g.T.Item.tree c.args.items.now)
