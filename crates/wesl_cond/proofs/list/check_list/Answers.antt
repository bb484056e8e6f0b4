use Rattle.std.proofs.Common.{rules, sym, ap, ◌∙◌, ◌∷◌, drop, ◌+◌, drop_of_length-le}
use Rattle.std.proofs.lemmas.List.{drop_more}
use Rattle.wesl_cond.specs.Passing.{see}
use Rattle.wesl_cond.proofs.Passing.{refused_list, ended_list}
use Rattle.wesl_cond.proofs.list.check_list.Goals as goal

pub returns-in_err-check_item : goal.returns-in_err-check_item
returns-in_err-check_item g c =
    let told : _ =
    refused_list g.T.Item.tree (see g.T.Item.has (g.T.Item.inside c.args.features.now)) c.args.features.now c.loop-item.check.chain c.loop-item.check.inside c.args.items.now
    (drop c.loop-item.item-index c.args.items.now) (drop (c.loop-item.item-index + 1) c.args.items.now) c.item-item.result c.in_err-check_item.field-0.0
    c.in_err-check_item.ensures
    (drop_more c.args.items.now c.loop-item.item-index c.item-item.result c.loop-item-test.true ∙ ap (λ y. y ∷ drop (c.loop-item.item-index + 1) c.args.items.now) (sym c.item-item.is)) c.loop-item.invariant in
    search (rules, told)

pub returns : goal.returns
returns g c =
    ended_list g.T.Item.tree (see g.T.Item.has (g.T.Item.inside c.args.features.now)) c.args.features.now c.loop-item.check.chain c.loop-item.check.inside c.args.items.now
    (drop c.loop-item.item-index c.args.items.now) c.end.result (drop_of_length-le c.args.items.now c.loop-item-test.false) c.loop-item.invariant c.end.ensures
