use Rattle.std.proofs.Common.{◌≡◌, ◌≤◌, ◌<◌, sym, subst, length, arith}
use Rattle.wesl_reachability.proofs.Added.{AreBetween, between_none, between_more, between_all}
use Rattle.wesl_reachability.proofs.Taking.{got_within}
use Rattle.wesl_reachability.proofs.starts.all_places.Goals as goal

pub loop-number-init : goal.loop-number-init
loop-number-init c = record {
  between = subst (λ l. AreBetween c.args.modules.now.list.items c.args.first c.args.first l) (sym c.new-spots.ensures.items) (between_none c.args.modules.now.list.items c.args.first);
  behind = omega arith;
}

pub loop-number-preserved : goal.loop-number-preserved
loop-number-preserved c =
    let ms = c.args.modules.now.list.items in
    let n = c.loop-number.number in
    let behind = c.loop-number.invariant.behind in
    let x = got_within ms n (subst (λ k. n < k) c.len-number-end.ensures c.loop-number-test.true) in
    record {
      between = between_more ms c.args.first n x.0 c.loop-number.spots.items c.add_module.new.spots.items behind x.1 c.loop-number.invariant.between (c.in_ok-add_module.ensures x.0 x.1);
      behind = omega (arith, behind);
    }

pub returns : goal.returns
returns c =
    between_all c.args.modules.now.list.items c.args.first c.loop-number.number c.loop-number.spots.items (subst (λ k. k ≤ c.loop-number.number) c.len-number-end.ensures c.loop-number-test.false)
    c.loop-number.invariant.between
