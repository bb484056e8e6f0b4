use Rattle.std.proofs.Common.{◌≡◌, ◌≤◌, ◌<◌, refl, sym, ap, ◌∙◌, subst, length, ◌+◌, Some, arith}
use Rattle.std.specs.Prelude.{slice_get}
use Rattle.wesl_reachability.specs.Taking.{HasTaken}
use Rattle.wesl_reachability.proofs.Taking.{takes_one, taken_all, got_within}
use Rattle.wesl_reachability.proofs.closing.Closing.take_in.Goals as goal

pub loop-number-init : goal.loop-number-init
loop-number-init c = λ t.
    subst (λ n. HasTaken c.args.modules.now.list.items n c.args.self.now) (sym (c.len-number.ensures ∙ c.args.self.now.holding.reached.ok.0 ∙ t.rows.reached)) t

pub loop-number-preserved : goal.loop-number-preserved
loop-number-preserved c = λ t.
    let ms = c.args.modules.now.list.items in
    let x = got_within ms c.loop-number.number (subst (λ n. c.loop-number.number < n) c.len-number-end.ensures c.loop-number-test.true) in
    takes_one ms c.loop-number.number x.0 x.1 c.loop-number.self c.take_in_one.new.self (c.loop-number.invariant t) (c.in_ok-take_in_one.ensures x.0 x.1)

pub returns : goal.returns
returns c = λ t.
    let first : c.len-number.result ≡ 0 = c.len-number.ensures ∙ c.args.self.now.holding.reached.ok.0 ∙ t.rows.reached in
    let last = c.len-number-end.ensures in
    let low : c.len-number-end.result ≤ c.loop-number.number = c.loop-number-test.false in
    let high : c.loop-number.number ≤ c.len-number-end.result = c.loop-number.auto.number-end (omega (arith, first)) in
    let same : c.loop-number.number ≡ length c.args.modules.now.list.items = omega (arith, last, low, high) in
    taken_all c.args.modules.now c.loop-number.self (subst (λ n. HasTaken c.args.modules.now.list.items n c.loop-number.self) same (c.loop-number.invariant t))
