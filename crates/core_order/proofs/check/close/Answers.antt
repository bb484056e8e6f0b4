use Rattle.std.proofs.Common.{◌≡◌, ◌-◌, length, take, Some, rules, refl, arith, sym, ap, ◌∙◌, subst}
use Rattle.std.specs.Prelude.{slice_get}
use Rattle.core_order.specs.Checks.{Closes}
use Rattle.core_order.proofs.Using.{closes_more}
use Rattle.core_order.proofs.check.close.Goals as goal

pub loop-position-preserved : goal.loop-position-preserved
loop-position-preserved c =
    let mid = c.loop-position.unused.items in
    let x = c.in-Some.position in
    let is : slice_get mid (length mid - 1) ≡ Some x = search rules in
    let rest : c.pop.new.self.items ≡ take (length mid - 1) mid =
    c.pop.ensures.rest ∙ ap (λ n. take (n - 1) mid) (omega (arith, c.loop-position.unused.ok.0)) in
    subst (Closes c.args.users.now c.args.last c.args.unused.now.items) (sym rest)
    (closes_more c.args.users.now c.args.last c.args.unused.now.items mid x c.loop-position.invariant is (c.if-not-is_used_by.ensures refl))
