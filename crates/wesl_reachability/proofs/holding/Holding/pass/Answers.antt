use Rattle.std.proofs.Common.{◌≡◌, refl, sym, ap, ◌∙◌, subst, length}
use Rattle.std.specs.Option.{option_copied}
use Rattle.wesl_mark.specs.declared.place.Kind.TheVariants.{Assertion}
use Rattle.wesl_reachability.specs.declared.holding.Holding.{Holding}
use Rattle.wesl_reachability.specs.Cells.{SetsOne}
use Rattle.wesl_reachability.specs.Holding.{ReachesKind}
use Rattle.wesl_reachability.proofs.Held.{passed_first}
use Rattle.wesl_reachability.proofs.holding.Holding.pass.Goals as goal

pub returns-in_ok-reach_assertions : goal.returns-in_ok-reach_assertions
returns-in_ok-reach_assertions c =
    let old = c.args.self.now in
    let mid : Holding = record { reached = old.reached; work = old.work; passed = c.set_one.new.flags } in
    passed_first c.args.modules.now.list.items c.args.number old mid c.reach_assertions.new.self c.in-Some.module.now
    (subst (λ b. SetsOne old.passed.items c.args.number c.set_one.new.flags.items b) c.if-set_one.true c.set_one.ensures) refl refl
    (sym c.get.ensures ∙ ap option_copied c.in-Some.is)
    (subst (λ l. ReachesKind c.args.number l Assertion (length l) mid c.reach_assertions.new.self) c.as_slice.ensures.value c.in_ok-reach_assertions.ensures)
