use Rattle.std.proofs.Common.{◌≡◌, refl, ap, ◌∙◌, subst, ◌++◌, Some}
use Rattle.wesl_reachability.specs.declared.chains.State.TheVariants.{Met}
use Rattle.wesl_reachability.specs.Cells.{cell}
use Rattle.wesl_reachability.specs.Holding.{Answers}
use Rattle.wesl_reachability.specs.Joining.{state_at, list_of}
use Rattle.wesl_reachability.proofs.chains.Chains.pass.Goals as goal

pub returns-then-is_met : goal.returns-then-is_met
returns-then-is_met c = (
  subst (λ b. Answers b (state_at c.args.self.now c.args.via ≡ Some Met)) c.if-is_met.true c.is_met.ensures,
  c.set_state.ensures,
  c.in_ok-add_all.ensures ∙ ap (λ l. c.args.arrived.now.items ++ l) (c.steps_to.ensures ∙ ap (λ y. list_of (cell y.items c.args.via.«module» c.args.via.item)) c.set_state.ensures.before),
)

pub returns : goal.returns
returns c = (subst (λ b. Answers b (state_at c.args.self.now c.args.via ≡ Some Met)) c.if-is_met.false c.is_met.ensures, refl, refl)
