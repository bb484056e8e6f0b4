use Rattle.std.proofs.Common.{refl, sym, subst, Some, None}
use Rattle.wesl_reachability.specs.Cells.{Puts}
use Rattle.wesl_reachability.proofs.chains.Chains.goes_round.Goals as goal

pub returns-in-None : goal.returns-in-None
returns-in-None c = record { result = None; finds = c.in-None.ensures; back = tt; before = refl; states = refl }

pub returns-then-is_same : goal.returns-then-is_same
returns-then-is_same c = record { result = Some c.in-Some.last; finds = c.in-Some.ensures; back = c.is_same.ensures.same c.if-is_same.true; before = refl; states = refl }

pub returns-in_ok-add_step-in-Some : goal.returns-in_ok-add_step-in-Some
returns-in_ok-add_step-in-Some c = record {
  last = c.in-Some.last;
  mid = c.last.new.self.onward.items;
  finds = c.in-Some.ensures;
  other = c.is_same.ensures.other c.if-is_same.false;
  leads = subst (λ l. Puts c.last.new.self.onward.items c.args.from.«module» c.args.from.item c.in-Some.last l.onward.items) (sym c.add_step.ensures.links) c.lead.ensures;
  steps = c.in_ok-add_step-in-Some.ensures.steps;
  states = c.add_step.ensures.states;
}
