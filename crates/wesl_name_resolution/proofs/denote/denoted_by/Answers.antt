use Rattle.std.proofs.Common.{◌≡◌, refl, sym, ap, ◌∙◌, subst, Some}
use Rattle.wesl_chains.specs.Chains.{next, leads, here}
use Rattle.wesl_name_resolution.specs.Links.{symbol_of, symbol_via, step_of, outcome_of, IsFoundIn, StopsAs}
use Rattle.wesl_name_resolution.specs.Ends.{IsEnd, end_at}
use Rattle.wesl_name_resolution.proofs.Answered.{stopped, led_to_declaration, led_to_stop, led_round, leads_nowhere}
use Rattle.wesl_name_resolution.proofs.denote.denoted_by.Goals as goal

pub returns-in-Declared : goal.returns-in-Declared
returns-in-Declared c ends find tabled =
    let ms = c.args.modules.now in
    let s = symbol_of c.args.first in
    let t = symbol_of c.in-Leads.field-1 in
    let e : next find s ≡ leads t = sym (c.found_at.ensures.step find tabled) ∙ ap (step_of ms) c.in-Leads.is in
    let via : symbol_via ms c.in-Leads.via ≡ Some t = subst (λ x. IsFoundIn ms s.home x) c.in-Leads.is c.found_at.ensures.found in
    led_to_declaration find ms s t e (end_at c.args.ends.now.ends.items c.in-Leads.via) (ends find tabled c.in-Leads.via t via) c.in-Declared.spot (sym c.get.ensures ∙ c.in-Declared.is)

pub returns-in-Stops : goal.returns-in-Stops
returns-in-Stops c ends find tabled =
    let ms = c.args.modules.now in
    let s = symbol_of c.args.first in
    let t = symbol_of c.in-Leads.field-1 in
    let e : next find s ≡ leads t = sym (c.found_at.ensures.step find tabled) ∙ ap (step_of ms) c.in-Leads.is in
    let via : symbol_via ms c.in-Leads.via ≡ Some t = subst (λ x. IsFoundIn ms s.home x) c.in-Leads.is c.found_at.ensures.found in
    led_to_stop find ms s t e (end_at c.args.ends.now.ends.items c.in-Leads.via) (ends find tabled c.in-Leads.via t via) c.in-Stops.last (sym c.get.ensures ∙ c.in-Stops.is)
    (outcome_of ms c.stopped.result) (λ u v. c.stopped.ensures find tabled u v)

pub returns-in-Unknown : goal.returns-in-Unknown
returns-in-Unknown c ends find tabled =
    let ms = c.args.modules.now in
    let s = symbol_of c.args.first in
    let t = symbol_of c.in-Leads.field-1 in
    let e : next find s ≡ leads t = sym (c.found_at.ensures.step find tabled) ∙ ap (step_of ms) c.in-Leads.is in
    let via : symbol_via ms c.in-Leads.via ≡ Some t = subst (λ x. IsFoundIn ms s.home x) c.in-Leads.is c.found_at.ensures.found in
    led_round find ms s t e c.get.result (subst (λ x. IsEnd ms find t x) (sym c.get.ensures) (ends find tabled c.in-Leads.via t via)) c.in-Unknown.is (outcome_of ms c.missing.result) (c.missing.ensures ms)

pub returns-in_default : goal.returns-in_default
returns-in_default c ends find tabled =
    let ms = c.args.modules.now in
    let s = symbol_of c.args.first in
    stopped find {s = s} {t = s} here (next find s) refl (λ u e. leads_nowhere ms c.found_at.result (λ via l f. c.in_default.not-Leads via l f) u (c.found_at.ensures.step find tabled ∙ e))
    (outcome_of ms c.stopped_at.result)
    (subst (λ x. StopsAs s x (outcome_of ms c.stopped_at.result)) (c.found_at.ensures.step find tabled) (c.stopped_at.ensures ms c.found_at.ensures.found))
