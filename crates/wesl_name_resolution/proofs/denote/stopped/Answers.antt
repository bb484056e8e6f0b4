use Rattle.std.proofs.Common.{◌≡◌, sym, ap, ◌∙◌, subst}
use Rattle.std.specs.Option.{option_map}
use Rattle.wesl_chains.proofs.Loops.{same_some}
use Rattle.wesl_chains.specs.Chains.{next}
use Rattle.wesl_name_resolution.specs.Links.{symbol_of, outcome_of, StopsAs}
use Rattle.wesl_name_resolution.proofs.denote.stopped.Goals as goal

pub returns-in-Some : goal.returns-in-Some
returns-in-Some c find tabled t is =
    let ms = c.args.modules.now in
    let link = c.in-Some.link in
    let answer = outcome_of ms c.stopped_at.result in
    let same : symbol_of link ≡ t = same_some (ap (option_map symbol_of) (sym c.in-Some.is) ∙ c.link_via.ensures ∙ is) in
    subst (λ s. StopsAs s (next find s) answer) same
    (subst (λ x. StopsAs (symbol_of link) x answer) (c.found_at.ensures.step find tabled) (c.stopped_at.ensures ms c.found_at.ensures.found))
