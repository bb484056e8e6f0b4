use Rattle.std.proofs.Common.{◌≡◌, sym, ap, ◌∙◌, subst, length, Some, None}
use Rattle.std.specs.Option.{option_copied}
use Rattle.wesl_chains.proofs.Loops.{same_some}
use Rattle.wesl_module_index.specs.declared.module.Module.{Module}
use Rattle.wesl_reachability.specs.Starts.{AddsPlaces}
use Rattle.wesl_reachability.proofs.Held.{map_ok}
use Rattle.wesl_reachability.proofs.starts.add_module.Goals as goal

pub returns-in-None : goal.returns-in-None
returns-in-None c = λ one is. let f : None ≡ Some one = ap option_copied (sym c.in-None.is) ∙ c.get.ensures ∙ is in absurd (cc)

pub returns-in-Some : goal.returns-in-Some
returns-in-Some c =
    map_ok c.add_places.result
    (λ t one is. subst (λ (m : Module). AddsPlaces c.args.number (length m.places.items) c.args.spots.now.items c.add_places.new.spots.items) (same_some (ap option_copied (sym c.in-Some.is) ∙ c.get.ensures ∙ is))
    (subst (λ n. AddsPlaces c.args.number n c.args.spots.now.items c.add_places.new.spots.items) (c.len.ensures ∙ c.in-Some.«module».now.places.ok.0) t)) c.add_places.ensures
