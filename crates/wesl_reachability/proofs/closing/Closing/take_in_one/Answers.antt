use Rattle.std.proofs.Common.{◌≡◌, sym, ap, ◌∙◌, subst, Some, None}
use Rattle.std.specs.Option.{option_copied}
use Rattle.wesl_chains.proofs.Loops.{same_some}
use Rattle.wesl_reachability.specs.Taking.{TakesModule}
use Rattle.wesl_reachability.proofs.Held.{map_ok}
use Rattle.wesl_reachability.proofs.closing.Closing.take_in_one.Goals as goal

pub returns-in-None : goal.returns-in-None
returns-in-None c = λ one is. let f : None ≡ Some one = ap option_copied (sym c.in-None.is) ∙ c.get.ensures ∙ is in absurd (cc)

pub returns-in-Some : goal.returns-in-Some
returns-in-Some c =
    map_ok c.take_in_module.result
    (λ t one is. subst (λ m. TakesModule c.args.number m c.args.self.now c.take_in_module.new.self) (same_some (ap option_copied (sym c.in-Some.is) ∙ c.get.ensures ∙ is)) t) c.take_in_module.ensures
