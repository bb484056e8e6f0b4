use Rattle.weslc_values.specs.declared.settings.RunKey.TheVariants as key
use Rattle.weslc_values.proofs.Keys.{wrong_under}
use Rattle.weslc_values.proofs.settings.bindings_at.Goals as goal

pub returns-in-Some : goal.returns-in-Some
returns-in-Some c = wrong_under _ _ _ key.Bindings _ c.in-Some.ensures c.under.ensures
