use Rattle.weslc_values.specs.declared.settings.RunKey.TheVariants as key
use Rattle.weslc_values.proofs.Keys.{wrong_under, wrong_unless}
use Rattle.weslc_values.proofs.settings.entry_at.Goals as goal

pub returns-in-Some : goal.returns-in-Some
returns-in-Some c = wrong_under _ _ _ key.Entry _ c.in-Some.ensures c.under.ensures

pub returns-in-None : goal.returns-in-None
returns-in-None c = wrong_unless _ _ key.Entry _ c.missing.ensures
