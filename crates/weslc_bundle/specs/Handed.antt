-- Keys of what is handed to a run or an evaluation, as those who read the values know them.
use Rattle.weslc_values.specs.declared.settings.Needed.{Needed}
use Rattle.weslc_values.specs.declared.settings.Needed.TheVariants as needed
use Rattle.weslc_values.specs.declared.settings.RunKey.{RunKey}
use Rattle.weslc_values.specs.declared.settings.RunKey.TheVariants as run
use Rattle.weslc_bundle.specs.declared.request.Command.{Command}
use Rattle.weslc_bundle.specs.declared.request.Command.TheVariants.{Link, Compile, Precompile, Run, Eval}
use Rattle.weslc_bundle.specs.declared.request.Key.{Key}
use Rattle.weslc_bundle.specs.declared.request.Key.TheVariants as key

abbrev pub needed_of : Command → Needed
needed_of Link = needed.Nothing
needed_of Compile = needed.Nothing
needed_of Precompile = needed.Nothing
needed_of Run = needed.Entry
needed_of Eval = needed.Expression

abbrev pub key_like : RunKey → Key
key_like run.Entry = key.Entry
key_like run.Inputs = key.Inputs
key_like run.Bindings = key.Bindings
key_like run.Overrides = key.Overrides
key_like run.Expression = key.Expression
