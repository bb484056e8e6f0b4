-- The keys of what is handed to a run or an evaluation.
use Rattle.std.specs.Prelude.{◌≡◌, ◌⊎◌, ⊤, ℕ, List, codes, None}
use Rattle.serde_json.specs.Data.{Data}
use Rattle.serde_json.specs.Find.{get}
use Rattle.wgsl_base.specs.declared.items.error.OrOutOfMemory.{OrOutOfMemory}
use Rattle.wgsl_base.specs.declared.items.error.OrOutOfMemory.TheVariants.{Error, OutOfMemory}
use Rattle.weslc_values.specs.declared.settings.Needed.{Needed}
use Rattle.weslc_values.specs.declared.settings.Needed.TheVariants as needed
use Rattle.weslc_values.specs.declared.settings.RunKey.{RunKey}
use Rattle.weslc_values.specs.declared.settings.RunKey.TheVariants as key

abbrev pub key_name : RunKey → List ℕ
key_name key.Entry = codes "entry"
key_name key.Inputs = codes "inputs"
key_name key.Bindings = codes "bindings"
key_name key.Overrides = codes "overrides"
key_name key.Expression = codes "expression"

abbrev pub IsNeeded : Needed → RunKey → Type 0
IsNeeded needed.Entry key.Entry = ⊤
IsNeeded needed.Expression key.Expression = ⊤
IsNeeded _ _ = ⊥

-- Something stands at the key, or it is missing and needed.
abbrev pub MayBeWrong : Needed → Data → RunKey → Type 0
MayBeWrong which d k = (get (key_name k) d ≡ None) → IsNeeded which k

-- Memory was refused, or such a key is told.
abbrev pub WrongAt : Needed → Data → OrOutOfMemory RunKey → Type 0
WrongAt which d e = (e ≡ OutOfMemory) ⊎ ((k : RunKey) × (e ≡ Error k) × MayBeWrong which d k)
