use Rattle.std.proofs.Common.{◌∙◌, refl, sym, ap, inr}
use Rattle.serde_json.specs.Read.{read}
use Rattle.weslc_bundle.proofs.Answered.{value_read, value_refused}
use Rattle.weslc_bundle.proofs.request.read_value.Goals as goal

pub returns-in_default-clause-fault : goal.returns-in_default-clause-fault
returns-in_default-clause-fault c = inr (refl, value_refused _ c.in_default.ensures.cases.0)

pub returns-in-Ok-from_str-clause-value : goal.returns-in-Ok-from_str-clause-value
returns-in-Ok-from_str-clause-value c =
    value_read _ _ c.in-Ok.ensures.cases.1 (ap read (sym c.in-Ok.ensures.cases.0) ∙ c.in-Ok-from_str.ensures.ok)
