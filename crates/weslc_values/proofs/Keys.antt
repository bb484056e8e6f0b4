-- Keys that are told.
use Rattle.std.proofs.Common.{◌≡◌, ◌∙◌, ◌⊎◌, inl, inr, Some, None, Result, Ok, Err}
use Rattle.std.specs.Prelude.{IfErr}
use Rattle.serde_json.specs.Data.{Data}
use Rattle.serde_json.specs.Find.{get}
use Rattle.wgsl_base.specs.declared.items.error.OrOutOfMemory.{OrOutOfMemory}
use Rattle.wgsl_base.specs.declared.items.error.OrOutOfMemory.TheVariants.{Error, OutOfMemory}
use Rattle.weslc_values.specs.declared.settings.Needed.{Needed}
use Rattle.weslc_values.specs.declared.settings.RunKey.{RunKey}
use Rattle.weslc_values.specs.Keys.{key_name, IsNeeded, MayBeWrong, WrongAt}

wrong_there : (which : Needed) (d x : Data) (k : RunKey) (e : OrOutOfMemory RunKey) → Some x ≡ get (key_name k) d
    → (e ≡ OutOfMemory) ⊎ (e ≡ Error k) → WrongAt which d e
wrong_there which d x k e there (inl memory) = inl memory
wrong_there which d x k e there (inr is) = inr (k, is, λ none. absurd (let both : Some x ≡ None = there ∙ none in cc))

wrong_missing : (which : Needed) (d : Data) (k : RunKey) (e : OrOutOfMemory RunKey) → (e ≡ Error k) × IsNeeded which k → WrongAt which d e
wrong_missing which d k e is = inr (k, is.0, λ none. is.1)

pub wrong_under : {T : Type 0} → (which : Needed) (d x : Data) (k : RunKey) (r : Result T (OrOutOfMemory RunKey)) → Some x ≡ get (key_name k) d
    → IfErr r (λ e. (e ≡ OutOfMemory) ⊎ (e ≡ Error k)) → IfErr r (WrongAt which d)
wrong_under which d x k (Ok value) there is = tt
wrong_under which d x k (Err e) there is = wrong_there which d x k e there is

pub wrong_unless : {T : Type 0} → (which : Needed) (d : Data) (k : RunKey) (r : Result T (OrOutOfMemory RunKey))
    → IfErr r (λ e. (e ≡ Error k) × IsNeeded which k) → IfErr r (WrongAt which d)
wrong_unless which d k (Ok value) is = tt
wrong_unless which d k (Err e) is = wrong_missing which d k e is
