-- The fault of a key of what is handed to a run or an evaluation.
use Rattle.std.proofs.Common.{◌≡◌, ap, sym, subst, ◌∙◌, ◌⊎◌, inl, inr, List, ℕ, Some, None, Ok, Err}
use Rattle.serde_json.specs.Data.{Data}
use Rattle.wgsl_path.specs.declared.path.ModulePath.{ModulePath}
use Rattle.wgsl_base.specs.declared.items.error.OrOutOfMemory.TheVariants as inner
use Rattle.weslc_values.specs.Keys as values
use Rattle.weslc_values.specs.declared.settings.Needed.{Needed}
use Rattle.weslc_values.specs.declared.settings.RunKey.{RunKey}
use Rattle.weslc_values.specs.declared.settings.RunKey.TheVariants as run
use Rattle.weslc_bundle.specs.declared.request.Command.{Command}
use Rattle.weslc_bundle.specs.declared.request.Command.TheVariants.{Link, Compile, Precompile, Run, Eval}
use Rattle.weslc_bundle.specs.declared.request.Key.{Key}
use Rattle.weslc_bundle.specs.declared.request.Request.{Request}
use Rattle.weslc_bundle.specs.declared.request.BundleError.{BundleError}
use Rattle.weslc_bundle.specs.declared.request.BundleError.TheVariants.{NotAnObject, Value, DuplicateModule, OutOfMemory}
use Rattle.weslc_bundle.specs.Bundles.{MayBeWrong, IsNeeded, IsFirstTwice, IsBundle, IsFault, IsHandedFault, request_in, request_of, value_of}
use Rattle.weslc_bundle.specs.Handed.{needed_of, key_like}
use Rattle.weslc_bundle.proofs.Answered.{Faults}
use Rattle.weslc_bundle.proofs.Paths.{fault_of_none}
use Rattle.weslc_bundle.proofs.Requests.{request_value, faults_value}

needed_here : (command : Command) (k : RunKey) → values.IsNeeded (needed_of command) k → IsNeeded command (key_like k)
needed_here Run run.Entry is = is
needed_here Eval run.Expression is = is
needed_here Link run.Entry is = absurd is
needed_here Link run.Inputs is = absurd is
needed_here Link run.Bindings is = absurd is
needed_here Link run.Overrides is = absurd is
needed_here Link run.Expression is = absurd is
needed_here Compile run.Entry is = absurd is
needed_here Compile run.Inputs is = absurd is
needed_here Compile run.Bindings is = absurd is
needed_here Compile run.Overrides is = absurd is
needed_here Compile run.Expression is = absurd is
needed_here Precompile run.Entry is = absurd is
needed_here Precompile run.Inputs is = absurd is
needed_here Precompile run.Bindings is = absurd is
needed_here Precompile run.Overrides is = absurd is
needed_here Precompile run.Expression is = absurd is
needed_here Run run.Inputs is = absurd is
needed_here Run run.Bindings is = absurd is
needed_here Run run.Overrides is = absurd is
needed_here Run run.Expression is = absurd is
needed_here Eval run.Entry is = absurd is
needed_here Eval run.Inputs is = absurd is
needed_here Eval run.Bindings is = absurd is
needed_here Eval run.Overrides is = absurd is

-- A key that is wrong to those who read the values is wrong in the bundle.
wrong_here : (command : Command) (d : Data) (k : RunKey) → values.MayBeWrong (needed_of command) d k → MayBeWrong command d (key_like k)
wrong_here command d run.Entry wrong = (tt, λ none. needed_here command run.Entry (wrong none))
wrong_here command d run.Inputs wrong = (tt, λ none. needed_here command run.Inputs (wrong none))
wrong_here command d run.Bindings wrong = (tt, λ none. needed_here command run.Bindings (wrong none))
wrong_here command d run.Overrides wrong = (tt, λ none. needed_here command run.Overrides (wrong none))
wrong_here command d run.Expression wrong = (tt, λ none. needed_here command run.Expression (wrong none))

-- What is told to those who read a bundle is what those who read the values tell.
pub wrong_told : (command : Command) (d : Data) (k : RunKey) (which : Needed) (told : Key) → which ≡ needed_of command → told ≡ key_like k → values.WrongAt which d (inner.Error k)
    → (Value told ≡ OutOfMemory) ⊎ ((wrong : Key) × MayBeWrong command d wrong × (Value told ≡ Value wrong))
wrong_told command d k which told needs is (inl memory) = absurd (cc)
wrong_told command d k which told needs is (inr (other, same, wrong)) =
    let one : other ≡ k = cc in
    inr (key_like k, wrong_here command d k (subst {A = Needed} (λ w. values.MayBeWrong w d k) needs (subst {A = RunKey} (values.MayBeWrong which d) one wrong)), ap Value is)

-- ---- what is asked for, and what is handed over

-- memory was refused, or what is asked for or handed over has this fault
abbrev pub IsAskedFault : List ℕ → BundleError → Type 0
IsAskedFault bytes e = (e ≡ OutOfMemory) ⊎ ((request_of bytes ≡ Err e) ⊎ IsHandedFault bytes e)

later : (bytes : List ℕ) (e : BundleError) → Faults Request e (request_of bytes) → IsAskedFault bytes e
later bytes e (inl memory) = inl memory
later bytes e (inr is) = inr (inl is)

pub asked_value : (bytes : List ℕ) (e : BundleError) → (e ≡ OutOfMemory) ⊎ ((e ≡ NotAnObject) × (value_of bytes ≡ None)) → IsAskedFault bytes e
asked_value bytes e h = later bytes e (faults_value bytes e h)

pub asked_members : (bytes : List ℕ) (d : Data) (e : BundleError) → value_of bytes ≡ Some d → Faults Request e (request_in d) → IsAskedFault bytes e
asked_members bytes d e there faulty = later bytes e (subst (Faults Request e) (sym (request_value bytes d there)) faulty)

pub asked_whole : (bytes : List ℕ) (d : Data) (request : Request) → value_of bytes ≡ Some d → request_in d ≡ Ok request → request_of bytes ≡ Ok request
asked_whole bytes d request there is = request_value bytes d there ∙ is

pub asked_handed : (bytes : List ℕ) (d : Data) (request : Request) (e : BundleError) → value_of bytes ≡ Some d → request_in d ≡ Ok request
    → (e ≡ OutOfMemory) ⊎ ((k : Key) × MayBeWrong request.command d k × (e ≡ Value k)) → IsAskedFault bytes e
asked_handed bytes d request e there is (inl memory) = inl memory
asked_handed bytes d request e there is (inr (k, wrong, told)) = inr (inr (request, d, k, asked_whole bytes d request there is, there, wrong, told))

pub fault_told : (bytes : List ℕ) (e : BundleError) → IsAskedFault bytes e → (e ≡ OutOfMemory) ⊎ (IsFault bytes e ⊎ IsHandedFault bytes e)
fault_told bytes e (inl memory) = inl memory
fault_told bytes e (inr (inl is)) = inr (inl (inl is))
fault_told bytes e (inr (inr is)) = inr (inr is)

pub no_bundle : (bytes : List ℕ) (e : BundleError) → IsAskedFault bytes e → (e ≡ OutOfMemory) ⊎ (IsHandedFault bytes e ⊎ ((request : Request) → IsBundle bytes request → ⊥))
no_bundle bytes e (inl memory) = inl memory
no_bundle bytes e (inr (inl is)) = inr (inr (λ request. fault_of_none bytes request e (inl is)))
no_bundle bytes e (inr (inr is)) = inr (inl is)

pub twice_told : (bytes : List ℕ) (request : Request) (e : BundleError) → request_of bytes ≡ Ok request
    → (e ≡ OutOfMemory) ⊎ ((path : ModulePath) × IsFirstTwice request.modules path × (e ≡ DuplicateModule path)) → (e ≡ OutOfMemory) ⊎ (IsFault bytes e ⊎ IsHandedFault bytes e)
twice_told bytes request e is (inl memory) = inl memory
twice_told bytes request e is (inr (path, twice, told)) = inr (inl (inr (request, path, is, twice, told)))

pub twice_none : (bytes : List ℕ) (request : Request) (e : BundleError) → request_of bytes ≡ Ok request
    → (e ≡ OutOfMemory) ⊎ ((path : ModulePath) × IsFirstTwice request.modules path × (e ≡ DuplicateModule path))
    → (e ≡ OutOfMemory) ⊎ (IsHandedFault bytes e ⊎ ((r : Request) → IsBundle bytes r → ⊥))
twice_none bytes request e is (inl memory) = inl memory
twice_none bytes request e is (inr (path, twice, told)) = inr (inr (λ r. fault_of_none bytes r e (inr (request, path, is, twice, told))))
