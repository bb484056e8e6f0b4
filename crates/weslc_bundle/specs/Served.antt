-- What the program answers.
use Rattle.std.specs.Prelude.{◌≡◌, ◌⊎◌, ◌<◌, ◌≤◌, ◌+◌, ⊤, ℕ, List, length, Option, Some, None, IfSome}
use Rattle.std.specs.Io.KnownBytes.{Consumes}
use Rattle.wgsl_path.specs.Paths.{path_text}
use Rattle.wgsl_path.specs.declared.path.ModulePath.{ModulePath}
use Rattle.weslc_precompile.specs.declared.error.PrecompileError.{PrecompileError}
use Rattle.weslc_precompile.specs.declared.error.PrecompileError.TheVariants as precompiling
use Rattle.weslc_precompile.specs.Precompiling.{IsPrecompiledText, RefusesPrecompiling}
use Rattle.weslc_compile.specs.Stored.{text_at}
use Rattle.weslc_compile.specs.Options.{Options}
use Rattle.weslc_compile.specs.OfCore.{Finding, sources, IsBeyondLink}
use Rattle.weslc_compile.specs.Whole.{IsBeyond}
use Rattle.weslc_compile.specs.declared.refusal.CompileRefusal.{CompileRefusal}
use Rattle.weslc_compile.specs.declared.refusal.CompileRefusal.TheVariants as whole
use Rattle.weslc_compile.specs.Answers.{IsLinkedText, IsCompiledText, RefusesToLink, RefusesToCompile}
use Rattle.weslc_compile.specs.CompileError.{CompileError}
use Rattle.weslc_compile.specs.CompileError.TheVariants as calls
use Rattle.weslc_bundle.specs.declared.input.TheConstants.{MAX_BUNDLE_LEN}
use Rattle.weslc_bundle.specs.declared.input.InputError.{InputError}
use Rattle.weslc_bundle.specs.declared.input.InputError.TheVariants as input
use Rattle.weslc_bundle.specs.declared.request.Command.{Command}
use Rattle.weslc_bundle.specs.declared.request.Command.TheVariants.{Link, Compile, Precompile, Run, Eval}
use Rattle.weslc_bundle.specs.declared.request.Request.{Request}
use Rattle.weslc_bundle.specs.declared.request.BundleError.{BundleError}
use Rattle.weslc_bundle.specs.declared.request.BundleError.TheVariants as bundle
use Rattle.weslc_bundle.specs.declared.bundle.Bundle.{Bundle}
use Rattle.weslc_bundle.specs.declared.error.ServeError.{ServeError}
use Rattle.weslc_bundle.specs.declared.error.ServeError.TheVariants as of
use Rattle.weslc_bundle.specs.Held.{Texts, text_in, found_by}
use Rattle.weslc_bundle.specs.Bundles.{AreOptions, IsBundle, IsFault, IsHandedFault}
use Rattle.weslc_bundle.specs.Output.{AppendsBeginning}

-- ---- bytes

-- These are the bytes that a reader had left, where it tells them.
abbrev pub AreAll : Option (List ℕ) → List ℕ → Type 0
AreAll left bytes = IfSome left (λ all. bytes ≡ all)

-- These are the bytes that a reader had left, and they are no more than a bundle may have.
abbrev pub AreRead : Option (List ℕ) → List ℕ → Type 0
AreRead left bytes = AreAll left bytes × (length bytes ≤ MAX_BUNDLE_LEN)

-- A reader had more bytes left than a bundle may have, where it tells them.
abbrev pub AreTooMany : Option (List ℕ) → Type 0
AreTooMany left = IfSome left (λ all. MAX_BUNDLE_LEN < length all)

-- At most one byte more was taken of a reader than a bundle may have, where it tells its bytes.
abbrev pub TakesFew : Option (List ℕ) → Option (List ℕ) → Type 0
TakesFew before after = (taken : List ℕ) × Consumes before after taken × (length taken ≤ MAX_BUNDLE_LEN + 1)

-- ---- calls

-- memory aside, modules are not linked or compiled, and this is why, where the call is one of the part's
abbrev pub RefusesModules : Command → Finding → ModulePath → Options → CompileError → Type 0
RefusesModules Link found root options e =
    IsBeyondLink found root options ⊎ RefusesToLink (sources options.features found) (path_text root) options.keep options.max_modules e
RefusesModules Compile found root options e =
    IsBeyond found root options ⊎ RefusesToCompile (sources options.features found) (path_text root) options.keep options.max_modules options.max_steps e
RefusesModules Precompile found root options e = ⊥
RefusesModules Run found root options e = ⊤
RefusesModules Eval found root options e = ⊤

-- of these texts by their printed paths, the command's call answers this text, where it is one of the part's
abbrev pub IsTextOf : Command → Texts → ModulePath → Options → List ℕ → Type 0
IsTextOf Link texts root options text =
    IsBeyondLink (found_by texts) root options
    ⊎ IsLinkedText (sources options.features (found_by texts)) (path_text root) options.keep options.max_modules text
IsTextOf Compile texts root options text =
    IsBeyond (found_by texts) root options
    ⊎ IsCompiledText (sources options.features (found_by texts)) (path_text root) options.keep options.max_modules options.max_steps text
IsTextOf Precompile texts root options text =
    (source : List ℕ) × (texts (path_text root) ≡ Some source) × IsPrecompiledText options.features source text
IsTextOf Run texts root options text = ⊤
IsTextOf Eval texts root options text = ⊤

-- a run or an evaluation, of whose answers nothing is said
abbrev pub RunsOrEvaluates : Command → Type 0
RunsOrEvaluates command = (command ≡ Run) ⊎ (command ≡ Eval)

-- what a run or an evaluation may be refused for
abbrev pub IsOfRun : ServeError → Type 0
IsOfRun (of.Compile e) = ⊤
IsOfRun (of.Eval c fault) = ⊥
IsOfRun (of.Run e) = ⊤
IsOfRun of.OutOfMemory = ⊤
IsOfRun _ = ⊥

-- memory aside, the command's call is refused so
abbrev pub IsRefusalOf : Command → Texts → ModulePath → Options → ServeError → Type 0
IsRefusalOf command texts root options (of.Compile e) = RefusesModules command (found_by texts) root options e
IsRefusalOf command texts root options (of.Eval c fault) = (command ≡ Compile) × IsBeyond (found_by texts) root options
IsRefusalOf command texts root options of.NoRoot = (command ≡ Precompile) × (texts (path_text root) ≡ None)
IsRefusalOf command texts root options (of.Precompile e) =
    (command ≡ Precompile) × ((source : List ℕ) × (texts (path_text root) ≡ Some source) × RefusesPrecompiling options.features source e)
IsRefusalOf command texts root options (of.Run e) = RunsOrEvaluates command
IsRefusalOf command texts root options of.OutOfMemory = ⊤
IsRefusalOf command texts root options of.Read = ⊥
IsRefusalOf command texts root options of.TooLong = ⊥
IsRefusalOf command texts root options (of.Bundle fault) = ⊥

-- the request's call answers this text of its modules
abbrev pub IsAnswer : Request → List ℕ → Type 0
IsAnswer request text = (options : Options) × AreOptions request options × IsTextOf request.command (text_in request.modules) request.root options text

-- memory aside, it is refused so
abbrev pub IsRefused : Request → ServeError → Type 0
IsRefused request refusal = (options : Options) × AreOptions request options × IsRefusalOf request.command (text_in request.modules) request.root options refusal

-- the same of a bundle, of what its resolver holds
abbrev pub IsTextFor : Command → Bundle → List ℕ → Type 0
IsTextFor command bundle text = IsTextOf command (text_at bundle.resolver) bundle.root bundle.options text

abbrev pub IsRefusalFor : Command → Bundle → ServeError → Type 0
IsRefusalFor command bundle refusal = IsRefusalOf command (text_at bundle.resolver) bundle.root bundle.options refusal

-- ---- the program

-- What was left is a bundle, and this text is the answer to it.
abbrev pub Answered : Option (List ℕ) → List ℕ → Type 0
Answered left text = (bytes : List ℕ) × (request : Request) × AreRead left bytes × IsBundle bytes request × IsAnswer request text

-- What was left is a bundle, and its call is refused so.
abbrev pub IsRefusedCall : Option (List ℕ) → ServeError → Type 0
IsRefusedCall left refusal = (bytes : List ℕ) × (request : Request) × AreRead left bytes × IsBundle bytes request × IsRefused request refusal

-- why there is no text: a read failed, what was left is too long or is no bundle, the call is refused, or memory was refused
abbrev pub Refused : Option (List ℕ) → ServeError → Type 0
Refused left of.Read = ⊤
Refused left of.TooLong = AreTooMany left
Refused left (of.Bundle fault) = (bytes : List ℕ) × AreRead left bytes × (IsFault bytes fault ⊎ IsHandedFault bytes fault)
Refused left (of.Compile e) = IsRefusedCall left (of.Compile e)
Refused left (of.Eval c fault) = IsRefusedCall left (of.Eval c fault)
Refused left of.NoRoot = IsRefusedCall left of.NoRoot
Refused left (of.Precompile e) = IsRefusedCall left (of.Precompile e)
Refused left (of.Run e) = IsRefusedCall left (of.Run e)
Refused left of.OutOfMemory = ⊤

-- There is no text, for such a reason.
abbrev pub HasRefusal : Option (List ℕ) → Type 0
HasRefusal left = (refusal : ServeError) × Refused left refusal

-- What was left is a bundle, and of the answer to it a writer got a beginning.
abbrev pub IsCutShort : Option (List ℕ) → Option (List ℕ) → Option (List ℕ) → Type 0
IsCutShort left old new = (text : List ℕ) × Answered left text × AppendsBeginning old new text

-- 1 for a refused call and for memory; 2 for what is no bundle, for a root to precompile that is not there, and for a read that fails
abbrev pub status_of : ServeError → ℕ
status_of of.Read = 2
status_of of.TooLong = 2
status_of (of.Bundle fault) = 2
status_of of.NoRoot = 2
status_of (of.Compile e) = 1
status_of (of.Eval c fault) = 1
status_of (of.Precompile e) = 1
status_of (of.Run e) = 1
status_of of.OutOfMemory = 1

-- ---- one error as another

abbrev pub refused_input : InputError → ServeError
refused_input input.Read = of.Read
refused_input input.TooLong = of.TooLong
refused_input input.OutOfMemory = of.OutOfMemory

abbrev pub refused_bundle : BundleError → ServeError
refused_bundle bundle.NotAnObject = of.Bundle bundle.NotAnObject
refused_bundle (bundle.UnknownKey name) = of.Bundle (bundle.UnknownKey name)
refused_bundle (bundle.Value key) = of.Bundle (bundle.Value key)
refused_bundle (bundle.DuplicateModule path) = of.Bundle (bundle.DuplicateModule path)
refused_bundle bundle.OutOfMemory = of.OutOfMemory

-- a refusal of a call, or that memory was refused
abbrev pub RefusesCall : CompileError → ServeError → Type 0
RefusesCall e refusal = (refusal ≡ of.Compile e) ⊎ ((e ≡ calls.OutOfMemory) × (refusal ≡ of.OutOfMemory))

abbrev pub RefusesWholeCall : CompileRefusal → ServeError → Type 0
RefusesWholeCall (whole.Compile e) refusal = RefusesCall e refusal
RefusesWholeCall (whole.Eval c fault) refusal = refusal ≡ of.Eval c fault

abbrev pub refused_precompiling : PrecompileError → ServeError
refused_precompiling (precompiling.Syntax e) = of.Precompile (precompiling.Syntax e)
refused_precompiling (precompiling.Condition e) = of.Precompile (precompiling.Condition e)
refused_precompiling (precompiling.Unprintable name) = of.Precompile (precompiling.Unprintable name)
refused_precompiling (precompiling.GaveUp r) = of.Precompile (precompiling.GaveUp r)
refused_precompiling precompiling.OutOfMemory = of.OutOfMemory
