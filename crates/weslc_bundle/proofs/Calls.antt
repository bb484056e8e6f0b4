-- Refused calls, as the program tells them.
use Rattle.std.proofs.Common.{◌≡◌, refl, sym, subst, ℕ, List, ◌⊎◌, inl, inr, Option, Some, None, Result, Ok, Err, String, Global}
use Rattle.std.specs.Prelude.{IfOk, IfErr, string_bytes}
use Rattle.wgsl_path.specs.Paths.{path_text}
use Rattle.weslc_compile.specs.Stored.{text_at}
use Rattle.weslc_compile.specs.CompileError.{CompileError}
use Rattle.weslc_compile.specs.Whole.{IsBeyond, RefusesCore}
use Rattle.weslc_compile.specs.declared.refusal.CompileRefusal.{CompileRefusal}
use Rattle.weslc_compile.specs.declared.refusal.CompileRefusal.TheVariants as whole
use Rattle.weslc_precompile.specs.declared.error.PrecompileError.{PrecompileError}
use Rattle.weslc_precompile.specs.declared.error.PrecompileError.TheVariants as precompiling
use Rattle.weslc_precompile.specs.Precompiling.{RefusesPrecompiling}
use Rattle.weslc_bundle.specs.declared.request.Command.{Command}
use Rattle.weslc_bundle.specs.declared.request.Command.TheVariants.{Compile, Precompile, Run, Eval}
use Rattle.weslc_bundle.specs.declared.bundle.Bundle.{Bundle}
use Rattle.weslc_bundle.specs.declared.error.ServeError.{ServeError}
use Rattle.weslc_bundle.specs.declared.error.ServeError.TheVariants as serve
use Rattle.weslc_bundle.specs.Held.{found_by}
use Rattle.weslc_bundle.specs.declared.request.BundleError.{BundleError}
use Rattle.weslc_bundle.specs.declared.request.BundleError.TheVariants as bundle
use Rattle.weslc_bundle.specs.Bundles.{IsFault, IsHandedFault}
use Rattle.weslc_bundle.specs.Served.{AreRead, Refused, RefusesModules, IsOfRun, IsTextFor, IsRefusalFor, RefusesCall, RefusesWholeCall, refused_bundle, refused_precompiling}

pub modules_refused : (command : Command) (bundle : Bundle) (e : CompileError) (refusal : ServeError)
    → RefusesModules command (found_by (text_at bundle.resolver)) bundle.root bundle.options e → RefusesCall e refusal → IsRefusalFor command bundle refusal
modules_refused command bundle e refusal h (inl same) = subst (IsRefusalFor command bundle) (sym same) h
modules_refused command bundle e refusal h (inr memory) = subst (IsRefusalFor command bundle) (sym memory.1) tt

pub whole_refused : (bundle : Bundle) (e : CompileRefusal) (refusal : ServeError)
    → IsBeyond (found_by (text_at bundle.resolver)) bundle.root bundle.options ⊎ RefusesCore (found_by (text_at bundle.resolver)) bundle.root bundle.options e
    → RefusesWholeCall e refusal → IsRefusalFor Compile bundle refusal
whole_refused bundle (whole.Compile e) refusal h same = modules_refused Compile bundle e refusal h same
whole_refused bundle (whole.Eval c fault) refusal (inl beyond) same = subst (IsRefusalFor Compile bundle) (sym same) (refl, beyond)
whole_refused bundle (whole.Eval c fault) refusal (inr none) same = absurd none

pub precompile_refused : (bundle : Bundle) (source : List ℕ) (e : PrecompileError)
    → text_at bundle.resolver (path_text bundle.root) ≡ Some source → RefusesPrecompiling bundle.options.features source e
    → IsRefusalFor Precompile bundle (refused_precompiling e)
precompile_refused bundle source (precompiling.Syntax e) found h = (refl, (source, found, h))
precompile_refused bundle source (precompiling.Condition e) found h = (refl, (source, found, h))
precompile_refused bundle source (precompiling.Unprintable name) found h = (refl, (source, found, h))
precompile_refused bundle source (precompiling.GaveUp r) found h = (refl, (source, found, h))
precompile_refused bundle source precompiling.OutOfMemory found h = tt

pub root_refused : (bundle : Bundle) (refusal : ServeError)
    → (refusal ≡ serve.OutOfMemory) ⊎ ((refusal ≡ serve.NoRoot) × (text_at bundle.resolver (path_text bundle.root) ≡ None)) → IsRefusalFor Precompile bundle refusal
root_refused bundle refusal (inl memory) = subst (IsRefusalFor Precompile bundle) (sym memory) tt
root_refused bundle refusal (inr none) = subst (IsRefusalFor Precompile bundle) (sym none.0) (refl, none.1)

-- ---- runs and evaluations

run_refused : (bundle : Bundle) (refusal : ServeError) → IsOfRun refusal → IsRefusalFor Run bundle refusal
run_refused bundle (serve.Compile e) is = tt
run_refused bundle (serve.Eval c fault) is = absurd is
run_refused bundle (serve.Run e) is = inl refl
run_refused bundle serve.OutOfMemory is = tt
run_refused bundle serve.Read is = absurd is
run_refused bundle serve.TooLong is = absurd is
run_refused bundle serve.NoRoot is = absurd is
run_refused bundle (serve.Bundle fault) is = absurd is
run_refused bundle (serve.Precompile e) is = absurd is

eval_refused : (bundle : Bundle) (refusal : ServeError) → IsOfRun refusal → IsRefusalFor Eval bundle refusal
eval_refused bundle (serve.Compile e) is = tt
eval_refused bundle (serve.Eval c fault) is = absurd is
eval_refused bundle (serve.Run e) is = inr refl
eval_refused bundle serve.OutOfMemory is = tt
eval_refused bundle serve.Read is = absurd is
eval_refused bundle serve.TooLong is = absurd is
eval_refused bundle serve.NoRoot is = absurd is
eval_refused bundle (serve.Bundle fault) is = absurd is
eval_refused bundle (serve.Precompile e) is = absurd is

pub run_refusals : (bundle : Bundle) (r : Result (String Global) ServeError) → IfErr r IsOfRun → IfErr r (λ refusal. IsRefusalFor Run bundle refusal)
run_refusals bundle (Ok text) is = tt
run_refusals bundle (Err refusal) is = run_refused bundle refusal is

pub eval_refusals : (bundle : Bundle) (r : Result (String Global) ServeError) → IfErr r IsOfRun → IfErr r (λ refusal. IsRefusalFor Eval bundle refusal)
eval_refusals bundle (Ok text) is = tt
eval_refusals bundle (Err refusal) is = eval_refused bundle refusal is

pub run_texts : (bundle : Bundle) (r : Result (String Global) ServeError) → IfOk r (λ text. IsTextFor Run bundle (string_bytes text))
run_texts bundle (Ok text) = tt
run_texts bundle (Err refusal) = tt

pub eval_texts : (bundle : Bundle) (r : Result (String Global) ServeError) → IfOk r (λ text. IsTextFor Eval bundle (string_bytes text))
eval_texts bundle (Ok text) = tt
eval_texts bundle (Err refusal) = tt

-- ---- what is no bundle

bundle_fault : (left : Option (List ℕ)) (bytes : List ℕ) (e : BundleError) → AreRead left bytes → (e ≡ bundle.OutOfMemory) ⊎ (IsFault bytes e ⊎ IsHandedFault bytes e) → Refused left (refused_bundle e)
bundle_fault left bytes bundle.OutOfMemory read h = tt
bundle_fault left bytes bundle.NotAnObject read (inl memory) = absurd cc
bundle_fault left bytes bundle.NotAnObject read (inr is) = (bytes, read, is)
bundle_fault left bytes (bundle.UnknownKey name) read (inl memory) = absurd cc
bundle_fault left bytes (bundle.UnknownKey name) read (inr is) = (bytes, read, is)
bundle_fault left bytes (bundle.Value key) read (inl memory) = absurd cc
bundle_fault left bytes (bundle.Value key) read (inr is) = (bytes, read, is)
bundle_fault left bytes (bundle.DuplicateModule path) read (inl memory) = absurd cc
bundle_fault left bytes (bundle.DuplicateModule path) read (inr is) = (bytes, read, is)

pub bundle_refused : (left : Option (List ℕ)) (bytes : List ℕ) (e : BundleError) (refusal : ServeError) → AreRead left bytes → (e ≡ bundle.OutOfMemory) ⊎ (IsFault bytes e ⊎ IsHandedFault bytes e)
    → refusal ≡ refused_bundle e → Refused left refusal
bundle_refused left bytes e refusal read h same = subst (Refused left) (sym same) (bundle_fault left bytes e read h)
