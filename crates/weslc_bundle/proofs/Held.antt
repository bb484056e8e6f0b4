-- Modules that are added one after another, what a resolver then holds, and what the calls answer of it.
use Rattle.std.proofs.Common.{◌≡◌, refl, sym, ap, ◌∙◌, subst, ℕ, suc, arith, ◌<◌, length, get_or, List, [], ◌∷◌, Bool, true, false, if◌then◌else◌, Option, Some, None, Result, Ok, Err, bytes_eq, String, Global, string_bytes}
use Rattle.std.specs.Prelude.{IfOk, IfErr}
use Rattle.std.proofs.Math.Path.{fun_ext}
use Rattle.std.specs.Option.{option_map, option_or}
use Rattle.std.specs.List.{find}
use Rattle.std.proofs.lemmas.Bool.{false_from_ne_true}
use Rattle.std.proofs.lemmas.Slice.Eq.{bytes_eq-Decides}
use Rattle.wgsl_path.specs.Paths.{path_text}
use Rattle.wgsl_path.specs.declared.path.ModulePath.{ModulePath}
use Rattle.weslc_compile.specs.Stored.{text_at, IsAdded}
use Rattle.weslc_compile.specs.VirtualResolver.{VirtualResolver}
use Rattle.weslc_bundle.specs.declared.request.Command.{Command}
use Rattle.weslc_bundle.specs.declared.request.Module.{Module}
use Rattle.weslc_bundle.specs.declared.request.Request.{Request}
use Rattle.weslc_bundle.specs.declared.bundle.Bundle.{Bundle}
use Rattle.weslc_bundle.specs.declared.error.ServeError.{ServeError}
use Rattle.weslc_bundle.specs.declared.error.ServeError.TheVariants as serve
use Rattle.weslc_bundle.specs.Bundles.{IsApart, IsBundle, HandsOver}
use Rattle.weslc_bundle.specs.Held.{Texts, text_in}
use Rattle.weslc_bundle.specs.Served.{AreRead, IsTextOf, IsRefusalOf, IsAnswer, IsRefused, IsTextFor, IsRefusalFor, Answered, Refused}

-- ---- what is held

-- the text of the last module at a printed path
abbrev pub last_in : List Module → List ℕ → Option (List ℕ)
last_in [] p = None
last_in (m ∷ ms) p = option_or (last_in ms p) (if bytes_eq (path_text m.path) p then Some m.text else None)

or_none : {A : Type 0} → (o : Option A) → option_or o None ≡ o
or_none None = refl
or_none (Some x) = refl

or_more : {A : Type 0} → (o : Option A) (b : Bool) (x : A) (old : Option A) → option_or o (if b then Some x else old) ≡ option_or (option_or o (if b then Some x else None)) old
or_more (Some y) b x old = refl
or_more None true x old = refl
or_more None false x old = refl

-- One more is added.
pub held_more : (old new : VirtualResolver) (m : Module) (ms : List Module) → IsAdded old (path_text m.path) m.text new
    → (p : List ℕ) → option_or (last_in ms p) (text_at new p) ≡ option_or (last_in (m ∷ ms) p) (text_at old p)
held_more old new m ms added p = ap (option_or (last_in ms p)) (added p) ∙ or_more (last_in ms p) (bytes_eq (path_text m.path) p) m.text (text_at old p)

none_there : (ms : List Module) (p : List ℕ) → ((k : ℕ) (d : Module) → k < length ms → path_text (get_or ms k d).path ≡ p → ⊥) → last_in ms p ≡ None
none_there [] p none = refl
none_there (m ∷ ms) p none =
    let here : bytes_eq (path_text m.path) p ≡ false = false_from_ne_true _ (λ is. none 0 m (omega arith) ((bytes_eq-Decides _ p).0 is)) in
    ap (λ o. option_or o (if bytes_eq (path_text m.path) p then Some m.text else None)) (none_there ms p (λ k d below. none (suc k) d (omega (arith, below))))
    ∙ ap (λ b. if b then Some m.text else None) here

-- Where no two are at one path, the last is the one there.
pub only_one : (ms : List Module) → IsApart ms → (p : List ℕ) → last_in ms p ≡ text_in ms p
only_one [] apart p = refl
only_one (m ∷ ms) apart p =
    by_test (bytes_eq (path_text m.path) p) refl (only_one ms (λ i j d less within. apart (suc i) (suc j) d (omega (arith, less)) (omega (arith, within))) p)
  where
    by_test : (b : Bool) → bytes_eq (path_text m.path) p ≡ b → last_in ms p ≡ text_in ms p
        → option_or (last_in ms p) (if b then Some m.text else None) ≡ option_map (λ (n : Module). n.text) (if b then Some m else find (λ n. bytes_eq (path_text n.path) p) ms)
    by_test true is later =
        ap (λ o. option_or o (Some m.text))
        (none_there ms p (λ k d below at. apart 0 (suc k) d (omega arith) (omega (arith, below)) ((bytes_eq-Decides _ p).0 is ∙ sym at)))
    by_test false is later = or_none (last_in ms p) ∙ later

-- ---- what is answered of what a resolver holds is answered of the modules

moved : (request : Request) (bundle : Bundle) → HandsOver request bundle → (P : Command → Texts → ModulePath → Type 0)
    → P bundle.command (text_at bundle.resolver) bundle.root → P request.command (text_in request.modules) request.root
moved request bundle over P is =
    subst {A = Texts} (λ texts. P request.command texts request.root) (fun_ext over.2)
    (subst {A = Command} (λ command. P command (text_at bundle.resolver) request.root) over.0
    (subst {A = ModulePath} (λ root. P bundle.command (text_at bundle.resolver) root) over.1 is))

answer_moved : (request : Request) (bundle : Bundle) (text : List ℕ) → HandsOver request bundle → IsTextFor bundle.command bundle text → IsAnswer request text
answer_moved request bundle text over is =
    (bundle.options, over.3, moved request bundle over (λ command texts root. IsTextOf command texts root bundle.options text) is)

refusal_moved : (request : Request) (bundle : Bundle) (refusal : ServeError) → HandsOver request bundle → IsRefusalFor bundle.command bundle refusal → IsRefused request refusal
refusal_moved request bundle refusal over is =
    (bundle.options, over.3, moved request bundle over (λ command texts root. IsRefusalOf command texts root bundle.options refusal) is)

-- ---- the program's answer

module _ (left : Option (List ℕ)) (bytes : List ℕ) (read : AreRead left bytes) (bundle : Bundle) where
  pub text_answered : (text : List ℕ) → (request : Request) × IsBundle bytes request × HandsOver request bundle → IsTextFor bundle.command bundle text → Answered left text
  text_answered text (request, whole, over) is = (bytes, request, read, whole, answer_moved request bundle text over is)

  pub call_refused : (refusal : ServeError) → (request : Request) × IsBundle bytes request × HandsOver request bundle → IsRefusalFor bundle.command bundle refusal → Refused left refusal
  call_refused (serve.Compile e) (request, whole, over) is = (bytes, request, read, whole, refusal_moved request bundle (serve.Compile e) over is)
  call_refused (serve.Eval c fault) (request, whole, over) is = (bytes, request, read, whole, refusal_moved request bundle (serve.Eval c fault) over is)
  call_refused serve.NoRoot (request, whole, over) is = (bytes, request, read, whole, refusal_moved request bundle serve.NoRoot over is)
  call_refused (serve.Precompile e) (request, whole, over) is = (bytes, request, read, whole, refusal_moved request bundle (serve.Precompile e) over is)
  call_refused (serve.Run e) (request, whole, over) is = (bytes, request, read, whole, refusal_moved request bundle (serve.Run e) over is)
  call_refused serve.OutOfMemory handed is = tt
  call_refused serve.Read handed is = absurd is
  call_refused serve.TooLong handed is = absurd is
  call_refused (serve.Bundle fault) handed is = absurd is

  pub texts_answered : (r : Result (String Global) ServeError) → (request : Request) × IsBundle bytes request × HandsOver request bundle
      → IfOk r (λ text. IsTextFor bundle.command bundle (string_bytes text)) → IfOk r (λ text. Answered left (string_bytes text))
  texts_answered (Ok text) handed is = text_answered (string_bytes text) handed is
  texts_answered (Err refusal) handed is = tt

  pub calls_refused : (r : Result (String Global) ServeError) → (request : Request) × IsBundle bytes request × HandsOver request bundle
      → IfErr r (λ refusal. IsRefusalFor bundle.command bundle refusal) → IfErr r (λ refusal. Refused left refusal)
  calls_refused (Ok text) handed is = tt
  calls_refused (Err refusal) handed is = call_refused refusal handed is
