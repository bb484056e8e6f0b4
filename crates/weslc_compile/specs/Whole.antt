-- Which calls are left to the whole language.
use Rattle.std.specs.Prelude.{◌≡◌, ◌⊎◌, ⊤, ℕ, List, Bool, true, Result, String, IfOk, IfErr, string_bytes}
use Rattle.std.specs.declared.alloc.Global.{Global}
use Rattle.wgsl_path.specs.declared.path.ModulePath.{ModulePath}
use Rattle.wgsl_path.specs.Paths.{path_text}
use Rattle.core_meaning.specs.declared.fault.Fault.TheVariants.{Name}
use Rattle.core_meaning.specs.declared.fault.NameFault.{NameFault}
use Rattle.core_meaning.specs.declared.fault.NameFault.TheVariants.{Todo}
use Rattle.wesl_resolve.specs.declared.source_map.BasicSourceMap.{BasicSourceMap}
use Rattle.core_link_spec.specs.Modules.{Path}
use Rattle.core_link_spec.specs.Rounds.{Sources}
use Rattle.wesl_resolvers.specs.Found.{Asked}
use Rattle.wesl_load.specs.Asked.{IsAsked}
use Rattle.weslc_calls.specs.ErrorContext.{ErrorContext}
use Rattle.weslc_calls.specs.Options.{Options}
use Rattle.weslc_calls.specs.CompileError.{CompileError}
use Rattle.weslc_calls.specs.CompileError.TheVariants as calls
use Rattle.weslc_calls.specs.OfCore.{Finding, sources, IsBeyondOf}
use Rattle.weslc_calls.specs.Answers.{RefusesToCompile, IsMapped, IsCompiledText}
use Rattle.weslc_compile.specs.declared.refusal.CompileRefusal.{CompileRefusal}
use Rattle.weslc_compile.specs.declared.refusal.CompileRefusal.TheVariants as whole

-- A fault that says: this is not evaluated yet.
abbrev pub IsTodoName : NameFault → Type 0
IsTodoName Todo = ⊤
IsTodoName _ = ⊥

abbrev pub IsTodo : CompileError → Type 0
IsTodo (calls.Eval c (Name kind name)) = IsTodoName kind
IsTodo _ = ⊥

-- The call is none of the proved part's, for what the part finds so: modules, or what is linked, are beyond it, or it evaluates something
-- that the part doesn't.
abbrev pub IsBeyondFor : Sources → ModulePath → Options → Type 0
IsBeyondFor found root options =
    IsBeyondOf found root options
    ⊎ ((c : ErrorContext) × (name : List ℕ) × RefusesToCompile found (path_text root) options.keep options.max_modules options.max_steps (calls.Eval c (Name Todo name)))

-- the same, for what a resolver finds
abbrev pub IsBeyond : Finding → ModulePath → Options → Type 0
IsBeyond found root options = IsBeyondFor (sources options.features found) root options

-- A refusal of the proved part, for what it finds so. One of the whole language is none.
abbrev pub RefusesOf : Sources → ModulePath → Options → CompileRefusal → Type 0
RefusesOf found root options (whole.Compile e) = RefusesToCompile found (path_text root) options.keep options.max_modules options.max_steps e
RefusesOf found root options (whole.Eval c fault) = ⊥

-- the same, for what a resolver finds
abbrev pub RefusesCore : Finding → ModulePath → Options → CompileRefusal → Type 0
RefusesCore found root options = RefusesOf (sources options.features found) root options

-- what `compile` answers
abbrev pub Answer : Type 0
Answer = Result (String Global × BasicSourceMap) CompileRefusal

-- An answer of the proved part, for what it finds so, with these texts: the compiled text and its map, or the first fault.
pub record IsAnswerOfCore (found : Sources) (texts : Path → List ℕ → Type 0) (root : ModulePath) (options : Options) (answer : Answer) : Type 0 where
  pub text : IfOk answer (λ a. IsCompiledText found (path_text root) options.keep options.max_modules options.max_steps (string_bytes a.0))
  pub map : IfOk answer (λ a. IsMapped found (path_text root) options.keep options.max_modules texts a.1)
  pub refusal : IfErr answer (RefusesOf found root options)

-- An answer for what is found so, with these texts: the part's, unless the call is beyond it.
abbrev pub IsAnswerFor : Sources → (Path → List ℕ → Type 0) → ModulePath → Options → Answer → Type 0
IsAnswerFor found texts root options answer = IsBeyondFor found root options ⊎ IsAnswerOfCore found texts root options answer

-- ---- of what was asked for

-- all that was asked for is at these paths, as far as is known
abbrev pub AllInside : (Path → Bool) → Asked → Type 0
AllInside inside asked = (p : Path) → IsAsked asked p → inside p ≡ true

-- this is said of any paths at which all is that was asked for
abbrev pub OfAsked : Asked → ((Path → Bool) → Type 0) → Type 0
OfAsked asked Says = (inside : Path → Bool) → AllInside inside asked → Says inside
