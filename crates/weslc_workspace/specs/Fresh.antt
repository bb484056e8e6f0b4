-- What is answered of the modules that are set: what the contracts of the calls say of them.
use Rattle.std.specs.Prelude.{◌≡◌, ◌⊎◌, ℕ, List, Option, Some, None, Result, String, IfOk, IfErr, string_bytes}
use Rattle.std.specs.declared.alloc.Global.{Global}
use Rattle.wgsl_path.specs.declared.path.ModulePath.{ModulePath}
use Rattle.wgsl_path.specs.Paths.{path_text}
use Rattle.wesl_resolve.specs.declared.source_map.BasicSourceMap.{BasicSourceMap}
use Rattle.core_resolver.specs.Found.{at_text, part_names}
use Rattle.weslc_errors.specs.Mapped.{HasNames}
use Rattle.weslc_calls.specs.Options.{Options}
use Rattle.weslc_calls.specs.CompileError.{CompileError}
use Rattle.weslc_calls.specs.OfCore.{Finding, sources, IsBeyondLink}
use Rattle.weslc_calls.specs.Answers.{IsMapped, IsLinkedText, IsCompiledText, RefusesToLink}
use Rattle.weslc_calls.specs.Plain as linked
use Rattle.weslc_compile.specs.Plain as compiled
use Rattle.weslc_compile.specs.Whole.{IsBeyond, RefusesCore}
use Rattle.weslc_compile.specs.declared.refusal.CompileRefusal.{CompileRefusal}
use Rattle.weslc_workspace.specs.Held.{text_at}
use Rattle.weslc_workspace.specs.Found.{found_in}
use Rattle.weslc_workspace.specs.declared.modules.Modules.{Modules}

-- what is found at each path
abbrev pub finds : Modules → Finding
finds m p a = found_in (text_at m (path_text p)) a

-- the texts there
abbrev pub texts_of : Modules → ModulePath → List ℕ → Type 0
texts_of m p text = text_at m (path_text p) ≡ Some text

-- no module has another name in messages
abbrev pub no_names : ModulePath → Option (List ℕ)
no_names p = None

-- It is an answer of `compile` for these modules, this root and these options: a text, which is plain; and, unless the call is beyond the
-- part, the compiled text and its map, or the first fault.
pub record IsCompiledOf (modules : Modules) (root : ModulePath) (options : Options) (answer : Result (String Global × BasicSourceMap) CompileRefusal) : Type 0 where
  pub plain : IfOk answer (λ a. compiled.IsPlain (string_bytes a.0))
  pub text : IsBeyond (finds modules) root options
      ⊎ IfOk answer (λ a. IsCompiledText (sources options.features (finds modules)) (path_text root) options.keep options.max_modules options.max_steps (string_bytes a.0))
  pub map : IsBeyond (finds modules) root options
      ⊎ IfOk answer (λ a. IsMapped (sources options.features (finds modules)) (path_text root) options.keep options.max_modules (at_text (texts_of modules)) a.1)
  pub names : IsBeyond (finds modules) root options ⊎ IfOk answer (λ a. HasNames (part_names no_names) a.1)
  pub refusal : IsBeyond (finds modules) root options ⊎ IfErr answer (RefusesCore (finds modules) root options)

-- likewise of `link`
pub record IsLinkedOf (modules : Modules) (root : ModulePath) (options : Options) (answer : Result (String Global × BasicSourceMap) CompileError) : Type 0 where
  pub plain : IfOk answer (λ a. linked.IsPlain (string_bytes a.0))
  pub text : IsBeyondLink (finds modules) root options
      ⊎ IfOk answer (λ a. IsLinkedText (sources options.features (finds modules)) (path_text root) options.keep options.max_modules (string_bytes a.0))
  pub map : IsBeyondLink (finds modules) root options
      ⊎ IfOk answer (λ a. IsMapped (sources options.features (finds modules)) (path_text root) options.keep options.max_modules (at_text (texts_of modules)) a.1)
  pub names : IsBeyondLink (finds modules) root options ⊎ IfOk answer (λ a. HasNames (part_names no_names) a.1)
  pub refusal : IsBeyondLink (finds modules) root options
      ⊎ IfErr answer (RefusesToLink (sources options.features (finds modules)) (path_text root) options.keep options.max_modules)
