-- Which calls the part of the language answers whose linking and compiling is proved.
use Rattle.std.specs.Prelude.{◌≡◌, ◌⊎◌, ⊤, ℕ, List, map, Option, Bool, true, false, Result, String}
use Rattle.std.specs.Option.{option_map}
use Rattle.std.specs.declared.alloc.Global.{Global}
use Rattle.wgsl_path.specs.declared.path.ModulePath.{ModulePath}
use Rattle.wgsl_path.specs.declared.path.PathOrigin.{PathOrigin}
use Rattle.wgsl_path.specs.declared.path.PathOrigin.TheVariants.{Absolute, Relative, Package}
use Rattle.wgsl_path.specs.Paths.{path_text}
use Rattle.wesl_conditions.specs.declared.features.feature.Features.{Features}
use Rattle.wesl_resolvers.specs.Found as whole
use Rattle.wesl_resolve_fn.specs.Applying.{IsMadeOf}
use Rattle.wesl_preprocess.specs.Conditions.{decided}
use Rattle.core_link_spec.specs.Rounds.{Sources}
use Rattle.weslc_link.specs.Found.{part_found}
use Rattle.core_calls.specs.Options.{Options}
use Rattle.core_calls.specs.Mode.{Mode}
use Rattle.core_calls.specs.Mode.TheVariants.{Lazy, Eager, Whole}
use Rattle.wesl_resolve.specs.declared.source_map.BasicSourceMap.{BasicSourceMap}
use Rattle.weslc_calls.specs.declared.part.CoreAnswer.{CoreAnswer}
use Rattle.weslc_calls.specs.declared.part.CoreAnswer.TheVariants.{Answered, BeyondCore}
use Rattle.core_calls.specs.ErrorContext.{ErrorContext}
use Rattle.core_calls.specs.CompileError.{CompileError}
use Rattle.core_calls.specs.CompileError.TheVariants.{Unsupported}
use Rattle.core_calls.specs.Answers.{RefusesToLink, RefusesToCompile}

-- what a resolver finds at each path
abbrev pub Finding : Type 1
Finding = ModulePath → whole.Answer → Type 0

-- what is found once conditions are decided by these features
abbrev pub decided_by : Features → Finding → Finding
decided_by features found p a = IsMadeOf (decided features) (found p) a

-- what the part finds at each printed path, conditions decided
abbrev pub sources : Features → Finding → Sources
sources features found = part_found (decided_by features found)

abbrev pub is_lazy : Mode → Bool
is_lazy Lazy = true
is_lazy Eager = false
is_lazy Whole = false

-- a path of the own package
abbrev pub is_own : PathOrigin → Bool
is_own Absolute = true
is_own (Relative levels) = false
is_own (Package name) = false

-- The call is none of the part's: it is not lazy, or its root is in another package.
abbrev pub IsOther : ModulePath → Options → Type 0
IsOther root options = (is_lazy options.mode ≡ false) ⊎ (is_own root.origin ≡ false)

-- Or linking meets a module beyond the part before any other fault.
abbrev pub IsBeyondLink : Finding → ModulePath → Options → Type 0
IsBeyondLink found root options =
    IsOther root options
    ⊎ ((c : ErrorContext) × RefusesToLink (sources options.features found) (path_text root) options.keep options.max_modules (Unsupported c))

-- likewise of compiling, for what the part finds so
abbrev pub IsBeyondOf : Sources → ModulePath → Options → Type 0
IsBeyondOf found root options =
    IsOther root options
    ⊎ ((c : ErrorContext) × RefusesToCompile found (path_text root) options.keep options.max_modules options.max_steps (Unsupported c))

abbrev pub IsBeyondCompile : Finding → ModulePath → Options → Type 0
IsBeyondCompile found root options = IsBeyondOf (sources options.features found) root options

-- the printed paths of what was asked for
abbrev pub texts_asked : Option (List ModulePath) → Option (List (List ℕ))
texts_asked = option_map (map path_text)

-- ---- calls that the part is tried on

abbrev pub IfAnswered : CoreAnswer → (Result (String Global × BasicSourceMap) CompileError → Type 0) → Type 0
IfAnswered (Answered answer) P = P answer
IfAnswered (BeyondCore m) P = ⊤

abbrev pub IfBeyond : CoreAnswer → Type 0 → Type 0
IfBeyond (Answered answer) P = ⊤
IfBeyond (BeyondCore m) P = P
