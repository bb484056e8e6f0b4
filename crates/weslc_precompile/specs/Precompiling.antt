-- What comes of a text whose feature flags are fixed ahead.
use Rattle.std.specs.Prelude.{◌≡◌, ℕ, List, Some, None, Result, Ok, Err, String, string_bytes}
use Rattle.std.specs.declared.alloc.Global.{Global}
use Rattle.wgsl_declarations.specs.declared.unit.TranslationUnit.{TranslationUnit}
use Rattle.wgsl_declarations.specs.Tree.{UnitTree}
use Rattle.wgsl_declarations.specs.View.{unit_tree}
use Rattle.wgsl_declarations.specs.Print.{unit_text}
use Rattle.wgsl_token.specs.declared.fault.error.Error.{Error}
use Rattle.wgsl_token.specs.declared.fault.error.Refusal.TheVariants as why
use Rattle.wgsl_token.specs.Errors.{refusal_of}
use Rattle.wgsl_check_unit.specs.Texts.{IsModuleFault}
use Rattle.wgsl_check_unit.specs.Derivable.{Says, SaysTree, IsDerivable}
use Rattle.wgsl_check_unit.specs.Telling.{IsToldOf}
use Rattle.wesl_conditions.specs.declared.features.feature.Features.{Features}
use Rattle.wesl_conditions.specs.Trees.{unit_left}
use Rattle.wesl_conditions.specs.Faults.{unit_fault}
use Rattle.weslc_precompile.specs.declared.error.PrecompileError.{PrecompileError}
use Rattle.weslc_precompile.specs.declared.error.PrecompileError.TheVariants as refusal

-- The text says a module whose conditions have no error.
pub record IsFixed (features : Features) (text : List ℕ) (left : UnitTree) : Type 0 where
  pub unit : TranslationUnit
  pub says : Says text unit
  pub faultless : unit_fault features (unit_tree unit) ≡ None
  pub is_left : left ≡ unit_left features (unit_tree unit)

-- This is the text of what features leave of the text's module, and it says that.
abbrev pub IsPrecompiledText : Features → List ℕ → List ℕ → Type 0
IsPrecompiledText features text printed =
    (left : UnitTree) × IsFixed features text left × (printed ≡ unit_text left) × SaysTree printed left

-- There is none, memory aside, and texts that the parser gives up on since they are nested too deep: this is the fault of the text; the first error of its conditions; or no text derives what is left, of which the first such
-- node is told.
abbrev pub RefusesPrecompiling : Features → List ℕ → PrecompileError → Type 0
RefusesPrecompiling features text (refusal.Syntax e) = IsModuleFault text e
RefusesPrecompiling features text (refusal.Condition e) = (unit : TranslationUnit) × Says text unit × (unit_fault features (unit_tree unit) ≡ Some e)
RefusesPrecompiling features text (refusal.Unprintable name) =
    (left : UnitTree) × IsFixed features text left × (IsDerivable left → ⊥) × IsToldOf left name
RefusesPrecompiling features text refusal.OutOfMemory = Unit
RefusesPrecompiling features text (refusal.GaveUp r) = Unit

-- what an answer says of a text
abbrev pub Precompiles : Features → List ℕ → Result (String Global) PrecompileError → Type 0
Precompiles features text (Ok printed) = IsPrecompiledText features text (string_bytes printed)
Precompiles features text (Err e) = RefusesPrecompiling features text e

-- ---- steps

-- what comes of a module, printed and read back
abbrev pub PrintsBack : UnitTree → Result (String Global) PrecompileError → Type 0
PrintsBack u (Ok printed) = (string_bytes printed ≡ unit_text u) × SaysTree (string_bytes printed) u
PrintsBack u (Err (refusal.Unprintable name)) = (IsDerivable u → ⊥) × IsToldOf u name
PrintsBack u (Err refusal.OutOfMemory) = Unit
PrintsBack u (Err (refusal.GaveUp r)) = Unit
PrintsBack u (Err (refusal.Syntax e)) = ⊥
PrintsBack u (Err (refusal.Condition e)) = ⊥

-- what comes of a module whose flags are fixed
abbrev pub Fixes : Features → UnitTree → Result Unit PrecompileError → UnitTree → Type 0
Fixes features old (Ok x) new = (unit_fault features old ≡ None) × (new ≡ unit_left features old)
Fixes features old (Err (refusal.Condition e)) new = unit_fault features old ≡ Some e
Fixes features old (Err refusal.OutOfMemory) new = Unit
Fixes features old (Err (refusal.GaveUp r)) new = ⊥
Fixes features old (Err (refusal.Syntax e)) new = ⊥
Fixes features old (Err (refusal.Unprintable name)) new = ⊥

-- an error of a text is told as its fault; or the parser gave up
abbrev pub RefusesSo : Error → PrecompileError → Type 0
RefusesSo e (refusal.Syntax f) = (f ≡ e) × (refusal_of e ≡ None)
RefusesSo e (refusal.GaveUp r) = refusal_of e ≡ Some r
RefusesSo e refusal.OutOfMemory = refusal_of e ≡ Some why.OutOfMemory
RefusesSo e (refusal.Condition f) = ⊥
RefusesSo e (refusal.Unprintable name) = ⊥
