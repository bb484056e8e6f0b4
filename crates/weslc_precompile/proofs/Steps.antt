-- What the steps say of the whole.
use Rattle.std.proofs.Common.{◌≡◌, refl, sym, ◌∙◌, subst, ℕ, List, ◌⊎◌, inl, inr, Option, Some, None, Result, Ok, Err, String}
use Rattle.std.specs.declared.alloc.Global.{Global}
use Rattle.wgsl_declarations.specs.declared.unit.TranslationUnit.{TranslationUnit}
use Rattle.wgsl_declarations.specs.Tree.{UnitTree}
use Rattle.wgsl_declarations.specs.View.{unit_tree}
use Rattle.wgsl_token.specs.declared.fault.error.Error.{Error}
use Rattle.wgsl_token.specs.Errors.{refusal_of, IsRefusal}
use Rattle.wgsl_check_unit.specs.Texts.{IsModuleFault}
use Rattle.wesl_conditions.specs.declared.features.feature.Features.{Features}
use Rattle.wesl_conditions.specs.declared.features.error.CondCompError.{CondCompError}
use Rattle.wesl_conditions.specs.declared.features.error.CondCompError.TheVariants as cond_error
use Rattle.wesl_conditions.specs.Trees.{unit_left}
use Rattle.wesl_conditions.specs.Faults.{unit_fault}
use Rattle.weslc_precompile.specs.declared.error.PrecompileError.{PrecompileError}
use Rattle.weslc_precompile.specs.declared.error.PrecompileError.TheVariants as refusal
use Rattle.weslc_precompile.specs.Precompiling.{Precompiles, PrintsBack, Fixes, RefusesSo}
use Rattle.wgsl_check_unit.specs.Derivable.{Says}

-- the first error of a module's conditions
pub condition_told : (fault : Option CondCompError) (e : CondCompError) → (fault ≡ Some e) ⊎ (e ≡ cond_error.OutOfMemory) → (e ≡ cond_error.OutOfMemory → ⊥) → fault ≡ Some e
condition_told fault e (inl same) other = same
condition_told fault e (inr memory) other = absurd (other memory)

-- a module whose conditions have an error
pub fix_refused : (features : Features) (text : List ℕ) (unit : TranslationUnit) (e : PrecompileError) (new : UnitTree) → Says text unit → Fixes features (unit_tree unit) (Err e) new
    → Precompiles features text (Err e)
fix_refused features text unit (refusal.Condition e) new says h = (unit, says, h)
fix_refused features text unit refusal.OutOfMemory new says h = tt
fix_refused features text unit (refusal.GaveUp r) new says h = absurd h
fix_refused features text unit (refusal.Syntax e) new says h = absurd h
fix_refused features text unit (refusal.Unprintable name) new says h = absurd h

-- a module whose flags are fixed, printed
pub fixed_printed : (features : Features) (text : List ℕ) (unit : TranslationUnit) (new : UnitTree) (r : Result (String Global) PrecompileError) → Says text unit
    → (unit_fault features (unit_tree unit) ≡ None) × (new ≡ unit_left features (unit_tree unit)) → PrintsBack new r → Precompiles features text r
fixed_printed features text unit new (Ok printed) says fixed h = (new, record { unit = unit; says = says; faultless = fixed.0; is_left = fixed.1 }, h.0, h.1)
fixed_printed features text unit new (Err (refusal.Unprintable name)) says fixed h = (new, record { unit = unit; says = says; faultless = fixed.0; is_left = fixed.1 }, h.0, h.1)
fixed_printed features text unit new (Err refusal.OutOfMemory) says fixed h = tt
fixed_printed features text unit new (Err (refusal.GaveUp r)) says fixed h = tt
fixed_printed features text unit new (Err (refusal.Syntax e)) says fixed h = absurd h
fixed_printed features text unit new (Err (refusal.Condition e)) says fixed h = absurd h

-- the fault of a text
pub fault_told : (features : Features) (text : List ℕ) (e : Error) (told : PrecompileError) → IsModuleFault text e ⊎ IsRefusal e → RefusesSo e told → Precompiles features text (Err told)
fault_told features text e (refusal.Syntax f) (inl fault) (same, other) = subst (IsModuleFault text) (sym same) fault
fault_told features text e (refusal.Syntax f) (inr (r, gave_up)) (same, other) = let wrong : Some r ≡ None = sym gave_up ∙ other in absurd (cc)
fault_told features text e (refusal.GaveUp r) h so = tt
fault_told features text e refusal.OutOfMemory h so = tt
fault_told features text e (refusal.Condition f) h so = absurd so
fault_told features text e (refusal.Unprintable name) h so = absurd so
