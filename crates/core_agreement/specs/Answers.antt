-- Answers of two runs that are the same.
use Rattle.std.specs.Prelude.{◌≡◌, ◌⊎◌, ⊤, ℕ, List, Option, Some, None, Result, Ok, Err}
use Rattle.wgsl_path.specs.declared.path.ModulePath.{ModulePath}
use Rattle.wgsl_path.specs.Paths.{path_text}
use Rattle.core_link_spec.specs.Occurrences.{Name}
use Rattle.core_link_spec.specs.Modules.{Path}
use Rattle.core_link_spec.specs.Rounds.{Sources}
use Rattle.core_link_spec.specs.Named.{ImportsAreApart}
use Rattle.weslc_errors.specs.Answers.{IsLinkedText, IsCompiledText, RefusesLinking, IsUnprintable, IsRefusedUnit}
use Rattle.weslc_errors.specs.declared.error.ErrorContext.{ErrorContext}
use Rattle.weslc_errors.specs.declared.error.CompileError.{CompileError}
use Rattle.weslc_errors.specs.declared.error.CompileError.TheVariants.{TooManyModules, Resolve, Syntax, Unsupported, Import, Condition, ConditionLeft, NameClash, Validate, UnclearName, Eval, Unprintable, GaveUp, OutOfMemory}
use Rattle.core_agreement.specs.Asked.{AgreesOnAsked}

-- ---- errors

-- no module, or one at one printed path
abbrev pub SameModule : Option ModulePath → Option ModulePath → Type 0
SameModule None None = ⊤
SameModule (Some a) (Some b) = path_text a ≡ path_text b
SameModule None (Some b) = ⊥
SameModule (Some a) None = ⊥

-- about the same module, declaration and name
pub record SameContext (c d : ErrorContext) : Type 0 where
  pub same_module : SameModule c.«module» d.«module»
  pub same_declaration : c.decl ≡ d.decl
  pub same_name : c.name ≡ d.name

-- Two errors tell the same. Want of memory tells nothing of the modules, nor does that the parser gave up.
abbrev pub TellTheSame : CompileError → CompileError → Type 0
TellTheSame OutOfMemory e = ⊤
TellTheSame (GaveUp c r) e = ⊤
TellTheSame e OutOfMemory = ⊤
TellTheSame e (GaveUp d q) = ⊤
TellTheSame (TooManyModules c) (TooManyModules d) = SameContext c d
TellTheSame (Resolve c k) (Resolve d l) = SameContext c d × (k ≡ l)
TellTheSame (Syntax c f) (Syntax d g) = SameContext c d × (f ≡ g)
TellTheSame (Unsupported c) (Unsupported d) = SameContext c d
TellTheSame (Import c k) (Import d l) = SameContext c d × (k ≡ l)
TellTheSame (NameClash c) (NameClash d) = SameContext c d
TellTheSame (Validate c k) (Validate d l) = SameContext c d × (k ≡ l)
TellTheSame (Condition c k) (Condition d l) = SameContext c d × (k ≡ l)
TellTheSame (ConditionLeft c) (ConditionLeft d) = SameContext c d
TellTheSame (UnclearName c) (UnclearName d) = SameContext c d
TellTheSame (Eval c f) (Eval d g) = SameContext c d × (f ≡ g)
TellTheSame (Unprintable c) (Unprintable d) = SameContext c d
TellTheSame e f = ⊥

-- ---- answers

-- memory was refused, or the parser gave up on a text that is nested too deep
abbrev pub TellsNothing : CompileError → Type 0
TellsNothing OutOfMemory = ⊤
TellsNothing (GaveUp c r) = ⊤
TellsNothing (TooManyModules c) = ⊥
TellsNothing (Resolve c k) = ⊥
TellsNothing (Syntax c f) = ⊥
TellsNothing (Unsupported c) = ⊥
TellsNothing (Import c k) = ⊥
TellsNothing (NameClash c) = ⊥
TellsNothing (Validate c k) = ⊥
TellsNothing (Condition c k) = ⊥
TellsNothing (ConditionLeft c) = ⊥
TellsNothing (UnclearName c) = ⊥
TellsNothing (Eval c f) = ⊥
TellsNothing (Unprintable c) = ⊥

-- Two answers are the same: one text, or errors that tell the same; where one is a text, the other tells nothing at most.
abbrev pub SameAnswer : Result (List ℕ) CompileError → Result (List ℕ) CompileError → Type 0
SameAnswer (Ok one) (Ok other) = one ≡ other
SameAnswer (Ok one) (Err e) = TellsNothing e
SameAnswer (Err e) (Ok other) = TellsNothing e
SameAnswer (Err e) (Err f) = TellTheSame e f

module _ (found : Sources) (root : Path) (asked : List Name) (max : ℕ) where
  -- what `compile` answers, by its contract, where each evaluation may take so many steps
  abbrev pub IsCompiledAnswer : ℕ → Result (List ℕ) CompileError → Type 0
  IsCompiledAnswer steps (Ok text) = IsCompiledText found root asked max steps text
  IsCompiledAnswer steps (Err e) = RefusesLinking found root asked max e ⊎ IsRefusedUnit found root asked max steps e

  -- and what `link` answers
  abbrev pub IsLinkedAnswer : Result (List ℕ) CompileError → Type 0
  IsLinkedAnswer (Ok text) = IsLinkedText found root asked max text
  IsLinkedAnswer (Err e) = RefusesLinking found root asked max e ⊎ IsUnprintable found root asked max e

-- ---- the law

-- Sources that agree on what is asked of one of them get the same answer, where imports name modules by paths that are told apart as
-- they are printed.
abbrev pub CompiledAlike : Sources → Sources → Type 0
CompiledAlike found other = ImportsAreApart found → (root : Path) (asked : List Name) (max steps : ℕ)
    → AgreesOnAsked found root asked max other → (one two : Result (List ℕ) CompileError) → IsCompiledAnswer found root asked max steps one
    → IsCompiledAnswer other root asked max steps two → SameAnswer one two

abbrev pub LinkedAlike : Sources → Sources → Type 0
LinkedAlike found other = ImportsAreApart found → (root : Path) (asked : List Name) (max : ℕ)
    → AgreesOnAsked found root asked max other → (one two : Result (List ℕ) CompileError) → IsLinkedAnswer found root asked max one
    → IsLinkedAnswer other root asked max two → SameAnswer one two
