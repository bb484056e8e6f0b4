-- Texts of units of the part of the language that `link` and `compile` read.
use Rattle.std.specs.Prelude.{◌≡◌, ⊤, ℕ, List, map, Option, Result, Ok, Err, String, string_bytes}
use Rattle.std.specs.Option.{option_map}
use Rattle.std.specs.declared.alloc.Global.{Global}
use Rattle.wgsl_token.specs.declared.fault.error.Error.{Error}
use Rattle.wgsl_declarations.specs.declared.unit.TranslationUnit.{TranslationUnit as Module}
use Rattle.wgsl_declarations.specs.View as whole
use Rattle.wgsl_check_unit.specs.Texts.{IsModuleFault}
use Rattle.core_syntax.specs.declared.unit.TranslationUnit.{TranslationUnit}
use Rattle.core_syntax.specs.Tree.{UnitTree}
use Rattle.core_syntax.specs.View.{unit_tree}
use Rattle.core_syntax.specs.Print.{unit_text}
use Rattle.core_widening.specs.NarrowError.{NarrowError}
use Rattle.core_widening.specs.NarrowError.TheVariants as narrowing
use Rattle.core_widening.specs.Widening.{widen_decl, widen_unit}
use Rattle.core_widening.specs.InCore.{IsInCore}
use Rattle.core_widening.specs.Places.{places}
use Rattle.core_widening.specs.ModulePlaces as whole_places
use Rattle.wgsl_check_unit.specs.Derivable.{Says, SaysTree, IsDerivable}
use Rattle.wgsl_check_unit.specs.Telling.{IsTold}
use Rattle.core_texts.specs.declared.error.PartError.{PartError}
use Rattle.core_texts.specs.declared.error.PartError.TheVariants as refusal
use Rattle.core_texts.specs.declared.error.PrintError.{PrintError}
use Rattle.core_texts.specs.declared.error.PrintError.TheVariants as unprinted

-- The text is read as this unit: it is a module of the whole language, which the unit is.
abbrev pub IsTextOf : UnitTree → List ℕ → Type 0
IsTextOf u text = SaysTree text (widen_unit u)

-- Some text is read as the unit.
abbrev pub HasText : UnitTree → Type 0
HasText u = IsDerivable (widen_unit u)

-- The text is read as this unit, which has nothing but the part.
pub record IsUnitOfCore (text : List ℕ) (u : UnitTree) : Type 0 where
  pub is_text : IsTextOf u text
  pub in_core : IsInCore u

-- The text is a module of the whole language, and uses what is beyond the part: no unit that has nothing else is that module.
pub record IsBeyondCore (text : List ℕ) : Type 0 where
  pub unit : Module
  pub says : Says text unit
  pub beyond : (u : UnitTree) → widen_unit u ≡ whole.unit_tree unit → IsInCore u → ⊥

-- The nodes of the unit stand in the text where those of the module do that the text says.
pub record StandsIn (text : List ℕ) (u : TranslationUnit) : Type 0 where
  pub unit : Module
  pub says : Says text unit
  pub same_places : places u ≡ whole_places.places unit

-- ---- what calls say

-- memory aside, and texts that the parser gives up on since they are nested too deep, what an answer says of a text
abbrev pub Parses : List ℕ → Result TranslationUnit PartError → Type 0
Parses text (Ok unit) = IsUnitOfCore text (unit_tree unit)
Parses text (Err (refusal.Syntax e)) = IsModuleFault text e
Parses text (Err refusal.Unsupported) = IsBeyondCore text
Parses text (Err refusal.OutOfMemory) = ⊤
Parses text (Err (refusal.GaveUp r)) = ⊤

-- No text is read as the unit. Of the first declaration that no text derives, the first node that no text derives is told by its name, else by
-- the declaration's.
pub record IsUnprintable (u : UnitTree) (name : Option (List ℕ)) : Type 0 where
  pub no_text : HasText u → ⊥
  pub told : IsTold (map widen_decl u.declarations) name

-- memory aside, and units that are nested too deep to be parsed, the printed text of the unit, which is read as the unit; or that there is none
abbrev pub Prints : UnitTree → Result (String Global) PrintError → Type 0
Prints u (Ok text) = (string_bytes text ≡ unit_text u) × IsTextOf u (string_bytes text)
Prints u (Err (unprinted.Unprintable name)) = IsUnprintable u name
Prints u (Err unprinted.OutOfMemory) = ⊤
Prints u (Err (unprinted.GaveUp r)) = ⊤

-- ---- steps

abbrev pub of_narrowing : NarrowError → PartError
of_narrowing narrowing.Unsupported = refusal.Unsupported
of_narrowing narrowing.OutOfMemory = refusal.OutOfMemory

-- of a module that the text says, the unit of the part that it is
abbrev pub Finds : Module → Result TranslationUnit PartError → Type 0
Finds unit (Ok u) = (widen_unit (unit_tree u) ≡ whole.unit_tree unit) × IsInCore (unit_tree u)
Finds unit (Err (refusal.Syntax e)) = ⊥
Finds unit (Err refusal.Unsupported) = (u : UnitTree) → widen_unit u ≡ whole.unit_tree unit → IsInCore u → ⊥
Finds unit (Err refusal.OutOfMemory) = ⊤
Finds unit (Err (refusal.GaveUp r)) = ⊥
