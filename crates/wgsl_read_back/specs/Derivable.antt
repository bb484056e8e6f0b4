-- Modules that some text derives.
use Rattle.std.specs.Prelude.{◌≡◌, ℕ, List, Option, Some, None, Result, Ok, String, string_bytes}
use Rattle.std.specs.declared.alloc.Global.{Global}
use Rattle.wgsl_declarations.specs.declared.unit.TranslationUnit.{TranslationUnit}
use Rattle.wgsl_declarations.specs.Tree.{UnitTree}
use Rattle.wgsl_declarations.specs.View.{unit_tree}
use Rattle.wgsl_declarations.specs.Print.{unit_text}
use Rattle.wgsl_read_back.specs.Texts.{ParsesModule}

-- The text is that of this module.
abbrev pub Says : List ℕ → TranslationUnit → Type 0
Says text unit = ParsesModule text (Ok unit)

-- A text says a module that stands for this tree.
pub record SaysTree (text : List ℕ) (u : UnitTree) : Type 0 where
  pub unit : TranslationUnit
  pub says : Says text unit
  pub tree : unit_tree unit ≡ u

-- Some text derives this.
abbrev pub IsDerivable : UnitTree → Type 0
IsDerivable u = (text : List ℕ) × SaysTree text u

-- This is the printed text of the module, and its tree is that of the module; or there is none, since no text derives the module.
abbrev pub IsPrinted : UnitTree → Option (String Global) → Type 0
IsPrinted u (Some printed) = (string_bytes printed ≡ unit_text u) × SaysTree (string_bytes printed) u
IsPrinted u None = IsDerivable u → ⊥
