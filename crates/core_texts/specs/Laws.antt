-- Laws of texts of the part.
use Rattle.std.specs.Prelude.{◌≡◌, ℕ, List, Option, Some}
use Rattle.std.specs.List.{Contains}
use Rattle.wgsl_path.specs.declared.path.ModulePath.{ModulePath}
use Rattle.wgsl_path.specs.Paths.{path_text}
use Rattle.wgsl_token.specs.declared.fault.error.Error.{Error}
use Rattle.wgsl_templates.specs.declared.meaning.token.SpannedTemplateToken.{SpannedTemplateToken}
use Rattle.wgsl_templates.specs.Tokens.{IsLexed}
use Rattle.wgsl_check_unit.specs.TokenLayoutLaws.{without_places}
use Rattle.wgsl_check_unit.specs.Texts.{IsModuleFault}
use Rattle.core_syntax.specs.Tree.{UnitTree, Imp}
use Rattle.core_syntax.specs.Print.{unit_text}
use Rattle.core_texts.specs.Texts.{IsTextOf, HasText, IsUnitOfCore, IsBeyondCore, IsUnprintable}

-- A text is read as one unit at most.
abbrev pub TextsHaveOneUnit : Type 0
TextsHaveOneUnit = (text : List ℕ) (u v : UnitTree) → IsTextOf u text → IsTextOf v text → u ≡ v

-- A text is a unit of the part, or beyond it, or at fault: no two of these.
abbrev pub TextsAreOneThing : Type 0
TextsAreOneThing =
    ((text : List ℕ) (u : UnitTree) → IsUnitOfCore text u → IsBeyondCore text → ⊥)
    × ((text : List ℕ) (u : UnitTree) (e : Error) → IsUnitOfCore text u → IsModuleFault text e → ⊥)
    × ((text : List ℕ) (e : Error) → IsBeyondCore text → IsModuleFault text e → ⊥)

-- Where some text is read as the unit, its printed text is.
abbrev pub UnitsAreReadBack : Type 0
UnitsAreReadBack = (u : UnitTree) → HasText u → IsTextOf u (unit_text u)

-- A unit is told by one name where no text is read as it.
abbrev pub UnitsAreToldOnce : Type 0
UnitsAreToldOnce = (u : UnitTree) (one other : Option (List ℕ)) → IsUnprintable u one → IsUnprintable u other → one ≡ other

-- These texts have the same tokens, template lists included, at places of their own.
pub record HaveSameTokens (one other : List ℕ) : Type 0 where
  pub ones : List SpannedTemplateToken
  pub others : List SpannedTemplateToken
  pub one_lexed : IsLexed one ones
  pub other_lexed : IsLexed other others
  pub same : without_places others ≡ without_places ones

-- Texts with the same tokens are read as the same units.
abbrev pub SameTokensAreTheSameUnit : Type 0
SameTokensAreTheSameUnit = (one other : List ℕ) → HaveSameTokens one other → (u : UnitTree) → IsTextOf u one → IsTextOf u other

-- Imports of units that print the paths of their modules alike name one module.
abbrev pub ImportsOfTextsAreApart : Type 0
ImportsOfTextsAreApart = (one other : List ℕ) (u v : UnitTree) → IsTextOf u one → IsTextOf v other → (i j : Imp) (a b : ModulePath)
    → Contains u.imports i → Contains v.imports j → i.path ≡ Some a → j.path ≡ Some b → path_text a ≡ path_text b → a ≡ b
