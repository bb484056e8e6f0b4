-- What the parser tells of a text that is there.
use Rattle.std.specs.Prelude.{◌≡◌, ℕ, List, Option, Some, Result, true}
use Rattle.std.specs.Option.{is_some}
use Rattle.wgsl_declarations.specs.declared.unit.TranslationUnit.{TranslationUnit}
use Rattle.wgsl_token.specs.declared.fault.error.Error.{Error}
use Rattle.wgsl_parser.specs.Texts.{ParsesModule}

-- there is a text, and this is what the parser tells of it
abbrev pub IsToldOf : Option (List ℕ) → Result TranslationUnit Error → Type 0
IsToldOf there outcome = (is_some there ≡ true) × ((text : List ℕ) → there ≡ Some text → ∥ ParsesModule text outcome ∥₁)
