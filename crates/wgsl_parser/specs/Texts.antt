-- What the parser's answer says of a text.
use Rattle.std.specs.Prelude.{◌≡◌, ◌⊎◌, ℕ, None, List, [], length, Result, Ok, Err}
use Rattle.wgsl_templates.specs.declared.meaning.token.SpannedTemplateToken.{SpannedTemplateToken}
use Rattle.wgsl_templates.specs.Tokens.{IsLexed}
use Rattle.wgsl_lr_driver.specs.TranslationUnit.{TranslationUnit}
use Rattle.wgsl_lr_driver.specs.Part.{Part}
use Rattle.wgsl_lr_driver.specs.Part.TheVariants as part
use Rattle.wgsl_lr_driver.specs.declared.driver.Start.{Start}
use Rattle.wgsl_lr_driver.specs.declared.driver.Start.TheVariants.{Module}
use Rattle.wgsl_lr_driver.specs.declared.answer.Unread.{Unread}
use Rattle.wgsl_lr_driver.specs.Readings.{Reads, IsPart}
use Rattle.wgsl_token.specs.declared.fault.error.Error.{Error}
use Rattle.wgsl_token.specs.Errors.{refusal_of, IsRefusal}
use Rattle.wgsl_parser.specs.Errors.{error_of}

-- The tokens of the text derive this part alone, from this start, and no check fails in it.
pub record IsParsed (s : Start) (text : List ℕ) (x : Part) : Type 0 where
  pub tokens : List SpannedTemplateToken
  pub lexed : IsLexed text tokens
  pub part : IsPart s tokens x

-- The tokens of the text were not read for this reason, which is that error.
pub record IsFault (s : Start) (text : List ℕ) (e : Error) : Type 0 where
  pub tokens : List SpannedTemplateToken
  pub lexed : IsLexed text tokens
  pub reason : Unread
  pub unread : Reads s tokens (Err reason)
  pub same : e ≡ error_of (length text) reason

-- what an answer says of tokens of a text of this length
abbrev pub ParsesTokens : Start → ℕ → List SpannedTemplateToken → Result Part Error → Type 0
ParsesTokens s n tokens (Ok x) = IsPart s tokens x
ParsesTokens s n tokens (Err e) = (reason : Unread) × Reads s tokens (Err reason) × (e ≡ error_of n reason)

-- what an answer says, where a tree stands as this part; nothing, where the parser gave up
abbrev pub Parses : {A : Type 0} → Start → (A → Part) → List ℕ → Result A Error → Type 0
Parses s as_part text (Ok x) = IsParsed s text (as_part x)
Parses s as_part text (Err e) = IsFault s text e ⊎ IsRefusal e

abbrev pub empty_unit : TranslationUnit
empty_unit = record { imports = []; global_directives = []; global_declarations = [] }

-- The text has no tokens.
abbrev pub IsBlank : List ℕ → Type 0
IsBlank text = IsLexed text []

-- The text is no module, and this is its fault; a text without tokens is an empty module.
pub record IsModuleFault (text : List ℕ) (e : Error) : Type 0 where
  pub fault : IsFault Module text e
  pub some : IsBlank text → ⊥
  pub told : refusal_of e ≡ None

-- of a module, which may have no tokens
abbrev pub ParsesModule : List ℕ → Result TranslationUnit Error → Type 0
ParsesModule text (Ok unit) = IsParsed Module text (part.Module unit) ⊎ (IsBlank text × (unit ≡ empty_unit))
ParsesModule text (Err e) = IsModuleFault text e ⊎ IsRefusal e

-- some tokens of a text of this length are no module, and this is its fault
pub record IsTokensFault (n : ℕ) (tokens : List SpannedTemplateToken) (e : Error) : Type 0 where
  pub some : tokens ≡ [] → ⊥
  pub reason : Unread
  pub unread : Reads Module tokens (Err reason)
  pub same : e ≡ error_of n reason
  pub told : refusal_of e ≡ None

abbrev pub TellsModule : ℕ → List SpannedTemplateToken → Result TranslationUnit Error → Type 0
TellsModule n tokens (Ok unit) = IsPart Module tokens (part.Module unit) ⊎ ((tokens ≡ []) × (unit ≡ empty_unit))
TellsModule n tokens (Err e) = IsTokensFault n tokens e ⊎ IsRefusal e
