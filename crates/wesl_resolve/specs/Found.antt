-- What is found at the paths of modules.
use Rattle.std.specs.Prelude.{◌≡◌, ⊤, ◌↔◌, ◌⊎◌, List, [], ◌∷◌, ◌++◌, ℕ, Option, Result, Ok, Err}
use Rattle.std.specs.Option.{option_map}
use Rattle.wgsl_path.specs.declared.path.ModulePath.{ModulePath}
use Rattle.wgsl_token.specs.declared.fault.error.Error.{Error}
use Rattle.core_syntax.specs.Tree.{UnitTree}
use Rattle.core_syntax.specs.declared.unit.TranslationUnit.{TranslationUnit}
use Rattle.core_syntax.specs.View.{unit_tree}
use Rattle.wesl_resolve.specs.declared.error.ResolveError.{ResolveError}
use Rattle.wesl_resolve.specs.declared.error.ResolveError.TheVariants.{ModuleNotFound, Syntax, Unsupported, GaveUp, OutOfMemory}

-- a module's unit, that there is none, what is wrong with its text, or that it uses what is not supported yet
pub data Answer : Type 0 where
  unit_of : UnitTree → Answer
  not_found : Answer
  faulty : Error → Answer
  unsupported : Answer

-- memory aside, and texts that the parser gives up on, a call that asks for the module at a path tells what is found there
abbrev pub TellsUnit : (Answer → Type 0) → ModulePath → Result TranslationUnit ResolveError → Type 0
TellsUnit found path (Ok unit) = found (unit_of (unit_tree unit))
TellsUnit found path (Err (ModuleNotFound p)) = (p ≡ path) × found not_found
TellsUnit found path (Err (Syntax p e)) = (p ≡ path) × found (faulty e)
TellsUnit found path (Err (Unsupported p)) = (p ≡ path) × found unsupported
TellsUnit found path (Err (GaveUp p r)) = p ≡ path
TellsUnit found path (Err OutOfMemory) = ⊤

-- likewise for its text
abbrev pub TellsText : (Answer → Type 0) → (List ℕ → Type 0) → ModulePath → Result (List ℕ) ResolveError → Type 0
TellsText found texts path (Ok text) = texts text
TellsText found texts path (Err (ModuleNotFound p)) = (p ≡ path) × found not_found
TellsText found texts path (Err (Syntax p e)) = ⊥
TellsText found texts path (Err (Unsupported p)) = ⊥
TellsText found texts path (Err (GaveUp p r)) = ⊥
TellsText found texts path (Err OutOfMemory) = ⊤

-- nothing is found otherwise
abbrev pub SameAnswers : (List ℕ → Answer → Type 0) → (List ℕ → Answer → Type 0) → Type 0
SameAnswers old new = (p : List ℕ) (a : Answer) → old p a ↔ new p a

abbrev pub SameTexts : (List ℕ → List ℕ → Type 0) → (List ℕ → List ℕ → Type 0) → Type 0
SameTexts old new = (p text : List ℕ) → old p text ↔ new p text

-- there is a text
abbrev pub IsSomeText : (List ℕ → Type 0) → Type 0
IsSomeText texts = (text : List ℕ) × texts text

-- ---- what was asked for

-- the printed paths that were asked for so far, in order; `None` claims nothing
abbrev pub Asked : Type 0
Asked = Option (List (List ℕ))

-- these were asked for, after those before
abbrev pub HasAsked : Asked → List (List ℕ) → Asked → Type 0
HasAsked before ps after = after ≡ option_map (λ qs. qs ++ ps) before

-- the module at a printed path was asked for; or memory was refused before that, and nothing was
abbrev pub AsksFor : Asked → List ℕ → Result TranslationUnit ResolveError → Asked → Type 0
AsksFor before p result after = HasAsked before (p ∷ []) after ⊎ ((result ≡ Err OutOfMemory) × (after ≡ before))
