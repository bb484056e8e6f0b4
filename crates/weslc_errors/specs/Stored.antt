-- The texts that a resolver of handed-in modules holds, and what is found by them.
use denote.Ref.{Bor}
use Rattle.std.specs.Prelude.{◌≡◌, ⊤, ℕ, List, [], ◌∷◌, map, Option, Some, None, Result, Ok, Err, if◌then◌else◌}
use Rattle.std.proofs.Common.{refl, subst}
use Rattle.std.specs.Str.{bytes_eq}
use Rattle.std.specs.HashMap.{values}
use Rattle.wgsl_path.specs.Paths.{path_text}
use Rattle.wgsl_path.specs.declared.path.ModulePath.{ModulePath}
use Rattle.core_laws.specs.ParserTexts.{IsModuleFault}
use Rattle.core_syntax.specs.Tree.{UnitTree}
use Rattle.wesl_resolve.specs.Found.{Answer, unit_of, not_found, faulty, unsupported}
use Rattle.wesl_resolve.specs.declared.error.ResolveError.{ResolveError}
use Rattle.wesl_resolve.specs.declared.error.ResolveError.TheVariants.{ModuleNotFound, Syntax, Unsupported, GaveUp, OutOfMemory}
use Rattle.core_unit.specs.Texts.{IsUnitOfCore, IsBeyondCore}
use Rattle.weslc_errors.specs.declared.resolver.VirtualModule.{VirtualModule}
use Rattle.weslc_errors.specs.declared.resolver.VirtualResolver.{VirtualResolver}

-- a module's path and text
abbrev pub path_and_text : VirtualModule → ModulePath × List ℕ
path_and_text m = (m.path, m.text)

-- texts of modules, each with its path
abbrev pub Added : Type 0
Added = List (ModulePath × List ℕ)

-- the texts that were added, each with its path, the first added first
abbrev pub texts_added : VirtualResolver → Added
texts_added r = map path_and_text (values r.modules)

-- one more: in place of the one whose path is printed alike, else behind the others
abbrev pub one_added : ModulePath → List ℕ → Added → Added
one_added path text [] = (path, text) ∷ []
one_added path text (m ∷ ms) = if bytes_eq (path_text path) (path_text m.0) then (path, text) ∷ ms else m ∷ one_added path text ms

-- the text among these of the module at a printed path
abbrev pub text_among : Added → List ℕ → Option (List ℕ)
text_among [] p = None
text_among (m ∷ ms) p = if bytes_eq (path_text m.0) p then Some m.1 else text_among ms p

-- the text that was added at a printed path
abbrev pub text_at : VirtualResolver → List ℕ → Option (List ℕ)
text_at r p = text_among (texts_added r) p

-- What a text says: a unit of the part of the language that is linked; or its first fault, where it is no module; or that it is a module, and
-- uses what is not supported yet.
abbrev pub Says : List ℕ → Answer → Type 0
Says text (unit_of u) = IsUnitOfCore text u
Says text not_found = ⊥
Says text (faulty e) = IsModuleFault text e
Says text unsupported = IsBeyondCore text

-- this, and nothing else
pub record SaysOnly (text : List ℕ) (a : Answer) : Type 0 where
  pub says : Says text a
  pub only : (b : Answer) → Says text b → b ≡ a

-- what is found where this text, or none, was added: the one thing that the text says
abbrev pub found_in : Option (List ℕ) → Answer → Type 0
found_in None a = a ≡ not_found
found_in (Some text) a = SaysOnly text a

abbrev is_unit : Answer → Type 0
is_unit (unit_of u) = ⊤
is_unit not_found = ⊥
is_unit (faulty e) = ⊥
is_unit unsupported = ⊥

-- where a unit is found there is a text
pub text_of_found : (o : Option (List ℕ)) (u : UnitTree) → found_in o (unit_of u) → (text : List ℕ) × (o ≡ Some text)
text_of_found None u is = absurd (subst is_unit is tt)
text_of_found (Some text) u is = (text, refl)

-- a text is added at a printed path, in place of the one that was there
abbrev pub IsAdded : VirtualResolver → List ℕ → List ℕ → VirtualResolver → Type 0
IsAdded old p text new = (q : List ℕ) → text_at new q ≡ (if bytes_eq p q then Some text else text_at old q)

-- memory aside, the text at a path, or that there is none
abbrev pub TellsStored : VirtualResolver → ModulePath → Result (Bor (List ℕ)) ResolveError → Type 0
TellsStored r path (Ok text) = text_at r (path_text path) ≡ Some text.now
TellsStored r path (Err (ModuleNotFound p)) = (p ≡ path) × (text_at r (path_text path) ≡ None)
TellsStored r path (Err (Syntax p e)) = ⊥
TellsStored r path (Err (Unsupported p)) = ⊥
TellsStored r path (Err (GaveUp p f)) = ⊥
TellsStored r path (Err OutOfMemory) = ⊤
