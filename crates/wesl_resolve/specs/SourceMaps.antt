-- What a source map holds.
use Rattle.std.specs.Prelude.{◌≡◌, ℕ, List, Option, if◌then◌else◌}
use Rattle.std.specs.Option.{option_map, option_and_then}
use Rattle.std.specs.Str.{bytes_eq}
use Rattle.std.specs.HashMap.{get_by_text}
use Rattle.wgsl_path.specs.declared.path.ModulePath.{ModulePath}
use Rattle.wesl_resolve.specs.declared.source_map.BasicSourceMap.{BasicSourceMap}

-- the module and the item that a name of the linked unit stands for
abbrev pub decl_at : BasicSourceMap → List ℕ → Option (ModulePath × List ℕ)
decl_at map x = option_map (λ d. (d.«module», d.item)) (get_by_text map.decls x)

-- the text of the module at a printed path
abbrev pub source_at : BasicSourceMap → List ℕ → Option (List ℕ)
source_at map p = option_map (λ s. s.text) (get_by_text map.sources p)

-- the name that a message gives that module
abbrev pub display_name_at : BasicSourceMap → List ℕ → Option (List ℕ)
display_name_at map p = option_and_then (λ s. s.display_name) (get_by_text map.sources p)

-- one entry is set, and the others stay
abbrev pub IsSet : {A : Type 0} → (List ℕ → Option A) → List ℕ → Option A → (List ℕ → Option A) → Type 0
IsSet old x a new = (y : List ℕ) → new y ≡ (if bytes_eq x y then a else old y)

-- all entries stay
abbrev pub IsKept : {A : Type 0} → (List ℕ → Option A) → (List ℕ → Option A) → Type 0
IsKept old new = (y : List ℕ) → new y ≡ old y
