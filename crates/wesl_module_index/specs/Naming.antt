-- The names of a module as they are gathered: its imports item by item, then what it declares.
use Rattle.std.specs.Prelude.{◌≡◌, ◌⊎◌, ⊤, ℕ, ◌+◌, ◌<◌, List, [], ◌∷◌, ◌++◌, map, length, Bool, Option, Some, None, Result, Ok, Err, if◌then◌else◌, String, string_bytes}
use Rattle.std.specs.Option.{option_map, unwrap_or}
use Rattle.std.specs.List.{All, Contains, flat_map}
use Rattle.std.specs.Str.{bytes_eq}
use Rattle.std.specs.HashMap.{HashMap, get_by_text}
use Rattle.std.specs.declared.alloc.Global.{Global}
use Rattle.std.specs.declared.hash.BuildHasherDefault.{BuildHasherDefault}
use Rattle.std.specs.declared.hash.FoldHasher.{FoldHasher}
use Rattle.wgsl_path.specs.declared.path.ModulePath.{ModulePath}
use Rattle.wgsl_path.specs.declared.path.PathOrigin.{PathOrigin}
use Rattle.wgsl_path.specs.declared.path.PathOrigin.TheVariants.{Absolute, Relative, Package}
use Rattle.wgsl_path.specs.Paths.{path_text}
use Rattle.wgsl_declarations.specs.declared.imports.import.ImportItem as code
use Rattle.wgsl_declarations.specs.declared.imports.import.ImportOf.{ImportOf}
use Rattle.wgsl_declarations.specs.declared.imports.import.ImportContent.{ImportContent}
use Rattle.wgsl_declarations.specs.ImportsView.{content_tree}
use Rattle.wesl_mark.specs.declared.place.Place.{Place}
use Rattle.wesl_mark.specs.Marks.{text_at}
use Rattle.wesl_module_index.specs.declared.error.ImportError.{ImportError}
use Rattle.wesl_module_index.specs.declared.error.ImportError.TheVariants.{DuplicateSymbol, OutOfMemory}
use Rattle.wesl_module_index.specs.declared.imports.Names.{Names}
use Rattle.wesl_module_index.specs.declared.module.Meaning.{Meaning}
use Rattle.wesl_module_index.specs.declared.module.Meaning.TheVariants.{Declared, Imported}
use Rattle.wesl_module_index.specs.declared.module.ReferenceTarget.{ReferenceTarget}
use Rattle.wesl_module_index.specs.declared.target.Target.{Target}
use Rattle.wesl_chains.specs.Outlines.{Name, Item, Use, Outline, item_named, place_of}
use Rattle.wesl_chains.specs.Senses.{sense}
use Rattle.wesl_linking_spec.specs.Loading.{AreDistinct, IsFirstAgain}
use Rattle.wesl_linking_spec.specs.Outlining.{longer, items_in}
use Rattle.wesl_module_index.specs.Tables.{import_of, import_said, target_at, place_by, item_by, sense_by}

-- ---- the scope

abbrev pub Scope : Type 0
Scope = HashMap (String Global) Meaning (BuildHasherDefault FoldHasher)

-- a name, and what it means
abbrev pub Meant : Type 0
Meant = Name × Meaning

abbrev pub meaning_of : Name → List Meant → Option Meaning
meaning_of x [] = None
meaning_of x (n ∷ ns) = if bytes_eq x n.0 then Some n.1 else meaning_of x ns

abbrev pub names_in : List Meant → List Name
names_in ns = map (λ n. n.0) ns

-- the scope has these names, each once
pub record IsScope (scope : Scope) (names : List Meant) : Type 0 where
  pub means : (x : Name) → get_by_text scope x ≡ meaning_of x names
  pub distinct : AreDistinct (names_in names)

-- imports, by their numbers
abbrev pub numbered : ℕ → List Item → List Meant
numbered n [] = []
numbered n (i ∷ is) = (i.local, Imported n) ∷ numbered (n + 1) is

abbrev pub locals_of : List Item → List Name
locals_of is = map (λ i. i.local) is

abbrev pub declared_by : List (String Global) → ℕ → Option ℕ → List Meant
declared_by names k None = []
declared_by names k (Some n) = (text_at names n, Declared k) ∷ []

-- what places declare, which count from a number
abbrev pub declared_from : List (String Global) → ℕ → List Place → List Meant
declared_from names k [] = []
declared_from names k (p ∷ ps) = declared_by names k p.name ++ declared_from names (k + 1) ps

-- ---- targets

abbrev pub printed_at : List Target → Option ℕ → Option (List ℕ)
printed_at targets n = option_map (λ t. string_bytes t.printed_path) (target_at targets n)

abbrev pub IsWithin : List Target → Option ℕ → Type 0
IsWithin targets None = ⊤
IsWithin targets (Some n) = n < length targets

-- the number of a target, where there is one, is that of the module at this path
abbrev pub HasTarget : List Target → Option ℕ → Option ModulePath → Type 0
HasTarget targets None base = ⊤
HasTarget targets (Some n) base = (n < length targets) × (printed_at targets (Some n) ≡ option_map path_text base)

-- a target that is asked for
pub record IsTarget (targets : List Target) (base : Option ModulePath) (number : Option ℕ) : Type 0 where
  pub within : IsWithin targets number
  pub printed : printed_at targets number ≡ option_map path_text base

abbrev pub OnlyMore : List Target → List Target → Type 0
OnlyMore old new = (more : List Target) × (new ≡ old ++ more)

-- ---- a name more

pub record IsAdded (old : Names) (x : Name) (meaning : Meaning) (new : Names) : Type 0 where
  pub path : new.path ≡ old.path
  pub targets : new.targets.items ≡ old.targets.items
  pub items : new.items.items ≡ old.items.items
  pub scope : (ns : List Meant) → IsScope old.scope ns → IsScope new.scope (ns ++ (x, meaning) ∷ [])

-- a name is added, which was not there; or it is refused
abbrev pub Adds : Names → Name → Meaning → Result ⊤ ImportError → Names → Type 0
Adds old x meaning (Ok done) new = IsAdded old x meaning new
Adds old x meaning (Err e) new = (e ≡ OutOfMemory) ⊎ ((e ≡ DuplicateSymbol old.path x) × ((ns : List Meant) → IsScope old.scope ns → Contains (names_in ns) x))

-- the same where there is a name
abbrev pub AddsEach : Names → List Meant → Result ⊤ ImportError → Names → Type 0
AddsEach old [] (Ok done) new = new ≡ old
AddsEach old [] (Err e) new = ⊥
AddsEach old (n ∷ ns) result new = Adds old n.0 n.1 result new

-- ---- items

-- the name that an item brings into scope
abbrev pub local_of : code.ImportItem → Name
local_of x = unwrap_or (option_map (λ r. r.name) x.rename) x.ident.name

-- an item behind a module
abbrev pub item_behind : Bool → Option ModulePath → code.ImportItem → Item
item_behind published base x = record { local = local_of x; base = base; last = x.ident.name; is_published = published }

-- these items are gathered
pub record IsGathered (n : Names) (items : List Item) : Type 0 where
  pub imports : map (import_said n.targets.items) n.items.items ≡ map import_of items
  pub within : All (λ i. IsWithin n.targets.items i.«module») n.items.items
  pub scope : IsScope n.scope (numbered 0 items)

-- more items are gathered
pub record AreGathered (old : Names) (more : List Item) (new : Names) : Type 0 where
  pub path : new.path ≡ old.path
  pub targets : OnlyMore old.targets.items new.targets.items
  pub items : (items : List Item) → IsGathered old items → IsGathered new (items ++ more)

-- the first of these items' names is refused that stands behind the same name
abbrev pub IsRefused : Names → List Item → ImportError → Type 0
IsRefused old more e = (e ≡ OutOfMemory) ⊎ ((items : List Item) → IsGathered old items → (x : Name) × IsFirstAgain (locals_of (items ++ more)) x × (e ≡ DuplicateSymbol old.path x))

abbrev pub Gathers : Names → List Item → Result ⊤ ImportError → Names → Type 0
Gathers old more (Ok done) new = AreGathered old more new
Gathers old more (Err e) new = IsRefused old more e

-- the items of imports in braces behind a module
abbrev pub nested_items : Bool → Option ModulePath → List (ImportOf ImportContent) → List Item
nested_items published base imports = flat_map (λ i. items_in published (longer base i.path) (content_tree i.content)) imports

-- ---- all names

-- the names of the module at a path: of these items, and of what these places declare
pub record IsNamed (path : ModulePath) (items : List Item) (declared : List Meant) (n : Names) : Type 0 where
  pub is_path : n.path ≡ path
  pub imports : map (import_said n.targets.items) n.items.items ≡ map import_of items
  pub scope : IsScope n.scope (numbered 0 items ++ declared)

-- they are gathered, or the first is refused that stands twice
abbrev pub AreNamed : ModulePath → List Item → List Meant → Result Names ImportError → Type 0
AreNamed path items declared (Ok n) = IsNamed path items declared n
AreNamed path items declared (Err e) = (e ≡ OutOfMemory) ⊎ ((x : Name) × IsFirstAgain (locals_of items ++ names_in declared) x × (e ≡ DuplicateSymbol path x))

-- ---- what they mean

-- names and places say what an outline says of its names
pub record SayNames (n : Names) (places : List Place) (o : Outline) : Type 0 where
  pub path : n.path ≡ o.path
  pub declared : (x : Name) → place_by places (get_by_text n.scope x) ≡ place_of x o
  pub imported : (x : Name) → item_by n.targets.items n.items.items (get_by_text n.scope x) ≡ option_map import_of (item_named x o.items)

-- this is what a use means
abbrev pub IsSense : Names → Use → Option ReferenceTarget → Type 0
IsSense n u s = (places : List Place) (o : Outline) → SayNames n places o → sense_by places n.targets.items n.items.items s ≡ sense o u

-- the import that stands before the components of a path
abbrev pub leading : Outline → PathOrigin → Option Item
leading o Absolute = None
leading o (Relative n) = None
leading o (Package p) = item_named p o.items
