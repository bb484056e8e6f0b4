-- Modules as linking sees them: their imports item by item, and of each directive and declaration its name and what it uses.
use Rattle.std.specs.Prelude.{ℕ, ◌+◌, List, [], ◌∷◌, ◌++◌, map, Option, Some, None, Bool, false, if◌then◌else◌}
use Rattle.std.specs.List.{filter_map}
use Rattle.std.specs.Str.{bytes_eq}
use Rattle.wgsl_path.specs.declared.path.ModulePath.{ModulePath}

abbrev pub Name : Type 0
Name = List ℕ

-- the path of a module as it is printed: paths that print alike are one module
abbrev pub Path : Type 0
Path = List ℕ

-- a name that is sought in the module at a path
pub record Symbol : Type 0 where
  pub home : Path
  pub name : Name

-- An import of one item, which has a full path: `local` stands for the item `last` of the module at `base`. Before an item of one bare
-- name no module stands.
pub record Item : Type 0 where
  pub local : Name
  pub base : Option ModulePath
  pub last : Name
  pub is_published : Bool

-- a name that occurs and that no local hides, maybe behind a path
pub record Use : Type 0 where
  pub path : Option ModulePath
  pub name : Name

pub data Kind : Type 0 where
  directive assertion entry_point other : Kind

-- a directive or a declaration: its name, if it has one, and what it uses, in text order
pub record Entry : Type 0 where
  pub kind : Kind
  pub name : Option Name
  pub uses : List Use

-- a module: its own path, its imports, and its directives with its declarations behind them, whose places count from 0
pub record Outline : Type 0 where
  pub path : ModulePath
  pub items : List Item
  pub entries : List Entry

-- the modules that are loaded, by their printed paths
abbrev pub Finder : Type 0
Finder = Path → Option Outline

-- ---- names of a module

abbrev pub own_names : Outline → List Name
own_names o = filter_map (λ e. e.name) o.entries

-- the names of a module's scope, in text order: imports stand first
abbrev pub scope_names : Outline → List Name
scope_names o = map (λ i. i.local) o.items ++ own_names o

abbrev pub item_named : Name → List Item → Option Item
item_named x [] = None
item_named x (i ∷ is) = if bytes_eq x i.local then Some i else item_named x is

abbrev pub is_named : Name → Option Name → Bool
is_named x None = false
is_named x (Some y) = bytes_eq x y

-- the place of the declaration of a name, counted from a number
abbrev pub place_from : ℕ → Name → List Entry → Option ℕ
place_from n x [] = None
place_from n x (e ∷ es) = if is_named x e.name then Some n else place_from (n + 1) x es

abbrev pub place_of : Name → Outline → Option ℕ
place_of x o = place_from 0 x o.entries
