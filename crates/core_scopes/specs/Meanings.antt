-- What the names of a module's scope mean, as the code tabulates them.
use Rattle.std.specs.Prelude.{◌≡◌, ◌≢◌, ℕ, ◌+◌, List, [], ◌∷◌, ◌++◌, map, Option, Some, None, Result, Ok, Err, if◌then◌else◌, string_bytes}
use Rattle.std.specs.Option.{option_map}
use Rattle.std.specs.Str.{bytes_eq}
use Rattle.std.specs.Map.{lookup}
use Rattle.std.specs.HashMap.{HashMap, get_by_text}
use Rattle.std.specs.declared.string.String.{String}
use Rattle.std.specs.declared.alloc.Global.{Global}
use Rattle.std.specs.declared.hash.BuildHasherDefault.{BuildHasherDefault}
use Rattle.std.specs.declared.hash.FoldHasher.{FoldHasher}
use Rattle.wgsl_path.specs.declared.path.ModulePath.{ModulePath}
use Rattle.wgsl_path.specs.Paths.{path_text}
use Rattle.core_syntax.specs.Tree.{Decl, Imp, UnitTree}
use Rattle.core_link_spec.specs.Occurrences.{Name, is_among, declared_name}
use Rattle.core_link_spec.specs.Modules.{Symbol, local_name}
use Rattle.core_link_spec.specs.ResolveError.{ResolveError}
use Rattle.core_link_spec.specs.ResolveError.TheVariants as resolve
use Rattle.core_scopes.specs.declared.error.ImportError.{ImportError}
use Rattle.core_scopes.specs.declared.error.ImportError.TheVariants.{OutOfMemory, DuplicateSymbol, Resolve}
use Rattle.core_scopes.specs.declared.target.Meaning.{Meaning}
use Rattle.core_scopes.specs.declared.target.Meaning.TheVariants.{Declared, Imported, Bare}

abbrev pub Done : Type 0
Done = Prim.Unit {0}

-- the module's declaration at this place, an item of the module that is named by this path, or an item with no module before it
pub data Known : Type 0 where
  declared : ℕ → Known
  imported : ModulePath × Symbol → Known
  bare : Name → Known

abbrev pub import_known : Option ModulePath → Name → Known
import_known (Some path) item = imported (path, record { home = path_text path; name = item })
import_known None item = bare item

abbrev pub import_entry : Imp → Name × Known
import_entry i = (local_name i, import_known i.path i.item)

abbrev pub declared_entries : ℕ → List Decl → List (Name × Known)
declared_entries place [] = []
declared_entries place (d ∷ ds) = (declared_name d, declared place) ∷ declared_entries (place + 1) ds

-- the names of a unit's scope, each with what it means
abbrev pub entries : UnitTree → List (Name × Known)
entries u = map import_entry u.imports ++ declared_entries 0 u.declarations

abbrev pub meant : List (Name × Known) → Name → Option Known
meant es x = lookup (λ y. bytes_eq x y) es

abbrev pub known : UnitTree → Name → Option Known
known u x = meant (entries u) x

abbrev pub known_of : Meaning → Known
known_of (Declared place) = declared place
known_of (Imported t) = imported (t.path, record { home = string_bytes t.printed_path; name = t.item })
known_of (Bare item) = bare item

abbrev pub Table : Type 0
Table = HashMap (String Global) Meaning (BuildHasherDefault FoldHasher)

-- the table's answer for each name
abbrev pub IsTableOf : Table → List (Name × Known) → Type 0
IsTableOf table es = (x : Name) → option_map known_of (get_by_text table x) ≡ meant es x

abbrev pub names : List (Name × Known) → List Name
names es = map (λ e. e.0) es

-- the first of these names that stood before
abbrev pub first_again : List Name → List Name → Option Name
first_again before [] = None
first_again before (x ∷ xs) = if is_among x before then Some x else first_again (before ++ x ∷ []) xs

abbrev pub Tabulates : ModulePath → UnitTree → Result Table ImportError → Type 0
Tabulates path u (Ok table) = IsTableOf table (entries u) × (first_again [] (names (entries u)) ≡ None)
Tabulates path u (Err OutOfMemory) = Done
Tabulates path u (Err (DuplicateSymbol p x)) = (p ≡ path) × (first_again [] (names (entries u)) ≡ Some x)
Tabulates path u (Err e) = ⊥

-- a name gets a meaning in a table that lacks it
abbrev pub Adds : ModulePath → Table → Name → Known → Result Done ImportError → Table → Type 0
Adds path old x k (Ok u) new =
    (option_map known_of (get_by_text old x) ≡ None) × ((y : Name) → option_map known_of (get_by_text new y) ≡ (if bytes_eq x y then Some k else option_map known_of (get_by_text old y)))
Adds path old x k (Err OutOfMemory) new = Done
Adds path old x k (Err (DuplicateSymbol p y)) new = (p ≡ path) × (y ≡ x) × (option_map known_of (get_by_text old x) ≢ None)
Adds path old x k (Err e) new = ⊥

-- the error of linking for what a resolver refuses
abbrev pub GivesError : ResolveError → ImportError → Type 0
GivesError resolve.OutOfMemory e = e ≡ OutOfMemory
GivesError (resolve.ModuleNotFound p) e = e ≡ Resolve (resolve.ModuleNotFound p)
GivesError (resolve.Syntax p f) e = e ≡ Resolve (resolve.Syntax p f)
GivesError (resolve.GaveUp p r) e = e ≡ Resolve (resolve.GaveUp p r)
GivesError (resolve.Unsupported p) e = e ≡ Resolve (resolve.Unsupported p)
