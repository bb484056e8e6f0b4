-- What the tables of a module say of its outline. Numbers that the tables made up stand here alone: those of names, references, targets
-- and imports, and places, which count `;`.
use Rattle.std.specs.Prelude.{◌≡◌, ℕ, ◌<◌, ◌^◌, List, [], ◌∷◌, map, length, take, Option, Some, None, Bool, true, false, not, if◌then◌else◌, slice_get, string_bytes, Vec}
use Rattle.std.specs.Option.{option_map}
use Rattle.std.specs.List.{All, filter}
use Rattle.std.specs.HashMap.{get_by_text}
use Rattle.wgsl_path.specs.Paths.{path_text}
use Rattle.wesl_mark.specs.declared.mark.MarkList.{MarkList}
use Rattle.wesl_mark.specs.declared.place.Kind as code
use Rattle.wesl_mark.specs.declared.place.Kind.TheVariants as kind
use Rattle.wesl_mark.specs.declared.place.Place.{Place}
use Rattle.wesl_mark.specs.Marks.{text_at, path_of, name_of}
use Rattle.wesl_module_index.specs.declared.target.Target.{Target}
use Rattle.wesl_module_index.specs.declared.target.ImportItem.{ImportItem}
use Rattle.wesl_module_index.specs.declared.module.Meaning.{Meaning}
use Rattle.wesl_module_index.specs.declared.module.Meaning.TheVariants as meaning
use Rattle.wesl_module_index.specs.declared.module.ReferenceTarget.{ReferenceTarget}
use Rattle.wesl_module_index.specs.declared.module.ReferenceTarget.TheVariants as sought
use Rattle.wesl_module_index.specs.declared.module.Module.{Module}
use Rattle.wesl_chains.specs.Outlines.{Name, Path, Symbol, Item, Use, Kind, directive, assertion, entry_point, other, Entry, Outline, item_named, place_of}
use Rattle.wesl_chains.specs.Senses.{Sense, own, imported, bare, free, sense}

-- ---- imports

-- what an import says: the printed path of the module before its last name, that name, and whether the import is published
pub record Import : Type 0 where
  pub home : Option Path
  pub last : Name
  pub is_published : Bool

abbrev pub import_of : Item → Import
import_of i = record { home = option_map path_text i.base; last = i.last; is_published = i.is_published }

-- the target of a number
abbrev pub target_at : List Target → Option ℕ → Option Target
target_at targets None = None
target_at targets (Some n) = slice_get targets n

abbrev pub import_said : List Target → ImportItem → Import
import_said targets i = record { home = option_map (λ t. string_bytes t.printed_path) (target_at targets i.«module»); last = i.name; is_published = i.is_published }

-- the symbol that an import names; none where it is one bare name
abbrev pub symbol_named : Import → Option Symbol
symbol_named i = option_map (λ p. record { home = p; name = i.last }) i.home

-- the import of a number
abbrev pub import_by : List Target → List ImportItem → ℕ → Option Import
import_by targets items n = option_map (import_said targets) (slice_get items n)

abbrev pub import_at : Module → ℕ → Option Import
import_at m n = import_by m.targets.items m.items.items n

-- ---- the scope

-- the place in the outline, where `;` does not count
abbrev pub is_void : code.Kind → Bool
is_void kind.Void = true
is_void _ = false

abbrev pub is_entry : Place → Bool
is_entry p = not (is_void p.kind)

abbrev pub place_number : List Place → ℕ → ℕ
place_number places k = length (filter is_entry (take k places))

abbrev pub place_by : List Place → Option Meaning → Option ℕ
place_by places None = None
place_by places (Some (meaning.Declared k)) = Some (place_number places k)
place_by places (Some (meaning.Imported n)) = None

abbrev pub item_by : List Target → List ImportItem → Option Meaning → Option Import
item_by targets items None = None
item_by targets items (Some (meaning.Declared k)) = None
item_by targets items (Some (meaning.Imported n)) = import_by targets items n

abbrev pub place_said : Module → Option Meaning → Option ℕ
place_said m meaning = place_by m.places.items meaning

abbrev pub item_said : Module → Option Meaning → Option Import
item_said m meaning = item_by m.targets.items m.items.items meaning

-- ---- what is used

abbrev pub use_at : MarkList → ℕ → Use
use_at l r = record { path = path_of (slice_get l.references.keys r); name = name_of l.names.keys (slice_get l.references.keys r) }

abbrev pub symbol_sense : Name → Option Symbol → Sense
symbol_sense x None = bare x
symbol_sense x (Some s) = imported s

abbrev pub import_sense : Option Import → Sense
import_sense None = free
import_sense (Some i) = symbol_sense i.last (symbol_named i)

abbrev pub sense_by : List Place → List Target → List ImportItem → Option ReferenceTarget → Sense
sense_by places targets items None = free
sense_by places targets items (Some (sought.Declared k)) = own (place_number places k)
sense_by places targets items (Some (sought.Imported n)) = import_sense (import_by targets items n)
sense_by places targets items (Some (sought.Item target name)) = imported (record { home = string_bytes target.printed_path; name = name })
sense_by places targets items (Some sought.Free) = free

abbrev pub sense_said : Module → Option ReferenceTarget → Sense
sense_said m sought = sense_by m.places.items m.targets.items m.items.items sought

-- ---- directives and declarations

abbrev pub kind_said : code.Kind → Kind
kind_said kind.Directive = directive
kind_said kind.Void = other
kind_said kind.Assertion = assertion
kind_said kind.Variable = other
kind_said kind.Alias = other
kind_said (kind.Struct members) = other
kind_said (kind.Function parameters is_entry_point) = if is_entry_point then entry_point else other

abbrev pub entry_said : MarkList → Place → List ℕ → Entry
entry_said l p references = record { kind = kind_said p.kind; name = option_map (text_at l.names.keys) p.name; uses = map (use_at l) references }

abbrev pub entries_said : {A : Type 0} → MarkList → List Place → List (Vec ℕ A) → List Entry
entries_said l [] uses = []
entries_said l (p ∷ ps) [] = []
entries_said l (p ∷ ps) (references ∷ more) = if is_void p.kind then entries_said l ps more else entry_said l p references.items ∷ entries_said l ps more

-- ---- the outline

-- The tables of a module say this outline. A name of its scope is that of a declaration or of an import, and no name is both; each
-- reference that is used is one of the list; and each of the list says its sense.
pub record IsTabled (m : Module) (o : Outline) : Type 0 where
  pub path : m.target.path ≡ o.path
  pub imports : map (import_said m.targets.items) m.items.items ≡ map import_of o.items
  pub declared : (x : Name) → place_said m (get_by_text m.scope x) ≡ place_of x o
  pub imported : (x : Name) → item_said m (get_by_text m.scope x) ≡ option_map import_of (item_named x o.items)
  pub entries : entries_said m.list m.places.items m.uses.items ≡ o.entries
  pub numbered : All (λ references. All (λ r. r < length m.list.references.keys) references.items) m.uses.items
  pub senses : (r : ℕ) → r < 2 ^ 32 → r < length m.list.references.keys → sense_said m (slice_get m.sought.items r) ≡ sense o (use_at m.list r)
