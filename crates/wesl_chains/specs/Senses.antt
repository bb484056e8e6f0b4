-- What a name that is used means in its own module (WESL, "Imports").
use Rattle.std.specs.Prelude.{ℕ, [], ◌∷◌, Option, Some, None}
use Rattle.wgsl_path.specs.declared.path.ModulePath.{ModulePath}
use Rattle.wgsl_path.specs.declared.path.PathOrigin.{PathOrigin}
use Rattle.wgsl_path.specs.declared.path.PathOrigin.TheVariants.{Absolute, Relative, Package}
use Rattle.wgsl_path.specs.Paths.{path_text}
use Rattle.wgsl_path.specs.Joining.{with_names, joined}
use Rattle.wesl_chains.specs.Outlines.{Name, Symbol, Item, Use, Outline, item_named, place_of}

-- A path that a module writes, as meant there: `package` is the root of the module's own package, `super` counts from its own path.
abbrev pub meant_by : ModulePath → ModulePath → PathOrigin → ModulePath
meant_by own written Absolute = record { origin = own.origin; components = written.components }
meant_by own written (Relative n) = joined own written
meant_by own written (Package p) = written

-- the full path of an import's item, as a module
abbrev pub item_as_module : Option ModulePath → Name → ModulePath
item_as_module None x = record { origin = Package x; components = [] }
item_as_module (Some path) x = with_names path (x ∷ [])

-- A path whose first name is an import stands for more names behind the item's full path; one whose first name is none, for itself: that
-- name is a package's.
abbrev pub unless_imported : ModulePath → Option Item → ModulePath
unless_imported written None = written
unless_imported written (Some i) = with_names (item_as_module i.base i.last) written.components

abbrev pub module_meant : Outline → ModulePath → PathOrigin → ModulePath
module_meant o written (Package p) = unless_imported written (item_named p o.items)
module_meant o written origin = meant_by o.path written origin

pub data Sense : Type 0 where
  -- the module's own declaration at this place
  own : ℕ → Sense
  -- a name in a module
  imported : Symbol → Sense
  -- an import of one bare name
  bare : Name → Sense
  free : Sense

abbrev pub base_sense : Option ModulePath → Name → Sense
base_sense None x = bare x
base_sense (Some p) x = imported (record { home = path_text p; name = x })

abbrev pub item_sense : Option Item → Sense
item_sense None = free
item_sense (Some i) = base_sense i.base i.last

-- the module's own declaration, else its import, else nothing
abbrev pub name_sense : Outline → Name → Option ℕ → Sense
name_sense o x (Some k) = own k
name_sense o x None = item_sense (item_named x o.items)

abbrev pub path_sense : Outline → Name → Option ModulePath → Sense
path_sense o x None = name_sense o x (place_of x o)
path_sense o x (Some p) = imported (record { home = path_text (module_meant o p p.origin); name = x })

abbrev pub sense : Outline → Use → Sense
sense o u = path_sense o u.name u.path
