-- The outline of a module's tree: the one place where linking looks into trees before it writes.
use Rattle.std.specs.Prelude.{List, [], ◌∷◌, ◌++◌, map, Option, Some, None, Bool, true, false, if◌then◌else◌}
use Rattle.std.specs.Option.{unwrap_or, option_map}
use Rattle.std.specs.List.{flat_map, list_any}
use Rattle.wesl_chains.specs.ModulePath.{ModulePath}
use Rattle.wesl_chains.specs.PathOrigin.TheVariants.{Package}
use Rattle.wesl_chains.specs.Joining.{with_names}
use Rattle.wgsl_skeleton.specs.AttributesTree as a
use Rattle.wgsl_skeleton.specs.AttributesTree.{Attr}
use Rattle.wgsl_skeleton.specs.ImportsTree.{Importing, Content, item, collection, Imps, nil, cons, Directive}
use Rattle.wgsl_skeleton.specs.DeclarationsTree.{Decl, variable, alias, structure, function, assertion as asserting, UnitTree}
use Rattle.wgsl_skeleton.specs.Skeleton.{Node}
use Rattle.wgsl_skeleton.specs.Occurrences.{Occurrence, occurrences, outside}
pub use Rattle.wgsl_skeleton.specs.Trees.{directive_node}
use Rattle.wgsl_skeleton.specs.Trees.{declaration_node}
use Rattle.wesl_chains.specs.Outlines.{Name, Item, Use, Kind, directive, assertion, entry_point, other, Entry, Outline}
use Rattle.wesl_chains.specs.Senses.{meant_by}

abbrev pub is_publish : Attr → Bool
is_publish a.publish = true
is_publish _ = false

-- an attribute of an entry point (WGSL, "Entry Point Declaration")
abbrev pub is_stage : Attr → Bool
is_stage a.vertex = true
is_stage a.fragment = true
is_stage a.compute = true
is_stage _ = false

-- ---- imports

-- names behind a path; the first name of all is a package's
abbrev pub longer : Option ModulePath → List Name → Option ModulePath
longer base [] = base
longer None (x ∷ xs) = longer (Some (record { origin = Package x; components = [] })) xs
longer (Some p) (x ∷ xs) = longer (Some (with_names p (x ∷ []))) xs

abbrev mutual
  pub items_in : Bool → Option ModulePath → Content → List Item
  items_in published base (item x rename) = record { local = unwrap_or rename x; base = base; last = x; is_published = published } ∷ []
  items_in published base (collection is) = all_items_in published base is

  pub all_items_in : Bool → Option ModulePath → Imps → List Item
  all_items_in published base nil = []
  all_items_in published base (cons names content more) = items_in published (longer base names) content ++ all_items_in published base more

-- the items of an import statement, in text order
abbrev pub items_of : ModulePath → Importing → List Item
items_of own i = items_in (list_any is_publish i.attributes) (option_map (λ p. meant_by own p p.origin) i.path) i.content

-- ---- directives and declarations

-- an occurrence as a use
abbrev pub as_use : Occurrence → Use
as_use o = record { path = o.path; name = o.name }

abbrev pub uses_in : Node → List Use
uses_in n = map as_use (outside (occurrences [] n))

abbrev pub directive_entry : Directive → Entry
directive_entry d = record { kind = directive; name = None; uses = uses_in (directive_node d) }

abbrev pub kind_of : Decl → Kind
kind_of (function attributes x parameters result_attributes result body) = if list_any is_stage attributes then entry_point else other
kind_of (asserting attributes x) = assertion
kind_of _ = other

abbrev pub name_of : Decl → Option Name
name_of (variable attributes kind x type value) = Some x
name_of (alias attributes x type) = Some x
name_of (structure attributes x members) = Some x
name_of (function attributes x parameters result_attributes result body) = Some x
name_of (asserting attributes x) = None

abbrev pub declaration_entry : Decl → Entry
declaration_entry d = record { kind = kind_of d; name = name_of d; uses = uses_in (declaration_node d) }

-- a unit's directives, and behind them its declarations
abbrev pub entries_of : UnitTree → List Entry
entries_of u = map directive_entry u.directives ++ map declaration_entry u.declarations

-- the skeletons of the same places
abbrev pub nodes_of : UnitTree → List Node
nodes_of u = map directive_node u.directives ++ map declaration_node u.declarations

-- the module at this path
abbrev pub outline_of : ModulePath → UnitTree → Outline
outline_of path u = record { path = path; items = flat_map (items_of path) u.imports; entries = entries_of u }
