-- The names of the root that are kept.
use Rattle.std.specs.Prelude.{List, [], ◌∷◌, Bool, true, false, if◌then◌else◌}
use Rattle.std.specs.List.{list_any, flat_map}
use Rattle.core_syntax.specs.Tree.{Attr, fragment, location, Decl, variable, function, UnitTree}
use Rattle.core_syntax.specs.Names.{declared_name}
use Rattle.core_link_spec.specs.Occurrences.{Name}

-- an attribute of an entry point (WGSL, "Entry Point Declaration")
abbrev pub is_stage : Attr → Bool
is_stage fragment = true
is_stage (location x) = false

abbrev pub is_entry_point : Decl → Bool
is_entry_point (variable attributes kind x type initializer) = false
is_entry_point (function attributes x parameters return_attributes type body) = list_any is_stage attributes

-- its name, if it is an entry point
abbrev pub entry_name : Decl → List Name
entry_name d = if is_entry_point d then declared_name d ∷ [] else []

-- the names of the entry points among declarations, in text order
abbrev pub entry_points : List Decl → List Name
entry_points ds = flat_map entry_name ds

-- the names that are asked for, or where none is, the root's entry points
abbrev pub kept_names : List Name → UnitTree → List Name
kept_names [] u = entry_points u.declarations
kept_names (x ∷ xs) u = x ∷ xs
