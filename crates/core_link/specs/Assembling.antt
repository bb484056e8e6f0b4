-- The linked declarations, by places.
use Rattle.std.specs.Prelude.{ℕ, ◌+◌, List, [], ◌∷◌, ◌++◌, map, Option, Some, None, Bool, if◌then◌else◌, is_some, string_bytes}
use Rattle.std.specs.Str.{bytes_eq}
use Rattle.std.specs.List.{flat_map}
use Rattle.std.specs.declared.string.String.{String}
use Rattle.std.specs.declared.alloc.Global.{Global}
use Rattle.wgsl_path.specs.declared.span.Spanned.{Spanned}
use Rattle.core_syntax.specs.declared.declaration.GlobalDeclaration.{GlobalDeclaration}
use Rattle.core_syntax.specs.Tree.{Decl, UnitTree}
use Rattle.core_syntax.specs.View.{declaration_tree}
use Rattle.core_link_spec.specs.Occurrences.{Name}
use Rattle.core_link_spec.specs.Modules.{Path}
use Rattle.core_link_spec.specs.Linked.{renamed_declaration}
use Rattle.core_scopes.specs.declared.module.Module.{Module}
use Rattle.core_scopes.specs.Outcomes.{Loaded, loaded, home_of}
use Rattle.core_reach.specs.Reach.{Holding}
use Rattle.core_reach.specs.Closing.{HeldNames, held_at}
use Rattle.core_reach.specs.Resolved.{LoadedModules}
use Rattle.core_names.specs.Naming.{naming}
use Rattle.core_link.specs.declared.assemble.HeldDeclaration.{HeldDeclaration}

-- the declarations at places that are held, where the first stands at this place
abbrev pub held_among : (ℕ → Bool) → ℕ → List Decl → List Decl
held_among is_held place [] = []
held_among is_held place (d ∷ ds) = if is_held place then d ∷ held_among is_held (place + 1) ds else held_among is_held (place + 1) ds

-- what a module has in the linked unit
abbrev pub linked_module : Loaded → Holding → Path × UnitTree → List Decl
linked_module find held m = map (renamed_declaration (naming find held m)) (held_among (λ place. is_some (held m.0 place)) 0 m.1.declarations)

-- what the module that is found, if one is, has in the linked unit
abbrev pub linked_at : Loaded → Holding → Option (Path × UnitTree) → List Decl
linked_at find held None = []
linked_at find held (Some m) = linked_module find held m

-- the paths but one
abbrev pub without : Path → List Path → List Path
without root [] = []
without root (p ∷ ps) = if bytes_eq p root then without root ps else p ∷ without root ps

-- what is held in the modules at these paths: the root's first
abbrev pub linked_unit : Loaded → Holding → Path → List Path → UnitTree
linked_unit find held root ps = record { imports = []; declarations = flat_map (λ p. linked_at find held (find p)) (root ∷ without root ps) }

abbrev pub declaration_trees : List (Spanned GlobalDeclaration) → List Decl
declaration_trees ds = map (λ n. declaration_tree n.node) ds

-- what the modules but the root's have in the linked unit
abbrev pub others_linked : LoadedModules → HeldNames → Path → List (String Global × Module) → List Decl
others_linked ms held root es = flat_map (λ e. if bytes_eq (string_bytes e.0) root then [] else linked_module (loaded ms) (held_at held) (home_of e.1)) es

-- what is held in the loaded modules: the root's first
abbrev pub assembled : LoadedModules → HeldNames → Path → UnitTree
assembled ms held root = record { imports = []; declarations = linked_at (loaded ms) (held_at held) (loaded ms root) ++ others_linked ms held root ms.entries }

-- a held declaration under its new names
abbrev pub linked_tree : LoadedModules → HeldNames → HeldDeclaration → Decl
linked_tree ms held d = renamed_declaration (naming (loaded ms) (held_at held) (home_of d.«module».now)) (declaration_tree d.node.now.node)

abbrev pub linked_trees : LoadedModules → HeldNames → List HeldDeclaration → List Decl
linked_trees ms held ds = map (linked_tree ms held) ds

-- the unit of held declarations under their new names
abbrev pub linked_of : LoadedModules → HeldNames → List HeldDeclaration → UnitTree
linked_of ms held ds = record { imports = []; declarations = linked_trees ms held ds }
