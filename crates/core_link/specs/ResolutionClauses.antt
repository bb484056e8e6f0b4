-- What the functions of linking say, in terms of the resolutions that they are given.
use Rattle.std.specs.Prelude.{◌≡◌, ◌↔◌, List, [], ◌∷◌, ◌++◌, Bool, Option, Some, None, if◌then◌else◌, is_some, string_bytes}
use Rattle.std.specs.Str.{bytes_eq}
use Rattle.wgsl_path.specs.declared.span.Spanned.{Spanned}
use Rattle.core_syntax.specs.declared.declaration.GlobalDeclaration.{GlobalDeclaration}
use Rattle.core_syntax.specs.Tree.{Decl}
use Rattle.core_syntax.specs.View.{declaration_tree}
use Rattle.core_link_spec.specs.Occurrences.{Name}
use Rattle.core_link_spec.specs.Modules.{Path, Modules}
use Rattle.core_link_spec.specs.Linked.{renamed_declaration}
use Rattle.core_link_spec.specs.Clashing.{IsFirstClash}
use Rattle.core_link_spec.specs.Loaded.{IsClashFree}
use Rattle.core_scopes.specs.declared.module.Module.{Module}
use Rattle.core_scopes.specs.declared.denote.Symbol.{Symbol}
use Rattle.core_scopes.specs.Outcomes.{loaded, home_of}
use Rattle.core_reach.specs.Closing.{held_at}
use Rattle.core_reach.specs.Resolved.{modules_of, IsResolved}
use Rattle.core_names.specs.Naming.{naming}
use Rattle.core_link.specs.Assembling.{linked_module, linked_trees, linked_at}
use Rattle.core_link.specs.Clashing.{Sharing, module_clash, held_clash, or_else}
use Rattle.core_names.specs.Naming.{printed_in}
use Rattle.core_link.specs.Recording.{Source, record_of}
use Rattle.core_link.specs.declared.assemble.HeldDeclaration.{HeldDeclaration}
use Rattle.core_link.specs.declared.rounds.Resolutions.{Resolutions}

-- this holds of the loaded modules, the root and the kept names that these are the resolutions of
abbrev pub WhereResolved : Resolutions → (Modules → Path → List Name → Type 0) → Type 0
WhereResolved r Says = (keep : List Name) → IsResolved r.modules (string_bytes r.root) keep r.held → Says (modules_of r.modules) (string_bytes r.root) keep

-- there is no clash exactly where the linked unit has none
abbrev pub FindsClash : Resolutions → Option Name → Type 0
FindsClash r clash = (keep : List Name) → IsResolved r.modules (string_bytes r.root) keep r.held → (clash ≡ None) ↔ IsClashFree (modules_of r.modules) (string_bytes r.root) keep

-- a clash is the linked unit's first
abbrev pub FindsFirstClash : Resolutions → Option Name → Type 0
FindsFirstClash r clash =
    (keep : List Name) (name : Name) → IsResolved r.modules (string_bytes r.root) keep r.held → clash ≡ Some name → IsFirstClash (modules_of r.modules) (string_bytes r.root) keep name

-- the printed name of a symbol, where it is held
abbrev pub held_symbol : Resolutions → Symbol → Option Name
held_symbol r s = held_at r.held (string_bytes s.«module».now.printed_path) s.place

-- what the names of a module are printed as
abbrev pub printed_names : Resolutions → Module → Name → Option Name
printed_names r m = printed_in r.held r.modules m

-- the linked declarations that were found are those before, and these
abbrev pub Adds : Resolutions → List HeldDeclaration → List HeldDeclaration → List Decl → Type 0
Adds r before after ds = linked_trees r.modules r.held after ≡ linked_trees r.modules r.held before ++ ds

-- what the root has in the linked unit
abbrev pub linked_root : Resolutions → List Decl
linked_root r = linked_at (loaded r.modules) (held_at r.held) (loaded r.modules (string_bytes r.root))

-- what a module has in the linked unit
abbrev pub linked_in : Resolutions → Module → List Decl
linked_in r m = linked_module (loaded r.modules) (held_at r.held) (home_of m)

-- likewise, but nothing of the root
abbrev pub linked_beside : Resolutions → Path → Module → List Decl
linked_beside r text m = if bytes_eq text (string_bytes r.root) then [] else linked_in r m

-- a declaration under its new names, where it is held
abbrev pub linked_symbol : Resolutions → Symbol → Spanned GlobalDeclaration → List Decl
linked_symbol r s node =
    if is_some (held_symbol r s) then renamed_declaration (naming (loaded r.modules) (held_at r.held) (home_of s.«module».now)) (declaration_tree node.node) ∷ [] else []

-- where the printed name of a declaration comes from, where it is held
abbrev pub recorded_symbol : Resolutions → Symbol → Spanned GlobalDeclaration → List (Name × Source)
recorded_symbol r s node = record_of s.«module».now.path (declaration_tree node.node) (held_symbol r s)

-- the first clash of a module that is not the root
abbrev pub clash_beside : Sharing → Resolutions → Path → Module → Option Name
clash_beside sharing r text m = if bytes_eq text (string_bytes r.root) then None else module_clash sharing (loaded r.modules) (held_at r.held) (home_of m)

-- the first clash of a declaration, where it is held
abbrev pub clash_of_symbol : Sharing → Resolutions → Symbol → GlobalDeclaration → Option Name
clash_of_symbol sharing r s d = held_clash sharing (printed_names r s.«module».now) (held_symbol r s) (declaration_tree d)
