-- The first name of the linked unit that is read otherwise than meant, by the tables that linking keeps.
use Rattle.std.specs.Prelude.{ℕ, ◌+◌, List, [], ◌∷◌, ◌++◌, Option, Some, None, Bool, false, ◌||◌, ◌&&◌, if◌then◌else◌, is_some, string_bytes}
use Rattle.std.specs.Option.{unwrap_or}
use Rattle.std.specs.Str.{bytes_eq}
use Rattle.std.specs.List.{flat_map}
use Rattle.std.specs.HashMap.{HashMap, get_by}
use Rattle.std.specs.declared.string.String.{String}
use Rattle.std.specs.declared.alloc.Global.{Global}
use denote.Ref.{Bor}
use Rattle.core_syntax.specs.Tree.{Decl, UnitTree}
use Rattle.core_link_spec.specs.Occurrences.{Name, is_among, names_before, names_behind, names_in_body, locals}
use Rattle.core_link_spec.specs.Modules.{Path}
use Rattle.core_scopes.specs.declared.module.Module.{Module}
use Rattle.core_scopes.specs.Outcomes.{Loaded, outcome, loaded, home_of}
use Rattle.core_reach.specs.Reach.{Holding}
use Rattle.core_reach.specs.Closing.{HeldNames, held_at}
use Rattle.core_names.specs.Naming.{printed_of}
use Rattle.core_reach.specs.Resolved.{LoadedModules}

-- ---- the first

abbrev pub or_else : Option Name → Option Name → Option Name
or_else (Some y) o = Some y
or_else None o = o

abbrev pub first_some : {A : Type 0} → (A → Option Name) → List A → Option Name
first_some f [] = None
first_some f (x ∷ xs) = or_else (f x) (first_some f xs)

-- ---- the names of what is held

abbrev pub names_of : Option Name → List Name
names_of (Some y) = y ∷ []
names_of None = []

-- the names of what is held among these declarations, where the first stands at this place
abbrev pub names_among : (ℕ → Option Name) → ℕ → List Decl → List Name
names_among held place [] = []
names_among held place (d ∷ ds) = names_of (held place) ++ names_among held (place + 1) ds

abbrev pub names_in : Holding → Path × UnitTree → List Name
names_in held m = names_among (held m.0) 0 m.1.declarations

-- the names of all that is held
abbrev pub held_names : HeldNames → List (String Global × Module) → List Name
held_names held es = flat_map (λ e. names_in (held_at held) (home_of e.1)) es

-- whether a name stands twice
abbrev pub is_twice : Name → List Name → Bool
is_twice x [] = false
is_twice x (y ∷ ys) = (bytes_eq x y && is_among x ys) || is_twice x ys

-- of each name that something held has, whether more has it
abbrev pub Sharing : Type 0
Sharing = Name → Option Bool

abbrev pub sharing_in : List Name → Sharing
sharing_in names x = if is_among x names then Some (is_twice x names) else None

-- what a table keeps of it
abbrev pub sharing_at : {S : Type 0} → HashMap (Bor (List ℕ)) Bool S → Sharing
sharing_at table x = get_by (λ k. bytes_eq x k.now) table

-- ---- what clashes

module _ (sharing : Sharing) where
  abbrev pub is_shared : Name → Bool
  is_shared y = unwrap_or (sharing y) false

  -- a name that denotes what is held under a printed name, or that is free, where these locals are in scope
  abbrev pub name_clash : List Name → Option Name → Name → Option Name
  name_clash locals (Some y) x = if is_shared y || is_among y locals then Some y else None
  name_clash locals None x = if is_some (sharing x) then Some x else None

  abbrev pub own_clash : Name → Option Name
  own_clash y = if is_shared y then Some y else None

  module _ (printed : Name → Option Name) where
    abbrev pub names_clash : List Name → List Name → Option Name
    names_clash locals xs = first_some (λ x. name_clash locals (printed x) x) xs

    -- in a declaration with this printed name: before its name, its name, behind it, in its body
    abbrev pub declaration_clash : Name → Decl → Option Name
    declaration_clash y d =
        or_else (names_clash [] (names_before d)) (or_else (own_clash y) (or_else (names_clash [] (names_behind d)) (names_clash (locals d) (names_in_body d))))

    abbrev pub held_clash : Option Name → Decl → Option Name
    held_clash (Some y) d = declaration_clash y d
    held_clash None d = None

    -- in what is held among these declarations, where the first stands at this place
    abbrev pub clash_among : (ℕ → Option Name) → ℕ → List Decl → Option Name
    clash_among held place [] = None
    clash_among held place (d ∷ ds) = or_else (held_clash (held place) d) (clash_among held (place + 1) ds)

  abbrev pub module_clash : Loaded → Holding → Path × UnitTree → Option Name
  module_clash find held m = clash_among (λ x. printed_of held (outcome find m x)) (held m.0) 0 m.1.declarations

  abbrev pub clash_at : Loaded → Holding → Option (Path × UnitTree) → Option Name
  clash_at find held (Some m) = module_clash find held m
  clash_at find held None = None

  -- in the modules but the root's
  abbrev pub others_clash : LoadedModules → HeldNames → Path → List (String Global × Module) → Option Name
  others_clash ms held root es = first_some (λ e. if bytes_eq (string_bytes e.0) root then None else module_clash (loaded ms) (held_at held) (home_of e.1)) es

-- in what is held in the loaded modules: the root's first
abbrev pub unit_clash : LoadedModules → HeldNames → Path → Option Name
unit_clash ms held root =
    or_else (clash_at (sharing_in (held_names held ms.entries)) (loaded ms) (held_at held) (loaded ms root)) (others_clash (sharing_in (held_names held ms.entries)) ms held root ms.entries)
