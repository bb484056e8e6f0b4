-- Clear names: whoever reads the printed unit by scope alone takes each name as meant (this project's own rule). The names of
-- declarations differ, and none is one that WGSL declares; no local has the name of a declaration or one that WGSL declares.
use Rattle.std.specs.Prelude.{ℕ, ◌+◌, List, [], ◌∷◌, ◌++◌, filter, nat_lt, Bool, false, ◌||◌, Option, Some, None, is_some}
use Rattle.core_syntax.specs.Tree.{Decl, UnitTree}
use Rattle.core_syntax.specs.Names.{declared_name}
use Rattle.core_validate.specs.Scopes.{Name, parameters_of, names, is_in}

-- a name of the table, or one of these
abbrev pub is_taken : List Name → List Name → Name → Bool
is_taken table taken x = is_in x table || is_in x taken

-- The unclear names of a declaration, in text order: its own, where a declaration before it has that name or the table; those of
-- its parameters that any declaration has or the table.
abbrev pub unclear_in : List Name → List Name → List Name → Decl → List Name
unclear_in table globals before d = filter (is_taken table before) (declared_name d ∷ []) ++ filter (is_taken table globals) (parameters_of d)

-- of declarations that stand after those of the names `before`
abbrev pub unclear_after : List Name → List Name → List Name → List Decl → List Name
unclear_after table globals before [] = []
unclear_after table globals before (d ∷ ds) = unclear_in table globals before d ++ unclear_after table globals (before ++ declared_name d ∷ []) ds

-- the unclear names of a unit, in text order
abbrev pub unclear : UnitTree → List Name → List Name
unclear unit table = unclear_after table (names unit) [] unit.declarations

-- ---- by a look-up, which says of each name that is declared where it is first

abbrev pub is_before : ℕ → Option ℕ → Bool
is_before at None = false
is_before at (Some first) = nat_lt first at

abbrev pub is_repeated_by : (Name → Option ℕ) → List Name → ℕ → Name → Bool
is_repeated_by look table at x = is_in x table || is_before at (look x)

abbrev pub is_declared_by : (Name → Option ℕ) → List Name → Name → Bool
is_declared_by look table x = is_in x table || is_some (look x)

-- the unclear names of the declaration at this position, by that look-up
abbrev pub unclear_by : (Name → Option ℕ) → List Name → ℕ → Decl → List Name
unclear_by look table at d = filter (is_repeated_by look table at) (declared_name d ∷ []) ++ filter (is_declared_by look table) (parameters_of d)

-- of the declarations from this position on
abbrev pub unclear_from : (Name → Option ℕ) → List Name → ℕ → List Decl → List Name
unclear_from look table at [] = []
unclear_from look table at (d ∷ ds) = unclear_by look table at d ++ unclear_from look table (at + 1) ds
