-- What a name stands for behind declarations, of which the innermost stand last.
use Rattle.std.specs.Prelude.{◌≡◌, ℕ, ◌<◌, ◌++◌, ◌∷◌, [], ◌⊎◌, List, Option, Some, None, Bool, true, false, fold, if◌then◌else◌, nat_eq, length, take, get_or}
use Rattle.std.specs.List.{list_all}
use Rattle.wesl_mark.specs.declared.scopes.Shadowing.{Shadowing}
use Rattle.wesl_mark.specs.declared.scopes.Entry.{Entry}
use Rattle.wesl_mark.specs.declared.scopes.Entry.TheVariants.{Start, Bound}

-- what a name stands for behind an entry
abbrev pub behind : ℕ → Option ℕ → Entry → Option ℕ
behind n so_far Start = so_far
behind n so_far (Bound b) = if nat_eq n b.name then Some b.value else so_far

-- what a name stands for
abbrev pub nearest : ℕ → List Entry → Option ℕ
nearest n trail = fold (behind n) None trail

-- each declaration keeps what its name stood for before it; no definition by cases, so that a ghost field may say it
abbrev pub AreKept : List Entry → Type 0
AreKept trail = (k : ℕ) (b : Shadowing) → k < length trail → get_or trail k Start ≡ Bound b → b.before ≡ nearest b.name (take k trail)

-- each name stands for what is in a table
abbrev pub IsTable : List (Option ℕ) → List Entry → Type 0
IsTable values trail = (n : ℕ) → get_or values n None ≡ nearest n trail

-- declarations alone
abbrev pub is_bound : Entry → Bool
is_bound Start = false
is_bound (Bound b) = true

-- `new` is `old` without its innermost scope
abbrev pub Leaves : List Entry → List Entry → Type 0
Leaves old new = (inside : List Entry) × (list_all is_bound inside ≡ true) × ((old ≡ new ++ Start ∷ inside) ⊎ ((new ≡ []) × (old ≡ inside)))
