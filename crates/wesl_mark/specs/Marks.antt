-- What marks say, with names in place of the numbers of tables.
use Rattle.std.specs.Prelude.{◌≡◌, ℕ, ◌<◌, Bool, true, nat_lt, List, [], ◌∷◌, length, Option, Some, None, option_map, unwrap_or, slice_get, String, string_bytes}
use Rattle.std.specs.List.{list_all}
use Rattle.std.specs.declared.alloc.Global.{Global}
use Rattle.wgsl_path.specs.declared.path.ModulePath.{ModulePath}
use Rattle.wesl_mark.specs.declared.names.Reference.{Reference}
use Rattle.wesl_mark.specs.declared.mark.Mark.{Mark}
use Rattle.wesl_mark.specs.declared.mark.Mark.TheVariants as code
use Rattle.wesl_mark.specs.Flats.{Flat, enters, leaves, declares, occurs}

abbrev pub Name : Type 0
Name = List ℕ

-- ---- tables

-- the name of a number
abbrev pub name_at : List (String Global) → ℕ → Option Name
name_at names n = option_map string_bytes (slice_get names n)

-- the same, which is empty where no name has this number
abbrev pub text_at : List (String Global) → ℕ → Name
text_at names n = unwrap_or (name_at names n) []

abbrev pub path_of : Option Reference → Option ModulePath
path_of None = None
path_of (Some r) = r.path

abbrev pub name_of : List (String Global) → Option Reference → Name
name_of names None = []
name_of names (Some r) = text_at names r.name

-- each number that `old` has is that of the same in `new`
abbrev pub Keeps : {A : Type 0} → List A → List A → Type 0
Keeps old new = (n : ℕ) → n < length old → slice_get new n ≡ slice_get old n

-- ---- marks

-- what a mark says: the numbers that are left are symbols, and how many arguments a call has
pub data Said : Type 0 where
  enter : Said
  leave : Said
  local : Name → Option ℕ → Said
  declared : Name → Option ℕ → Said
  member : Name → Said
  occurrence : Option ModulePath → Name → Option ℕ → Option ℕ → Bool → Bool → Said

abbrev pub said_by : List (String Global) → List Reference → Mark → Said
said_by names references code.Enter = enter
said_by names references code.Leave = leave
said_by names references (code.Local name symbol) = local (text_at names name) symbol
said_by names references (code.Declared name symbol) = declared (text_at names name) symbol
said_by names references (code.Member name) = member (text_at names name)
said_by names references (code.Occurs r symbol arguments is_custom is_templated) =
    occurrence (path_of (slice_get references r)) (name_of names (slice_get references r)) symbol arguments is_custom is_templated

-- what it says of scopes, locals and uses: the names of declarations and of members are neither
abbrev pub flat_of : Said → List Flat
flat_of enter = enters ∷ []
flat_of leave = leaves ∷ []
flat_of (local x symbol) = declares x ∷ []
flat_of (declared x symbol) = []
flat_of (member x) = []
flat_of (occurrence path x symbol arguments is_custom is_templated) = occurs path x ∷ []

-- ---- numbers within the tables

abbrev pub is_within : ℕ → ℕ → Mark → Bool
is_within names references code.Enter = true
is_within names references code.Leave = true
is_within names references (code.Local name symbol) = nat_lt name names
is_within names references (code.Declared name symbol) = nat_lt name names
is_within names references (code.Member name) = nat_lt name names
is_within names references (code.Occurs r symbol arguments is_custom is_templated) = nat_lt r references

-- the marks' numbers are those of names and references
abbrev pub AreWithin : List (String Global) → List Reference → List Mark → Type 0
AreWithin names references marks = list_all (is_within (length names) (length references)) marks ≡ true

-- the names of references are names
abbrev pub AreNamed : List (String Global) → List Reference → Type 0
AreNamed names references = list_all (λ r. nat_lt r.name (length names)) references ≡ true

-- no two numbers are of one name
abbrev pub AreApart : List (String Global) → Type 0
AreApart names = (m n : ℕ) (x : Name) → name_at names m ≡ Some x → name_at names n ≡ Some x → m ≡ n
