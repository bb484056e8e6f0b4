-- The paths of modules, by number, and how many items their imports have.
use Rattle.std.specs.Prelude.{◌≡◌, ℕ, ◌+◌, List, [], ◌∷◌, length, Option, Some, slice_get, string_bytes, String}
use Rattle.std.specs.Option.{option_map}
use Rattle.std.specs.BTreeMap.{BTreeMap, get_by_text}
use Rattle.std.specs.declared.alloc.Global.{Global}
use Rattle.wesl_module_index.specs.declared.module.Module.{Module}

abbrev pub item_total : List Module → ℕ
item_total [] = 0
item_total (m ∷ ms) = length m.items.items + item_total ms

-- the printed path of the module of a number
abbrev pub home_in : List Module → ℕ → Option (List ℕ)
home_in ms n = option_map (λ m. string_bytes m.target.printed_path) (slice_get ms n)

-- the number of a printed path is that of a module at this path
abbrev pub AreKeyed : BTreeMap (String Global) ℕ → List Module → Type 0
AreKeyed numbers ms = (p : List ℕ) (n : ℕ) → get_by_text numbers p ≡ Some n → home_in ms n ≡ Some p
