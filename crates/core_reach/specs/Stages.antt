-- What the code holds and asks for while it follows occurrences.
use Rattle.std.specs.Prelude.{ℕ, List, map, Bool, false, Option, Some, None, string_bytes}
use Rattle.std.specs.Ordering.{nat_cmp}
use Rattle.std.specs.Cmp.Lexicographic.{slice_cmp}
use Rattle.std.specs.BTreeSet.{contains_by}
use Rattle.std.specs.BTreeMap.{BTreeMap, get_by_text}
use Rattle.std.specs.declared.string.String.{String}
use Rattle.std.specs.declared.alloc.Global.{Global}
use Rattle.core_link_spec.specs.Occurrences.{Name}
use Rattle.core_link_spec.specs.Modules.{Path, Symbol}
use Rattle.core_scopes.specs.declared.denote.Symbol.{Symbol as Place}
use Rattle.core_reach.specs.declared.linking.AskedModule.{AskedModule}
use Rattle.core_reach.specs.Closing.{HeldNames, held_at}
use Rattle.core_reach.specs.Following.{Stage}

abbrev pub AskedNames : Type 0
AskedNames = BTreeMap (String Global) AskedModule

abbrev pub name_asked : Option AskedModule → Name → Bool
name_asked None x = false
name_asked (Some m) x = contains_by (λ k. slice_cmp nat_cmp x (string_bytes k)) m.names

-- whether an item of a module is sought
abbrev pub asks : AskedNames → Symbol → Bool
asks asked s = name_asked (get_by_text asked s.home) s.name

abbrev pub place_of : Place → Path × ℕ
place_of s = (string_bytes s.«module».now.printed_path, s.place)

abbrev pub stage : HeldNames → (Symbol → Bool) → Bool → List Place → Stage
stage held asks missing reached = record { held = held_at held; asks = asks; is_missing = missing; reached = map place_of reached }
