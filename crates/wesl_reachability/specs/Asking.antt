-- What is asked for.
use Rattle.std.specs.Prelude.{◌≡◌, ◌⊎◌, ⊤, ℕ, List, [], ◌∷◌, ◌++◌, map, Option, Some, None, string_bytes}
use Rattle.wesl_chains.specs.Outlines.{Symbol}
use Rattle.wesl_name_resolution.specs.declared.denote.Via.{Via}
use Rattle.wesl_name_resolution.specs.declared.denote.Link.{Link}
use Rattle.wesl_name_resolution.specs.Links.{symbol_of}
use Rattle.wesl_reachability.specs.declared.asked.Pending.{Pending}
use Rattle.wesl_reachability.specs.declared.asked.Asked.{Asked}

-- what is sought, and the import that names it
abbrev pub Waiting : Type 0
Waiting = Symbol × Option Via

abbrev pub waits_for : Pending → Waiting
waits_for p = (record { home = string_bytes p.target.printed_path; name = p.name }, p.before)

abbrev pub waiting : Asked → List Waiting
waiting a = map waits_for a.pending.items
