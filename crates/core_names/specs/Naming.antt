-- The names of the linked unit for the names that occur.
use Rattle.std.specs.Prelude.{Option, Some, None}
use Rattle.std.specs.BTreeMap.{BTreeMap}
use Rattle.std.specs.declared.string.String.{String}
use Rattle.std.specs.declared.alloc.Global.{Global}
use Rattle.core_link_spec.specs.Occurrences.{Name}
use Rattle.core_syntax.specs.Tree.{UnitTree}
use Rattle.core_link_spec.specs.Modules.{Path}
use Rattle.core_scopes.specs.Outcomes.{Outcome, symbol_at, unloaded, missing, private, free, Loaded, outcome, loaded, home_of}
use Rattle.core_reach.specs.Reach.{Holding}
use Rattle.core_reach.specs.Closing.{HeldNames, held_at}
use Rattle.core_scopes.specs.declared.module.Module.{Module}

-- the printed name of what an outcome denotes, where it is held
abbrev pub printed_of : Holding → Outcome → Option Name
printed_of held (symbol_at m place) = held m place
printed_of held (unloaded s) = None
printed_of held (missing s) = None
printed_of held (private s) = None
printed_of held free = None

abbrev pub named_or : Option Name → Name → Name
named_or (Some y) x = y
named_or None x = x

-- the new name of a name of a module
abbrev pub naming : Loaded → Holding → Path × UnitTree → Name → Name
naming find held m x = named_or (printed_of held (outcome find m x)) x

-- the printed name of the held declaration that a name of a module denotes
abbrev pub printed_in : HeldNames → BTreeMap (String Global) Module → Module → Name → Option Name
printed_in held modules m x = printed_of (held_at held) (outcome (loaded modules) (home_of m) x)
