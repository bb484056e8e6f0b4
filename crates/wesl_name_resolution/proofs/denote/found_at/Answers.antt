use Rattle.std.proofs.Common.{sym, ap, ◌∙◌, ◌≡◌, Some, slice_get, ℕ, ◌+◌, ◌-◌, ◌*◌, ◌<◌, ◌≤◌, length, ◌/◌, ◌%◌, Bool, true, false, nat_eq, nat_lt, List, [], ◌∷◌, ◌++◌, slice_index_or, slice_set, bit_and, bit_or, Fits, w8, w32, w64, Bor, MutBor}
use Rattle.std.specs.Option.{option_copied}
use Rattle.wesl_module_index.specs.declared.modules.Modules.{Modules}
use Rattle.wesl_module_index.specs.Tables.{import_said, import_at, symbol_named}
use Rattle.wesl_module_index.specs.Loaded.{AreTabled}
use Rattle.wesl_chains.specs.Outlines.{Path, Symbol, Finder}
use Rattle.wesl_chains.specs.Chains.{next, missing}
use Rattle.wesl_name_resolution.specs.Links.{symbol_of, symbol_via, step_of, item_step, IsFoundIn, outcome_of, StopsAs}
use Rattle.wesl_name_resolution.specs.Ends.{AreEnds, Starts, IsDenotation, ComesTo}
use Rattle.wesl_name_resolution.proofs.denote.found_at.Goals as goal

-- src/denote.rt:67:1
pub returns-in-Some-Imported-clause-found : goal.returns-in-Some-Imported-clause-found
returns-in-Some-Imported-clause-found c = c.found_by.ensures.found c.args.modules.now _ (sym c.get.ensures ∙ ap option_copied c.in-Some-get.is)
