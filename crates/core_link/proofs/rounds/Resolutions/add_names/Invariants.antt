use Rattle.std.proofs.Common.{◌≡◌, ◌++◌, drop}
use Rattle.std.specs.Prelude.{string_bytes}
use Rattle.core_link.specs.Clashing.{names_among}
use Rattle.core_reach.specs.Closing.{held_at}
use Rattle.core_link.specs.Assembling.{declaration_trees}
use Rattle.core_rename.specs.Scopes.{texts}
use Rattle.core_link.proofs.rounds.Resolutions.add_names.Given as goal

abbrev pub invariant-loop-place : goal.invariant-loop-place
invariant-loop-place l =
    texts l.found.items ++ names_among (held_at l.self.held (string_bytes l.«module».printed_path)) l.place (declaration_trees (drop l.place l.«module».unit.global_declarations))
    ≡ texts l.initial.found.items ++ names_among (held_at l.self.held (string_bytes l.«module».printed_path)) 0 (declaration_trees l.«module».unit.global_declarations)
