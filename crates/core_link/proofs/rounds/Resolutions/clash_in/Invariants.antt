use Rattle.std.proofs.Common.{◌≡◌, drop}
use Rattle.std.specs.Prelude.{string_bytes}
use Rattle.core_link.specs.Clashing.{clash_among, sharing_at}
use Rattle.core_reach.specs.Closing.{held_at}
use Rattle.core_names.specs.Naming.{printed_in}
use Rattle.core_link.specs.Assembling.{declaration_trees}
use Rattle.core_link.proofs.rounds.Resolutions.clash_in.Given as goal

abbrev pub invariant-loop-place : goal.invariant-loop-place
invariant-loop-place l =
    clash_among (sharing_at l.sharing) (printed_in l.self.held l.self.modules l.«module») (held_at l.self.held (string_bytes l.«module».printed_path)) l.place
    (declaration_trees (drop l.place l.«module».unit.global_declarations))
    ≡ clash_among (sharing_at l.sharing) (printed_in l.self.held l.self.modules l.«module») (held_at l.self.held (string_bytes l.«module».printed_path)) 0
    (declaration_trees l.«module».unit.global_declarations)
