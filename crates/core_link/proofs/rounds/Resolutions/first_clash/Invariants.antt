use Rattle.std.proofs.Common.{◌≡◌, drop}
use Rattle.core_link.specs.Clashing.{names_clash, sharing_at}
use Rattle.core_names.specs.Naming.{printed_in}
use Rattle.core_rename.specs.Scopes.{texts}
use Rattle.core_link.proofs.rounds.Resolutions.first_clash.Given as goal

abbrev pub invariant-loop-name : goal.invariant-loop-name
invariant-loop-name l =
    names_clash (sharing_at l.sharing) (printed_in l.self.held l.self.modules l.«module») l.scope (texts (drop l.name-index l.names))
    ≡ names_clash (sharing_at l.sharing) (printed_in l.self.held l.self.modules l.«module») l.scope (texts l.names)
