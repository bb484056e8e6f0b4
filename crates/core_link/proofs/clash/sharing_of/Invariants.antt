use Rattle.std.proofs.Common.{◌≡◌, take}
use Rattle.core_link.specs.Clashing.{sharing_at, sharing_in}
use Rattle.core_rename.specs.Scopes.{texts}
use Rattle.core_link.proofs.clash.sharing_of.Given as goal

abbrev pub invariant-loop-name : goal.invariant-loop-name
invariant-loop-name l = sharing_at l.sharing ≡ sharing_in (texts (take l.name-index l.names))
