use Rattle.std.proofs.Common.{◌≡◌}
use Rattle.std.specs.Prelude.{string_bytes}
use Rattle.core_link.specs.Clashing.{others_clash, sharing_at}
use Rattle.core_link.proofs.rounds.Resolutions.clash_in_others.Given as goal

abbrev pub invariant-loop-text : goal.invariant-loop-text
invariant-loop-text l =
    others_clash (sharing_at l.sharing) l.self.modules l.self.held (string_bytes l.self.root) l.text-iterator
    ≡ others_clash (sharing_at l.sharing) l.self.modules l.self.held (string_bytes l.self.root) l.self.modules.entries
