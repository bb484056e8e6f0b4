use Rattle.std.proofs.Common.{◌≡◌, ◌++◌}
use Rattle.std.specs.Prelude.{string_bytes}
use Rattle.core_link.specs.Assembling.{linked_trees, others_linked}
use Rattle.core_link.proofs.rounds.Resolutions.add_others.Given as goal

abbrev pub invariant-loop-text : goal.invariant-loop-text
invariant-loop-text l =
    linked_trees l.self.modules l.self.held l.found.items ++ others_linked l.self.modules l.self.held (string_bytes l.self.root) l.text-iterator
    ≡ linked_trees l.self.modules l.self.held l.initial.found.items ++ others_linked l.self.modules l.self.held (string_bytes l.self.root) l.self.modules.entries
