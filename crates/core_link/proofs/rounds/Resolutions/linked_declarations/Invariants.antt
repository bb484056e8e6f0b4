use Rattle.std.proofs.Common.{◌≡◌, ◌++◌, drop}
use Rattle.core_link.specs.Assembling.{declaration_trees, linked_trees}
use Rattle.core_link.proofs.rounds.Resolutions.linked_declarations.Given as goal

-- the declarations so far, and those that are left
abbrev pub invariant-loop-declaration : goal.invariant-loop-declaration
invariant-loop-declaration l =
    declaration_trees l.declarations ++ linked_trees l.self.modules l.self.held (drop l.declaration-index l.held) ≡ linked_trees l.self.modules l.self.held l.held
