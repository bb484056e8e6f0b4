use Rattle.std.proofs.Common.{◌≡◌, ◌++◌, drop, map}
use Rattle.std.specs.Prelude.{is_some, string_bytes}
use Rattle.core_link_spec.specs.Linked.{renamed_declaration}
use Rattle.core_scopes.specs.Outcomes.{loaded, home_of}
use Rattle.core_reach.specs.Closing.{held_at}
use Rattle.core_names.specs.Naming.{naming}
use Rattle.core_link.specs.Assembling.{held_among}
use Rattle.core_link.specs.Assembling.{declaration_trees, linked_trees}
use Rattle.core_link.proofs.rounds.Resolutions.add_declarations.Given as goal

abbrev pub invariant-loop-place : goal.invariant-loop-place
invariant-loop-place l =
    linked_trees l.self.modules l.self.held l.found.items
    ++ map (renamed_declaration (naming (loaded l.self.modules) (held_at l.self.held) (home_of l.«module»)))
    (held_among (λ k. is_some (held_at l.self.held (string_bytes l.«module».printed_path) k)) l.place (declaration_trees (drop l.place l.«module».unit.global_declarations)))
    ≡ linked_trees l.self.modules l.self.held l.initial.found.items
    ++ map (renamed_declaration (naming (loaded l.self.modules) (held_at l.self.held) (home_of l.«module»)))
    (held_among (λ k. is_some (held_at l.self.held (string_bytes l.«module».printed_path) k)) 0 (declaration_trees l.«module».unit.global_declarations))
