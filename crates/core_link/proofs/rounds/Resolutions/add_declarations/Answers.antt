use Rattle.std.proofs.Common.{◌∙◌, ℕ, Bool}
use Rattle.std.specs.Prelude.{is_some, string_bytes}
use Rattle.core_syntax.specs.Tree.{Decl}
use Rattle.core_link_spec.specs.Linked.{renamed_declaration}
use Rattle.core_scopes.specs.Outcomes.{loaded, home_of}
use Rattle.core_reach.specs.Closing.{held_at}
use Rattle.core_names.specs.Naming.{naming}
use Rattle.core_link.specs.Assembling.{linked_trees}
use Rattle.core_link.proofs.AssembleLemmas.{held_step, held_end}
use Rattle.core_link.proofs.rounds.Resolutions.add_declarations.Goals as goal

pub loop-place-preserved : goal.loop-place-preserved
loop-place-preserved c =
    let new : Decl → Decl = renamed_declaration (naming (loaded c.args.self.now.modules) (held_at c.args.self.now.held) (home_of c.args.«module».now)) in
    let held : ℕ → Bool = λ k. is_some (held_at c.args.self.now.held (string_bytes c.args.«module».now.printed_path) k) in
    held_step new held (linked_trees c.args.self.now.modules c.args.self.now.held c.loop-place.found.items) (linked_trees c.args.self.now.modules c.args.self.now.held c.add_held.new.found.items) c.args.«module».now.unit.global_declarations c.loop-place.place c.node-item.result
    (rw (← c.as_slice-node-items.ensures) c.loop-place-test.true) (rw (← c.as_slice-node-items.ensures) c.node-item.is) c.in_ok-add_held.ensures
    ∙ c.loop-place.invariant

pub returns : goal.returns
returns c =
    let new : Decl → Decl = renamed_declaration (naming (loaded c.args.self.now.modules) (held_at c.args.self.now.held) (home_of c.args.«module».now)) in
    let held : ℕ → Bool = λ k. is_some (held_at c.args.self.now.held (string_bytes c.args.«module».now.printed_path) k) in
    held_end new held (linked_trees c.args.self.now.modules c.args.self.now.held c.loop-place.found.items) c.args.«module».now.unit.global_declarations c.loop-place.place (rw (← c.as_slice-node-items.ensures) c.loop-place-test.false)
    ∙ c.loop-place.invariant
