use Rattle.std.proofs.Common.{◌≡◌, ◌∙◌, ◌++◌, [], sym, ap, subst}
use Rattle.std.specs.Prelude.{string_bytes}
use Rattle.core_link_spec.specs.Linked.{IsLinked}
use Rattle.core_scopes.specs.Outcomes.{loaded}
use Rattle.core_reach.specs.Closing.{held_at}
use Rattle.core_reach.specs.Resolved.{modules_of}
use Rattle.core_link.specs.Assembling.{linked_at, linked_trees, others_linked, assembled}
use Rattle.core_link.proofs.ResolvedLemmas.{assembled_linked}
use Rattle.core_link.proofs.rounds.Resolutions.held_declarations.Goals as goal

pub returns-clause-linked : goal.returns-clause-linked
returns-clause-linked c = λ keep r.
    let ms = c.args.self.now.modules in
    let held = c.args.self.now.held in
    let root = string_bytes c.args.self.now.root in
    let trees : linked_trees ms held c.add_others.new.found.items ≡ (assembled ms held root).declarations
    = c.in_ok-add_others.ensures.trees
    ∙ ap (λ ds. ds ++ others_linked ms held root ms.entries) (c.in_ok-add_root.ensures ∙ ap (λ ds. linked_trees ms held ds ++ linked_at (loaded ms) (held_at held) (loaded ms root)) c.new-found.ensures.items) in
    subst (λ ds. IsLinked (modules_of ms) root keep (record { imports = []; declarations = ds })) (sym trees)
    (assembled_linked ms r.keyed c.add_others.ensures.ordered held root keep r)
