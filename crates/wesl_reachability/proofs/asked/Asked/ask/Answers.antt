use Rattle.std.proofs.Common.{ap, ◌∙◌, ◌++◌, ◌∷◌, [], map}
use Rattle.std.proofs.lemmas.List.{map-append}
use Rattle.wesl_reachability.specs.Asking.{waits_for, waiting}
use Rattle.wesl_reachability.proofs.asked.Asked.ask.Goals as goal

pub returns : goal.returns
returns c =
    ap (map waits_for) c.in_ok-push.ensures.items ∙ map-append waits_for c.args.self.now.pending.items (c.in_ok-pending.pending ∷ [])
    ∙ ap (λ x. waiting c.args.self.now ++ x ∷ []) c.in_ok-pending.ensures
