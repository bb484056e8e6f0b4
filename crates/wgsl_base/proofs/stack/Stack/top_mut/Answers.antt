use Rattle.std.proofs.Common.{◌≡◌, ◌∙◌, ap, reverse, slice_set, ◌-◌}
use Rattle.std.specs.Vec.{vec_len}
use Rattle.wgsl_base.specs.Tops.{first, with_first}
use Rattle.wgsl_base.proofs.Tops.{copied_last, reverse_set_last}
use Rattle.wgsl_base.proofs.stack.Stack.top_mut.Goals as goal

pub returns : goal.returns
returns g c =
    let e : (w : g.row.T.Denot) → reverse (slice_set c.self.inside.items.items (vec_len c.self.inside.items - 1) w) ≡ with_first c.args.self.now w
    = λ w. reverse_set_last _ _ w c.self.inside.items.ok.0 ∙ ap (λ l. with_first l w) c.self.view_is in
    (simp (e, c.self.view_is), record { writes_back = tt; value = copied_last _ _ _ c.self.inside.items.ok.0 c.last_mut.ensures.variant.0 c.last_mut.ensures.variant.1 c.last_mut.ensures.value ∙ ap first c.self.view_is })
