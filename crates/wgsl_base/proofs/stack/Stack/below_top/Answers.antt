use Rattle.std.proofs.Common.{◌∙◌, sym, ap, Some, reverse}
use Rattle.wgsl_base.specs.Tops.{second}
use Rattle.wgsl_base.proofs.Tops.{below_last}
use Rattle.wgsl_base.proofs.stack.Stack.below_top.Goals as goal

pub returns-in-len2-up : goal.returns-in-len2-up
returns-in-len2-up g c =
    ap Some c.below-item.is ∙ sym (below_last c.as_slice.result.now c.below-item.result c.in-len2-up.len_at_least)
    ∙ ap (λ l. second (reverse l)) c.as_slice.ensures.value ∙ ap second c.self.view_is
