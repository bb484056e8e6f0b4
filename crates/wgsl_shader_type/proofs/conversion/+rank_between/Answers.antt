use Rattle.std.proofs.Common.{sym, ap, ◌∙◌, cond, Some, None}
use Rattle.wgsl_shader_type.proofs.Ranks.{rank_otherwise}
use Rattle.wgsl_shader_type.proofs.conversion.+rank_between.Goals as goal

pub returns-then-eq-2 : goal.returns-then-eq-2
returns-then-eq-2 t c =
    sym (rank_otherwise c.args.from.now c.args.to.now c.in_default.not-AbstractInt c.in_default.not-AbstractFloat c.in_default.not-Array c.in_default.not-Vec
    ∙ ap (λ s. cond s (Some 0) None) (sym c.eq-in_default.ensures ∙ c.if-eq-2.true))

pub returns-else-eq-2 : goal.returns-else-eq-2
returns-else-eq-2 t c =
    sym (rank_otherwise c.args.from.now c.args.to.now c.in_default.not-AbstractInt c.in_default.not-AbstractFloat c.in_default.not-Array c.in_default.not-Vec
    ∙ ap (λ s. cond s (Some 0) None) (sym c.eq-in_default.ensures ∙ c.if-eq-2.false))
