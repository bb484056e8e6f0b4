use Rattle.std.proofs.Common.{ap, ⊎_elim, inl, inr}
use Rattle.wgsl_types.specs.Template.{counted}
use Rattle.wgsl_types.proofs.template.counted.Goals as goal

pub returns-in-Err : goal.returns-in-Err
returns-in-Err c = ⊎_elim (λ memory. inl memory) (λ none. inr (ap (counted c.args.ty.now) none.0, none.1)) c.in-Err.ensures
