use Rattle.std.proofs.Common.{◌≡◌, sym, ap, ◌∙◌, subst}
use Rattle.wgsl_instance.specs.Answer.{Answers}
use Rattle.wgsl_instance.specs.Parts.{member_position}
use Rattle.wgsl_memory.specs.Views.{member_found}
use Rattle.wgsl_memory.proofs.Viewing.{struct_viewed}
use Rattle.wgsl_memory.proofs.view.member_view.Goals as goal

pub returns-in-Struct : goal.returns-in-Struct
returns-in-Struct c =
    subst (λ w. Answers w c.struct_view.result)
    (ap (λ s. member_found c.args.whole.now c.args.name.now s.members (member_position c.args.name.now s.members)) c.get.ensures
    ∙ sym (struct_viewed c.args.whole.now c.args.name.now c.in-Struct.x c.in-Struct.is))
    c.struct_view.ensures
