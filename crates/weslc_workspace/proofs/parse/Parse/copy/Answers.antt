use Rattle.std.proofs.Common.{◌∙◌, subst, Result}
use Rattle.wgsl_token.specs.declared.fault.error.Error.{Error}
use Rattle.wgsl_declarations.specs.declared.unit.TranslationUnit.{TranslationUnit}
use Rattle.weslc_workspace.specs.Outcome.{IsToldOf}
use Rattle.weslc_workspace.proofs.Copied.{copied, refused}
use Rattle.weslc_workspace.proofs.parse.Parse.copy.Goals as goal

pub returns-in_ok-clone_in-in-Ok : goal.returns-in_ok-clone_in-in-Ok
returns-in_ok-clone_in-in-Ok c = λ there told. copied there c.args.path.now c.in-Ok.unit c.in_ok-clone_in-in-Ok.field-0 (c.in_ok-clone_in-in-Ok.ensures ∙ c.get.ensures)
    (subst (λ (o : Result TranslationUnit Error). IsToldOf there o) c.in-Ok.is told)

pub returns-in-Err : goal.returns-in-Err
returns-in-Err c = λ there told. refused there c.args.path.now c.in-Err.error c.refusal.result c.refusal.ensures
    (subst (λ (o : Result TranslationUnit Error). IsToldOf there o) c.in-Err.is told)
