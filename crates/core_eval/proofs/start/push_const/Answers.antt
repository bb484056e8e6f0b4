use Rattle.std.proofs.Common.{sym, ap, ◌∙◌, subst, ◌≡◌, ◌∷◌, ◌++◌, [], Some, Err}
use Rattle.wgsl_base.specs.Memory.{UnlessOutOfMemory}
use Rattle.core_syntax.specs.View.{declaration_tree}
use Rattle.core_syntax.specs.declared.declaration.GlobalDeclaration.TheVariants.{Declaration as TheDeclaration}
use Rattle.core_meaning.specs.Meaning.{const_in}
use Rattle.core_meaning.specs.ConstStage.{Consts, Scope, stage}
use Rattle.core_eval.specs.Scopes.{outside}
use Rattle.core_eval.specs.Start.{added}
use Rattle.core_eval.proofs.Refusals.{refusal}
use Rattle.core_eval.proofs.Tables.{scope_is}
use Rattle.core_eval.proofs.start.push_const.Goals as goal

pub returns-in_ok-add_value-in-Ok : goal.returns-in_ok-add_value-in-Ok
returns-in_ok-add_value-in-Ok c ds cs h k =
    let x = c.args.name.now in
    let d = Some (declaration_tree (TheDeclaration c.args.declared.now)) in (
      cs ++ (x, c.in-Ok.value) ∷ [],
      ap (λ s. added cs x (const_in (stage s) x d)) (sym (scope_is c.args.declarations.now c.args.consts.now ds cs h k)) ∙ ap (added cs x) c.in-Ok.ensures,
      c.in_ok-add_value-in-Ok.ensures cs k,
    )

pub returns-in-Err : goal.returns-in-Err
returns-in-Err c ds cs h k =
    let x = c.args.name.now in
    let d = Some (declaration_tree (TheDeclaration c.args.declared.now)) in
    subst (λ (s : Scope). UnlessOutOfMemory (λ r. added cs x (const_in (stage s) x d) ≡ Err r) c.refused.result) (scope_is c.args.declarations.now c.args.consts.now ds cs h k)
    (refusal {A = Consts} (λ z. z) cs x (const_in (stage (outside c.args.declarations.now c.args.consts.now)) x d) c.in-Err.error c.refused.result c.in-Err.ensures c.refused.ensures)
