use Rattle.std.proofs.Common.{sym, ap, ◌∙◌, subst, Some}
use Rattle.core_syntax.specs.View.{declaration_tree}
use Rattle.core_eval.specs.Start.{valued}
use Rattle.core_eval.specs.Starts.{Tells}
use Rattle.core_eval.specs.Scopes.{seen}
use Rattle.core_eval.proofs.start.push_value.Goals as goal

pub returns-in-Some-Declaration : goal.returns-in-Some-Declaration
returns-in-Some-Declaration c ds cs h k =
    let x = c.args.name.now in
    let there = ap (λ d. Some (declaration_tree d)) (sym c.in-Some-Declaration.field-0-is) ∙ ap seen (sym c.in-Some-Declaration.is ∙ c.declaration.ensures) ∙ h x in
    subst (λ o. Tells c.push_const.new.consts (valued ds cs x o) c.push_const.result) there (c.push_const.ensures ds cs h k)

pub returns-in-Some-Function : goal.returns-in-Some-Function
returns-in-Some-Function c ds cs h k =
    let x = c.args.name.now in
    let there = ap (λ d. Some (declaration_tree d)) (sym c.in-Some-Function.field-0-is) ∙ ap seen (sym c.in-Some-Function.is ∙ c.declaration.ensures) ∙ h x in
    (cs, ap (valued ds cs x) (sym there), k)

pub returns-in-None : goal.returns-in-None
returns-in-None c ds cs h k =
    let x = c.args.name.now in
    let there = ap seen (sym c.in-None.is ∙ c.declaration.ensures) ∙ h x in
    (cs, ap (valued ds cs x) (sym there), k)
