use Rattle.std.proofs.Common.{sym, subst, Some}
use Rattle.std.specs.Option.{option_map}
use Rattle.core_syntax.specs.View.{tree, node_tree, type_tree}
use Rattle.core_meaning.specs.Meaning.{initial, initialized}
use Rattle.core_meaning.specs.ConstStage.{stage}
use Rattle.core_eval.specs.Ends.{Ends}
use Rattle.core_eval.specs.Scopes.{outside}
use Rattle.core_eval.proofs.typing.const_value.Goals as goal

pub returns-in-Some-ty : goal.returns-in-Some-ty
returns-in-Some-ty c =
    let w = stage (outside c.args.declarations.now c.args.consts.now) in
    let x = c.args.declared.now.ident.name in
    let r = c.initial_of_type.result in
    subst (λ o. Ends (initialized w x (option_map type_tree o) (option_map node_tree c.args.declared.now.initializer)) r) (sym c.in-Some-ty.is)
    (subst (λ o. Ends (initialized w x (Some (type_tree c.in-Some-ty.ty)) (option_map node_tree o)) r) (sym c.in-Some.is)
    (subst (λ e. Ends (initial w (Some (type_tree c.in-Some-ty.ty)) (tree e)) r) c.node.ensures c.initial_of_type.ensures))
