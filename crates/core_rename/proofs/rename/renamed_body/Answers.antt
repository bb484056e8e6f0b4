use Rattle.std.proofs.Common.{◌∙◌, ap, List, map}
use Rattle.core_syntax.specs.declared.declaration.FormalParameter.{FormalParameter}
use Rattle.core_syntax.specs.View.{block_tree, parameter_tree}
use Rattle.core_link_spec.specs.Occurrences.{parameter_names}
use Rattle.core_link_spec.specs.Linked.{renamed_block}
use Rattle.core_rename.proofs.Renames.{block_inside}
use Rattle.core_rename.proofs.rename.renamed_body.Goals as goal

pub returns : goal.returns
returns g c =
    c.in_ok-body.ensures
    ∙ block_inside (g.N.Naming.gives c.args.naming) c.in_ok-scope.scope (block_tree c.args.function.now.body)
    ∙ ap (λ names. renamed_block (g.N.Naming.gives c.args.naming) names (block_tree c.args.function.now.body))
    (c.in_ok-scope.ensures ∙ ap (λ (ps : List FormalParameter). parameter_names (map parameter_tree ps)) c.as_slice.ensures)
