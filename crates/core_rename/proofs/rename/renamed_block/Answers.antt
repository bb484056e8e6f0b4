use Rattle.std.proofs.Common.{sym, ap, ◌∙◌, List, map, []}
use Rattle.wgsl_path.specs.declared.span.Spanned.{Spanned}
use Rattle.core_syntax.specs.declared.statement.Statement.{Statement}
use Rattle.core_syntax.specs.View.{statement_tree}
use Rattle.core_link_spec.specs.Linked.{renamed_statement}
use Rattle.core_rename.proofs.Renames.{statements_renamed}
use Rattle.core_rename.proofs.rename.renamed_block.Goals as goal

pub returns : goal.returns
returns g c =
    let statements =
    c.in_ok-statements.ensures
    ∙ ap (λ (xs : List (Spanned Statement)). map (λ n. renamed_statement (g.N.Naming.gives c.args.naming.now) [] (statement_tree n.node)) xs) c.as_slice.ensures
    ∙ sym (statements_renamed (g.N.Naming.gives c.args.naming.now) c.args.block.now.statements) in
    λ k. record { attributes = c.in_ok-attributes.ensures k; statements = statements k }
