use Rattle.std.proofs.Common.{◌≡◌, refl, sym, ap, ◌∙◌, ℕ, List, map, []}
use Rattle.wgsl_path.specs.declared.ident.Ident.{Ident}
use Rattle.core_syntax.specs.View.{tree, node_tree, typed}
use Rattle.core_link_spec.specs.Linked.{renamed}
use Rattle.core_rename.specs.Renaming.{renamed_at}
use Rattle.core_rename.proofs.Renames.{renames_parenthesized, renames_unary, renames_binary, renames_call, renames_typed}
use Rattle.core_rename.proofs.rename.+renaming.Goals as goal

pub renamed_binary-returns : goal.renamed_binary-returns
renamed_binary-returns g t c =
    renames_binary (g.N.Naming.gives c.args.naming.now) c.args.x.now _ refl c.in_ok-renamed_node.ensures c.in_ok-renamed_node-2.ensures

pub renamed_call-returns : goal.renamed_call-returns
renamed_call-returns g t c =
    renames_call (g.N.Naming.gives c.args.naming.now) c.args.x.now _ c.in_ok-renamed_type.ensures
    (c.in_ok-renamed_nodes.ensures ∙ ap (map (λ n. renamed (g.N.Naming.gives c.args.naming.now) [] (node_tree n))) c.as_slice.ensures)

pub renamed_expression-returns-in_ok-renamed_node-in-Parenthesized : goal.renamed_expression-returns-in_ok-renamed_node-in-Parenthesized
renamed_expression-returns-in_ok-renamed_node-in-Parenthesized g t c =
    renames_parenthesized (g.N.Naming.gives c.args.naming.now) c.in-Parenthesized.x _ c.in_ok-renamed_node-in-Parenthesized.ensures
    ∙ sym (ap (λ e. renamed (g.N.Naming.gives c.args.naming.now) [] (tree e)) c.in-Parenthesized.is)

pub renamed_expression-returns-in_ok-renamed_node-in-Unary : goal.renamed_expression-returns-in_ok-renamed_node-in-Unary
renamed_expression-returns-in_ok-renamed_node-in-Unary g t c =
    renames_unary (g.N.Naming.gives c.args.naming.now) c.in-Unary.x _ refl c.in_ok-renamed_node-in-Unary.ensures
    ∙ sym (ap (λ e. renamed (g.N.Naming.gives c.args.naming.now) [] (tree e)) c.in-Unary.is)

pub renamed_type-returns : goal.renamed_type-returns
renamed_type-returns g t c =
    let r : List ℕ → List ℕ = g.N.Naming.gives c.args.naming.now in
    let name_is : c.new.result.name ≡ renamed_at r c.args.x.now.path c.args.x.now.ident.name =
    ap (λ (i : Ident). i.name) c.new.ensures ∙ c.in_ok-name.ensures ∙ ap (renamed_at r c.args.x.now.path) c.as_str.ensures in
    (λ k. typed tree (c.in_ok-path.ensures k) (name_is k) c.in_ok-template_args.template_args)
    ∙ renames_typed r c.args.x.now.path c.args.x.now.ident.name c.args.x.now.template_args c.in_ok-template_args.template_args c.in_ok-template_args.ensures
