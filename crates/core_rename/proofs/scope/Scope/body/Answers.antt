use Rattle.std.proofs.Common.{map, take, sym, ap, ◌∙◌, ◌||◌}
use Rattle.std.specs.Str.{bytes_eq}
use Rattle.std.specs.List.{list_any}
use Rattle.std.specs.Ordering.{nat_cmp}
use Rattle.std.specs.Cmp.Lexicographic.{slice_cmp}
use Rattle.std.specs.BTreeMap.{is_at}
use Rattle.core_syntax.specs.View.{parameter_tree}
use Rattle.core_link_spec.specs.Occurrences.{is_among, parameter_names}
use Rattle.core_rename.proofs.SetLemmas.{insert_has, among_more}
use Rattle.core_rename.proofs.scope.Scope.body.Goals as goal

pub loop-parameter-preserved : goal.loop-parameter-preserved
loop-parameter-preserved c = λ x.
    let has = insert_has x c.loop-parameter.names.keys c.as_str.result in
    let more = among_more x c.args.parameters.now c.loop-parameter.parameter-index c.parameter-item.result c.loop-parameter-test.true in
    let before = c.loop-parameter.invariant x in
    ap (λ ks. list_any (is_at (λ k. slice_cmp nat_cmp x k.now)) ks) c.in_ok-insert.ensures.keys ∙ has ∙ ap (λ b. bytes_eq x c.as_str.result.now || b) before
    ∙ ap (λ n. bytes_eq x n || is_among x (parameter_names (map parameter_tree (take c.loop-parameter.parameter-index c.args.parameters.now)))) (c.as_str.ensures ∙ ap (λ p. p.ident.name) c.parameter-item.is)
    ∙ sym more
