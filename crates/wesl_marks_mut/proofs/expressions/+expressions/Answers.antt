use Rattle.std.proofs.Common.{refl, ap, ◌∙◌, ◌<◌, ◌≤◌, length, arith, length-set}
use Rattle.wgsl_expressions.specs.View.{tree, node_tree}
use Rattle.wesl_marks_mut.specs.Written.{written}
use Rattle.wesl_marks_mut.proofs.Each.{wrote_all, none_yet, wrote_more, list_written, later_same}
use Rattle.wesl_marks_mut.proofs.expressions.+expressions.Goals as goal

pub write_expressions-loop-i-init : goal.write_expressions-loop-i-init
write_expressions-loop-i-init t c = (refl, λ k d le. refl, none_yet)

pub write_expressions-loop-i-preserved : goal.write_expressions-loop-i-preserved
write_expressions-loop-i-preserved t c =
    let same = c.loop-i.invariant.0 in
    let test = c.loop-i-test.true in
    let end = c.len-i-end.ensures in
    let within : c.loop-i.i < length c.loop-i.nodes = omega (arith, same, test, end) in (
      length-set c.loop-i.nodes c.loop-i.i _ ∙ same,
      later_same c.args.nodes.now c.loop-i.nodes c.loop-i.i _ c.loop-i.invariant.1,
      wrote_more written (node_tree) c.loop-i.i c.args.nodes.now c.loop-i.nodes c.args.script.now.rest.items c.loop-i.script.rest.items c.write_expression.new.script.rest.items c.get_mut.result.now _
          c.loop-i.invariant.2 within c.get_mut.ensures.value ((λ k. (c.write_expression.ensures.tree k, c.write_expression.ensures.rest k)) ∙ ap (λ v. written (tree v) c.loop-i.script.rest.items) c.node_mut.ensures.value),
    )

pub write_expressions-returns-clause-tree : goal.write_expressions-returns-clause-tree
write_expressions-returns-clause-tree t c =
    let test = c.loop-i-test.false in
    let end = c.len-i-end.ensures in
    let done : length c.args.nodes.now ≤ c.loop-i.i = omega (arith, test, end) in
    ap (λ r. r.0) (list_written (node_tree) c.loop-i.invariant.2 done)

pub write_expressions-returns-clause-rest : goal.write_expressions-returns-clause-rest
write_expressions-returns-clause-rest t c =
    let test = c.loop-i-test.false in
    let end = c.len-i-end.ensures in
    let done : length c.args.nodes.now ≤ c.loop-i.i = omega (arith, test, end) in
    ap (λ r. r.1) (list_written (node_tree) c.loop-i.invariant.2 done)

pub write_expressions-returns-clause-list : goal.write_expressions-returns-clause-list
write_expressions-returns-clause-list t c =
    let test = c.loop-i-test.false in
    let end = c.len-i-end.ensures in
    let done : length c.args.nodes.now ≤ c.loop-i.i = omega (arith, test, end) in
    ap (λ r. r.0) (wrote_all written (node_tree) c.loop-i.invariant.2 done)

pub write_expressions-returns-clause-behind : goal.write_expressions-returns-clause-behind
write_expressions-returns-clause-behind t c =
    let test = c.loop-i-test.false in
    let end = c.len-i-end.ensures in
    let done : length c.args.nodes.now ≤ c.loop-i.i = omega (arith, test, end) in
    ap (λ r. r.1) (wrote_all written (node_tree) c.loop-i.invariant.2 done)

pub write_arguments-loop-i-init : goal.write_arguments-loop-i-init
write_arguments-loop-i-init t c = (refl, λ k d le. refl, none_yet)

pub write_arguments-loop-i-preserved : goal.write_arguments-loop-i-preserved
write_arguments-loop-i-preserved t c =
    let same = c.loop-i.invariant.0 in
    let test = c.loop-i-test.true in
    let end = c.len-i-end.ensures in
    let within : c.loop-i.i < length c.loop-i.arguments = omega (arith, same, test, end) in (
      length-set c.loop-i.arguments c.loop-i.i _ ∙ same,
      later_same c.args.arguments.now c.loop-i.arguments c.loop-i.i _ c.loop-i.invariant.1,
      wrote_more written (λ a. node_tree a.expression) c.loop-i.i c.args.arguments.now c.loop-i.arguments c.args.script.now.rest.items c.loop-i.script.rest.items c.write_expression.new.script.rest.items c.get_mut.result.now _
          c.loop-i.invariant.2 within c.get_mut.ensures.value ((λ k. (c.write_expression.ensures.tree k, c.write_expression.ensures.rest k)) ∙ ap (λ v. written (tree v) c.loop-i.script.rest.items) c.node_mut.ensures.value),
    )

pub write_arguments-returns-clause-tree : goal.write_arguments-returns-clause-tree
write_arguments-returns-clause-tree t c =
    let test = c.loop-i-test.false in
    let end = c.len-i-end.ensures in
    let done : length c.args.arguments.now ≤ c.loop-i.i = omega (arith, test, end) in
    ap (λ r. r.0) (list_written (λ a. node_tree a.expression) c.loop-i.invariant.2 done)

pub write_arguments-returns-clause-rest : goal.write_arguments-returns-clause-rest
write_arguments-returns-clause-rest t c =
    let test = c.loop-i-test.false in
    let end = c.len-i-end.ensures in
    let done : length c.args.arguments.now ≤ c.loop-i.i = omega (arith, test, end) in
    ap (λ r. r.1) (list_written (λ a. node_tree a.expression) c.loop-i.invariant.2 done)
