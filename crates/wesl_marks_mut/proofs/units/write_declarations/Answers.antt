use Rattle.std.proofs.Common.{refl, ap, ◌∙◌, ◌<◌, ◌≤◌, length, arith, length-set}
use Rattle.wgsl_declarations.specs.View.{declaration_tree}
use Rattle.wesl_marks_mut.proofs.DeclarationLists.{maybe_declared, tree_at, declarations_wrote}
use Rattle.wesl_marks_mut.proofs.Each.{none_yet, wrote_more, later_same}
use Rattle.wesl_marks_mut.proofs.units.write_declarations.Goals as goal

pub loop-i-init : goal.loop-i-init
loop-i-init c = (refl, λ k d le. refl, none_yet)

pub loop-i-preserved : goal.loop-i-preserved
loop-i-preserved c =
    let same = c.loop-i.invariant.0 in
    let test = c.loop-i-test.true in
    let end = c.len-i-end.ensures in
    let within : c.loop-i.i < length c.loop-i.nodes = omega (arith, same, test, end) in (
      length-set c.loop-i.nodes c.loop-i.i _ ∙ same,
      later_same c.args.nodes.now c.loop-i.nodes c.loop-i.i _ c.loop-i.invariant.1,
      wrote_more maybe_declared tree_at c.loop-i.i c.args.nodes.now c.loop-i.nodes c.args.script.now.rest.items c.loop-i.script.rest.items c.write_declaration.new.script.rest.items c.get_mut.result.now _
          c.loop-i.invariant.2 within c.get_mut.ensures.value ((λ k. (c.write_declaration.ensures.tree k, c.write_declaration.ensures.rest k)) ∙ ap (λ v. maybe_declared (declaration_tree v) c.loop-i.script.rest.items) c.node_mut.ensures.value),
    )

pub returns-clause-tree : goal.returns-clause-tree
returns-clause-tree c =
    let test = c.loop-i-test.false in
    let end = c.len-i-end.ensures in
    let done : length c.args.nodes.now ≤ c.loop-i.i = omega (arith, test, end) in
    ap (λ r. r.0) (declarations_wrote c.loop-i.invariant.2 done)

pub returns-clause-rest : goal.returns-clause-rest
returns-clause-rest c =
    let test = c.loop-i-test.false in
    let end = c.len-i-end.ensures in
    let done : length c.args.nodes.now ≤ c.loop-i.i = omega (arith, test, end) in
    ap (λ r. r.1) (declarations_wrote c.loop-i.invariant.2 done)
