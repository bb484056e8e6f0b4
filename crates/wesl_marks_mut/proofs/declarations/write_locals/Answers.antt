use Rattle.std.proofs.Common.{refl, ap, ◌∙◌, ◌<◌, ◌≤◌, length, arith, length-set}
use Rattle.wgsl_declarations.specs.View.{parameter_tree}
use Rattle.wesl_marks_mut.specs.WrittenUnits.{parameter_named}
use Rattle.wesl_marks_mut.proofs.Each.{none_yet, wrote_more, wrote_all, later_same}
use Rattle.wesl_marks_mut.proofs.declarations.write_locals.Goals as goal

pub loop-i-init : goal.loop-i-init
loop-i-init c = (refl, λ k d le. refl, none_yet)

pub loop-i-preserved : goal.loop-i-preserved
loop-i-preserved c =
    let same = c.loop-i.invariant.0 in
    let test = c.loop-i-test.true in
    let end = c.len-i-end.ensures in
    let within : c.loop-i.i < length c.loop-i.parameters = omega (arith, same, test, end) in (
      length-set c.loop-i.parameters c.loop-i.i _ ∙ same,
      later_same c.args.parameters.now c.loop-i.parameters c.loop-i.i _ c.loop-i.invariant.1,
      wrote_more parameter_named parameter_tree c.loop-i.i c.args.parameters.now c.loop-i.parameters c.args.script.now.rest.items c.loop-i.script.rest.items c.write_local.new.script.rest.items c.get_mut.result.now _
          c.loop-i.invariant.2 within c.get_mut.ensures.value (λ k. (c.write_local.ensures.tree k, c.write_local.ensures.rest k)),
    )

pub returns-clause-tree : goal.returns-clause-tree
returns-clause-tree c =
    let test = c.loop-i-test.false in
    let end = c.len-i-end.ensures in
    let done : length c.args.parameters.now ≤ c.loop-i.i = omega (arith, test, end) in
    ap (λ r. r.0) (wrote_all parameter_named parameter_tree c.loop-i.invariant.2 done)

pub returns-clause-rest : goal.returns-clause-rest
returns-clause-rest c =
    let test = c.loop-i-test.false in
    let end = c.len-i-end.ensures in
    let done : length c.args.parameters.now ≤ c.loop-i.i = omega (arith, test, end) in
    ap (λ r. r.1) (wrote_all parameter_named parameter_tree c.loop-i.invariant.2 done)
