use Rattle.std.proofs.Common.{◌≡◌, sym, ap, ◌∙◌, get_or, length, ◌≤◌, arith}
use Rattle.wesl_name_resolution.specs.Ends.{counts_of}
use Rattle.wesl_name_resolution.proofs.Rows.{settles_module, settled}
use Rattle.wesl_name_resolution.proofs.ends.Ends.new.Goals as goal

pub loop-module-preserved : goal.loop-module-preserved
loop-module-preserved c =
    let e : get_or (counts_of c.loop-item.ends.ends.items) c.loop-module.«module» 0 ≡ c.count-item-end.result =
    ap (λ ns. get_or ns c.loop-module.«module» 0) (c.loop-item.invariant.counts ∙ sym c.loop-module.invariant.counts) ∙ sym c.count-item-end.ensures in
    let f = c.loop-item-test.false in
    settles_module c.args.modules.now c.loop-item.ends.ends.items c.loop-module.«module» c.loop-item.item c.loop-item.invariant (omega (arith, e, f))

pub returns : goal.returns
returns c =
    let e = c.len-module-end.ensures in
    let f = c.loop-module-test.false in
    settled c.args.modules.now c.loop-module.ends c.loop-module.«module» c.loop-module.invariant (omega (arith, e, f))
