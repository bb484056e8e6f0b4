use Rattle.std.proofs.Common.{◌≡◌, ◌≤◌, length, sym, ap, ◌∙◌, subst, List, [], ◌∷◌, ◌+◌, drop, map}
use Rattle.std.specs.Prelude.{get_or}
use Rattle.wesl_reachability.specs.declared.asked.Pending.{Pending}
use Rattle.wesl_reachability.specs.Asking.{Waiting, waits_for, waiting}
use Rattle.wesl_reachability.specs.Closing.{Seeks, SeeksAll}
use Rattle.wesl_reachability.proofs.Goes.{seeks_none, seeks_next, drop_next}
use Rattle.wesl_reachability.proofs.Passes.{drop_all}
use Rattle.wesl_reachability.proofs.closing.Closing.seek_asked.Goals as goal

pub loop-pending-init : goal.loop-pending-init
loop-pending-init c = seeks_none c.args.modules.now (waiting c.args.asked.now) c.args.self.now

pub loop-pending-preserved : goal.loop-pending-preserved
loop-pending-preserved c =
    let ms = c.args.modules.now in
    let all = waiting c.args.asked.now in
    let i = c.loop-pending.pending-index in
    let xs = c.deref-pending-items.result.now in
    let v = c.deref-pending-items.ensures.value in
    let p = c.pending-item.result in
    let a : SeeksAll ms all (map waits_for (drop i xs)) c.args.self.now c.loop-pending.self
    = subst (λ (l : List Pending). SeeksAll ms all (map waits_for (drop i l)) c.args.self.now c.loop-pending.self) (sym v) c.loop-pending.invariant in
    let b = subst (λ (l : List Waiting). SeeksAll ms all l c.args.self.now c.loop-pending.self) (ap (map waits_for) (drop_next xs i p c.loop-pending-test.true)) a in
    subst (λ (l : List Pending). SeeksAll ms all (map waits_for (drop (i + 1) l)) c.args.self.now c.seek_pending.new.self) v
    (seeks_next ms all (map waits_for (drop (i + 1) xs)) (waits_for (get_or xs i p)) c.args.self.now c.loop-pending.self c.seek_pending.new.self b
    (subst (λ (x : Pending). Seeks ms (waits_for x) [] c.loop-pending.self c.seek_pending.new.self) c.pending-item.is c.in_ok-seek_pending.ensures))

pub returns : goal.returns
returns c =
    let i = c.loop-pending.pending-index in
    let enough : length c.args.asked.now.pending.items ≤ i = subst (λ (l : List Pending). length l ≤ i) c.deref-pending-items.ensures.value c.loop-pending-test.false in
    subst (λ (l : List Waiting). SeeksAll c.args.modules.now (waiting c.args.asked.now) l c.args.self.now c.loop-pending.self) (ap (map waits_for) (drop_all c.args.asked.now.pending.items i enough)) c.loop-pending.invariant
