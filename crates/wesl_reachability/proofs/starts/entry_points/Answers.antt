use Rattle.std.proofs.Common.{◌≤◌, sym, ◌∙◌, subst}
use Rattle.wesl_reachability.specs.Holding.{Answers}
use Rattle.wesl_reachability.specs.Starts.{StandsAsEntryPoint}
use Rattle.wesl_reachability.proofs.Added.{AreEntryPoints, no_entry_points, entry_points_more, all_entry_points}
use Rattle.wesl_reachability.proofs.starts.entry_points.Goals as goal

pub loop-place-init : goal.loop-place-init
loop-place-init c = subst (λ l. AreEntryPoints c.args.root.now 0 l) (sym c.new-spots.ensures.items) (no_entry_points c.args.root.now)

pub loop-place-preserved : goal.loop-place-preserved
loop-place-preserved c =
    entry_points_more c.args.root.now c.loop-place.place c.loop-place.spots.items c.add_if.new.spots.items c.is_entry_point-is_one.result
    (subst (λ l. Answers c.is_entry_point-is_one.result (StandsAsEntryPoint l c.loop-place.place)) c.as_slice.ensures.value c.is_entry_point-is_one.ensures) c.in_ok-add_if.ensures c.loop-place.invariant

pub returns : goal.returns
returns c =
    all_entry_points c.args.root.now c.loop-place.place c.loop-place.spots.items
    (subst (λ k. k ≤ c.loop-place.place) (c.len-place-end.ensures ∙ c.args.root.now.places.ok.0) c.loop-place-test.false) c.loop-place.invariant
