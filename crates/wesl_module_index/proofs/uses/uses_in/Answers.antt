use Rattle.std.proofs.Common.{rules, ◌≡◌, ◌<◌, ◌≤◌, ap, sym, ◌∙◌, ◌++◌, Some, None, map, slice_get}
use Rattle.std.specs.Option.{option_copied}
use Rattle.std.proofs.lemmas.List.{append-nil}
use Rattle.wesl_mark.specs.declared.scopes.Scopes.{Scopes}
use Rattle.wgsl_skeleton.specs.Flats.{replayed}
use Rattle.wesl_module_index.specs.Uses.{read_at, trail_said, trail_after}
use Rattle.wesl_module_index.proofs.Bits.{item_at}
use Rattle.wesl_module_index.proofs.Trails.{uses_step, trail_step, none_step, between_past}
use Rattle.wesl_module_index.proofs.uses.uses_in.Goals as goal
use Rattle.wesl_module_index.proofs.uses.uses_in.Goals.{in-Some+in_ok-follow-in-Some, in-None}

pub loop-at-preserved : goal.loop-at-preserved
loop-at-preserved c =
    elim c.match-get.branch [
      | in-Some+in_ok-follow-in-Some w ↦
          let lt : c.loop-at.at < c.args.place.now.end = search rules in
          let is : slice_get c.args.list.now.marks.items c.loop-at.at ≡ Some w.in-Some.mark.now
          = sym (ap (λ xs. slice_get xs c.loop-at.at) c.marks.ensures) ∙ sym (item_at c.marks.result.now c.loop-at.at c.get.result c.get.ensures.lookup) ∙ ap option_copied w.in-Some.is in
          let scopes : c.match-get.scopes.trail.items ≡ w.follow.new.scopes.trail.items = ap (λ (s : Scopes). s.trail.items) w.scopes-is in
          let f = w.in_ok-follow-in-Some.ensures.follows in
          record {
            locals = rw scopes w.in_ok-follow-in-Some.ensures.locals;
            numbered = rw w.uses-is w.in_ok-follow-in-Some.ensures.numbered;
            uses = rw (scopes, w.uses-is) (uses_step c.args.list.now c.loop-at.at c.args.place.now.end w.in-Some.mark.now _ _ _ _ lt is w.in_ok-follow-in-Some.ensures.follows ∙ c.loop-at.invariant.uses);
            trail = rw scopes (trail_step c.args.list.now c.loop-at.at c.args.place.now.end w.in-Some.mark.now _ _ _ _ lt is w.in_ok-follow-in-Some.ensures.follows ∙ c.loop-at.invariant.trail);
          }
      | in-None w ↦
          let none : slice_get c.args.list.now.marks.items c.loop-at.at ≡ None
          = sym (ap (λ xs. slice_get xs c.loop-at.at) c.marks.ensures) ∙ sym (item_at c.marks.result.now c.loop-at.at c.get.result c.get.ensures.lookup) ∙ ap option_copied w.in-None.is in
          let same = none_step c.args.list.now c.loop-at.at c.args.place.now.end none in
          let scopes : c.match-get.scopes.trail.items ≡ c.loop-at.scopes.trail.items = ap (λ (s : Scopes). s.trail.items) w.scopes-is in
          record {
            locals = rw scopes c.loop-at.invariant.locals;
            numbered = rw w.uses-is c.loop-at.invariant.numbered;
            uses = rw (scopes, w.uses-is, same) c.loop-at.invariant.uses;
            trail = rw (scopes, same) c.loop-at.invariant.trail;
          }
    ]

pub returns-clause-uses : goal.returns-clause-uses
returns-clause-uses c =
    let past : c.args.place.now.end ≤ c.loop-at.at = search rules in
    sym (append-nil (map (read_at c.args.list.now) c.loop-at.uses.items))
    ∙ ap (λ fs. map (read_at c.args.list.now) c.loop-at.uses.items ++ replayed fs (trail_said c.args.list.now.names.keys c.loop-at.scopes.trail.items))
    (sym (between_past c.args.list.now c.loop-at.at c.args.place.now.end past))
    ∙ c.loop-at.invariant.uses

pub returns-clause-trail : goal.returns-clause-trail
returns-clause-trail c =
    let past : c.args.place.now.end ≤ c.loop-at.at = search rules in
    ap (λ fs. trail_after fs (trail_said c.args.list.now.names.keys c.loop-at.scopes.trail.items)) (sym (between_past c.args.list.now c.loop-at.at c.args.place.now.end past))
    ∙ c.loop-at.invariant.trail
