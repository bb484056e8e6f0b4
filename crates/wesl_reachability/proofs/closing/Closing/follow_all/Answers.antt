use Rattle.std.proofs.Common.{◌≡◌, ◌≤◌, refl, sym, ◌∙◌, length, Some, None, arith, ◌+◌}
use Rattle.std.specs.Prelude.{slice_get}
use Rattle.wgsl_base.proofs.Members.{to_contains}
use Rattle.wesl_reachability.specs.Closing.{AreDone, IsOpen, IsClosed}
use Rattle.wesl_reachability.proofs.Follows.{searches_same, searches_then, searches_to, done_more, all_done, none_behind, some_before, is_closed, closes_exactly}
use Rattle.wesl_reachability.proofs.closing.Closing.follow_all.Goals as goal

pub loop-at-init : goal.loop-at-init
loop-at-init c = record { searches = searches_same c.args.modules.now c.args.self.now; done = λ d. d; sound = λ root kept all_begin u. u; bounded = λ b. b }

pub loop-at-preserved : goal.loop-at-preserved
loop-at-preserved c =
    let ms = c.args.modules.now in
    let is : slice_get c.loop-at.self.holding.work.items c.loop-at.at ≡ Some c.in-Some.spot = sym c.spot_at.ensures ∙ c.in-Some.is in
    let s = searches_to ms c.loop-at.self c.follow_place.new.self _ c.in_ok-follow_place.ensures.searches refl refl refl refl refl in
    record {
      searches = searches_then ms c.args.self.now c.loop-at.self _ c.loop-at.invariant.searches s;
      done = λ d. done_more ms c.loop-at.self _ c.loop-at.at c.in-Some.spot (c.loop-at.invariant.done d) is s c.in_ok-follow_place.ensures.followed;
      sound = λ root kept all_begin u. c.in_ok-follow_place.ensures.sound root kept all_begin (to_contains c.loop-at.self.holding.work.items c.loop-at.at c.in-Some.spot is) (c.loop-at.invariant.sound root kept all_begin u);
      bounded = λ b. (let l = s.keeps.holding.longer in let w = some_before c.loop-at.self.holding.work.items c.loop-at.at c.in-Some.spot is in omega (arith, l, w));
    }

pub returns-in_default : goal.returns-in_default
returns-in_default c =
    let ms = c.args.modules.now in
    let enough : length c.loop-at.self.holding.work.items ≤ c.loop-at.at = none_behind c.loop-at.self.holding.work.items c.loop-at.at (sym c.spot_at.ensures ∙ c.in_default.is) in
    let done : AreDone ms c.args.self.now c.args.self.now.done → AreDone ms c.loop-at.self (length c.loop-at.self.holding.work.items) = λ d. all_done ms c.loop-at.self c.loop-at.at (c.loop-at.invariant.done d) enough in
    let closed : IsOpen ms c.args.self.now → IsClosed ms c.loop-at.self × IsOpen ms c.loop-at.self = λ o. is_closed ms c.args.self.now c.loop-at.self c.loop-at.invariant.searches done (c.loop-at.invariant.bounded o.bounded) o in
    record {
      searches = c.loop-at.invariant.searches;
      done = done;
      closed = closed;
      sound = c.loop-at.invariant.sound;
      exact = closes_exactly ms c.args.self.now c.loop-at.self c.loop-at.invariant.searches.keeps.holding closed c.loop-at.invariant.sound;
    }
