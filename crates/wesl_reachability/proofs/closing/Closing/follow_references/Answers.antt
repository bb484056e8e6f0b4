use Rattle.std.proofs.Common.{◌≡◌, refl, sym, ◌∙◌, subst, ◌+◌, take, List, ℕ}
use Rattle.std.proofs.lemmas.List.{take_more}
use Rattle.wesl_reachability.specs.Closing.{AreFollowed}
use Rattle.wesl_reachability.proofs.Follows.{searches_same, searches_then, followed_none, followed_more, contains_at, take_all}
use Rattle.wesl_reachability.proofs.closing.Closing.follow_references.Goals as goal

pub loop-reference-init : goal.loop-reference-init
loop-reference-init c = record { searches = searches_same c.args.modules.now c.args.self.now; followed = followed_none c.args.self.now.followed.items c.args.number; sound = λ root kept all_begin used u. u; done = refl }

pub loop-reference-preserved : goal.loop-reference-preserved
loop-reference-preserved c =
    let i = c.loop-reference.reference-index in
    record {
      searches = searches_then c.args.modules.now c.args.self.now c.loop-reference.self c.follow.new.self c.loop-reference.invariant.searches c.in_ok-follow.ensures.searches;
      followed = subst (λ (l : List ℕ). AreFollowed c.follow.new.self.followed.items c.args.number l) (sym (take_more c.args.references.now i 0 c.loop-reference-test.true))
          (followed_more c.loop-reference.self.followed.items c.follow.new.self.followed.items c.args.number (take i c.args.references.now) _ c.loop-reference.invariant.followed
          (λ r x. c.in_ok-follow.ensures.searches.keeps.set c.args.number r x) (λ r. c.in_ok-follow.ensures.searches.keeps.room c.args.number r) c.in_ok-follow.ensures.followed);
      sound = λ root kept all_begin used u. c.in_ok-follow.ensures.sound root kept all_begin
          (λ find t. used find t _ (contains_at c.args.references.now i 0 c.loop-reference-test.true)) (c.loop-reference.invariant.sound root kept all_begin used u);
      done = c.follow.ensures.done ∙ c.loop-reference.invariant.done;
    }

pub returns-clause-followed : goal.returns-clause-followed
returns-clause-followed c =
    subst (λ (l : List ℕ). AreFollowed c.loop-reference.self.followed.items c.args.number l) (take_all c.args.references.now c.loop-reference.reference-index c.loop-reference-test.false) c.loop-reference.invariant.followed
