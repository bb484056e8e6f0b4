use Rattle.std.proofs.Common.{◌≡◌, refl, sym, ap, ◌∙◌, subst, ℕ, ◌+◌, ◌<◌, List, [], ◌∷◌, ◌++◌, length, Some, None, arith, length-append}
use Rattle.wesl_chains.specs.Outlines.{Path, Finder}
use Rattle.wesl_chains.specs.Chains.{Leads, here}
use Rattle.wesl_chains.proofs.Loops.{leads_more}
use Rattle.wesl_module_index.specs.Loaded.{AreTabled}
use Rattle.wesl_name_resolution.specs.Links.{symbol_of}
use Rattle.wesl_name_resolution.proofs.Chains.{exhausted}
use Rattle.wesl_reachability.specs.Asking.{Waiting}
use Rattle.wesl_reachability.specs.Closing.{Seeks, LeadsOnTo, goes_on}
use Rattle.wesl_reachability.proofs.Goes.{seeks_same, seeks_then, seeks_missing, longer_chain}
use Rattle.wesl_reachability.proofs.Sound.{comes_round}
use Rattle.wesl_reachability.proofs.closing.Closing.seek.Goals as goal
use Rattle.wesl_reachability.proofs.closing.Closing.seek.Goals.{else-loop-item-test, then-loop-item-test+in_ok-further+in-Some+else-item-item-end}

pub loop-item-init : goal.loop-item-init
loop-item-init c = record { seeks = seeks_same c.args.modules.now (symbol_of c.args.first, c.args.before) c.args.self.now; chain = λ find t. ([], here, refl); done = refl }

pub returns-in-None-clause-seeks : goal.returns-in-None-clause-seeks
returns-in-None-clause-seeks c =
    seeks_then c.args.modules.now (symbol_of c.args.first, c.args.before) (symbol_of c.loop-item.link, c.loop-item.before) [] c.args.self.now c.loop-item.self c.go.new.self c.loop-item.invariant.seeks
    (subst (λ r. Seeks c.args.modules.now (symbol_of c.loop-item.link, c.loop-item.before) (goes_on r) c.loop-item.self c.go.new.self) c.in-None.is c.in_ok-further.ensures.seeks)

pub loop-item-preserved : goal.loop-item-preserved
loop-item-preserved c = record {
  seeks = seeks_then c.args.modules.now (symbol_of c.args.first, c.args.before) (symbol_of c.loop-item.link, c.loop-item.before) _ c.args.self.now c.loop-item.self c.go.new.self c.loop-item.invariant.seeks
      (subst (λ r. Seeks c.args.modules.now (symbol_of c.loop-item.link, c.loop-item.before) (goes_on r) c.loop-item.self c.go.new.self) c.in-Some.is c.in_ok-further.ensures.seeks);
  chain = λ find t. longer_chain find (symbol_of c.args.first) (symbol_of c.loop-item.link) (symbol_of c.in-Some.next) c.loop-item._item (c.loop-item.invariant.chain find t)
      (subst (λ r. LeadsOnTo find (symbol_of c.loop-item.link) (goes_on r)) c.in-Some.is (c.in_ok-further.ensures.leads find t));
  done = c.go.ensures.done ∙ c.loop-item.invariant.done;
}

pub returns-clause-seeks : goal.returns-clause-seeks
returns-clause-seeks c = elim c.loop-item-test.branch [
  | else-loop-item-test w ↦ (let low = c.loop-item.auto._item-end in let high = w.loop-item-test.false in absurd (omega (arith, low, high)))
  | then-loop-item-test+in_ok-further+in-Some+else-item-item-end w ↦
      (let ms = c.args.modules.now in
      let one : Waiting = (symbol_of c.args.first, c.args.before) in
      let two : Waiting = (symbol_of c.loop-item.link, c.loop-item.before) in
      let three : Waiting = (symbol_of w.in-Some.next, Some w.in-Some.via) in
      let a : Seeks ms one (three ∷ []) c.args.self.now w.go.new.self = seeks_then ms one two (three ∷ []) c.args.self.now c.loop-item.self w.go.new.self c.loop-item.invariant.seeks
      (subst (λ r. Seeks ms two (goes_on r) c.loop-item.self w.go.new.self) w.in-Some.is w.in_ok-further.ensures.seeks) in
      let l = c.note_missing.ensures.lacks in
      seeks_then ms one three [] c.args.self.now c.loop-item-test.self c.note_missing.new.self (subst (λ x. Seeks ms one (three ∷ []) c.args.self.now x) (sym w.self-is) a)
      (seeks_missing ms c.loop-item-test.self c.note_missing.new.self three l.holding l.chains c.note_missing.ensures.followed l.missing l.asked (λ find t root kept all_begin d.
      let x = longer_chain find (symbol_of c.args.first) (symbol_of c.loop-item.link) (symbol_of w.in-Some.next) c.loop-item._item (c.loop-item.invariant.chain find t)
      (subst (λ r. LeadsOnTo find (symbol_of c.loop-item.link) (goes_on r)) w.in-Some.is (w.in_ok-further.ensures.leads find t)) in
      let long : length x.0 ≡ c.loop-item._item + 1 = x.2 in
      let less : c.item_count-item-end.result < c.loop-item._item + 1 = omega arith in
      let more : c.item_count-item-end.result < length x.0 = omega (arith, long, less) in
      comes_round ms find t root kept all_begin (symbol_of w.in-Some.next) d
      (exhausted ms find t (symbol_of c.args.first) (symbol_of w.in-Some.next) x.0 x.1 c.item_count-item-end.result c.item_count-item-end.ensures more))))
]
