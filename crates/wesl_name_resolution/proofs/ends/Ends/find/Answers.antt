use Rattle.std.proofs.Common.{◌≡◌, sym, ap, ◌∙◌, subst, take, length, ◌≤◌, arith}
use Rattle.std.proofs.lemmas.List.{take_more}
use Rattle.wesl_name_resolution.specs.Ends.{SetsAll}
use Rattle.wesl_name_resolution.proofs.Rows.{sets_more, take_all, found_right, found_none, found_keeps, found_first}
use Rattle.wesl_name_resolution.proofs.ends.Ends.find.Goals as goal

pub loop-via-preserved : goal.loop-via-preserved
loop-via-preserved c =
    subst (λ l. SetsAll c.walk.new.self.ends.items l c.in_ok-end.end c.set.new.self.ends.items) (sym (take_more c.as_slice-via-items.result.now c.loop-via.via-index _ c.loop-via-test.true))
    (sets_more c.walk.new.self.ends.items c.loop-via.self.ends.items c.set.new.self.ends.items (take c.loop-via.via-index c.as_slice-via-items.result.now) _ c.in_ok-end.end c.loop-via.invariant c.set.ensures)

pub returns-clause-right : goal.returns-clause-right
returns-clause-right c =
    let f = c.loop-via-test.false in
    let all : SetsAll c.walk.new.self.ends.items c.walk.new.met.items c.in_ok-end.end c.loop-via.self.ends.items =
    subst (λ l. SetsAll c.walk.new.self.ends.items l c.in_ok-end.end c.loop-via.self.ends.items) (take_all c.as_slice-via-items.result.now c.loop-via.via-index (omega (arith, f)) ∙ c.as_slice-via-items.ensures.value) c.loop-via.invariant in
    found_right c.args.modules.now c.args.self.now.ends.items c.walk.new.self.ends.items c.loop-via.self.ends.items c.args.first c.walk.new.met.items c.in_ok-end.end c.in_ok-end.ensures all

pub returns-clause-none_sought : goal.returns-clause-none_sought
returns-clause-none_sought c =
    let f = c.loop-via-test.false in
    let all : SetsAll c.walk.new.self.ends.items c.walk.new.met.items c.in_ok-end.end c.loop-via.self.ends.items =
    subst (λ l. SetsAll c.walk.new.self.ends.items l c.in_ok-end.end c.loop-via.self.ends.items) (take_all c.as_slice-via-items.result.now c.loop-via.via-index (omega (arith, f)) ∙ c.as_slice-via-items.ensures.value) c.loop-via.invariant in
    found_none c.args.modules.now c.args.self.now.ends.items c.walk.new.self.ends.items c.loop-via.self.ends.items c.args.first c.walk.new.met.items c.in_ok-end.end c.in_ok-end.ensures all

pub returns-clause-keeps : goal.returns-clause-keeps
returns-clause-keeps c =
    let f = c.loop-via-test.false in
    let all : SetsAll c.walk.new.self.ends.items c.walk.new.met.items c.in_ok-end.end c.loop-via.self.ends.items =
    subst (λ l. SetsAll c.walk.new.self.ends.items l c.in_ok-end.end c.loop-via.self.ends.items) (take_all c.as_slice-via-items.result.now c.loop-via.via-index (omega (arith, f)) ∙ c.as_slice-via-items.ensures.value) c.loop-via.invariant in
    found_keeps c.args.modules.now c.args.self.now.ends.items c.walk.new.self.ends.items c.loop-via.self.ends.items c.args.first c.walk.new.met.items c.in_ok-end.end c.in_ok-end.ensures all

pub returns-clause-first : goal.returns-clause-first
returns-clause-first c =
    let f = c.loop-via-test.false in
    let all : SetsAll c.walk.new.self.ends.items c.walk.new.met.items c.in_ok-end.end c.loop-via.self.ends.items =
    subst (λ l. SetsAll c.walk.new.self.ends.items l c.in_ok-end.end c.loop-via.self.ends.items) (take_all c.as_slice-via-items.result.now c.loop-via.via-index (omega (arith, f)) ∙ c.as_slice-via-items.ensures.value) c.loop-via.invariant in
    found_first c.args.modules.now c.args.self.now.ends.items c.walk.new.self.ends.items c.loop-via.self.ends.items c.args.first c.walk.new.met.items c.in_ok-end.end c.in_ok-end.ensures all
