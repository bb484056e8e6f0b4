use Rattle.std.proofs.Common.{◌≡◌, sym, ap, ◌∙◌, inr, string_bytes, take, Bool, true, false, not}
use Rattle.std.specs.BTreeSet.{contains_text}
use Rattle.std.proofs.lemmas.Map.Text.{btree_set_updates_text}
use Rattle.weslc_bundle.specs.declared.request.BundleError.TheVariants.{DuplicateModule}
use Rattle.weslc_bundle.proofs.Paths.{taken, taken_more, apart_more, first_twice}
use Rattle.weslc_bundle.proofs.bundle.check_paths.Goals as goal

of_not : (a b c : Bool) → a ≡ c → a ≡ not b → b ≡ not c
of_not true false c is e = ap not is
of_not false true c is e = ap not is
of_not true true c is e = cc
of_not false false c is e = cc

pub loop-module-preserved : goal.loop-module-preserved
loop-module-preserved c =
    let modules = c.args.modules.now in
    let i = c.loop-module.module-index in
    let m = c.module-item.result in
    let bs = string_bytes c.in_ok-to_string.field-0 in
    let free : taken (take i modules) bs ≡ false =
    sym (c.loop-module.invariant.same bs) ∙ of_not _ _ true c.if-not-branch.false c.in_ok-insert.ensures.added in
    record {
      same = λ q. taken_more modules i m bs q (contains_text c.loop-module.taken q) (contains_text c.insert.new.self q) c.loop-module-test.true c.module-item.is c.in_ok-to_string.ensures.ok
          (c.loop-module.invariant.same q) (btree_set_updates_text bs _ _ true c.in_ok-insert.ensures.updates q);
      apart = apart_more modules i m bs c.loop-module-test.true c.module-item.is c.in_ok-to_string.ensures.ok free c.loop-module.invariant.apart;
    }

pub returns-then-not-branch-clause-twice : goal.returns-then-not-branch-clause-twice
returns-then-not-branch-clause-twice c =
    let modules = c.args.modules.now in
    let i = c.loop-module.module-index in
    let m = c.module-item.result in
    let bs = string_bytes c.in_ok-to_string.field-0 in
    let found : taken (take i modules) bs ≡ true =
    sym (c.loop-module.invariant.same bs) ∙ of_not _ _ false c.if-not-branch.true c.in_ok-insert.ensures.added in
    inr (m.path, first_twice modules i m bs c.loop-module-test.true c.module-item.is c.in_ok-to_string.ensures.ok found c.loop-module.invariant.apart, ap DuplicateModule c.in_ok-clone_in.ensures)
