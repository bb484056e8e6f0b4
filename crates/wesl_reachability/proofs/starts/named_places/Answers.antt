use Rattle.std.proofs.Common.{◌≡◌, ◌++◌, ◌+◌, ◌∙◌, sym, subst, take, [], List, ℕ}
use Rattle.std.specs.Prelude.{get_or}
use Rattle.std.proofs.lemmas.List.{take_more}
use Rattle.std.specs.HashMap.{get_by_text}
use Rattle.wesl_chains.specs.Outlines.{Name}
use Rattle.wesl_reachability.specs.Starts.{AreAll, IsNamed, spots_of}
use Rattle.wesl_reachability.proofs.Added.{no_names, names_more}
use Rattle.wesl_reachability.proofs.starts.named_places.Goals as goal

pub loop-name-init : goal.loop-name-init
loop-name-init c = subst (λ l. AreAll l (IsNamed c.args.root.now [])) (sym c.new-spots.ensures.items) (no_names c.args.root.now)

pub loop-name-preserved : goal.loop-name-preserved
loop-name-preserved c =
    let root = c.args.root.now in
    let keep = c.args.keep.now in
    let i = c.loop-name.name-index in
    let one = c.name-item.result in
    let new = c.add_named.new.spots.items in
    let old = c.loop-name.spots.items in
    subst (λ (l : List Name). AreAll new (IsNamed root l)) (sym (take_more keep i one c.loop-name-test.true))
    (names_more root (take i keep) (get_or keep i one) old new (subst (λ x. new ≡ old ++ spots_of (get_by_text root.scope x)) (c.as_str.ensures ∙ c.name-item.is) c.in_ok-add_named.ensures) c.loop-name.invariant)
