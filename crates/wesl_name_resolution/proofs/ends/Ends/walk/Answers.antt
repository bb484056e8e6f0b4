use Rattle.std.proofs.Common.{◌≡◌, sym, ap, ◌∙◌, subst, Some, None, ◌+◌, ◌<◌, arith, [], ◌∷◌, ◌++◌}
use Rattle.std.specs.Prelude.{◌≢◌}
use Rattle.std.specs.Option.{option_map}
use Rattle.wesl_chains.proofs.Loops.{same_some}
use Rattle.wesl_chains.specs.Outlines.{Finder}
use Rattle.wesl_chains.specs.Chains.{next, leads}
use Rattle.wesl_module_index.specs.Loaded.{AreTabled}
use Rattle.wesl_name_resolution.specs.declared.ends.End.TheVariants.{Unknown, ReferenceTarget, Never}
use Rattle.wesl_name_resolution.specs.Links.{symbol_of, symbol_via}
use Rattle.wesl_name_resolution.specs.Ends.{Walks, IsBehind, IsKnown}
use Rattle.wesl_name_resolution.proofs.Ways.{Underway, knows_told, stands_still, goes_on, ends_behind, goes_round}
use Rattle.wesl_name_resolution.proofs.ends.Ends.walk.Goals as goal

pub returns-then-is_known : goal.returns-then-is_known
returns-then-is_known c =
    subst (λ x. Walks c.args.modules.now c.args.self.now.ends.items c.args.first c.loop-item.met.items c.loop-item.self.ends.items x) (sym c.told.ensures)
    (knows_told c.args.modules.now c.args.self.now.ends.items c.args.first c.loop-item.via c.loop-item.met.items c.loop-item.self.ends.items c.loop-item._item c.loop-item.invariant
    c.get-known.result c.get-known.ensures (sym c.is_known.ensures ∙ c.if-is_known.true))

pub returns-in_default : goal.returns-in_default
returns-in_default c =
    let none : symbol_via c.args.modules.now c.loop-item.via ≡ None = sym c.link_via.ensures ∙ ap (option_map symbol_of) c.in_default.is in
    stands_still c.args.modules.now c.args.self.now.ends.items c.args.first c.loop-item.via c.loop-item.met.items c.loop-item.self.ends.items c.loop-item._item c.loop-item.invariant none

pub returns-in-Err : goal.returns-in-Err
returns-in-Err c =
    let ms = c.args.modules.now in
    let s = symbol_of c.in-Some.link in
    let is : symbol_via ms c.loop-item.via ≡ Some s = sym c.link_via.ensures ∙ ap (option_map symbol_of) c.in-Some.is in
    subst (λ l. Walks ms c.args.self.now.ends.items c.args.first l c.set.new.self.ends.items c.in-Err.end) (sym c.in_ok-push.ensures.items)
    (ends_behind ms c.args.self.now.ends.items c.args.first c.loop-item.via c.loop-item.met.items c.loop-item.self.ends.items c.loop-item._item c.loop-item.invariant
    c.set.new.self.ends.items c.set.ensures s is c.in-Err.end c.in-Err.ensures.known (λ find tabled. c.in-Err.ensures.behind find tabled is))

pub loop-item-preserved : goal.loop-item-preserved
loop-item-preserved c =
    let ms = c.args.modules.now in
    let s = symbol_of c.in-Some.link in
    let is : symbol_via ms c.loop-item.via ≡ Some s = sym c.link_via.ensures ∙ ap (option_map symbol_of) c.in-Some.is in
    let to = c.in-Ok.ensures.leads in
    subst (λ l. Underway ms c.args.self.now.ends.items c.args.first c.in-Ok.next l c.set.new.self.ends.items (c.loop-item._item + 1)) (sym c.in_ok-push.ensures.items)
    (goes_on ms c.args.self.now.ends.items c.args.first c.loop-item.via c.loop-item.met.items c.loop-item.self.ends.items c.loop-item._item c.loop-item.invariant
    c.set.new.self.ends.items c.set.ensures s is c.in-Ok.next to.0 to.1
    (λ find tabled. let b = c.in-Ok.ensures.behind find tabled is in subst (λ t. next find s ≡ leads t) (same_some (sym b.1 ∙ to.1)) b.2))

pub returns-in-Ok : goal.returns-in-Ok
returns-in-Ok c =
    let ms = c.args.modules.now in
    let s = symbol_of c.in-Some.link in
    let is : symbol_via ms c.loop-item.via ≡ Some s = sym c.link_via.ensures ∙ ap (option_map symbol_of) c.in-Some.is in
    let to = c.in-Ok.ensures.leads in
    subst (λ l. Walks ms c.args.self.now.ends.items c.args.first l c.set.new.self.ends.items Never) (sym c.in_ok-push.ensures.items)
    (goes_round ms c.args.self.now.ends.items c.args.first c.in-Ok.next (c.loop-item.met.items ++ c.loop-item.via ∷ []) c.set.new.self.ends.items (c.loop-item._item + 1)
    (goes_on ms c.args.self.now.ends.items c.args.first c.loop-item.via c.loop-item.met.items c.loop-item.self.ends.items c.loop-item._item c.loop-item.invariant
    c.set.new.self.ends.items c.set.ensures s is c.in-Ok.next to.0 to.1
    (λ find tabled. let b = c.in-Ok.ensures.behind find tabled is in subst (λ t. next find s ≡ leads t) (same_some (sym b.1 ∙ to.1)) b.2))
    c.item_count-item-end.result c.item_count-item-end.ensures (omega arith))
