use Rattle.std.proofs.Common.{ap, sym, ◌∙◌}
use Rattle.std.specs.Prelude.{true, false}
use Rattle.std.proofs.lemmas.Map.Text.{hash_map_updates_str}
use Rattle.core_syntax.specs.View.{declaration_tree}
use Rattle.core_syntax.specs.Names.{declared_name}
use Rattle.core_validate.specs.Lookups.{lookup}
use Rattle.core_validate.proofs.PositionLemmas.{known_from}
use Rattle.core_validate.proofs.FaultLemmas.{looks_up_more, looks_up_same}
use Rattle.core_validate.proofs.index.first_positions.Goals as goal

pub loop-position-preserved : goal.loop-position-preserved
loop-position-preserved c =
    let ds = c.args.declarations.now in
    let i = c.loop-position.position in
    let d = c.index-declarations-position.result in
    let same = c.declared_name-name.ensures ∙ ap (λ n. declared_name (declaration_tree n)) c.node.ensures in
    looks_up_more ds i d c.loop-position-test.true c.index-declarations-position.is (lookup c.loop-position.index) _ _ same
    (known_from (lookup c.loop-position.index) _ _ _ false same c.loop-position.invariant (sym c.contains_key.ensures ∙ c.if-contains_key.false))
    c.loop-position.invariant
    (hash_map_updates_str c.declared_name-name.result.now c.loop-position.index c.insert.new.self _ c.in_ok-insert.ensures.updates)

pub loop-position-preserved-then-contains_key : goal.loop-position-preserved-then-contains_key
loop-position-preserved-then-contains_key c =
    let same = c.declared_name-name.ensures ∙ ap (λ n. declared_name (declaration_tree n)) c.node.ensures in
    looks_up_same c.args.declarations.now c.loop-position.position c.index-declarations-position.result c.loop-position-test.true c.index-declarations-position.is
    (lookup c.loop-position.index)
    (known_from (lookup c.loop-position.index) _ _ _ true same c.loop-position.invariant (sym c.contains_key.ensures ∙ c.if-contains_key.true))
    c.loop-position.invariant
