use Rattle.std.proofs.Common.{sym, ap, ◌∙◌}
use Rattle.core_syntax.specs.View.{declaration_tree}
use Rattle.core_validate.specs.First.{first}
use Rattle.core_validate.specs.Lookups.{lookup, texts}
use Rattle.core_validate.specs.Clearness.{unclear_by}
use Rattle.core_validate.proofs.ClearLemmas.{first_found, first_goes}
use Rattle.core_validate.proofs.clear.first_unclear.Goals as goal

pub returns-then-is_some : goal.returns-then-is_some
returns-then-is_some c =
    let look = lookup c.args.index.now in
    let table = texts c.args.names.now in
    let found = c.unclear_inside-found.ensures ∙ ap (λ n. first (unclear_by look table c.loop-position.position (declaration_tree n))) c.node.ensures in
    first_found look table c.args.declarations.now c.loop-position.position c.index-declarations-position.result c.loop-position-test.true c.index-declarations-position.is
    c.unclear_inside-found.result found (sym c.is_some.ensures ∙ c.if-is_some.true)
    ∙ c.loop-position.invariant

pub loop-position-preserved : goal.loop-position-preserved
loop-position-preserved c =
    let look = lookup c.args.index.now in
    let table = texts c.args.names.now in
    let found = c.unclear_inside-found.ensures ∙ ap (λ n. first (unclear_by look table c.loop-position.position (declaration_tree n))) c.node.ensures in
    first_goes look table c.args.declarations.now c.loop-position.position c.index-declarations-position.result c.loop-position-test.true c.index-declarations-position.is
    c.unclear_inside-found.result found (sym c.is_some.ensures ∙ c.if-is_some.false)
    ∙ c.loop-position.invariant
