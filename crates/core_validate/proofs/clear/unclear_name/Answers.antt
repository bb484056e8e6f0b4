use Rattle.std.proofs.Common.{Some, ap, ◌∙◌}
use Rattle.core_validate.specs.First.{first}
use Rattle.core_validate.specs.Lookups.{lookup, texts}
use Rattle.core_validate.proofs.ClearLemmas.{unclear_are}
use Rattle.core_validate.proofs.clear.unclear_name.Goals as goal

pub returns-in-None : goal.returns-in-None
returns-in-None c =
    c.in-None.ensures
    ∙ ap first
    (unclear_are c.args.unit.now c.as_slice-declarations.result.now (lookup c.in_ok-index.index) (texts c.args.names.now) c.as_slice-declarations.ensures c.in_ok-index.ensures)

pub returns : goal.returns
returns c =
    ap Some c.in_ok-from_str-in-Some.ensures ∙ c.in-Some.ensures
    ∙ ap first
    (unclear_are c.args.unit.now c.as_slice-declarations.result.now (lookup c.in_ok-index.index) (texts c.args.names.now) c.as_slice-declarations.ensures c.in_ok-index.ensures)
