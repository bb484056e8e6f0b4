use Rattle.std.proofs.Common.{refl}
use Rattle.std.proofs.lemmas.Result.{err_from_is_err_and}
use Rattle.core_syntax.specs.View.{unit_tree}
use Rattle.core_scopes.proofs.ScopeLemmas.{distinct_names}
use Rattle.core_scopes.proofs.TellLemmas.{refused}
use Rattle.core_scopes.proofs.module.Module.new.Goals as goal

pub returns : goal.returns
returns c = (c.in_ok-clone_in.ensures, refl, distinct_names (unit_tree c.args.unit) c.in_ok-meanings.ensures.1)

pub returns-in_err-meanings : goal.returns-in_err-meanings
returns-in_err-meanings c =
    let p = err_from_is_err_and c.from_residual.result c.from_residual.ensures.1 in
    rw (p.1, p.2) (refused c.args.path.now c.args.unit c.in_err-meanings.field-0.0 c.in_err-meanings.ensures)
