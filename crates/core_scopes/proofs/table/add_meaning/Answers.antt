use Rattle.std.proofs.Common.{sym, ◌∙◌}
use Rattle.core_scopes.proofs.TableLemmas.{updated, none_of}
use Rattle.core_scopes.proofs.table.add_meaning.Goals as goal

pub returns : goal.returns
returns c = (
  none_of _ (sym c.contains_key.ensures ∙ c.if-contains_key.false),
  updated c.args.meanings.now c.put.new.table c.args.meaning c.args.name.now c.in_ok-put.ensures,
)
