use Rattle.std.proofs.Common.{Some}
use Rattle.std.specs.Prelude.{string_bytes}
use Rattle.std.proofs.lemmas.Map.Text.{btree_map_updates_text}
use Rattle.wesl_module_index.proofs.modules.note.Goals as goal

pub returns-clause-noted : goal.returns-clause-noted
returns-clause-noted c = λ p. btree_map_updates_text (string_bytes c.args.printed_path) c.args.numbers.now c.insert.new.self (Some c.args.number) c.in_ok-insert.ensures.updates p
