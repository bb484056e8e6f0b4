use Rattle.std.proofs.Common.{ap, ◌∙◌, Some}
use Rattle.std.specs.Prelude.{string_bytes, if◌then◌else◌}
use Rattle.std.specs.Str.{bytes_eq}
use Rattle.std.specs.HashMap.{get_by_text}
use Rattle.std.proofs.lemmas.Map.Text.{hash_map_updates_text}
use Rattle.core_scopes.proofs.table.put.Goals as goal

pub returns : goal.returns
returns g c = λ x.
    hash_map_updates_text (string_bytes c.in_ok-from_str.field-0) c.args.table.now c.insert.new.self (Some c.args.value) c.in_ok-insert.ensures.updates x
    ∙ ap (λ t. if bytes_eq t x then Some c.args.value else get_by_text c.args.table.now x) c.in_ok-from_str.ensures.ok
