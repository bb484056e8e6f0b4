use Rattle.std.proofs.Common.{ap, ◌∙◌, Some}
use Rattle.std.specs.Prelude.{string_bytes, if◌then◌else◌}
use Rattle.std.specs.Str.{bytes_eq}
use Rattle.std.specs.HashMap.{get_by_text}
use Rattle.std.proofs.lemmas.Map.Text.{hash_map_updates_text}
use Rattle.wesl_module_index.proofs.imports.put.Goals as goal

pub returns : goal.returns
returns c = λ x.
    hash_map_updates_text (string_bytes c.in_ok-from_str.field-0) c.args.scope.now c.insert.new.self (Some c.args.meaning) c.in_ok-insert.ensures.updates x
    ∙ ap (λ t. if bytes_eq t x then Some c.args.meaning else get_by_text c.args.scope.now x) c.in_ok-from_str.ensures.ok
