use Rattle.std.proofs.Common.{sym, ap, ◌∙◌, Some}
use Rattle.std.specs.Prelude.{string_bytes}
use Rattle.std.specs.Option.{option_map, option_copied}
use Rattle.core_syntax.specs.View.{unit_tree}
use Rattle.core_scopes.specs.Meanings.{known_of}
use Rattle.core_scopes.proofs.TellLemmas.{has_import}
use Rattle.core_scopes.proofs.denote.looked_up.Goals as goal

pub returns-in-Some-Imported-clause-named : goal.returns-in-Some-Imported-clause-named
returns-in-Some-Imported-clause-named c =
    let t = c.in-Some-Imported.target in
    c.imported_item.ensures.named (unit_tree c.args.«module».now.unit)
    (has_import (unit_tree c.args.«module».now.unit) c.args.name.now (t.path, record { home = string_bytes t.printed_path; name = t.item })
    (sym (c.args.«module».now.tabulated c.args.name.now)
    ∙ ap (option_map known_of) (sym c.get.ensures.value ∙ ap option_copied c.in-Some-Imported.is ∙ ap Some c.in-Some-Imported.field-0-is)))
