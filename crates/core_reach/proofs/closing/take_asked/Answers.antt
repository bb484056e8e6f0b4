use Rattle.std.proofs.Common.{None, sym, ap, ◌∙◌}
use Rattle.std.specs.Prelude.{if◌then◌else◌}
use Rattle.std.specs.Str.{bytes_eq}
use Rattle.std.specs.BTreeMap.{get_by_text}
use Rattle.std.proofs.lemmas.Map.Text.{btree_map_updates_text}
use Rattle.core_reach.proofs.closing.take_asked.Goals as goal
use Rattle.std.specs.Prelude.{string_bytes}

pub returns-in-Some-clause-others : goal.returns-in-Some-clause-others
returns-in-Some-clause-others c = λ m.
    btree_map_updates_text c.as_str.result.now c.args.asked.now c.remove.new.self None c.remove.ensures.updates m
    ∙ ap (λ t. if bytes_eq t m then None else get_by_text c.args.asked.now m) c.as_str.ensures.value

pub returns-in-Some-clause-paths : goal.returns-in-Some-clause-paths
returns-in-Some-clause-paths c = λ by_name.
    (by_name (string_bytes c.args.target.now.printed_path) c.in-Some.«module» (ap (get_by_text c.args.asked.now) (sym c.as_str.ensures.value) ∙ sym c.remove.ensures.value ∙ c.in-Some.is)).0

pub returns-in-Some-clause-by_import : goal.returns-in-Some-clause-by_import
returns-in-Some-clause-by_import c = λ ms named by_import.
    by_import (string_bytes c.args.target.now.printed_path) c.in-Some.«module» (ap (get_by_text c.args.asked.now) (sym c.as_str.ensures.value) ∙ sym c.remove.ensures.value ∙ c.in-Some.is)
