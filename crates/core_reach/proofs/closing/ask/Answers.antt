use Rattle.std.proofs.Common.{ap, ◌∙◌, true, Some}
use Rattle.std.specs.Prelude.{string_bytes, if◌then◌else◌}
use Rattle.std.specs.Str.{bytes_eq}
use Rattle.std.proofs.lemmas.Map.Text.{btree_set_updates_text}
use Rattle.core_reach.specs.Stages.{name_asked}
use Rattle.core_reach.proofs.StageLemmas.{asked_more}
use Rattle.core_reach.proofs.closing.ask.Goals as goal
use Rattle.core_reach.proofs.OrderLemmas.{asked_by_name, asked_by_import}

pub returns-clause-asks : goal.returns-clause-asks
returns-clause-asks c =
    asked_more c.args.asked.now c.take_asked.new.asked c.insert-2.new.self c.in_ok-module.«module» _ c.in_ok-key.key (string_bytes c.args.target.now.printed_path) c.args.target.now.item
    c.in_ok-module.ensures.names c.in_ok-module.ensures.others
    (λ y. btree_set_updates_text (string_bytes c.in_ok-item.item) c.in_ok-module.«module».names c.insert.new.self true c.in_ok-insert.ensures.updates y
    ∙ ap (λ t. if bytes_eq t y then true else name_asked (Some c.in_ok-module.«module») y) (c.in_ok-item.ensures.ok ∙ c.as_str.ensures))
    c.in_ok-key.ensures.cases c.in_ok-insert-2.ensures.updates

pub returns-clause-by_name : goal.returns-clause-by_name
returns-clause-by_name c = λ before.
    asked_by_name c.args.asked.now c.take_asked.new.asked c.insert-2.new.self c.in_ok-module.«module» _ c.in_ok-key.key (string_bytes c.args.target.now.printed_path) c.args.target.now.item
    c.in_ok-module.ensures.others
    (λ y. btree_set_updates_text (string_bytes c.in_ok-item.item) c.in_ok-module.«module».names c.insert.new.self true c.in_ok-insert.ensures.updates y
    ∙ ap (λ t. if bytes_eq t y then true else name_asked (Some c.in_ok-module.«module») y) (c.in_ok-item.ensures.ok ∙ c.as_str.ensures))
    (c.in_ok-module.ensures.paths before)
    c.in_ok-key.ensures.cases c.in_ok-insert-2.ensures.updates before

pub returns-clause-by_import : goal.returns-clause-by_import
returns-clause-by_import c = λ ms named before.
    asked_by_import ms c.args.asked.now c.take_asked.new.asked c.insert-2.new.self _ c.in_ok-key.key (string_bytes c.args.target.now.printed_path)
    c.in_ok-module.ensures.others (c.in_ok-module.ensures.by_import ms named before)
    c.in_ok-key.ensures.cases c.in_ok-insert-2.ensures.updates before
