use Rattle.std.proofs.Common.{sym, ap, ◌∙◌}
use Rattle.std.specs.Prelude.{string_bytes}
use Rattle.std.specs.Option.{option_map, option_copied}
use Rattle.core_syntax.specs.View.{declaration_tree}
use Rattle.core_scopes.specs.Outcomes.{loaded, home_of}
use Rattle.core_reach.specs.Stages.{asks, stage}
use Rattle.core_reach.proofs.StageLemmas.{none_there}
use Rattle.core_reach.proofs.closing.follow.Goals as goal

pub returns-in-None-clause-followed : goal.returns-in-None-clause-followed
returns-in-None-clause-followed c =
    none_there (loaded c.args.linking.now.modules.now) (stage c.args.held.now (asks c.args.found.now.asked) c.args.found.now.is_missing c.args.found.now.reached.items) (string_bytes c.args.symbol.«module».now.printed_path) c.args.symbol.place (home_of c.in-Some.home.now)
    (ap (loaded c.args.linking.now.modules.now) (sym c.as_str.ensures.value) ∙ ap (option_map home_of) (sym c.get.ensures.value ∙ ap option_copied c.in-Some.is))
    (sym c.declaration.ensures ∙ ap (option_map (λ d. declaration_tree d.now)) c.in-None.is)
