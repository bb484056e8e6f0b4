use Rattle.std.proofs.Common.{sym, subst}
use Rattle.std.specs.Prelude.{string_bytes}
use Rattle.core_reach.specs.Reach.{onto}
use Rattle.core_reach.specs.Following.{Handled}
use Rattle.core_reach.specs.Stages.{asks, stage}
use Rattle.core_reach.proofs.StageLemmas.{moves_asked, now_asked}
use Rattle.core_reach.proofs.closing.follow_name.Goals as goal
use Rattle.core_scopes.specs.Outcomes.{home_of}
use Rattle.core_syntax.specs.View.{declaration_tree}
use Rattle.core_reach.proofs.OrderLemmas.{placed_denoted, same_order, order_asked}
use Rattle.std.proofs.lemmas.Result.{on_ok_weaker}

pub returns-in-Declared-clause-sound : goal.returns-in-Declared-clause-sound
returns-in-Declared-clause-sound c = λ reached sound.
    c.reach.ensures.sound (onto reached c.requires.home c.requires.declaration c.requires.occurs (sym c.in-Declared.ensures.found)) sound

pub returns-in_ok-ask-in-Unloaded-clause-moves : goal.returns-in_ok-ask-in-Unloaded-clause-moves
returns-in_ok-ask-in-Unloaded-clause-moves c =
    moves_asked c.args.held.now (asks c.args.found.now.asked) (asks c.ask.new.asked) c.args.found.now.is_missing c.args.found.now.reached.items
    (record { home = string_bytes c.in-Unloaded.target.now.printed_path; name = c.in-Unloaded.target.now.item }) c.in_ok-ask-in-Unloaded.ensures.asks

pub returns-in_ok-ask-in-Unloaded-clause-handled : goal.returns-in_ok-ask-in-Unloaded-clause-handled
returns-in_ok-ask-in-Unloaded-clause-handled c =
    subst (Handled (stage c.args.held.now (asks c.ask.new.asked) c.args.found.now.is_missing c.args.found.now.reached.items)) c.in-Unloaded.ensures.found
    (now_asked (asks c.args.found.now.asked) (asks c.ask.new.asked) (record { home = string_bytes c.in-Unloaded.target.now.printed_path; name = c.in-Unloaded.target.now.item }) c.in_ok-ask-in-Unloaded.ensures.asks)

pub returns-in-Declared-clause-in_order : goal.returns-in-Declared-clause-in_order
returns-in-Declared-clause-in_order c = λ keyed reached before.
    let placed = placed_denoted c.args.linking.now.modules.now c.args.home.now (string_bytes c.args.from.«module».now.printed_path) c.args.name.now c.in-Declared.symbol keyed
    (c.in-Declared.ensures.in_table c.requires.in_table) c.requires.home c.in-Declared.ensures.found in
    on_ok_weaker c.reach.result
    (same_order c.args.linking.now c.args.held.now c.reach.new.held c.args.found.now.asked before)
    (c.reach.ensures.named placed before.named)

pub returns-in_ok-ask-in-Unloaded-clause-in_order : goal.returns-in_ok-ask-in-Unloaded-clause-in_order
returns-in_ok-ask-in-Unloaded-clause-in_order c = λ keyed reached before.
    order_asked c.args.linking.now c.args.held.now c.args.found.now.asked c.ask.new.asked
    (record { home = string_bytes c.in-Unloaded.target.now.printed_path; name = c.in-Unloaded.target.now.item })
    (record {
      home = string_bytes c.args.from.«module».now.printed_path;
      place = c.args.from.place;
      reached = reached;
      there = home_of c.args.home.now;
      found = c.requires.home;
      declaration = declaration_tree c.args.declaration.now;
      stands = c.requires.declaration;
      name = c.args.name.now;
      occurs = c.requires.occurs;
      is_unloaded = sym c.in-Unloaded.ensures.found;
    })
    c.in_ok-ask-in-Unloaded.ensures.asks c.in_ok-ask-in-Unloaded.ensures.by_name
    (c.in_ok-ask-in-Unloaded.ensures.by_import c.args.linking.now.modules.now
    (record { home = c.requires.in_table.0; one = c.args.home.now; stands = c.requires.in_table.1; has = c.in-Unloaded.ensures.named }))
    before
