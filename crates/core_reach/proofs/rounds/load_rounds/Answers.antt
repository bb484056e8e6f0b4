use Rattle.std.proofs.Common.{◌≡◌, ◌≢◌, refl, true, false, [], length, sym, subst, ap, ◌∙◌, Err}
use Rattle.std.specs.Prelude.{string_bytes}
use Rattle.std.specs.Map.Iter.{deref_pair}
use Rattle.std.proofs.lemmas.Map.Iter.{rest_more, rest_all}
use Rattle.std.proofs.lemmas.Result.{err_from_is_err_and}
use Rattle.core_link_spec.specs.Modules.{Path}
use Rattle.core_reach.specs.declared.rounds.Reached.{Reached}
use Rattle.core_reach.specs.Missing.{refusal_of}
use Rattle.core_reach.specs.Answers.{Loading}
use Rattle.core_reach.specs.Closed.{IsClosed, RefusesClosing}
use Rattle.core_reach.proofs.LoadLemmas.{same_refuses, same_all_loaded, two_same}
use Rattle.core_reach.proofs.GoesLemmas.{no_entries, all_ended, sought, loading_refused, too_many, closing_refused, one_round}
use Rattle.core_link_spec.specs.Asks.{printed_paths}
use Rattle.core_reach.specs.Loading.{paths_of}
use Rattle.core_reach.proofs.AskingLemmas.{among_moves, all_asked_moves, end_asked, end_loaded, round_refused, round_asked}
use Rattle.core_reach.specs.Alone.{only}
use Rattle.core_reach.proofs.AloneLemmas.{more_then, no_more, inside_first, inside_then, same_only}
use Rattle.core_reach.proofs.rounds.load_rounds.Goals as goal

pub returns-then-is_empty-clause-loading : goal.returns-then-is_empty-clause-loading
returns-then-is_empty-clause-loading g c = λ start.
    let empty : c.loop-round.asked.entries ≡ [] = no_entries c.loop-round.asked.entries (c.is_empty.ensures.0 c.if-is_empty.true) in (
      c.loop-round.invariant.root,
      all_ended (g.R.Resolver.answers c.args.resolver.now) c.args.max_modules (string_bytes c.args.reached.root) c.args.keep.now c.loop-round.reached c.loop-round.asked c.loop-round._round
          (c.loop-round.invariant.loading start) empty,
    )

pub returns-in_err-load_all-clause-loading : goal.returns-in_err-load_all-clause-loading
returns-in_err-load_all-clause-loading g c = λ start.
    let sources = g.R.Resolver.answers c.args.resolver.now in
    let root : Path = string_bytes c.args.reached.root in
    let e = c.loop-round.invariant.loading start in
    let p = err_from_is_err_and c.from_residual.result c.from_residual.ensures.1 in
    let seek = sought sources c.args.max_modules root c.args.keep.now c.loop-round.reached c.loop-round.asked c.loop-round._round e in
    subst (Loading sources root c.args.keep.now c.args.max_modules) (sym (p.1 ∙ ap Err p.2))
    (loading_refused sources c.args.max_modules root c.args.keep.now c.loop-round.reached c.loop-round.asked c.loop-round._round e c.in_err-load_all.ensures.ordered
    (refusal_of c.in_err-load_all.field-0.0)
    (same_refuses sources (g.R.Resolver.answers c.loop-round.resolver) c.args.max_modules (length e.modules) _ (refusal_of c.in_err-load_all.field-0.0)
    c.loop-round.invariant.answers (c.in_err-load_all.ensures.loads e.modules e.tabled seek)))

pub returns-in_err-asked-clause-loading : goal.returns-in_err-asked-clause-loading
returns-in_err-asked-clause-loading g c = λ start.
    let sources = g.R.Resolver.answers c.args.resolver.now in
    let root : Path = string_bytes c.args.reached.root in
    let e = c.loop-round.invariant.loading start in
    let p = err_from_is_err_and c.from_residual-in_err-asked.result c.from_residual-in_err-asked.ensures.1 in
    let some : c.loop-round.asked.entries ≢ [] = λ is. (let both : true ≡ false = sym (c.is_empty.ensures.1 (ap length is)) ∙ c.if-is_empty.false in absurd (cc)) in
    let seek = sought sources c.args.max_modules root c.args.keep.now c.loop-round.reached c.loop-round.asked c.loop-round._round e in
    let all = same_all_loaded sources (g.R.Resolver.answers c.loop-round.resolver) c.args.max_modules c.loop-round.reached.modules e.modules c.loop-round.asked c.load_all.new.modules
    c.loop-round.invariant.answers (c.in_ok-load_all.ensures.loads e.modules e.tabled seek) in
    let here : c.as_str.result.now ≡ root = c.as_str.ensures.value ∙ c.loop-round.invariant.root in
    subst (Loading sources root c.args.keep.now c.args.max_modules) (sym (p.1 ∙ ap Err p.2))
    (closing_refused sources c.args.max_modules root c.args.keep.now c.loop-round.reached c.loop-round.asked c.loop-round._round e c.in_ok-load_all.ensures.ordered
    some c.load_all.new.modules all c.close_asked.new.held c.in_err-asked.field-0.0
    (subst (λ q. IsClosed c.loop-round.reached.modules q c.args.keep.now c.loop-round.reached.held c.loop-round.asked
    → RefusesClosing c.load_all.new.modules q c.args.keep.now c.close_asked.new.held c.in_err-asked.field-0.0) here
    (λ closed. c.in_err-asked.ensures.refused c.loop-round.reached.modules all.tabled.keyed closed all.on) e.closed))

pub loop-round-init : goal.loop-round-init
loop-round-init g c = record {
  answers = λ p a. (λ x. x, λ x. x);
  texts = λ p a. (λ x. x, λ x. x);
  root = refl;
  loading = λ start. start;
  names = refl;
  reference = refl;
  asks = λ start. start;
  more = no_more (g.R.Resolver.asked c.args.resolver.now);
  alone = λ inside within start. start;
}

pub loop-round-preserved : goal.loop-round-preserved
loop-round-preserved g c = record {
  answers = two_same _ _ _ c.loop-round.invariant.answers c.load_all.ensures.same_answers;
  texts = two_same _ _ _ c.loop-round.invariant.texts c.load_all.ensures.same_texts;
  root = c.loop-round.invariant.root;
  loading = λ start.
      let sources = g.R.Resolver.answers c.args.resolver.now in
      let root : Path = string_bytes c.args.reached.root in
      let e = c.loop-round.invariant.loading start in
      let some : c.loop-round.asked.entries ≢ [] = λ is. (let both : true ≡ false = sym (c.is_empty.ensures.1 (ap length is)) ∙ c.if-is_empty.false in absurd (cc)) in
      let seek = sought sources c.args.max_modules root c.args.keep.now c.loop-round.reached c.loop-round.asked c.loop-round._round e in
      let all = same_all_loaded sources (g.R.Resolver.answers c.loop-round.resolver) c.args.max_modules c.loop-round.reached.modules e.modules c.loop-round.asked c.load_all.new.modules
      c.loop-round.invariant.answers (c.in_ok-load_all.ensures.loads e.modules e.tabled seek) in
      let here : c.as_str.result.now ≡ root = c.as_str.ensures.value ∙ c.loop-round.invariant.root in
      let after : Reached = record { modules = c.load_all.new.modules; root = c.loop-round.reached.root; held = c.close_asked.new.held } in
      one_round sources c.args.max_modules root c.args.keep.now c.loop-round.reached c.loop-round.asked c.loop-round._round e c.in_ok-load_all.ensures.ordered
      some c.load_all.new.modules all after c.in_ok-asked.asked refl
      (subst (λ q. IsClosed c.loop-round.reached.modules q c.args.keep.now c.loop-round.reached.held c.loop-round.asked
      → IsClosed c.load_all.new.modules q c.args.keep.now c.close_asked.new.held c.in_ok-asked.asked) here
      (λ closed. c.in_ok-asked.ensures.closed c.loop-round.reached.modules all.tabled.keyed closed all.on) e.closed);
  names = c.load_all.ensures.same_names ∙ c.loop-round.invariant.names;
  reference = c.load_all.ensures.same_reference ∙ c.loop-round.invariant.reference;
  asks = λ start.
      let sources = g.R.Resolver.answers c.args.resolver.now in
      let root : Path = string_bytes c.args.reached.root in
      let between = g.R.Resolver.asked c.loop-round.resolver in
      let next = g.R.Resolver.asked c.load_all.new.resolver in
      let e = c.loop-round.invariant.asks start in
      let some : c.loop-round.asked.entries ≢ [] = λ is. (let both : true ≡ false = sym (c.is_empty.ensures.1 (ap length is)) ∙ c.if-is_empty.false in absurd (cc)) in
      let seek = sought sources c.args.max_modules root c.args.keep.now c.loop-round.reached c.loop-round.asked c.loop-round._round e.end in
      let all = all_asked_moves sources (g.R.Resolver.answers c.loop-round.resolver) c.args.max_modules between next c.loop-round.reached.modules e.end.modules c.loop-round.asked c.load_all.new.modules
      c.loop-round.invariant.answers (c.in_ok-load_all.ensures.asks e.end.modules e.end.tabled seek) in
      let here : c.as_str.result.now ≡ root = c.as_str.ensures.value ∙ c.loop-round.invariant.root in
      let after : Reached = record { modules = c.load_all.new.modules; root = c.loop-round.reached.root; held = c.close_asked.new.held } in
      round_asked sources c.args.max_modules root c.args.keep.now (g.R.Resolver.asked c.args.resolver.now) between c.loop-round.reached c.loop-round.asked c.loop-round._round e c.in_ok-load_all.ensures.ordered
      next some c.load_all.new.modules all after c.in_ok-asked.asked refl
      (subst (λ q. IsClosed c.loop-round.reached.modules q c.args.keep.now c.loop-round.reached.held c.loop-round.asked
      → IsClosed c.load_all.new.modules q c.args.keep.now c.close_asked.new.held c.in_ok-asked.asked) here
      (λ closed. c.in_ok-asked.ensures.closed c.loop-round.reached.modules all.loaded.tabled.keyed closed all.loaded.on) e.end.closed);
  more = more_then (g.R.Resolver.asked c.args.resolver.now) (g.R.Resolver.asked c.loop-round.resolver) (g.R.Resolver.asked c.load_all.new.resolver) c.loop-round.invariant.more c.load_all.ensures.more;
  alone = λ inside within start.
      let before = g.R.Resolver.asked c.args.resolver.now in
      let between = g.R.Resolver.asked c.loop-round.resolver in
      let next = g.R.Resolver.asked c.load_all.new.resolver in
      let sources = only inside (g.R.Resolver.answers c.args.resolver.now) in
      let root : Path = string_bytes c.args.reached.root in
      let e = c.loop-round.invariant.alone inside (inside_first inside before between next within c.load_all.ensures.more) start in
      let some : c.loop-round.asked.entries ≢ [] = λ is. (let both : true ≡ false = sym (c.is_empty.ensures.1 (ap length is)) ∙ c.if-is_empty.false in absurd (cc)) in
      let seek = sought sources c.args.max_modules root c.args.keep.now c.loop-round.reached c.loop-round.asked c.loop-round._round e in
      let all = same_all_loaded sources (only inside (g.R.Resolver.answers c.loop-round.resolver)) c.args.max_modules c.loop-round.reached.modules e.modules c.loop-round.asked c.load_all.new.modules
      (same_only inside (g.R.Resolver.answers c.args.resolver.now) (g.R.Resolver.answers c.loop-round.resolver) c.loop-round.invariant.answers)
      (c.in_ok-load_all.ensures.alone inside (inside_then inside before between next within c.loop-round.invariant.more) e.modules e.tabled seek) in
      let here : c.as_str.result.now ≡ root = c.as_str.ensures.value ∙ c.loop-round.invariant.root in
      let after : Reached = record { modules = c.load_all.new.modules; root = c.loop-round.reached.root; held = c.close_asked.new.held } in
      one_round sources c.args.max_modules root c.args.keep.now c.loop-round.reached c.loop-round.asked c.loop-round._round e c.in_ok-load_all.ensures.ordered
      some c.load_all.new.modules all after c.in_ok-asked.asked refl
      (subst (λ q. IsClosed c.loop-round.reached.modules q c.args.keep.now c.loop-round.reached.held c.loop-round.asked
      → IsClosed c.load_all.new.modules q c.args.keep.now c.close_asked.new.held c.in_ok-asked.asked) here
      (λ closed. c.in_ok-asked.ensures.closed c.loop-round.reached.modules all.tabled.keyed closed all.on) e.closed);
}

pub returns-in_ok-clone_in-in-Some-clause-loading : goal.returns-in_ok-clone_in-in-Some-clause-loading
returns-in_ok-clone_in-in-Some-clause-loading g c = λ start.
    too_many (g.R.Resolver.answers c.args.resolver.now) c.args.max_modules (string_bytes c.args.reached.root) c.args.keep.now c.loop-round.reached c.loop-round.asked c.loop-round._round
    (c.loop-round.invariant.loading start) c.iter.ensures.ordered c.in-Some.field-0-0.now c.in-Some.«module».now c.next.new.self c.in_ok-clone_in-in-Some.field-0 c.loop-round-test.false
    (sym c.iter.ensures.rest ∙ rest_more deref_pair c.iter.result c.next.new.self c.next.result (c.in-Some.field-0-0, c.in-Some.«module») c.in-Some.is c.next.ensures.steps)
    c.in_ok-clone_in-in-Some.ensures

pub returns-in-None-clause-loading : goal.returns-in-None-clause-loading
returns-in-None-clause-loading g c = λ start.
    let empty : c.loop-round.asked.entries ≡ [] = sym c.iter.ensures.rest ∙ rest_all deref_pair c.iter.result c.next.new.self c.next.result c.in-None.is c.next.ensures.steps in (
      c.loop-round.invariant.root,
      all_ended (g.R.Resolver.answers c.args.resolver.now) c.args.max_modules (string_bytes c.args.reached.root) c.args.keep.now c.loop-round.reached c.loop-round.asked c.loop-round._round
          (c.loop-round.invariant.loading start) empty,
    )

pub returns-then-is_empty-clause-asked : goal.returns-then-is_empty-clause-asked
returns-then-is_empty-clause-asked g c = λ start. end_asked (g.R.Resolver.answers c.args.resolver.now) c.args.max_modules (string_bytes c.args.reached.root) c.args.keep.now (g.R.Resolver.asked c.args.resolver.now) (g.R.Resolver.asked c.loop-round.resolver) c.loop-round.reached c.loop-round.asked c.loop-round._round
    (c.loop-round.invariant.asks start)

pub returns-in_ok-clone_in-in-Some-clause-asked : goal.returns-in_ok-clone_in-in-Some-clause-asked
returns-in_ok-clone_in-in-Some-clause-asked g c = λ start. end_asked (g.R.Resolver.answers c.args.resolver.now) c.args.max_modules (string_bytes c.args.reached.root) c.args.keep.now (g.R.Resolver.asked c.args.resolver.now) (g.R.Resolver.asked c.loop-round.resolver) c.loop-round.reached c.loop-round.asked c.loop-round._round
    (c.loop-round.invariant.asks start)

pub returns-in_err-clone_in-in-Some-clause-asked : goal.returns-in_err-clone_in-in-Some-clause-asked
returns-in_err-clone_in-in-Some-clause-asked g c = λ start. end_asked (g.R.Resolver.answers c.args.resolver.now) c.args.max_modules (string_bytes c.args.reached.root) c.args.keep.now (g.R.Resolver.asked c.args.resolver.now) (g.R.Resolver.asked c.loop-round.resolver) c.loop-round.reached c.loop-round.asked c.loop-round._round
    (c.loop-round.invariant.asks start)

pub returns-in-None-clause-asked : goal.returns-in-None-clause-asked
returns-in-None-clause-asked g c = λ start. end_asked (g.R.Resolver.answers c.args.resolver.now) c.args.max_modules (string_bytes c.args.reached.root) c.args.keep.now (g.R.Resolver.asked c.args.resolver.now) (g.R.Resolver.asked c.loop-round.resolver) c.loop-round.reached c.loop-round.asked c.loop-round._round
    (c.loop-round.invariant.asks start)

pub returns-then-is_empty-clause-all_asked : goal.returns-then-is_empty-clause-all_asked
returns-then-is_empty-clause-all_asked g c = λ start.
    let empty : c.loop-round.asked.entries ≡ [] = no_entries c.loop-round.asked.entries (c.is_empty.ensures.0 c.if-is_empty.true) in
    end_loaded (g.R.Resolver.answers c.args.resolver.now) c.args.max_modules (string_bytes c.args.reached.root) c.args.keep.now (g.R.Resolver.asked c.args.resolver.now) (g.R.Resolver.asked c.loop-round.resolver) c.loop-round.reached c.loop-round.asked c.loop-round._round
    (c.loop-round.invariant.asks start) empty

pub returns-in-None-clause-all_asked : goal.returns-in-None-clause-all_asked
returns-in-None-clause-all_asked g c = λ start.
    let empty : c.loop-round.asked.entries ≡ [] = sym c.iter.ensures.rest ∙ rest_all deref_pair c.iter.result c.next.new.self c.next.result c.in-None.is c.next.ensures.steps in
    end_loaded (g.R.Resolver.answers c.args.resolver.now) c.args.max_modules (string_bytes c.args.reached.root) c.args.keep.now (g.R.Resolver.asked c.args.resolver.now) (g.R.Resolver.asked c.loop-round.resolver) c.loop-round.reached c.loop-round.asked c.loop-round._round
    (c.loop-round.invariant.asks start) empty

pub returns-in_err-load_all-clause-asked : goal.returns-in_err-load_all-clause-asked
returns-in_err-load_all-clause-asked g c = λ start.
    let sources = g.R.Resolver.answers c.args.resolver.now in
    let root : Path = string_bytes c.args.reached.root in
    let between = g.R.Resolver.asked c.loop-round.resolver in
    let next = g.R.Resolver.asked c.load_all.new.resolver in
    let e = c.loop-round.invariant.asks start in
    let seek = sought sources c.args.max_modules root c.args.keep.now c.loop-round.reached c.loop-round.asked c.loop-round._round e.end in
    let these = c.in_err-load_all.ensures.asks e.end.modules e.end.tabled seek in
    round_refused sources c.args.max_modules root c.args.keep.now (g.R.Resolver.asked c.args.resolver.now) between c.loop-round.reached c.loop-round.asked c.loop-round._round e c.in_err-load_all.ensures.ordered
    next these.0 (among_moves sources (g.R.Resolver.answers c.loop-round.resolver) c.args.max_modules between next e.end.modules (paths_of c.loop-round.asked) these.0 c.loop-round.invariant.answers these.1)

pub returns-in_err-asked-clause-asked : goal.returns-in_err-asked-clause-asked
returns-in_err-asked-clause-asked g c = λ start.
    let sources = g.R.Resolver.answers c.args.resolver.now in
    let root : Path = string_bytes c.args.reached.root in
    let between = g.R.Resolver.asked c.loop-round.resolver in
    let next = g.R.Resolver.asked c.load_all.new.resolver in
    let e = c.loop-round.invariant.asks start in
    let seek = sought sources c.args.max_modules root c.args.keep.now c.loop-round.reached c.loop-round.asked c.loop-round._round e.end in
    let all = all_asked_moves sources (g.R.Resolver.answers c.loop-round.resolver) c.args.max_modules between next c.loop-round.reached.modules e.end.modules c.loop-round.asked c.load_all.new.modules
    c.loop-round.invariant.answers (c.in_ok-load_all.ensures.asks e.end.modules e.end.tabled seek) in
    round_refused sources c.args.max_modules root c.args.keep.now (g.R.Resolver.asked c.args.resolver.now) between c.loop-round.reached c.loop-round.asked c.loop-round._round e c.in_ok-load_all.ensures.ordered
    next (printed_paths all.loaded.more) all.among

pub returns-then-is_empty-clause-alone : goal.returns-then-is_empty-clause-alone
returns-then-is_empty-clause-alone g c = λ inside within start.
    let empty : c.loop-round.asked.entries ≡ [] = no_entries c.loop-round.asked.entries (c.is_empty.ensures.0 c.if-is_empty.true) in (
      c.loop-round.invariant.root,
      all_ended (only inside (g.R.Resolver.answers c.args.resolver.now)) c.args.max_modules (string_bytes c.args.reached.root) c.args.keep.now c.loop-round.reached c.loop-round.asked c.loop-round._round
          (c.loop-round.invariant.alone inside within start) empty,
    )

pub returns-in-None-clause-alone : goal.returns-in-None-clause-alone
returns-in-None-clause-alone g c = λ inside within start.
    let empty : c.loop-round.asked.entries ≡ [] = sym c.iter.ensures.rest ∙ rest_all deref_pair c.iter.result c.next.new.self c.next.result c.in-None.is c.next.ensures.steps in (
      c.loop-round.invariant.root,
      all_ended (only inside (g.R.Resolver.answers c.args.resolver.now)) c.args.max_modules (string_bytes c.args.reached.root) c.args.keep.now c.loop-round.reached c.loop-round.asked c.loop-round._round
          (c.loop-round.invariant.alone inside within start) empty,
    )

pub returns-in_ok-clone_in-in-Some-clause-alone : goal.returns-in_ok-clone_in-in-Some-clause-alone
returns-in_ok-clone_in-in-Some-clause-alone g c = λ inside within start.
    too_many (only inside (g.R.Resolver.answers c.args.resolver.now)) c.args.max_modules (string_bytes c.args.reached.root) c.args.keep.now c.loop-round.reached c.loop-round.asked c.loop-round._round
    (c.loop-round.invariant.alone inside within start) c.iter.ensures.ordered c.in-Some.field-0-0.now c.in-Some.«module».now c.next.new.self c.in_ok-clone_in-in-Some.field-0 c.loop-round-test.false
    (sym c.iter.ensures.rest ∙ rest_more deref_pair c.iter.result c.next.new.self c.next.result (c.in-Some.field-0-0, c.in-Some.«module») c.in-Some.is c.next.ensures.steps)
    c.in_ok-clone_in-in-Some.ensures

pub returns-in_err-load_all-clause-alone : goal.returns-in_err-load_all-clause-alone
returns-in_err-load_all-clause-alone g c = λ inside within start.
    let before = g.R.Resolver.asked c.args.resolver.now in
    let between = g.R.Resolver.asked c.loop-round.resolver in
    let next = g.R.Resolver.asked c.load_all.new.resolver in
    let sources = only inside (g.R.Resolver.answers c.args.resolver.now) in
    let root : Path = string_bytes c.args.reached.root in
    let e = c.loop-round.invariant.alone inside (inside_first inside before between next within c.load_all.ensures.more) start in
    let p = err_from_is_err_and c.from_residual.result c.from_residual.ensures.1 in
    let seek = sought sources c.args.max_modules root c.args.keep.now c.loop-round.reached c.loop-round.asked c.loop-round._round e in
    subst (Loading sources root c.args.keep.now c.args.max_modules) (sym (p.1 ∙ ap Err p.2))
    (loading_refused sources c.args.max_modules root c.args.keep.now c.loop-round.reached c.loop-round.asked c.loop-round._round e c.in_err-load_all.ensures.ordered
    (refusal_of c.in_err-load_all.field-0.0)
    (same_refuses sources (only inside (g.R.Resolver.answers c.loop-round.resolver)) c.args.max_modules (length e.modules) _ (refusal_of c.in_err-load_all.field-0.0)
    (same_only inside (g.R.Resolver.answers c.args.resolver.now) (g.R.Resolver.answers c.loop-round.resolver) c.loop-round.invariant.answers)
    (c.in_err-load_all.ensures.alone inside (inside_then inside before between next within c.loop-round.invariant.more) e.modules e.tabled seek)))

pub returns-in_err-asked-clause-alone : goal.returns-in_err-asked-clause-alone
returns-in_err-asked-clause-alone g c = λ inside within start.
    let before = g.R.Resolver.asked c.args.resolver.now in
    let between = g.R.Resolver.asked c.loop-round.resolver in
    let next = g.R.Resolver.asked c.load_all.new.resolver in
    let sources = only inside (g.R.Resolver.answers c.args.resolver.now) in
    let root : Path = string_bytes c.args.reached.root in
    let e = c.loop-round.invariant.alone inside (inside_first inside before between next within c.load_all.ensures.more) start in
    let p = err_from_is_err_and c.from_residual-in_err-asked.result c.from_residual-in_err-asked.ensures.1 in
    let some : c.loop-round.asked.entries ≢ [] = λ is. (let both : true ≡ false = sym (c.is_empty.ensures.1 (ap length is)) ∙ c.if-is_empty.false in absurd (cc)) in
    let seek = sought sources c.args.max_modules root c.args.keep.now c.loop-round.reached c.loop-round.asked c.loop-round._round e in
    let all = same_all_loaded sources (only inside (g.R.Resolver.answers c.loop-round.resolver)) c.args.max_modules c.loop-round.reached.modules e.modules c.loop-round.asked c.load_all.new.modules
    (same_only inside (g.R.Resolver.answers c.args.resolver.now) (g.R.Resolver.answers c.loop-round.resolver) c.loop-round.invariant.answers)
    (c.in_ok-load_all.ensures.alone inside (inside_then inside before between next within c.loop-round.invariant.more) e.modules e.tabled seek) in
    let here : c.as_str.result.now ≡ root = c.as_str.ensures.value ∙ c.loop-round.invariant.root in
    subst (Loading sources root c.args.keep.now c.args.max_modules) (sym (p.1 ∙ ap Err p.2))
    (closing_refused sources c.args.max_modules root c.args.keep.now c.loop-round.reached c.loop-round.asked c.loop-round._round e c.in_ok-load_all.ensures.ordered
    some c.load_all.new.modules all c.close_asked.new.held c.in_err-asked.field-0.0
    (subst (λ q. IsClosed c.loop-round.reached.modules q c.args.keep.now c.loop-round.reached.held c.loop-round.asked
    → RefusesClosing c.load_all.new.modules q c.args.keep.now c.close_asked.new.held c.in_err-asked.field-0.0) here
    (λ closed. c.in_err-asked.ensures.refused c.loop-round.reached.modules all.tabled.keyed closed all.on) e.closed))

pub returns-in_err-load_all-clause-more : goal.returns-in_err-load_all-clause-more
returns-in_err-load_all-clause-more g c = more_then (g.R.Resolver.asked c.args.resolver.now) (g.R.Resolver.asked c.loop-round.resolver) (g.R.Resolver.asked c.load_all.new.resolver) c.loop-round.invariant.more c.load_all.ensures.more

pub returns-in_err-asked-clause-more : goal.returns-in_err-asked-clause-more
returns-in_err-asked-clause-more g c = more_then (g.R.Resolver.asked c.args.resolver.now) (g.R.Resolver.asked c.loop-round.resolver) (g.R.Resolver.asked c.load_all.new.resolver) c.loop-round.invariant.more c.load_all.ensures.more
