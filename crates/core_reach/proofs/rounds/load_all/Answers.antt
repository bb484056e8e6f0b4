use Rattle.std.proofs.Common.{◌∷◌, length, refl, sym, subst, ap, ◌∙◌, Err}
use Rattle.std.specs.Prelude.{string_bytes}
use Rattle.wgsl_path.specs.Paths.{path_text}
use Rattle.std.specs.Map.Iter.{deref_pair}
use Rattle.std.proofs.lemmas.Map.Iter.{rest_more, rest_all}
use Rattle.std.proofs.lemmas.Result.{err_from_is_err_and}
use Rattle.core_reach.specs.Missing.{refusal_of}
use Rattle.core_reach.specs.Loading.{LoadsAll, IsLoadedOne, RefusesLoading}
use Rattle.core_reach.proofs.LoadLemmas.{AskedEntry, IsLoadedTo, none_loaded, first_printed, first_refused, one_loaded, all_are_loaded, same_refuses, same_loaded_one, two_same}
use Rattle.core_reach.specs.Asking.{AsksForAll}
use Rattle.core_reach.specs.Alone.{only}
use Rattle.core_reach.proofs.AloneLemmas.{more_then, no_more, one_or_none, inside_first, inside_then, same_only}
use Rattle.core_reach.proofs.AskingLemmas.{IsAskedTo, none_asked, one_asked, one_refused, all_are_asked}
use Rattle.core_reach.proofs.rounds.load_all.Goals as goal

pub loop-text-init : goal.loop-text-init
loop-text-init g c = record {
  answers = λ p a. (λ x. x, λ x. x);
  texts = λ p a. (λ x. x, λ x. x);
  loads = λ listed tabled sought.
      subst (IsLoadedTo (g.R.Resolver.answers c.args.resolver.now) c.args.max_modules c.args.modules.now listed c.args.asked.now c.args.modules.now)
      (sym c.into_iter-text-iterator.ensures.into_iter_gives.0)
      (none_loaded (g.R.Resolver.answers c.args.resolver.now) c.args.max_modules c.args.modules.now listed c.args.asked.now tabled sought c.into_iter-text-iterator.ensures.into_iter_gives.5);
  names = refl;
  reference = refl;
  asks = λ listed tabled sought.
      let before = g.R.Resolver.asked c.args.resolver.now in
      subst (IsAskedTo (g.R.Resolver.answers c.args.resolver.now) c.args.max_modules c.args.modules.now listed c.args.asked.now before before c.args.modules.now)
      (sym c.into_iter-text-iterator.ensures.into_iter_gives.0)
      (none_asked (g.R.Resolver.answers c.args.resolver.now) c.args.max_modules c.args.modules.now listed c.args.asked.now before before refl tabled sought c.into_iter-text-iterator.ensures.into_iter_gives.5);
  more = no_more (g.R.Resolver.asked c.args.resolver.now);
  alone = λ inside within listed tabled sought.
      let sources = only inside (g.R.Resolver.answers c.args.resolver.now) in
      subst (IsLoadedTo sources c.args.max_modules c.args.modules.now listed c.args.asked.now c.args.modules.now)
      (sym c.into_iter-text-iterator.ensures.into_iter_gives.0)
      (none_loaded sources c.args.max_modules c.args.modules.now listed c.args.asked.now tabled sought c.into_iter-text-iterator.ensures.into_iter_gives.5);
}

pub loop-text-preserved : goal.loop-text-preserved
loop-text-preserved g c = record {
  answers = two_same _ _ _ c.loop-text.invariant.answers c.load_one.ensures.same_answers;
  texts = two_same _ _ _ c.loop-text.invariant.texts c.load_one.ensures.same_texts;
  loads = λ listed tabled sought.
      let sources = g.R.Resolver.answers c.args.resolver.now in
      let t = c.loop-text.invariant.loads listed tabled sought in
      let e : AskedEntry = (c.in-Some.text.now, c.in-Some.«module».now) in
      let is = rest_more deref_pair c.loop-text.text-iterator c.next.new.self c.next.result (c.in-Some.text, c.in-Some.«module») c.in-Some.is c.next.ensures.steps in
      let printed = first_printed sources c.args.max_modules c.args.modules.now listed c.args.asked.now c.loop-text.modules c.loop-text.text-iterator c.next.new.self e is t in
      one_loaded sources c.args.max_modules c.args.modules.now listed c.args.asked.now c.loop-text.modules c.loop-text.text-iterator c.next.new.self e is t
      c.load_one.new.modules
      (same_loaded_one sources (g.R.Resolver.answers c.loop-text.resolver) c.args.max_modules c.loop-text.modules (string_bytes e.0) c.load_one.new.modules c.loop-text.invariant.answers
      (subst (λ q. IsLoadedOne (g.R.Resolver.answers c.loop-text.resolver) c.args.max_modules c.loop-text.modules e.1.path q c.load_one.new.modules) c.as_str.ensures.value
      (c.in_ok-load_one.ensures.loads (printed ∙ sym c.as_str.ensures.value))));
  names = c.load_one.ensures.same_names ∙ c.loop-text.invariant.names;
  reference = c.load_one.ensures.same_reference ∙ c.loop-text.invariant.reference;
  asks = λ listed tabled sought.
      let sources = g.R.Resolver.answers c.args.resolver.now in
      let t = c.loop-text.invariant.asks listed tabled sought in
      let e : AskedEntry = (c.in-Some.text.now, c.in-Some.«module».now) in
      let is = rest_more deref_pair c.loop-text.text-iterator c.next.new.self c.next.result (c.in-Some.text, c.in-Some.«module») c.in-Some.is c.next.ensures.steps in
      let printed = first_printed sources c.args.max_modules c.args.modules.now listed c.args.asked.now c.loop-text.modules c.loop-text.text-iterator c.next.new.self e is t.to in
      one_asked sources c.args.max_modules c.args.modules.now listed c.args.asked.now (g.R.Resolver.asked c.args.resolver.now) (g.R.Resolver.asked c.loop-text.resolver) (g.R.Resolver.asked c.load_one.new.resolver)
      c.loop-text.modules c.loop-text.text-iterator c.next.new.self e is t c.load_one.new.modules
      (same_loaded_one sources (g.R.Resolver.answers c.loop-text.resolver) c.args.max_modules c.loop-text.modules (string_bytes e.0) c.load_one.new.modules c.loop-text.invariant.answers
      (subst (λ q. IsLoadedOne (g.R.Resolver.answers c.loop-text.resolver) c.args.max_modules c.loop-text.modules e.1.path q c.load_one.new.modules) c.as_str.ensures.value
      (c.in_ok-load_one.ensures.loads (printed ∙ sym c.as_str.ensures.value))))
      (path_text e.1.path) printed c.in_ok-load_one.ensures.asked;
  more =
      let between = g.R.Resolver.asked c.loop-text.resolver in
      let after = g.R.Resolver.asked c.load_one.new.resolver in
      more_then (g.R.Resolver.asked c.args.resolver.now) between after c.loop-text.invariant.more (one_or_none between _ _ _ after c.load_one.ensures.asks);
  alone = λ inside within listed tabled sought.
      let before = g.R.Resolver.asked c.args.resolver.now in
      let between = g.R.Resolver.asked c.loop-text.resolver in
      let after = g.R.Resolver.asked c.load_one.new.resolver in
      let sources = only inside (g.R.Resolver.answers c.args.resolver.now) in
      let t = c.loop-text.invariant.alone inside (inside_first inside before between after within (one_or_none between _ _ _ after c.load_one.ensures.asks)) listed tabled sought in
      let here = inside_then inside before between after within c.loop-text.invariant.more in
      let e : AskedEntry = (c.in-Some.text.now, c.in-Some.«module».now) in
      let is = rest_more deref_pair c.loop-text.text-iterator c.next.new.self c.next.result (c.in-Some.text, c.in-Some.«module») c.in-Some.is c.next.ensures.steps in
      let printed = first_printed sources c.args.max_modules c.args.modules.now listed c.args.asked.now c.loop-text.modules c.loop-text.text-iterator c.next.new.self e is t in
      one_loaded sources c.args.max_modules c.args.modules.now listed c.args.asked.now c.loop-text.modules c.loop-text.text-iterator c.next.new.self e is t
      c.load_one.new.modules
      (same_loaded_one sources (only inside (g.R.Resolver.answers c.loop-text.resolver)) c.args.max_modules c.loop-text.modules (string_bytes e.0) c.load_one.new.modules
      (same_only inside (g.R.Resolver.answers c.args.resolver.now) (g.R.Resolver.answers c.loop-text.resolver) c.loop-text.invariant.answers)
      (subst (λ q. IsLoadedOne (only inside (g.R.Resolver.answers c.loop-text.resolver)) c.args.max_modules c.loop-text.modules e.1.path q c.load_one.new.modules) c.as_str.ensures.value
      (c.in_ok-load_one.ensures.alone inside here (printed ∙ sym c.as_str.ensures.value))));
}

pub returns-in_err-load_one-clause-loads : goal.returns-in_err-load_one-clause-loads
returns-in_err-load_one-clause-loads g c = λ listed tabled sought.
    let p = err_from_is_err_and c.from_residual.result c.from_residual.ensures.1 in
    let sources = g.R.Resolver.answers c.args.resolver.now in
    let t = c.loop-text.invariant.loads listed tabled sought in
    let e : AskedEntry = (c.in-Some.text.now, c.in-Some.«module».now) in
    let is = rest_more deref_pair c.loop-text.text-iterator c.next.new.self c.next.result (c.in-Some.text, c.in-Some.«module») c.in-Some.is c.next.ensures.steps in
    let printed = first_printed sources c.args.max_modules c.args.modules.now listed c.args.asked.now c.loop-text.modules c.loop-text.text-iterator c.next.new.self e is t in
    subst (LoadsAll sources c.args.max_modules c.args.modules.now listed c.args.asked.now c.load_one.new.modules) (sym (p.1 ∙ ap Err p.2))
    (first_refused sources c.args.max_modules c.args.modules.now listed c.args.asked.now c.loop-text.modules c.loop-text.text-iterator c.next.new.self e is t c.in_err-load_one.field-0.0
    (λ ps.
    same_refuses sources (g.R.Resolver.answers c.loop-text.resolver) c.args.max_modules (length c.loop-text.modules.entries) (string_bytes e.0 ∷ ps) (refusal_of c.in_err-load_one.field-0.0)
    c.loop-text.invariant.answers
    (subst (λ q. RefusesLoading (g.R.Resolver.answers c.loop-text.resolver) c.args.max_modules (length c.loop-text.modules.entries) (q ∷ ps) (refusal_of c.in_err-load_one.field-0.0))
    c.as_str.ensures.value (c.in_err-load_one.ensures.loads (printed ∙ sym c.as_str.ensures.value) ps))))

pub returns-clause-loads : goal.returns-clause-loads
returns-clause-loads g c = λ listed tabled sought.
    all_are_loaded (g.R.Resolver.answers c.args.resolver.now) c.args.max_modules c.args.modules.now listed c.args.asked.now c.loop-text.modules c.loop-text.text-iterator
    (rest_all deref_pair c.loop-text.text-iterator c.next.new.self c.next.result c.in-None.is c.next.ensures.steps)
    (c.loop-text.invariant.loads listed tabled sought)

pub returns-in_err-load_one-clause-asks : goal.returns-in_err-load_one-clause-asks
returns-in_err-load_one-clause-asks g c = λ listed tabled sought.
    let p = err_from_is_err_and c.from_residual.result c.from_residual.ensures.1 in
    let sources = g.R.Resolver.answers c.args.resolver.now in
    let before = g.R.Resolver.asked c.args.resolver.now in
    let after = g.R.Resolver.asked c.load_one.new.resolver in
    let t = c.loop-text.invariant.asks listed tabled sought in
    let e : AskedEntry = (c.in-Some.text.now, c.in-Some.«module».now) in
    let is = rest_more deref_pair c.loop-text.text-iterator c.next.new.self c.next.result (c.in-Some.text, c.in-Some.«module») c.in-Some.is c.next.ensures.steps in
    let printed = first_printed sources c.args.max_modules c.args.modules.now listed c.args.asked.now c.loop-text.modules c.loop-text.text-iterator c.next.new.self e is t.to in
    subst (AsksForAll sources c.args.max_modules before after c.args.modules.now listed c.args.asked.now c.load_one.new.modules) (sym (p.1 ∙ ap Err p.2))
    (one_refused sources c.args.max_modules c.args.modules.now listed c.args.asked.now before (g.R.Resolver.asked c.loop-text.resolver) after c.loop-text.modules c.loop-text.text-iterator c.next.new.self e is t
    (path_text e.1.path) printed c.in_err-load_one.ensures.asks)

pub returns-clause-asks : goal.returns-clause-asks
returns-clause-asks g c = λ listed tabled sought.
    all_are_asked (g.R.Resolver.answers c.args.resolver.now) c.args.max_modules c.args.modules.now listed c.args.asked.now (g.R.Resolver.asked c.args.resolver.now) (g.R.Resolver.asked c.loop-text.resolver)
    c.loop-text.modules c.loop-text.text-iterator
    (rest_all deref_pair c.loop-text.text-iterator c.next.new.self c.next.result c.in-None.is c.next.ensures.steps)
    (c.loop-text.invariant.asks listed tabled sought)

pub returns-in_err-load_one-clause-alone : goal.returns-in_err-load_one-clause-alone
returns-in_err-load_one-clause-alone g c = λ inside within listed tabled sought.
    let p = err_from_is_err_and c.from_residual.result c.from_residual.ensures.1 in
    let before = g.R.Resolver.asked c.args.resolver.now in
    let between = g.R.Resolver.asked c.loop-text.resolver in
    let after = g.R.Resolver.asked c.load_one.new.resolver in
    let sources = only inside (g.R.Resolver.answers c.args.resolver.now) in
    let t = c.loop-text.invariant.alone inside (inside_first inside before between after within (one_or_none between _ _ _ after c.load_one.ensures.asks)) listed tabled sought in
    let here = inside_then inside before between after within c.loop-text.invariant.more in
    let e : AskedEntry = (c.in-Some.text.now, c.in-Some.«module».now) in
    let is = rest_more deref_pair c.loop-text.text-iterator c.next.new.self c.next.result (c.in-Some.text, c.in-Some.«module») c.in-Some.is c.next.ensures.steps in
    let printed = first_printed sources c.args.max_modules c.args.modules.now listed c.args.asked.now c.loop-text.modules c.loop-text.text-iterator c.next.new.self e is t in
    subst (LoadsAll sources c.args.max_modules c.args.modules.now listed c.args.asked.now c.load_one.new.modules) (sym (p.1 ∙ ap Err p.2))
    (first_refused sources c.args.max_modules c.args.modules.now listed c.args.asked.now c.loop-text.modules c.loop-text.text-iterator c.next.new.self e is t c.in_err-load_one.field-0.0
    (λ ps.
    same_refuses sources (only inside (g.R.Resolver.answers c.loop-text.resolver)) c.args.max_modules (length c.loop-text.modules.entries) (string_bytes e.0 ∷ ps) (refusal_of c.in_err-load_one.field-0.0)
    (same_only inside (g.R.Resolver.answers c.args.resolver.now) (g.R.Resolver.answers c.loop-text.resolver) c.loop-text.invariant.answers)
    (subst (λ q. RefusesLoading (only inside (g.R.Resolver.answers c.loop-text.resolver)) c.args.max_modules (length c.loop-text.modules.entries) (q ∷ ps) (refusal_of c.in_err-load_one.field-0.0))
    c.as_str.ensures.value (c.in_err-load_one.ensures.alone inside here (printed ∙ sym c.as_str.ensures.value) ps))))

pub returns-clause-alone : goal.returns-clause-alone
returns-clause-alone g c = λ inside within listed tabled sought.
    all_are_loaded (only inside (g.R.Resolver.answers c.args.resolver.now)) c.args.max_modules c.args.modules.now listed c.args.asked.now c.loop-text.modules c.loop-text.text-iterator
    (rest_all deref_pair c.loop-text.text-iterator c.next.new.self c.next.result c.in-None.is c.next.ensures.steps)
    (c.loop-text.invariant.alone inside within listed tabled sought)

pub returns-in_err-load_one-clause-more : goal.returns-in_err-load_one-clause-more
returns-in_err-load_one-clause-more g c =
    let between = g.R.Resolver.asked c.loop-text.resolver in
    let after = g.R.Resolver.asked c.load_one.new.resolver in
    more_then (g.R.Resolver.asked c.args.resolver.now) between after c.loop-text.invariant.more (one_or_none between _ _ _ after c.load_one.ensures.asks)
