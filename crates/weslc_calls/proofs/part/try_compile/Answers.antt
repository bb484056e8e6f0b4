-- What the proved chain tells is told of the modules once their conditions are decided.
use Rattle.std.proofs.Common.{rules, IfOk, IfErr, string_bytes}
use Rattle.wgsl_path.specs.Paths.{path_text}
use Rattle.weslc_link.specs.Found.{at_text, part_names}
use Rattle.core_calls.specs.Mapped.{HasNames}
use Rattle.core_calls.specs.Answers.{RefusesToCompile, IsMapped, IsCompiledText}
use Rattle.core_reach.specs.Alone.{only, Alone}
use Rattle.weslc_calls.specs.OfCore.{sources, texts_asked, IsOther}
use Rattle.weslc_calls.proofs.Trying.{asked_there, answered, beyond}
use Rattle.weslc_calls.proofs.part.try_compile.Goals as goal

pub returns-clause-text : goal.returns-clause-text
returns-clause-text g c = answered c.compile-answer.result (λ r. IfOk r (λ answer. IsCompiledText (sources c.args.options.now.features (g.R.Resolver.answers c.args.resolver.now)) (path_text c.args.root.now) c.args.options.now.keep c.args.options.now.max_modules c.args.options.now.max_steps (string_bytes answer.0))) c.outcome_of.result c.outcome_of.ensures.answered
    (rw (c.new-part.ensures, c.new-decided.ensures) at c.compile-answer.ensures.text)

pub returns-clause-map : goal.returns-clause-map
returns-clause-map g c = answered c.compile-answer.result (λ r. IfOk r (λ answer. IsMapped (sources c.args.options.now.features (g.R.Resolver.answers c.args.resolver.now)) (path_text c.args.root.now) c.args.options.now.keep c.args.options.now.max_modules (at_text (g.R.Resolver.texts c.args.resolver.now)) answer.1)) c.outcome_of.result c.outcome_of.ensures.answered
    (rw (c.new-part.ensures, c.new-decided.ensures) at c.compile-answer.ensures.map)

pub returns-clause-names : goal.returns-clause-names
returns-clause-names g c = answered c.compile-answer.result (λ r. IfOk r (λ answer. HasNames (part_names (g.R.Resolver.display_names c.args.resolver.now)) answer.1)) c.outcome_of.result c.outcome_of.ensures.answered
    (rw (c.new-part.ensures, c.new-decided.ensures) at c.compile-answer.ensures.names)

pub returns-clause-refusal : goal.returns-clause-refusal
returns-clause-refusal g c = answered c.compile-answer.result (λ r. IfErr r (RefusesToCompile (sources c.args.options.now.features (g.R.Resolver.answers c.args.resolver.now)) (path_text c.args.root.now) c.args.options.now.keep c.args.options.now.max_modules c.args.options.now.max_steps)) c.outcome_of.result c.outcome_of.ensures.answered
    (rw (c.new-part.ensures, c.new-decided.ensures) at c.compile-answer.ensures.refusal)

pub returns-clause-beyond : goal.returns-clause-beyond
returns-clause-beyond g c = beyond c.compile-answer.result (RefusesToCompile (sources c.args.options.now.features (g.R.Resolver.answers c.args.resolver.now)) (path_text c.args.root.now) c.args.options.now.keep c.args.options.now.max_modules c.args.options.now.max_steps) (IsOther c.args.root.now c.args.options.now) c.outcome_of.result c.outcome_of.ensures.beyond
    (rw (c.new-part.ensures, c.new-decided.ensures) at c.compile-answer.ensures.refusal)

pub returns-clause-alone_text : goal.returns-clause-alone_text
returns-clause-alone_text g c = λ inside within.
    let last = c.compile-answer.new.resolver.resolver.inner.resolver in
    let alone : Alone (texts_asked (g.R.Resolver.asked c.args.resolver.now)) (texts_asked (g.R.Resolver.asked last.now)) (λ inside. IfOk c.compile-answer.result (λ answer. IsCompiledText (only inside (sources c.args.options.now.features (g.R.Resolver.answers c.args.resolver.now))) (path_text c.args.root.now) c.args.options.now.keep c.args.options.now.max_modules c.args.options.now.max_steps (string_bytes answer.0))) =
    rw (c.new-part.ensures, c.new-decided.ensures) at c.compile-answer.ensures.alone_text in
    answered c.compile-answer.result (λ r. IfOk r (λ answer. IsCompiledText (only inside (sources c.args.options.now.features (g.R.Resolver.answers c.args.resolver.now))) (path_text c.args.root.now) c.args.options.now.keep c.args.options.now.max_modules c.args.options.now.max_steps (string_bytes answer.0))) c.outcome_of.result c.outcome_of.ensures.answered
    (alone inside (asked_there g.R.Resolver.asked inside (texts_asked (g.R.Resolver.asked c.args.resolver.now)) last.now _ (search rules) within))

pub returns-clause-alone_map : goal.returns-clause-alone_map
returns-clause-alone_map g c = λ inside within.
    let last = c.compile-answer.new.resolver.resolver.inner.resolver in
    let alone : Alone (texts_asked (g.R.Resolver.asked c.args.resolver.now)) (texts_asked (g.R.Resolver.asked last.now)) (λ inside. IfOk c.compile-answer.result (λ answer. IsMapped (only inside (sources c.args.options.now.features (g.R.Resolver.answers c.args.resolver.now))) (path_text c.args.root.now) c.args.options.now.keep c.args.options.now.max_modules (at_text (g.R.Resolver.texts c.args.resolver.now)) answer.1)) =
    rw (c.new-part.ensures, c.new-decided.ensures) at c.compile-answer.ensures.alone_map in
    answered c.compile-answer.result (λ r. IfOk r (λ answer. IsMapped (only inside (sources c.args.options.now.features (g.R.Resolver.answers c.args.resolver.now))) (path_text c.args.root.now) c.args.options.now.keep c.args.options.now.max_modules (at_text (g.R.Resolver.texts c.args.resolver.now)) answer.1)) c.outcome_of.result c.outcome_of.ensures.answered
    (alone inside (asked_there g.R.Resolver.asked inside (texts_asked (g.R.Resolver.asked c.args.resolver.now)) last.now _ (search rules) within))

pub returns-clause-alone_refusal : goal.returns-clause-alone_refusal
returns-clause-alone_refusal g c = λ inside within.
    let last = c.compile-answer.new.resolver.resolver.inner.resolver in
    let alone : Alone (texts_asked (g.R.Resolver.asked c.args.resolver.now)) (texts_asked (g.R.Resolver.asked last.now)) (λ inside. IfErr c.compile-answer.result (RefusesToCompile (only inside (sources c.args.options.now.features (g.R.Resolver.answers c.args.resolver.now))) (path_text c.args.root.now) c.args.options.now.keep c.args.options.now.max_modules c.args.options.now.max_steps)) =
    rw (c.new-part.ensures, c.new-decided.ensures) at c.compile-answer.ensures.alone_refusal in
    answered c.compile-answer.result (λ r. IfErr r (RefusesToCompile (only inside (sources c.args.options.now.features (g.R.Resolver.answers c.args.resolver.now))) (path_text c.args.root.now) c.args.options.now.keep c.args.options.now.max_modules c.args.options.now.max_steps)) c.outcome_of.result c.outcome_of.ensures.answered
    (alone inside (asked_there g.R.Resolver.asked inside (texts_asked (g.R.Resolver.asked c.args.resolver.now)) last.now _ (search rules) within))

pub returns-clause-alone_beyond : goal.returns-clause-alone_beyond
returns-clause-alone_beyond g c = λ inside within.
    let last = c.compile-answer.new.resolver.resolver.inner.resolver in
    let alone : Alone (texts_asked (g.R.Resolver.asked c.args.resolver.now)) (texts_asked (g.R.Resolver.asked last.now)) (λ inside. IfErr c.compile-answer.result (RefusesToCompile (only inside (sources c.args.options.now.features (g.R.Resolver.answers c.args.resolver.now))) (path_text c.args.root.now) c.args.options.now.keep c.args.options.now.max_modules c.args.options.now.max_steps)) =
    rw (c.new-part.ensures, c.new-decided.ensures) at c.compile-answer.ensures.alone_refusal in
    beyond c.compile-answer.result (RefusesToCompile (only inside (sources c.args.options.now.features (g.R.Resolver.answers c.args.resolver.now))) (path_text c.args.root.now) c.args.options.now.keep c.args.options.now.max_modules c.args.options.now.max_steps) (IsOther c.args.root.now c.args.options.now) c.outcome_of.result c.outcome_of.ensures.beyond
    (alone inside (asked_there g.R.Resolver.asked inside (texts_asked (g.R.Resolver.asked c.args.resolver.now)) last.now _ (search rules) within))
