-- What the proved chain tells is told of the modules once their conditions are decided.
use Rattle.std.proofs.Common.{rules, IfOk, IfErr, string_bytes, inr}
use Rattle.wgsl_path.specs.Paths.{path_text}
use Rattle.weslc_link.specs.Found.{at_text}
use Rattle.core_calls.specs.Answers.{RefusesToLink, IsMapped, IsLinkedText}
use Rattle.weslc_calls.specs.OfCore.{sources}
use Rattle.weslc_calls.specs.Plain.{IsPlain}
use Rattle.weslc_calls.proofs.Plain.{plain_answer}
use Rattle.weslc_calls.proofs.part.try_link.Goals as goal

pub returns-in_default-clause-text : goal.returns-in_default-clause-text
returns-in_default-clause-text g c =
    let told : IfOk c.link.result (λ answer. IsLinkedText (sources c.args.options.now.features (g.R.Resolver.answers c.args.resolver.now)) (path_text c.args.root.now) c.args.options.now.keep c.args.options.now.max_modules (string_bytes answer.0)) =
    rw (c.new-part.ensures, c.new-decided.ensures) at c.link.ensures.text in
    search (rules, told)

pub returns-in_default-clause-plain : goal.returns-in_default-clause-plain
returns-in_default-clause-plain g c =
    let told : IfOk c.link.result (λ answer. IsLinkedText (sources c.args.options.now.features (g.R.Resolver.answers c.args.resolver.now)) (path_text c.args.root.now) c.args.options.now.keep c.args.options.now.max_modules (string_bytes answer.0)) =
    rw (c.new-part.ensures, c.new-decided.ensures) at c.link.ensures.text in
    let plain : IfOk c.link.result (λ answer. IsPlain (string_bytes answer.0)) =
    plain_answer _ _ _ _ c.link.result told in
    search (rules, plain)

pub returns-in_default-clause-map : goal.returns-in_default-clause-map
returns-in_default-clause-map g c =
    let told : IfOk c.link.result (λ answer. IsMapped (sources c.args.options.now.features (g.R.Resolver.answers c.args.resolver.now)) (path_text c.args.root.now) c.args.options.now.keep c.args.options.now.max_modules (at_text (g.R.Resolver.texts c.args.resolver.now)) answer.1) =
    rw (c.new-part.ensures, c.new-decided.ensures) at c.link.ensures.map in
    search (rules, told)

pub returns-in_default-clause-refusal : goal.returns-in_default-clause-refusal
returns-in_default-clause-refusal g c =
    let told : IfErr c.link.result (RefusesToLink (sources c.args.options.now.features (g.R.Resolver.answers c.args.resolver.now)) (path_text c.args.root.now) c.args.options.now.keep c.args.options.now.max_modules) =
    rw (c.new-part.ensures, c.new-decided.ensures) at c.link.ensures.refusal in
    search (rules, told)

pub returns-in-Err-Unsupported-clause-beyond : goal.returns-in-Err-Unsupported-clause-beyond
returns-in-Err-Unsupported-clause-beyond g c =
    inr (c.in-Err-Unsupported.field-0-0, rw (c.new-part.ensures, c.new-decided.ensures, c.in-Err-Unsupported.field-0-is) at c.in-Err-Unsupported.ensures.refusal)
