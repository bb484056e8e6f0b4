-- The text keeps what the sources mean.
use Rattle.std.specs.Prelude.{string_bytes, IfErr}
use Rattle.std.proofs.Common.{inl, inr, Err, sym, ap, subst, ◌∙◌}
use Rattle.std.proofs.lemmas.Result.{err_from_is_err_and}
use Rattle.wgsl_path.specs.Paths.{path_text}
use Rattle.core_syntax.specs.View.{unit_tree}
use Rattle.weslc_errors.proofs.Located.{refused_unit}
use Rattle.weslc_errors.proofs.Texts.{compiled_text}
use Rattle.weslc_errors.specs.Alone.{only}
use Rattle.weslc_errors.specs.Answers.{RefusesToCompile}
use Rattle.core_calls.proofs.calls.compile.Goals as goal

pub returns-in-Ok-clause-text : goal.returns-in-Ok-clause-text
returns-in-Ok-clause-text g c =
    compiled_text (g.R.Resolver.answers c.args.resolver.now) (path_text c.args.root.now) c.args.options.now.keep c.args.options.now.max_modules c.args.options.now.max_steps (unit_tree c.in_ok-unit.field-0.unit) c.in_ok-unit.ensures.unit
    (string_bytes c.in-Ok.text) c.in-Ok.ensures.text

pub returns-clause-refusal : goal.returns-clause-refusal
returns-clause-refusal g c =
    inr (refused_unit (g.R.Resolver.answers c.args.resolver.now) (path_text c.args.root.now) c.args.options.now.keep c.args.options.now.max_modules c.args.options.now.max_steps (unit_tree c.in_ok-unit.field-0.unit) c.in_ok-unit.field-0.map
    c.in_ok-unit.ensures.told c.in-Err.refusal c.of_unit.result c.in-Err.ensures.refusal c.of_unit.ensures)

pub returns-in-Ok-clause-alone_text : goal.returns-in-Ok-clause-alone_text
returns-in-Ok-clause-alone_text g c = λ inside within.
    compiled_text (only inside (g.R.Resolver.answers c.args.resolver.now)) (path_text c.args.root.now) c.args.options.now.keep c.args.options.now.max_modules c.args.options.now.max_steps (unit_tree c.in_ok-unit.field-0.unit)
    (c.in_ok-unit.ensures.alone_told inside within).from (string_bytes c.in-Ok.text) c.in-Ok.ensures.text

pub returns-clause-alone_refusal : goal.returns-clause-alone_refusal
returns-clause-alone_refusal g c = λ inside within.
    inr (refused_unit (only inside (g.R.Resolver.answers c.args.resolver.now)) (path_text c.args.root.now) c.args.options.now.keep c.args.options.now.max_modules c.args.options.now.max_steps (unit_tree c.in_ok-unit.field-0.unit) c.in_ok-unit.field-0.map
    (c.in_ok-unit.ensures.alone_told inside within) c.in-Err.refusal c.of_unit.result c.in-Err.ensures.refusal c.of_unit.ensures)

pub returns-in_err-unit-clause-alone_refusal : goal.returns-in_err-unit-clause-alone_refusal
returns-in_err-unit-clause-alone_refusal g c = λ inside within.
    let p = err_from_is_err_and c.from_residual.result c.from_residual.ensures.1 in
    subst (λ r. IfErr r (RefusesToCompile (only inside (g.R.Resolver.answers c.args.resolver.now)) (path_text c.args.root.now) c.args.options.now.keep c.args.options.now.max_modules c.args.options.now.max_steps)) (sym (p.1 ∙ ap Err p.2))
    (inl (c.in_err-unit.ensures.alone_refusal inside within))

pub returns-in-Ok-clause-map : goal.returns-in-Ok-clause-map
returns-in-Ok-clause-map g c = c.in_ok-unit.ensures.map

pub returns-in-Ok-clause-alone_map : goal.returns-in-Ok-clause-alone_map
returns-in-Ok-clause-alone_map g c = λ inside within. c.in_ok-unit.ensures.alone_map inside within
