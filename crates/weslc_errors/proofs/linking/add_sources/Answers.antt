-- Each text is recorded, and only want of memory refuses one.
use Rattle.std.proofs.Common.{◌<◌, length, refl, inl, subst, ◌∙◌, arith}
use Rattle.std.proofs.lemmas.Result.{err_from_is_err_and}
use Rattle.wgsl_path.specs.Paths.{path_text}
use Rattle.weslc_errors.proofs.Mapping.{same_before, texts_before, text_moved, text_back, texts_more, texts_all, adds_more, found_item, found_moved}
use Rattle.weslc_errors.specs.Mapped.{HasNames}
use Rattle.weslc_errors.proofs.linking.add_sources.Goals as goal

pub loop-path-init : goal.loop-path-init
loop-path-init g c = record {
  texts = λ k q less at. absurd (omega (arith, less));
  only = λ p some. inl some;
  names = λ h. h;
  decls = refl;
  same_answers = λ p a. (λ h. h, λ h. h);
  same_texts = λ p a. (λ h. h, λ h. h);
  same_names = refl;
  same_reference = refl;
  same_asked = refl;
}

pub returns-in_err-add_source-clause-memory : goal.returns-in_err-add_source-clause-memory
returns-in_err-add_source-clause-memory g c all =
    let p = err_from_is_err_and c.from_residual.result c.from_residual.ensures.1 in
    let inside : c.loop-path.path-index < length c.args.paths.now = omega (arith, c.loop-path-test.true) in
    let found = found_item (g.R.Resolver.answers c.args.resolver.now) c.args.paths.now c.loop-path.path-index c.path-item.result inside c.path-item.is all in
    let here = found_moved (g.R.Resolver.answers c.args.resolver.now) (g.R.Resolver.answers c.loop-path.resolver) c.loop-path.invariant.same_answers (path_text c.path-item.result.now) found in
    rw (p.1, p.2) (c.in_err-add_source.ensures.memory here)

pub loop-path-preserved : goal.loop-path-preserved
loop-path-preserved g c =
    let inside : c.loop-path.path-index < length c.args.paths.now = omega (arith, c.loop-path-test.true) in
    let first = g.R.Resolver.texts c.args.resolver.now in
    let before = g.R.Resolver.texts c.loop-path.resolver in
    let same = c.loop-path.invariant.same_texts in
    record {
      texts = texts_more first c.loop-path.recorded c.add_source.new.recorded c.args.paths.now c.loop-path.path-index c.path-item.result inside c.path-item.is c.loop-path.invariant.texts
          (text_moved first before same c.add_source.new.recorded c.path-item.result.now c.in_ok-add_source.ensures.text)
          (λ q h. text_moved first before same c.add_source.new.recorded q (c.in_ok-add_source.ensures.texts q (text_back first before same c.loop-path.recorded q h)));
      only = adds_more c.args.recorded.now c.loop-path.recorded c.add_source.new.recorded c.args.paths.now c.loop-path.path-index c.path-item.result inside c.path-item.is c.loop-path.invariant.only c.in_ok-add_source.ensures.only;
      names = λ h.
          subst (λ n. HasNames n c.loop-path.recorded → HasNames n c.add_source.new.recorded) c.loop-path.invariant.same_names c.in_ok-add_source.ensures.names (c.loop-path.invariant.names h);
      decls = c.in_ok-add_source.ensures.decls ∙ c.loop-path.invariant.decls;
      same_answers = same_before (g.R.Resolver.answers c.args.resolver.now) (g.R.Resolver.answers c.loop-path.resolver) (g.R.Resolver.answers c.add_source.new.resolver) c.loop-path.invariant.same_answers c.in_ok-add_source.ensures.same_answers;
      same_texts = texts_before first before (g.R.Resolver.texts c.add_source.new.resolver) same c.in_ok-add_source.ensures.same_texts;
      same_names = c.in_ok-add_source.ensures.same_names ∙ c.loop-path.invariant.same_names;
      same_reference = c.in_ok-add_source.ensures.same_reference ∙ c.loop-path.invariant.same_reference;
      same_asked = c.in_ok-add_source.ensures.same_asked ∙ c.loop-path.invariant.same_asked;
    }

pub returns-clause-texts : goal.returns-clause-texts
returns-clause-texts g c =
    texts_all (g.R.Resolver.texts c.args.resolver.now) c.loop-path.recorded c.args.paths.now (λ k q less at. c.loop-path.invariant.texts k q (omega (arith, less, c.loop-path-test.false)) at)
