use denote.Ref.{Bor}
use Rattle.std.proofs.Common.{◌≡◌, refl, sym, ap, subst, ◌∙◌, false}
use Rattle.std.specs.HashMap.{get_by_text}
use Rattle.std.proofs.lemmas.Grind.{merely}
use Rattle.weslc_workspace.specs.Held.{text_at}
use Rattle.weslc_workspace.specs.Refusals.{is_out_of_memory}
use Rattle.weslc_workspace.specs.Fresh.{IsCompiledOf}
use Rattle.weslc_workspace.specs.declared.modules.Modules.{Modules}
use Rattle.weslc_workspace.proofs.KeptLemmas.{just_compiled, kept_answers}
use Rattle.weslc_workspace.proofs.content.Workspace.run.Goals as goal

pub returns-clause-content : goal.returns-clause-content
returns-clause-content c = record { texts = λ p. ap (λ texts. get_by_text texts p) c.settle.ensures.texts; root = refl; options = refl }

pub returns-clause-fresh : goal.returns-clause-fresh
returns-clause-fresh c = λ some.
    let same : c.new-asking.result.modules.now ≡ c.args.self.now.modules = ap (λ (b : Bor Modules). b.now) c.new-asking.ensures.modules in
    subst (IsCompiledOf c.args.self.now.modules c.args.self.now.root c.args.self.now.options) (sym (c.new.ensures some))
    (subst (λ (m : Modules). IsCompiledOf m c.args.self.now.root c.args.self.now.options c.compile-answer.result) same (record {
      plain = c.compile-answer.ensures.plain;
      text = c.compile-answer.ensures.text;
      map = c.compile-answer.ensures.map;
      names = c.compile-answer.ensures.names;
      refusal = c.compile-answer.ensures.refusal;
    }))

pub returns-clause-answers : goal.returns-clause-answers
returns-clause-answers c = λ some.
    let there = c.new-asking.result.modules.now in
    let same : there ≡ c.args.self.now.modules = ap (λ (b : Bor Modules). b.now) c.new-asking.ensures.modules in
    merely (kept_answers c.args.self.now.modules c.args.self.now.root c.args.self.now.options c.into_parts-asked.result.0 c.new.result.answer
    (just_compiled there c.args.self.now.modules c.args.self.now.root c.args.self.now.options c.compile-answer.new.resolver.requests c.into_parts-asked.result.0 c.compile-answer.result c.new.result.answer
    c.into_parts-asked.ensures (λ p. ap (λ (m : Modules). text_at m p) (sym same)) (c.new.ensures some) c.compile-answer.ensures.alone))

pub invariant_of-self-3 : goal.invariant_of-self-3
invariant_of-self-3 c = record {
  kept = λ current.
      let there = c.new-asking.result.modules.now in
      let same : there ≡ c.args.self.now.modules = ap (λ (b : Bor Modules). b.now) c.new-asking.ensures.modules in
      let some : is_out_of_memory c.new.result.answer ≡ false = sym c.is_out_of_memory.ensures ∙ c.if-is_out_of_memory.false in
      merely (just_compiled there c.settle.new.self c.args.self.now.root c.args.self.now.options c.compile-answer.new.resolver.requests c.into_parts-asked.result.0 c.compile-answer.result c.new.result.answer
      c.into_parts-asked.ensures (λ p. ap (λ texts. get_by_text texts p) c.settle.ensures.texts ∙ ap (λ (m : Modules). text_at m p) (sym same)) (c.new.ensures some)
      c.compile-answer.ensures.alone);
}
