use mathlib.Core.Logic.{∥∥₁_map}
use denote.Ref.{Bor}
use Rattle.std.proofs.Common.{◌≡◌, sym, ap, subst}
use Rattle.std.specs.HashMap.{get_by_text}
use Rattle.weslc_workspace.specs.Fresh.{IsLinkedOf}
use Rattle.weslc_workspace.specs.declared.modules.Modules.{Modules}
use Rattle.weslc_workspace.proofs.KeptLemmas.{kept_so}
use Rattle.weslc_workspace.proofs.content.Workspace.relink.Goals as goal

pub invariant_of-self : goal.invariant_of-self
invariant_of-self c = record {
  kept = λ current. ∥∥₁_map (c.args.self.now.kept current)
      (λ k. kept_so c.args.self.now.modules c.settle.new.self c.args.self.now.root c.args.self.now.options c.args.self.now.asked c.args.self.now.compiled.answer k
      (λ p. ap (λ texts. get_by_text texts p) c.settle.ensures.texts));
}

pub returns-clause-fresh : goal.returns-clause-fresh
returns-clause-fresh c = λ some.
    let same : c.new-asking.result.modules.now ≡ c.args.self.now.modules = ap (λ (b : Bor Modules). b.now) c.new-asking.ensures.modules in
    subst (IsLinkedOf c.args.self.now.modules c.args.self.now.root c.args.self.now.options) (sym (c.new.ensures some))
    (subst (λ (m : Modules). IsLinkedOf m c.args.self.now.root c.args.self.now.options c.link-answer.result) same (record {
      plain = c.link-answer.ensures.plain;
      text = c.link-answer.ensures.text;
      map = c.link-answer.ensures.map;
      names = c.link-answer.ensures.names;
      refusal = c.link-answer.ensures.refusal;
    }))
