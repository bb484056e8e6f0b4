-- The number is of what was put in, and the table grows by that.
use Rattle.std.proofs.Common.{◌≡◌, sym, ap, ◌∙◌, ℕ, Some, slice_get}
use Rattle.std.proofs.lemmas.Result.{IfOk-weaker}
use Rattle.wesl_mark.specs.contracts.names.ReferencePartialEq.TheImpl as reference
use Rattle.wesl_mark.proofs.Interned.{keeps_by_insert}
use Rattle.wesl_mark.proofs.Named.{named_by_insert, named_unchanged}
use Rattle.wesl_mark.proofs.Same.{same_references}
use Rattle.wesl_mark.proofs.names.reference_number.Goals as goal

pub returns-clause-reads : goal.returns-clause-reads
returns-clause-reads c =
    let s = c.in_ok-at.ensures.stored in
    IfOk-weaker c.numbered.result (λ (number : ℕ). number ≡ c.in_ok-at.at) (λ (number : ℕ). slice_get c.insert_full.new.self.keys number ≡ Some c.args.reference)
    (λ number same. ap (slice_get c.insert_full.new.self.keys) same ∙ s.1 ∙ ap Some (sym (same_references c.args.reference s.0 s.2))) c.numbered.ensures

pub returns-clause-keeps : goal.returns-clause-keeps
returns-clause-keeps c = keeps_by_insert reference.eq-value.it c.args.references.now.keys c.insert_full.new.self.keys c.args.reference c.in_ok-at.ensures.keys

pub returns-in_err-at-clause-named : goal.returns-in_err-at-clause-named
returns-in_err-at-clause-named c names below named = named_unchanged names c.args.references.now.keys c.insert_full.new.self.keys c.in_err-at.ensures.err named

pub returns-clause-named : goal.returns-clause-named
returns-clause-named c names below named =
    named_by_insert reference.eq-value.it names c.args.references.now.keys c.insert_full.new.self.keys c.args.reference c.in_ok-at.ensures.keys below named
