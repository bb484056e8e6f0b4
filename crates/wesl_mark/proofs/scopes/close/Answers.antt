use Rattle.std.proofs.Common.{◌≡◌, ap, ◌∙◌, rules, ◌++◌, ◌∷◌, [], append_assoc}
use Rattle.wesl_mark.specs.declared.scopes.Entry.TheVariants.{Start, Bound}
use Rattle.wesl_mark.proofs.Steps.{kept_shorter, kept_same, table_same}
use Rattle.wesl_mark.proofs.scopes.close.Goals as goal

pub returns-in-Start-clause-kept : goal.returns-in-Start-clause-kept
returns-in-Start-clause-kept c =
    let e : c.loop-entry.trail.items ≡ c.pop.new.self.items ++ Start ∷ [] = search rules in
    kept_shorter _ Start (kept_same _ _ e c.loop-entry.invariant.1)

pub restore-requires-clause-kept : goal.restore-requires-clause-kept
restore-requires-clause-kept c =
    let e : c.loop-entry.trail.items ≡ c.as_slice.result.now ++ Bound c.in-Bound.b ∷ [] = search rules in
    kept_same _ _ e c.loop-entry.invariant.1

pub loop-entry-preserved : goal.loop-entry-preserved
loop-entry-preserved c =
    let e : c.loop-entry.trail.items ≡ c.pop.new.self.items ++ Bound c.in-Bound.b ∷ [] = search rules in
    let f : c.as_slice.result.now ≡ c.pop.new.self.items = search rules in
    let kept = kept_same _ _ e c.loop-entry.invariant.1 in (
      table_same _ _ _ f c.restore.ensures,
      kept_shorter c.pop.new.self.items (Bound c.in-Bound.b) kept,
      (Bound c.in-Bound.b ∷ c.loop-entry.invariant.2.0, c.loop-entry.invariant.2.1, c.loop-entry.invariant.2.2 ∙ ap (λ t. t ++ c.loop-entry.invariant.2.0) e ∙ append_assoc c.pop.new.self.items (Bound c.in-Bound.b ∷ []) c.loop-entry.invariant.2.0),
    )
