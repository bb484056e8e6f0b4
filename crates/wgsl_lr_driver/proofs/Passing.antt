-- Rules that pass their one symbol on.
use Rattle.std.proofs.Common.{◌≡◌, ◌∙◌, ap, ℕ, [], ◌∷◌, Option, Some, None, MatchOption}
use Rattle.wgsl_semantic_values.specs.declared.part.Part.{Part}
use Rattle.wgsl_semantic_values.specs.declared.part.Part.TheVariants.{Absent}
use Rattle.wgsl_semantic_values.specs.declared.label.Label.TheVariants as l
use Rattle.wgsl_lr_driver.specs.declared.phrase.Failure.{Failure}
use Rattle.wgsl_lr_driver.specs.declared.phrase.Phrase.{Phrase}
use Rattle.wgsl_lr_driver.specs.Gathering.{either, extent_from, chosen}
use Rattle.wgsl_grammar_tables.specs.Labels.{pattern_at}
use Rattle.wgsl_grammar_tables.specs.PassedOn.{IsPassedTo}
use Rattle.wgsl_lr_driver.specs.Failures.{failure_at, first_check, made_failed}
use Rattle.wgsl_grammar_tables.specs.Runs.{PassesOn, PassesKept}
use Rattle.wgsl_lr_driver.specs.Phrases.{grammar, made, make, IsKept}
use Rattle.wgsl_lr_driver.proofs.Failing.{either_none}

abbrev with_failure : Phrase Part → Option Failure → Phrase Part
with_failure x f = record { part = x.part; span = x.span; last = x.last; failure = f; depth = x.depth }

passed_on : (p left : ℕ) (x : Phrase Part) → IsPassedTo p left → made_failed l.Pass x.part ≡ None → make p (x ∷ []) ≡ x
passed_on p left x is fine =
    ap (λ label. made label (extent_from None (x ∷ [])) (chosen Absent (pattern_at p) (x ∷ []))) is.label
    ∙ ap (λ pattern. made l.Pass (extent_from None (x ∷ [])) (chosen Absent pattern (x ∷ []))) is.pattern
    ∙ ap (λ c. with_failure x (either x.failure (failure_at x.last (first_check None c)))) fine
    ∙ ap (with_failure x) (either_none x.failure)

passes_on : (p left : ℕ) (x : Phrase Part) → IsPassedTo p left → made_failed l.Pass x.part ≡ None → PassesOn grammar p x left
passes_on p left x is fine = record { rule = is.rule; is = is.is; to = is.to; alone = is.alone; stays = passed_on p left x is fine }

-- so where a rule passes its symbol on, it does so of each phrase that is kept
pub passes_kept : (p : ℕ) (o : Option ℕ) → MatchOption o Unit (λ left. IsPassedTo p left) → MatchOption o Unit (PassesKept grammar IsKept p)
passes_kept p None is = tt
passes_kept p (Some left) is = λ x fine. passes_on p left x is fine
