-- Texts that are answered for the same units are the same.
use Rattle.std.proofs.Common.{◌≡◌, ℕ, List, Ok, sym, ap, ◌∙◌, subst}
use Rattle.core_syntax.specs.Tree.{UnitTree}
use Rattle.core_syntax.specs.Print.{unit_text}
use Rattle.core_lower_expressions.specs.Lowered.{Lowers}
use Rattle.core_lower.proofs.Once.{lowered_once}
use Rattle.core_link_spec.specs.Rounds.{Sources}
use Rattle.core_modules_meaning.specs.Determined.{IsFunctional}
use Rattle.core_unit.specs.Compiled.{IsCompiled}
use Rattle.core_agreement.specs.Texts.{CompiledTextsAreOne, LinkedTextsAreOne}
use Rattle.core_agreement.proofs.Units.{units_are_one}

-- what a unit is lowered to is one
low_once : (steps : ℕ) (unit low more : UnitTree) → Lowers steps unit (Ok low) → Lowers steps unit (Ok more) → low ≡ more
low_once steps unit low more is it = let same : Ok low ≡ Ok more = lowered_once steps unit (Ok low) (Ok more) is it in cc

-- and so is its compiled text
pub compiled_once : (steps : ℕ) (one two : UnitTree) → one ≡ two → (text more : List ℕ) → IsCompiled steps one text → IsCompiled steps two more → text ≡ more
compiled_once steps one two same text more a b =
    a.whole ∙ ap unit_text (low_once steps two a.low b.low (subst (λ u. Lowers steps u (Ok a.low)) same a.lowered.lowered) b.lowered.lowered) ∙ sym b.whole

module _ (found other : Sources) (functional : IsFunctional other) where
  pub compiled_texts_are_one : CompiledTextsAreOne found other
  compiled_texts_are_one apart root asked max steps has one two a b =
      compiled_once steps a.linked b.linked (units_are_one found other functional apart root asked max has a.linked b.linked a.from b.from) one two a.compiled b.compiled

  pub linked_texts_are_one : LinkedTextsAreOne found other
  linked_texts_are_one apart root asked max has one two a b =
      a.whole ∙ ap unit_text (units_are_one found other functional apart root asked max has a.linked b.linked a.from b.from) ∙ sym b.whole
