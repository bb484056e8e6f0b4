-- What rules make, in the place of the lowest of their symbols.
use Rattle.std.proofs.Common.{◌≡◌, ◌∙◌, sym, ap, ℕ, List, [], ◌∷◌, Some, None}
use Rattle.wgsl_base.specs.Tops.{first, with_first, without_first}
use Rattle.wgsl_grammar_tables.specs.declared.shift_reduce.machine.Entry.{Entry}
use Rattle.wgsl_grammar_tables.specs.Machine.{popped}
use Rattle.wgsl_grammar_tables.specs.Runs.{IsMade}
use Rattle.wgsl_semantic_values.specs.declared.part.Part.{Part}
use Rattle.wgsl_semantic_values.specs.declared.part.Part.TheVariants.{Absent}
use Rattle.wgsl_semantic_values.specs.declared.label.Label.{Label}
use Rattle.wgsl_lr_driver.specs.declared.phrase.Phrase.{Phrase}
use Rattle.wgsl_lr_driver.specs.declared.gather.Extent.{Extent}
use Rattle.wgsl_lr_driver.specs.Gathering.{extent_of, extent_from, chosen, IsGathered}
use Rattle.wgsl_grammar_tables.specs.Labels.{label_at, pattern_at}
use Rattle.wgsl_lr_driver.specs.Phrases.{grammar, made, make}

-- the uppermost entry, with another phrase
put_first : (es : List (Entry (Phrase Part))) (e : Entry (Phrase Part)) (y z : Phrase Part) → Some e ≡ first es → y ≡ z
    → with_first es (record { state = e.state; value = y }) ≡ record { state = e.state; value = z } ∷ without_first es
put_first [] e y z is same = absurd cc
put_first (x ∷ es) e y z is same = ap (λ v. record { state = e.state; value = v } ∷ es) same

popped_first : (es : List (Entry (Phrase Part))) (e : Entry (Phrase Part)) → Some e ≡ first es → popped 1 es [] ≡ (without_first es, e.value ∷ [])
popped_first [] e is = absurd cc
popped_first (x ∷ es) e is = let same : x ≡ e = cc in ap (λ (v : Entry (Phrase Part)). (es, v.value ∷ [])) same

pub alone : (p : ℕ) (label : Label) (es : List (Entry (Phrase Part))) (e : Entry (Phrase Part)) (y : Phrase Part) → pattern_at p ≡ 2 ∷ [] → label ≡ label_at p → Some e ≡ first es
    → y ≡ made label (Some (extent_of e.value)) (e.value.part ∷ []) → IsMade grammar p 1 es (with_first es (record { state = e.state; value = y }))
alone p label es e y pattern is uppermost same = record {
  below = without_first es;
  values = e.value ∷ [];
  parts = popped_first es e uppermost;
  state = e.state;
  put = put_first es e y (make p (e.value ∷ [])) uppermost
      (same ∙ ap (λ l. made l (Some (extent_of e.value)) (e.value.part ∷ [])) is
      ∙ ap (λ k. made (label_at p) (Some (extent_of e.value)) (chosen Absent k (e.value ∷ []))) (sym pattern));
}

pub several : (p count : ℕ) (label : Label) (pattern : List ℕ) (es ms : List (Entry (Phrase Part))) (extent : Extent) (parts : List Part) (e : Entry (Phrase Part)) (y : Phrase Part)
    → pattern ≡ pattern_at p → IsGathered Absent count pattern es ms extent parts → label ≡ label_at p → Some e ≡ first ms → y ≡ made label (Some extent) parts
    → IsMade grammar p count es (with_first ms (record { state = e.state; value = y }))
several p count label pattern es ms extent parts e y chosen_by h is uppermost same = record {
  below = without_first ms;
  values = h.values;
  parts = h.taken;
  state = e.state;
  put = put_first ms e y (make p h.values) uppermost
      (same ∙ ap (λ l. made l (Some extent) parts) is ∙ ap (λ o. made (label_at p) o parts) h.extents
      ∙ ap (made (label_at p) (extent_from None h.values)) (h.chose ∙ ap (λ k. chosen Absent k h.values) chosen_by));
}
