-- What is read is what the table of words says.
use Rattle.std.proofs.Common.{◌≡◌, ◌≢◌, refl, ap, subst, ℕ, List, [], ◌∷◌, Option, Some, None}
use Rattle.wgsl_attribute_words.proofs.ChoicesLemmas.{none_named}
use Rattle.wgsl_attribute_words.specs.declared.word.AttributeWord.{AttributeWord}
use Rattle.wgsl_attribute_words.specs.declared.word.AttributeWord.TheVariants as word
use Rattle.wgsl_attribute_words.specs.Words.{word_spelled, word_named}

pub word_none : (text : List ℕ) → ((x : AttributeWord) → word_spelled x ≢ Some text) → word_named text ≡ None
word_none text h = none_named word_spelled (word.Align ∷ word.Binding ∷ word.BlendSrc ∷ word.Builtin ∷ word.Const ∷ word.Diagnostic ∷ word.Group ∷ word.Id ∷ word.Interpolate ∷ word.Invariant ∷ word.Location ∷ word.MustUse ∷ word.Size ∷ word.WorkgroupSize ∷ word.Vertex ∷ word.Fragment ∷ word.Compute ∷ word.Publish ∷ word.If ∷ word.Elif ∷ word.Else ∷ []) text h
