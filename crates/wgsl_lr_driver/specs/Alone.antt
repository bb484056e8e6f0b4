-- What a production of one part does to the part's phrase.
use Rattle.std.specs.Prelude.{◌≡◌, Bool, true, false, [], ◌∷◌, Some}
use Rattle.wgsl_semantic_values.specs.declared.part.Part.{Part}
use Rattle.wgsl_semantic_values.specs.declared.label.Label.{Label}
use Rattle.wgsl_lr_driver.specs.declared.phrase.Phrase.{Phrase}
use Rattle.wgsl_lr_driver.specs.Gathering.{extent_of}
use Rattle.wgsl_lr_driver.specs.Phrases.{made}

-- The phrase was replaced by what the production makes of it alone, or stays.
abbrev pub MakesAlone : Label → Phrase Part → Phrase Part → Bool → Type 0
MakesAlone label x y true = y ≡ made label (Some (extent_of x)) (x.part ∷ [])
MakesAlone label x y false = y ≡ x
