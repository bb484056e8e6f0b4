-- The names of attributes.
use Rattle.std.specs.Prelude.{ℕ, List, [], ◌∷◌, Option, Some, codes}
use Rattle.wgsl_attribute_words.specs.Choices.{named}
use Rattle.wgsl_attribute_words.specs.declared.word.AttributeWord.{AttributeWord}
use Rattle.wgsl_attribute_words.specs.declared.word.AttributeWord.TheVariants as word

abbrev pub word_text : AttributeWord → List ℕ
word_text word.Align = codes "align"
word_text word.Binding = codes "binding"
word_text word.BlendSrc = codes "blend_src"
word_text word.Builtin = codes "builtin"
word_text word.Const = codes "const"
word_text word.Diagnostic = codes "diagnostic"
word_text word.Group = codes "group"
word_text word.Id = codes "id"
word_text word.Interpolate = codes "interpolate"
word_text word.Invariant = codes "invariant"
word_text word.Location = codes "location"
word_text word.MustUse = codes "must_use"
word_text word.Size = codes "size"
word_text word.WorkgroupSize = codes "workgroup_size"
word_text word.Vertex = codes "vertex"
word_text word.Fragment = codes "fragment"
word_text word.Compute = codes "compute"
word_text word.Publish = codes "publish"
word_text word.If = codes "if"
word_text word.Elif = codes "elif"
word_text word.Else = codes "else"

abbrev pub word_spelled : AttributeWord → Option (List ℕ)
word_spelled word = Some (word_text word)

-- the name of an attribute that a word is
abbrev pub word_named : List ℕ → Option AttributeWord
word_named text = named word_spelled (word.Align ∷ word.Binding ∷ word.BlendSrc ∷ word.Builtin ∷ word.Const ∷ word.Diagnostic ∷ word.Group ∷ word.Id ∷ word.Interpolate ∷ word.Invariant ∷ word.Location ∷ word.MustUse ∷ word.Size ∷ word.WorkgroupSize ∷ word.Vertex ∷ word.Fragment ∷ word.Compute ∷ word.Publish ∷ word.If ∷ word.Elif ∷ word.Else ∷ []) text
