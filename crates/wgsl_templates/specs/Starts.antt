-- Texts and tokens that begin with a template list (WGSL, "Template Lists").
use Rattle.std.specs.Prelude.{◌≡◌, ℕ, Bool, true, false, List, ◌∷◌, take, drop, Option}
use Rattle.std.specs.Str.{encode_utf8_all, all_scalars}
use Rattle.wgsl_token.specs.declared.token.Token.{Token}
use Rattle.wgsl_templates.specs.declared.meaning.kind.Kind.{Kind}
use Rattle.wgsl_templates.specs.declared.meaning.kind.Kind.TheVariants.{TemplateArgsStart}
use Rattle.wgsl_templates.specs.Laws.{BeginsWithList}
use Rattle.wgsl_templates.specs.Tokens.{is_less, IsFirst, Opens}

-- What stands first is a `<`, and whether that opens a template list behind a word; no other text begins with one.
pub data StartsList : List ℕ → Bool → Type 0 where
  less_first : {text : List ℕ} {opens : Bool} (n : ℕ) (what : Option Token) → IsFirst text n what → is_less (take n text) ≡ true → Opens (drop n text) opens → StartsList text opens
  other_first : {text : List ℕ} → ((n : ℕ) (what : Option Token) → IsFirst text n what → is_less (take n text) ≡ false) → StartsList text false

-- the same of a text in UTF-8
pub record TextStartsList (text : List ℕ) (opens : Bool) : Type 0 where
  pub characters : List ℕ
  pub are_scalars : all_scalars characters ≡ true
  pub spell : encode_utf8_all characters ≡ text
  pub starts : StartsList characters opens

-- the start of a template list, and what stands in one
pub record BeginsWithTemplateList (kinds : List Kind) : Type 0 where
  pub behind : List Kind
  pub starts : kinds ≡ TemplateArgsStart ∷ behind
  pub inside : BeginsWithList behind

-- whether what stands first is a `<`
pub record IsLessFirst (text : List ℕ) (less : Bool) : Type 0 where
  pub n : ℕ
  pub what : Option Token
  pub first : IsFirst text n what
  pub is : is_less (take n text) ≡ less
  pub single : less ≡ true → n ≡ 1
