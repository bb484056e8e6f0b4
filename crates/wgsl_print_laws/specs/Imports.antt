-- The tokens of an import statement as it is printed (WESL, "Imports").
use Rattle.std.specs.Prelude.{ℕ, List, [], ◌∷◌, ◌++◌, Option, Some, None}
use Rattle.std.specs.List.{flat_map}
use Rattle.wgsl_token.specs.declared.token.Fixed.TheVariants as f
use Rattle.wgsl_templates.specs.declared.meaning.token.TemplateToken.{TemplateToken}
use Rattle.wgsl_expressions.specs.AttributesTree.{Attr}
use Rattle.wgsl_declarations.specs.ImportsTree.{Content, item, collection, Imps, nil, cons, Importing}
use Rattle.wgsl_print_laws.specs.Tokens.{mark, word, qualifier_tokens}
use Rattle.wgsl_print_laws.specs.Attributes.{AttributeTokens}

-- attributes one behind the other
pub data AttributesTokens : List Attr → List TemplateToken → Type 0 where
  no_attributes : AttributesTokens [] []
  attributes_and : {a : Attr} {xs : List Attr} {ts us : List TemplateToken} → AttributeTokens a ts → AttributesTokens xs us → AttributesTokens (a ∷ xs) (ts ++ us)

-- the names that lead further, each with `::` behind it
abbrev pub steps_tokens : List (List ℕ) → List TemplateToken
steps_tokens steps = flat_map (λ x. word x ∷ mark f.PathSeparator ∷ []) steps

abbrev pub rename_tokens : Option (List ℕ) → List TemplateToken
rename_tokens None = []
rename_tokens (Some x) = mark f.As ∷ word x ∷ []

abbrev mutual
  pub content_tokens : Content → List TemplateToken
  content_tokens (item x rename) = word x ∷ rename_tokens rename
  content_tokens (collection is) = mark f.BraceLeft ∷ (imps_tokens is ++ (mark f.BraceRight ∷ []))

  -- with commas between them
  pub imps_tokens : Imps → List TemplateToken
  imps_tokens nil = []
  imps_tokens (cons path content is) = (steps_tokens path ++ content_tokens content) ++ more_imps_tokens is

  -- behind the first
  pub more_imps_tokens : Imps → List TemplateToken
  more_imps_tokens nil = []
  more_imps_tokens (cons path content is) = mark f.Comma ∷ ((steps_tokens path ++ content_tokens content) ++ more_imps_tokens is)

-- behind its attributes
abbrev pub import_rest : Importing → List TemplateToken
import_rest i = mark f.Import ∷ (qualifier_tokens i.path ++ (content_tokens i.content ++ (mark f.Semicolon ∷ [])))

pub data ImportTokens (i : Importing) : List TemplateToken → Type 0 where
  an_import : {ts : List TemplateToken} → AttributesTokens i.attributes ts → ImportTokens i (ts ++ import_rest i)
