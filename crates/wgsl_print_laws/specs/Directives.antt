-- The tokens of a directive as it is printed, one behind the other (WGSL, "Directives").
use Rattle.std.specs.Prelude.{ℕ, List, [], ◌∷◌, ◌++◌, codes}
use Rattle.wgsl_token.specs.declared.token.Fixed.TheVariants as f
use Rattle.wgsl_templates.specs.declared.meaning.token.TemplateToken.{TemplateToken}
use Rattle.wgsl_words.specs.declared.enumerations.words.DiagnosticSeverity.{DiagnosticSeverity}
use Rattle.wgsl_words.specs.Texts.{diagnostic_severity_text}
use Rattle.wgsl_expressions.specs.AttributesTree.{Attr}
use Rattle.wgsl_declarations.specs.ImportsTree.{Directive, diagnostic, enabling, requiring}
use Rattle.wgsl_print_laws.specs.Tokens.{mark, word}
use Rattle.wgsl_print_laws.specs.Imports.{AttributesTokens}

-- a rule of a diagnostic: a name, or two names with a period between
pub data IsRule : List ℕ → List TemplateToken → Type 0 where
  one_name : (x : List ℕ) → IsRule x (word x ∷ [])
  two_names : (x y : List ℕ) → IsRule (x ++ codes "." ++ y) (word x ∷ mark f.Period ∷ word y ∷ [])

-- names behind the first, and all, with commas between them
abbrev pub more_names_tokens : List (List ℕ) → List TemplateToken
more_names_tokens [] = []
more_names_tokens (x ∷ xs) = mark f.Comma ∷ word x ∷ more_names_tokens xs

abbrev pub names_tokens : List (List ℕ) → List TemplateToken
names_tokens [] = []
names_tokens (x ∷ xs) = word x ∷ more_names_tokens xs

-- a severity for a rule
abbrev pub setting_tokens : DiagnosticSeverity → List TemplateToken → List TemplateToken
setting_tokens severity rule = mark f.Diagnostic ∷ mark f.ParenLeft ∷ word (diagnostic_severity_text severity) ∷ mark f.Comma ∷ (rule ++ (mark f.ParenRight ∷ []))

-- of directives, behind their attributes
pub data HasTokens : Directive → List TemplateToken → Type 0 where
  of_diagnostic : {attributes : List Attr} {us : List TemplateToken} → AttributesTokens attributes us → (severity : DiagnosticSeverity) {rule : List ℕ} {ts : List TemplateToken} → IsRule rule ts
      → HasTokens (diagnostic attributes severity rule) (us ++ (setting_tokens severity ts ++ (mark f.Semicolon ∷ [])))
  of_enable : {attributes : List Attr} {us : List TemplateToken} → AttributesTokens attributes us → (names : List (List ℕ)) → HasTokens (enabling attributes names) (us ++ (mark f.Enable ∷ (names_tokens names ++ (mark f.Semicolon ∷ []))))
  of_requires : {attributes : List Attr} {us : List TemplateToken} → AttributesTokens attributes us → (names : List (List ℕ)) → HasTokens (requiring attributes names) (us ++ (mark f.Requires ∷ (names_tokens names ++ (mark f.Semicolon ∷ []))))
