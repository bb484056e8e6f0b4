-- Which tokens are keywords, syntactic tokens, numbers (WGSL, "Keywords", "Syntactic Tokens", "Numeric Literals").
use Rattle.std.specs.Prelude.{ℕ, List, [], ◌∷◌, Bool, true, false, not, ◌&&◌, nat_le}
use Rattle.wgsl_token.specs.declared.token.Fixed.{Fixed}
use Rattle.wgsl_token.specs.declared.token.Fixed.TheVariants as f
use Rattle.wgsl_token.specs.declared.token.Token.{Token}
use Rattle.wgsl_token.specs.declared.token.Token.TheVariants as t
use Rattle.wgsl_token.specs.Spelling.{spelling}
use Rattle.wgsl_templates.specs.declared.meaning.token.TemplateToken.{TemplateToken}
use Rattle.wgsl_templates.specs.declared.meaning.token.TemplateToken.TheVariants as tt

-- It begins with a small letter.
abbrev pub is_word : List ℕ → Bool
is_word [] = false
is_word (c ∷ cs) = nat_le 97 c && nat_le c 122

-- a word that only imports use
abbrev pub is_import_word : Fixed → Bool
is_import_word f.Import = true
is_import_word f.Package = true
is_import_word f.Super = true
is_import_word f.As = true
is_import_word _ = false

abbrev pub is_keyword : Token → Bool
is_keyword (t.Fixed fixed) = is_word (spelling fixed) && not (is_import_word fixed)
is_keyword _ = false

abbrev pub is_symbol : Token → Bool
is_symbol (t.Fixed fixed) = not (is_word (spelling fixed))
is_symbol _ = false

abbrev pub is_numeric_literal : Token → Bool
is_numeric_literal (t.AbstractInt n) = true
is_numeric_literal (t.I32 n) = true
is_numeric_literal (t.U32 n) = true
is_numeric_literal (t.AbstractFloat text) = true
is_numeric_literal (t.F32 text) = true
is_numeric_literal (t.F16 text) = true
is_numeric_literal _ = false

-- ---- the same where template lists are told; their brackets are syntactic tokens

abbrev pub is_template_keyword : TemplateToken → Bool
is_template_keyword (tt.Plain token) = is_keyword token
is_template_keyword _ = false

abbrev pub is_template_symbol : TemplateToken → Bool
is_template_symbol (tt.Plain token) = is_symbol token
is_template_symbol _ = true

abbrev pub is_template_number : TemplateToken → Bool
is_template_number (tt.Plain token) = is_numeric_literal token
is_template_number _ = false
