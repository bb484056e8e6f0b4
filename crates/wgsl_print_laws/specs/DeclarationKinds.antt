-- The tokens of what a declaration of a value begins with, as it is printed (WGSL, "Variable and Value Declarations").
use Rattle.std.specs.Prelude.{List, [], ◌∷◌, ◌++◌, Option, Some, None}
use Rattle.wgsl_token.specs.declared.token.Fixed.TheVariants as f
use Rattle.wgsl_templates.specs.declared.meaning.token.TemplateToken.{TemplateToken}
use Rattle.wgsl_templates.specs.declared.meaning.token.TemplateToken.TheVariants.{TemplateArgsStart, TemplateArgsEnd}
use Rattle.wgsl_words.specs.declared.enumerations.address.AccessMode.{AccessMode}
use Rattle.wgsl_words.specs.declared.enumerations.address.AddressSpace.{AddressSpace}
use Rattle.wgsl_words.specs.Texts.{address_space_text, access_mode_text}
use Rattle.wgsl_simple_statements.specs.declared.declaration.DeclarationKind.{DeclarationKind}
use Rattle.wgsl_simple_statements.specs.declared.declaration.DeclarationKind.TheVariants as kinds
use Rattle.wgsl_print_laws.specs.Tokens.{mark, word}

abbrev pub access_tokens : Option AccessMode → List TemplateToken
access_tokens None = []
access_tokens (Some mode) = mark f.Comma ∷ word (access_mode_text mode) ∷ []

-- an address space, and maybe how it is accessed
abbrev pub space_tokens : AddressSpace → Option AccessMode → List TemplateToken
space_tokens space access = word (address_space_text space) ∷ access_tokens access

abbrev pub template_tokens : Option (AddressSpace × Option AccessMode) → List TemplateToken
template_tokens None = []
template_tokens (Some (space, access)) = TemplateArgsStart ∷ (space_tokens space access ++ (TemplateArgsEnd ∷ []))

abbrev pub kind_tokens : DeclarationKind → List TemplateToken
kind_tokens kinds.Const = mark f.Const ∷ []
kind_tokens kinds.Override = mark f.Override ∷ []
kind_tokens kinds.Let = mark f.Let ∷ []
kind_tokens (kinds.Var template) = mark f.Var ∷ template_tokens template
