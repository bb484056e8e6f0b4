-- What is printed of a tree.
use Rattle.std.specs.Prelude.{◌≡◌, true, List}
use Rattle.wgsl_templates.specs.declared.meaning.token.TemplateToken.{TemplateToken}
use Rattle.wgsl_print_laws.specs.Layout.{IsTextOf}
use Rattle.wgsl_expressions.specs.Tree.{Exp}
use Rattle.wgsl_expressions.specs.Print.{exp_text}
use Rattle.wgsl_print_laws.specs.Tokens.{exp_tokens}
use Rattle.wgsl_declarations.specs.ImportsTree.{Directive, Importing}
use Rattle.wgsl_declarations.specs.ImportsPrint.{directive_text, importing_text}
use Rattle.wgsl_print_laws.specs.Imports.{ImportTokens}
use Rattle.wgsl_print_laws.specs.Printable.{AreSpelled, is_apart}
use Rattle.wgsl_simple_statements.specs.declared.declaration.DeclarationKind.{DeclarationKind}
use Rattle.wgsl_simple_statements.specs.Print.{kind_text}
use Rattle.wgsl_expressions.specs.AttributesTree.{Attr}
use Rattle.wgsl_expressions.specs.AttributesPrint.{attr_text}
use Rattle.wgsl_print_laws.specs.Attributes.{AttributeTokens}
use Rattle.wgsl_print_laws.specs.Directives.{HasTokens}
use Rattle.wgsl_print_laws.specs.DeclarationKinds.{kind_tokens}

-- The printed text of an expression is laid out as the expression's tokens.
abbrev pub ExpressionsAreLaidOut : Type 0
ExpressionsAreLaidOut = (e : Exp) → AreSpelled (exp_tokens e) → is_apart e ≡ true → IsTextOf (exp_tokens e) (exp_text e)

-- So is that of a directive.
abbrev pub DirectivesAreLaidOut : Type 0
DirectivesAreLaidOut = (d : Directive) (ts : List TemplateToken) → HasTokens d ts → AreSpelled ts → IsTextOf ts (directive_text d)

-- And that of what a declaration of a value begins with.
abbrev pub KindsAreLaidOut : Type 0
KindsAreLaidOut = (k : DeclarationKind) → AreSpelled (kind_tokens k) → IsTextOf (kind_tokens k) (kind_text k)

-- And that of an attribute.
abbrev pub AttributesAreLaidOut : Type 0
AttributesAreLaidOut = (a : Attr) (ts : List TemplateToken) → AttributeTokens a ts → AreSpelled ts → IsTextOf ts (attr_text a)

-- And that of an import statement.
abbrev pub ImportsAreLaidOut : Type 0
ImportsAreLaidOut = (i : Importing) (ts : List TemplateToken) → ImportTokens i ts → AreSpelled ts → IsTextOf ts (importing_text i)
