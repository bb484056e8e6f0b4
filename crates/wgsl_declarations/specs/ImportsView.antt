-- The import and the directive without places that a code tree stands for.
use Rattle.std.specs.Prelude.{map}
use Rattle.std.specs.Option.{option_map}
use Rattle.wgsl_expressions.specs.AttributesView.{attributes_tree}
use Rattle.wgsl_declarations.specs.declared.imports.import.ImportStatement.{ImportStatement}
use Rattle.wgsl_declarations.specs.declared.imports.import.ImportItem.{ImportItem}
use Rattle.wgsl_declarations.specs.declared.imports.import.ImportOf.{ImportOf}
use Rattle.wgsl_declarations.specs.declared.imports.import.ImportContent.{ImportContent, fold-ImportContent}
use Rattle.wgsl_declarations.specs.declared.imports.import.ImportContent.TheOpen.{ImportContent-F}
use Rattle.wgsl_declarations.specs.declared.imports.directive.DiagnosticDirective.{DiagnosticDirective}
use Rattle.wgsl_declarations.specs.declared.imports.directive.EnableDirective.{EnableDirective}
use Rattle.wgsl_declarations.specs.declared.imports.directive.RequiresDirective.{RequiresDirective}
use Rattle.wgsl_declarations.specs.declared.imports.directive.GlobalDirective.{GlobalDirective}
use Rattle.wgsl_declarations.specs.declared.imports.directive.GlobalDirective.TheVariants as code
use Rattle.wgsl_declarations.specs.ImportsTree.{Content, item, collection, Imp, imps, Importing, Directive, diagnostic, enabling, requiring}

abbrev pub item_tree : ImportItem → Content
item_tree x = item x.ident.name (option_map (λ r. r.name) x.rename)

abbrev pub import_layer : {A : Type 0} → (A → Content) → ImportOf A → Imp
import_layer f i = record { path = i.path; content = f i.content }

-- what is taken, from what its parts stand for
abbrev pub layer : {A : Type 0} → (A → Content) → ImportContent-F A → Content
layer f (ImportContent-F.Item x) = item_tree x
layer f (ImportContent-F.Collection xs) = collection (imps (map (import_layer f) xs))

abbrev pub content_tree : ImportContent → Content
content_tree = fold-ImportContent Content (layer (λ x. x))

-- an import in braces
abbrev pub import_tree : ImportOf ImportContent → Imp
import_tree = import_layer content_tree

-- an import statement
abbrev pub importing_tree : ImportStatement → Importing
importing_tree i = record { attributes = attributes_tree i.attributes; path = i.path; content = content_tree i.content }

abbrev pub diagnostic_tree : DiagnosticDirective → Directive
diagnostic_tree x = diagnostic (attributes_tree x.attributes) x.severity x.rule_name

abbrev pub enable_tree : EnableDirective → Directive
enable_tree x = enabling (attributes_tree x.attributes) x.extensions

abbrev pub requires_tree : RequiresDirective → Directive
requires_tree x = requiring (attributes_tree x.attributes) x.extensions

abbrev pub directive_tree : GlobalDirective → Directive
directive_tree (code.Diagnostic x) = diagnostic_tree x
directive_tree (code.Enable x) = enable_tree x
directive_tree (code.Requires x) = requires_tree x
