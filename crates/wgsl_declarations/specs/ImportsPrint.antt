-- How imports and directives are printed (this project's own layout).
use Rattle.std.specs.Prelude.{ℕ, List, [], ◌++◌, Option, Some, None, codes}
use Rattle.std.specs.List.{flat_map}
use Rattle.wgsl_expressions.specs.DiagnosticSeverity.{DiagnosticSeverity}
use Rattle.wgsl_expressions.specs.EnumerationsTexts.{diagnostic_severity_text}
use Rattle.wgsl_expressions.specs.Print.{commas, qualifier_text}
use Rattle.wgsl_expressions.specs.AttributesPrint.{attrs_text}
use Rattle.wgsl_declarations.specs.ImportsTree.{Content, item, collection, Imps, nil, cons, Imp, Importing, Directive, diagnostic, enabling, requiring}

abbrev pub rename_text : Option (List ℕ) → List ℕ
rename_text None = []
rename_text (Some name) = codes " as " ++ name

-- the names that lead further, each with `::` behind it
abbrev pub steps_text : List (List ℕ) → List ℕ
steps_text path = flat_map (λ name. name ++ codes "::") path

abbrev mutual
  -- an item and maybe its new name, or imports in braces
  pub content_text : Content → List ℕ
  content_text (item name rename) = name ++ rename_text rename
  content_text (collection is) = codes "{" ++ imps_text is ++ codes "}"

  -- with `, ` between them
  pub imps_text : Imps → List ℕ
  imps_text nil = []
  imps_text (cons path content is) = (steps_text path ++ content_text content) ++ more_text is

  -- behind the first
  pub more_text : Imps → List ℕ
  more_text nil = []
  more_text (cons path content is) = (codes ", " ++ steps_text path ++ content_text content) ++ more_text is

-- an import in braces
abbrev pub imp_text : Imp → List ℕ
imp_text i = steps_text i.path ++ content_text i.content

-- an import statement as a line
abbrev pub importing_text : Importing → List ℕ
importing_text i = attrs_text i.attributes ++ codes "import " ++ qualifier_text i.path ++ content_text i.content ++ codes ";\n"

-- names, with `, ` between them
abbrev pub names_text : List (List ℕ) → List ℕ
names_text names = commas (λ name. name) names

-- a severity for a rule
unfoldable pub setting_text : DiagnosticSeverity → List ℕ → List ℕ
setting_text severity rule = codes "diagnostic(" ++ diagnostic_severity_text severity ++ codes ", " ++ rule ++ codes ")"

-- a directive as a line
abbrev pub directive_text : Directive → List ℕ
directive_text (diagnostic attributes severity rule) = attrs_text attributes ++ setting_text severity rule ++ codes ";\n"
directive_text (enabling attributes names) = attrs_text attributes ++ codes "enable " ++ names_text names ++ codes ";\n"
directive_text (requiring attributes names) = attrs_text attributes ++ codes "requires " ++ names_text names ++ codes ";\n"
