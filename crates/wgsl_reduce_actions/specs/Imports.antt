-- What the productions of imports and directives make of their parts. Where parts do not fit, it is nothing.
use Rattle.std.specs.Prelude.{ℕ, List, [], ◌∷◌, ◌++◌, codes, Option, Some, None}
use Rattle.wgsl_path.specs.declared.path.ModulePath.{ModulePath}
use Rattle.wgsl_path.specs.declared.path.PathOrigin.TheVariants.{Relative, Package}
use Rattle.wgsl_path.specs.Joining.{root_path, with_names}
use Rattle.wgsl_words.specs.declared.enumerations.words.DiagnosticSeverity.{DiagnosticSeverity}
use Rattle.wgsl_words.specs.declared.enumerations.words.DiagnosticSeverity.TheVariants.{Off}
use Rattle.wgsl_attribute_words.specs.Choices.{severity_of}
use Rattle.wgsl_declarations.specs.declared.imports.import.ImportContent.TheVariants as content
use Rattle.wgsl_declarations.specs.declared.imports.directive.GlobalDirective.TheVariants as directive
use Rattle.wgsl_nodes.specs.Directives.{directive_with}
use Rattle.wgsl_semantic_values.specs.declared.part.Part.{Part}
use Rattle.wgsl_semantic_values.specs.declared.part.Part.TheVariants as part
use Rattle.wgsl_semantic_values.specs.declared.label.ImportLabel.{ImportLabel}
use Rattle.wgsl_semantic_values.specs.declared.label.ImportLabel.TheVariants as label
use Rattle.wgsl_semantic_values.specs.declared.label.DirectiveLabel.{DirectiveLabel}
use Rattle.wgsl_semantic_values.specs.declared.label.DirectiveLabel.TheVariants as labels
use Rattle.wgsl_semantic_values.specs.Reading.{attributes_of}
use Rattle.wgsl_reduce_actions.specs.Reading.{path_in, names_of}

-- ---- imports

abbrev pub from_package : List Part → Part
from_package (part.Ident x ∷ []) = part.ModulePath (record { origin = Package x.name; components = [] })
from_package _ = part.Absent

abbrev pub from_own : List Part → Part
from_own [] = part.ModulePath root_path
from_own _ = part.Absent

abbrev pub from_above : List Part → Part
from_above (part.Ups levels ∷ []) = part.ModulePath (record { origin = Relative levels; components = [] })
from_above _ = part.Absent

abbrev pub from_within : List Part → Part
from_within (part.ModulePath outer ∷ part.Ident x ∷ []) = part.ModulePath (with_names outer (x.name ∷ []))
from_within _ = part.Absent

abbrev pub first_step : List Part → Part
first_step (part.Ident x ∷ []) = part.Texts (x.name ∷ [])
first_step _ = part.Absent

abbrev pub next_step : List Part → Part
next_step (part.Texts steps ∷ part.Ident x ∷ []) = part.Texts (steps ++ x.name ∷ [])
next_step _ = part.Absent

abbrev pub item : List Part → Part
item (part.Ident x ∷ []) = part.Content (content.Item (record { ident = x; rename = None }))
item _ = part.Absent

abbrev pub renamed : List Part → Part
renamed (part.Ident x ∷ part.Ident y ∷ []) = part.Content (content.Item (record { ident = x; rename = Some y }))
renamed _ = part.Absent

abbrev pub collection : List Part → Part
collection (part.Trees trees ∷ []) = part.Content (content.Collection trees)
collection _ = part.Absent

-- the path may be absent
abbrev pub tree : List Part → Part
tree (path ∷ part.Content x ∷ []) = part.Tree (record { path = names_of path; content = x })
tree _ = part.Absent

abbrev pub whole_import : List Part → Part
whole_import (attributes ∷ path ∷ part.Content x ∷ []) = part.Import (record { attributes = attributes_of attributes; path = path_in path; content = x })
whole_import _ = part.Absent

abbrev pub make_import : ImportLabel → List Part → Part
make_import label.FromPackage parts = from_package parts
make_import label.FromOwn parts = from_own parts
make_import label.FromAbove parts = from_above parts
make_import label.FromWithin parts = from_within parts
make_import label.FirstStep parts = first_step parts
make_import label.NextStep parts = next_step parts
make_import label.Item parts = item parts
make_import label.Renamed parts = renamed parts
make_import label.Collection parts = collection parts
make_import label.Tree parts = tree parts
make_import label.Import parts = whole_import parts

-- ---- directives

-- a rule or an extension of one name
abbrev pub name : List Part → Part
name (part.Ident x ∷ []) = part.Text x.name
name _ = part.Absent

-- a rule of two names
abbrev pub rule_of : List Part → Part
rule_of (part.Ident x ∷ part.Ident y ∷ []) = part.Text (x.name ++ codes "." ++ y.name)
rule_of _ = part.Absent

-- the severity that a word names; of a word that names none, the one that says nothing
abbrev pub or_off : Option DiagnosticSeverity → DiagnosticSeverity
or_off (Some severity) = severity
or_off None = Off

abbrev pub severity_or_off : List ℕ → DiagnosticSeverity
severity_or_off word = or_off (severity_of word)

abbrev pub diagnostic : List Part → Part
diagnostic (part.Ident x ∷ part.Text rule ∷ []) = part.Directive (directive.Diagnostic (record { attributes = []; severity = severity_or_off x.name; rule_name = rule }))
diagnostic _ = part.Absent

-- behind these attributes
abbrev pub control : List Part → Part
control (attributes ∷ part.Directive x ∷ []) = part.Directive (directive_with x (attributes_of attributes))
control _ = part.Absent

abbrev pub enable : List Part → Part
enable (attributes ∷ part.Texts names ∷ []) = part.Directive (directive.Enable (record { attributes = attributes_of attributes; extensions = names }))
enable _ = part.Absent

abbrev pub requires_extensions : List Part → Part
requires_extensions (attributes ∷ part.Texts names ∷ []) = part.Directive (directive.Requires (record { attributes = attributes_of attributes; extensions = names }))
requires_extensions _ = part.Absent

abbrev pub make_directive : DirectiveLabel → List Part → Part
make_directive labels.Rule parts = name parts
make_directive labels.RuleOf parts = rule_of parts
make_directive labels.Diagnostic parts = diagnostic parts
make_directive labels.Control parts = control parts
make_directive labels.Extension parts = name parts
make_directive labels.Enable parts = enable parts
make_directive labels.Requires parts = requires_extensions parts
