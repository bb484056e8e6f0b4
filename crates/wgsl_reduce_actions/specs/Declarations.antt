-- What the productions of a module's declarations, and of modules, make of their parts. Where parts do not fit, it is nothing.
use Rattle.std.specs.Prelude.{List, [], ◌∷◌}
use Rattle.wgsl_path.specs.declared.span.Span.{Span}
use Rattle.wgsl_path.specs.declared.span.Spanned.{Spanned}
use Rattle.wgsl_expressions.specs.declared.attributes.attribute.Attribute.{Attribute}
use Rattle.wgsl_simple_statements.specs.declared.declaration.Declaration.{Declaration}
use Rattle.wgsl_simple_statements.specs.declared.declaration.ConstAssert.{ConstAssert}
use Rattle.wgsl_nodes.specs.GlobalDeclaration.{GlobalDeclaration}
use Rattle.wgsl_nodes.specs.GlobalDeclaration.TheVariants as declaration
use Rattle.wgsl_semantic_values.specs.declared.part.Part.{Part}
use Rattle.wgsl_semantic_values.specs.declared.part.Part.TheVariants as part
use Rattle.wgsl_semantic_values.specs.declared.label.DeclarationLabel.{DeclarationLabel}
use Rattle.wgsl_semantic_values.specs.declared.label.DeclarationLabel.TheVariants as label
use Rattle.wgsl_semantic_values.specs.Reading.{attributes_of}
use Rattle.wgsl_reduce_actions.specs.Reading.{parameters_of, imports_of, directives_of, globals_of, return_attributes_of, return_type_in}

abbrev pub declaration_at : Span → GlobalDeclaration → Part
declaration_at s x = part.Global (record { node = x; span = s })

abbrev pub void_declaration : Span → List Part → Part
void_declaration s [] = declaration_at s declaration.Void
void_declaration s _ = part.Absent

abbrev pub with_attributes : List (Spanned Attribute) → Declaration → Declaration
with_attributes attributes x = record { attributes = attributes; kind = x.kind; ident = x.ident; ty = x.ty; initializer = x.initializer }

abbrev pub global : Span → List Part → Part
global s (attributes ∷ part.Declaration x ∷ []) = declaration_at s (declaration.Declaration (with_attributes (attributes_of attributes) x))
global s _ = part.Absent

abbrev pub alias : Span → List Part → Part
alias s (attributes ∷ part.Ident x ∷ part.Type ty ∷ []) = declaration_at s (declaration.TypeAlias (record { attributes = attributes_of attributes; ident = x; ty = ty }))
alias s _ = part.Absent

abbrev pub asserted : List (Spanned Attribute) → ConstAssert → ConstAssert
asserted attributes x = record { attributes = attributes; expression = x.expression }

abbrev pub global_assertion : Span → List Part → Part
global_assertion s (attributes ∷ part.Assertion x ∷ []) = declaration_at s (declaration.ConstAssert (asserted (attributes_of attributes) x))
global_assertion s _ = part.Absent

abbrev pub structure : Span → List Part → Part
structure s (attributes ∷ part.Ident x ∷ part.Members members ∷ []) = declaration_at s (declaration.Struct (record { attributes = attributes_of attributes; ident = x; members = members }))
structure s _ = part.Absent

abbrev pub member : Span → List Part → Part
member s (attributes ∷ part.Ident x ∷ part.Type ty ∷ []) = part.Member (record { node = record { attributes = attributes_of attributes; ident = x; ty = ty }; span = s })
member s _ = part.Absent

-- the second attributes stand before the type of the result
abbrev pub function : Span → List Part → Part
function s (attributes ∷ part.Ident x ∷ parameters ∷ returned ∷ part.Block body ∷ []) = declaration_at s (declaration.Function (record {
  attributes = attributes_of attributes;
  ident = x;
  parameters = parameters_of parameters;
  return_attributes = return_attributes_of returned;
  return_type = return_type_in returned;
  body = body;
}))
function s _ = part.Absent

abbrev pub parameter : List Part → Part
parameter (attributes ∷ part.Ident x ∷ part.Type ty ∷ []) = part.Parameter (record { attributes = attributes_of attributes; ident = x; ty = ty })
parameter _ = part.Absent

abbrev pub function_result : List Part → Part
function_result (attributes ∷ part.Type ty ∷ []) = part.Result (record { attributes = attributes_of attributes; ty = ty })
function_result _ = part.Absent

abbrev pub whole_module : List Part → Part
whole_module (imports ∷ directives ∷ globals ∷ []) = part.Module (record {
  imports = imports_of imports;
  global_directives = directives_of directives;
  global_declarations = globals_of globals;
})
whole_module _ = part.Absent

abbrev pub make_declaration : DeclarationLabel → Span → List Part → Part
make_declaration label.VoidDeclaration s parts = void_declaration s parts
make_declaration label.Global s parts = global s parts
make_declaration label.Alias s parts = alias s parts
make_declaration label.GlobalAssertion s parts = global_assertion s parts
make_declaration label.Struct s parts = structure s parts
make_declaration label.Member s parts = member s parts
make_declaration label.Function s parts = function s parts
make_declaration label.Parameter s parts = parameter parts
make_declaration label.Result s parts = function_result parts
make_declaration label.Module s parts = whole_module parts
