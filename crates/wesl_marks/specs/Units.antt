-- What the places of a unit are to say.
use Rattle.std.specs.Prelude.{ℕ, ◌^◌, ◌-◌, min, Bool, true, false, List, [], ◌++◌, map, length, Option, Some, None}
use Rattle.std.specs.List.{list_any}
use Rattle.wgsl_path.specs.declared.span.Spanned.{Spanned}
use Rattle.wgsl_expressions.specs.AttributesTree as a
use Rattle.wgsl_expressions.specs.AttributesTree.{Attr}
use Rattle.wgsl_declarations.specs.declared.imports.directive.GlobalDirective.{GlobalDirective}
use Rattle.wgsl_declarations.specs.ImportsTree.{Directive}
use Rattle.wgsl_declarations.specs.ImportsView.{directive_tree}
use Rattle.wgsl_declarations.specs.declared.declaration.GlobalDeclaration.{GlobalDeclaration}
use Rattle.wgsl_declarations.specs.declared.unit.TranslationUnit.{TranslationUnit}
use Rattle.wgsl_declarations.specs.Tree as d
use Rattle.wgsl_declarations.specs.Tree.{Decl}
use Rattle.wgsl_declarations.specs.View.{declaration_tree}
use Rattle.wgsl_skeleton.specs.Trees.{directive_node, declaration_node}
use Rattle.wgsl_skeleton.specs.Flats.{Flat, flat}
use Rattle.wesl_mark.specs.declared.place.Kind.{Kind}
use Rattle.wesl_mark.specs.declared.place.Kind.TheVariants as place
use Rattle.wesl_mark.specs.Places.{DeclarationId}
use Rattle.wesl_marks.specs.Laid.{Name}

-- as many as a `u32` counts, at most
abbrev pub counted : ℕ → ℕ
counted n = min n (2 ^ 32 - 1)

-- an attribute of an entry point (WGSL, "Entry Point Declaration")
abbrev pub is_stage : Attr → Bool
is_stage a.vertex = true
is_stage a.fragment = true
is_stage a.compute = true
is_stage _ = false

abbrev pub kind_of : Option Decl → Kind
kind_of None = place.Void
kind_of (Some (d.variable attributes kind x type value)) = place.Variable
kind_of (Some (d.alias attributes x type)) = place.Alias
kind_of (Some (d.structure attributes x members)) = place.Struct (counted (length members))
kind_of (Some (d.function attributes x parameters result_attributes result body)) = place.Function (counted (length parameters)) (list_any is_stage attributes)
kind_of (Some (d.assertion attributes x)) = place.Assertion

abbrev pub name_of : Option Decl → Option Name
name_of None = None
name_of (Some (d.variable attributes kind x type value)) = Some x
name_of (Some (d.alias attributes x type)) = Some x
name_of (Some (d.structure attributes x members)) = Some x
name_of (Some (d.function attributes x parameters result_attributes result body)) = Some x
name_of (Some (d.assertion attributes x)) = None

-- what a directive says; `;` says nothing
unfoldable pub directive_flats : Directive → List Flat
directive_flats x = flat (directive_node x)

unfoldable pub declaration_flats : Option Decl → List Flat
declaration_flats None = []
declaration_flats (Some x) = flat (declaration_node x)

abbrev pub directive_spot : Directive → DeclarationId
directive_spot x = record { kind = place.Directive; name = None; flats = directive_flats x }

abbrev pub declaration_spot : Option Decl → DeclarationId
declaration_spot x = record { kind = kind_of x; name = name_of x; flats = declaration_flats x }

abbrev pub directive_spots : List GlobalDirective → List DeclarationId
directive_spots xs = map (λ x. directive_spot (directive_tree x)) xs

-- (`;` counted)
abbrev pub declaration_spots : List (Spanned GlobalDeclaration) → List DeclarationId
declaration_spots xs = map (λ n. declaration_spot (declaration_tree n.node)) xs

-- a unit's directives, and behind them its declarations
abbrev pub unit_spots : TranslationUnit → List DeclarationId
unit_spots u = directive_spots u.global_directives ++ declaration_spots u.global_declarations
