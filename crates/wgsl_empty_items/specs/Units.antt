-- Modules without their empty items, at every depth.
use Rattle.std.specs.Prelude.{List, map, Bool, true, false, not}
use Rattle.std.specs.List.{filter}
use Rattle.wgsl_path.specs.declared.span.Spanned.{Spanned}
use Rattle.wgsl_declarations.specs.declared.declaration.Function.{Function}
use Rattle.wgsl_declarations.specs.declared.declaration.GlobalDeclaration.{GlobalDeclaration}
use Rattle.wgsl_declarations.specs.declared.declaration.GlobalDeclaration.TheVariants as code
use Rattle.wgsl_declarations.specs.declared.unit.TranslationUnit.{TranslationUnit}
use Rattle.wgsl_empty_items.specs.Statements.{with_block, without_voids}

-- whether it is a `;` alone
abbrev pub is_empty_declaration : GlobalDeclaration → Bool
is_empty_declaration code.Void = true
is_empty_declaration _ = false

abbrev pub function_without_voids : Function → Function
function_without_voids x = record {
  attributes = x.attributes;
  ident = x.ident;
  parameters = x.parameters;
  return_attributes = x.return_attributes;
  return_type = x.return_type;
  body = with_block without_voids x.body;
}

-- a declaration without the empty items inside it; a `;` alone stays one
abbrev pub declaration_without_voids : GlobalDeclaration → GlobalDeclaration
declaration_without_voids (code.Function x) = code.Function (function_without_voids x)
declaration_without_voids x = x

abbrev pub node_without_voids : Spanned GlobalDeclaration → Spanned GlobalDeclaration
node_without_voids n = record { node = declaration_without_voids n.node; span = n.span }

-- the declarations that are no `;` alone
abbrev pub kept_declarations : List (Spanned GlobalDeclaration) → List (Spanned GlobalDeclaration)
kept_declarations declarations = filter (λ n. not (is_empty_declaration n.node)) declarations

-- a module without its empty items, at every depth
abbrev pub unit_without_voids : TranslationUnit → TranslationUnit
unit_without_voids u = record {
  imports = u.imports;
  global_directives = u.global_directives;
  global_declarations = kept_declarations (map node_without_voids u.global_declarations);
}
