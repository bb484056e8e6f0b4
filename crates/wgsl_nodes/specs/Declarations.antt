-- The attributes and names of declarations. A `;` alone has neither.
use Rattle.std.specs.Prelude.{List, Option, Some, None}
use Rattle.wgsl_path.specs.declared.ident.Ident.{Ident}
use Rattle.wgsl_path.specs.declared.span.Spanned.{Spanned}
use Rattle.wgsl_expressions.specs.declared.attributes.attribute.Attribute.{Attribute}
use Rattle.wgsl_declarations.specs.declared.declaration.GlobalDeclaration.{GlobalDeclaration}
use Rattle.wgsl_declarations.specs.declared.declaration.GlobalDeclaration.TheVariants as code

abbrev pub declaration_name : GlobalDeclaration → Option Ident
declaration_name code.Void = None
declaration_name (code.Declaration x) = Some (x.ident)
declaration_name (code.TypeAlias x) = Some (x.ident)
declaration_name (code.Struct x) = Some (x.ident)
declaration_name (code.Function x) = Some (x.ident)
declaration_name (code.ConstAssert x) = None

abbrev pub declaration_attributes : GlobalDeclaration → Option (List (Spanned Attribute))
declaration_attributes code.Void = None
declaration_attributes (code.Declaration x) = Some (x.attributes)
declaration_attributes (code.TypeAlias x) = Some (x.attributes)
declaration_attributes (code.Struct x) = Some (x.attributes)
declaration_attributes (code.Function x) = Some (x.attributes)
declaration_attributes (code.ConstAssert x) = Some (x.attributes)

abbrev pub declaration_with : GlobalDeclaration → List (Spanned Attribute) → GlobalDeclaration
declaration_with code.Void attributes = code.Void
declaration_with (code.Declaration x) attributes = code.Declaration (record x { attributes = attributes })
declaration_with (code.TypeAlias x) attributes = code.TypeAlias (record x { attributes = attributes })
declaration_with (code.Struct x) attributes = code.Struct (record x { attributes = attributes })
declaration_with (code.Function x) attributes = code.Function (record x { attributes = attributes })
declaration_with (code.ConstAssert x) attributes = code.ConstAssert (record x { attributes = attributes })
