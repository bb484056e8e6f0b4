-- The declaration and the module without places that a code tree stands for. `Void` stands for none.
use Rattle.std.specs.Prelude.{List, map, filter_map, Option, Some, None}
use Rattle.std.specs.Option.{option_map}
use Rattle.wgsl_declarations.specs.Spanned.{Spanned}
use Rattle.wgsl_declarations.specs.ExpressionsView.{node_tree, type_tree}
use Rattle.wgsl_declarations.specs.AttributesView.{attributes_tree}
use Rattle.wgsl_statements.specs.Declaration.{Declaration}
use Rattle.wgsl_statements.specs.ConstAssert.{ConstAssert}
use Rattle.wgsl_statements.specs.View.{block_tree}
use Rattle.wgsl_declarations.specs.ImportsView.{importing_tree, directive_tree}
use Rattle.wgsl_declarations.specs.declared.declaration.TypeAlias.{TypeAlias}
use Rattle.wgsl_declarations.specs.declared.declaration.Struct.{Struct}
use Rattle.wgsl_declarations.specs.declared.declaration.StructMember.{StructMember}
use Rattle.wgsl_declarations.specs.declared.declaration.Function.{Function}
use Rattle.wgsl_declarations.specs.declared.declaration.FormalParameter.{FormalParameter}
use Rattle.wgsl_declarations.specs.declared.declaration.GlobalDeclaration.{GlobalDeclaration}
use Rattle.wgsl_declarations.specs.declared.declaration.GlobalDeclaration.TheVariants as code
use Rattle.wgsl_declarations.specs.declared.unit.TranslationUnit.{TranslationUnit}
use Rattle.wgsl_declarations.specs.Tree.{Member, Param, Decl, variable, alias, structure, function, assertion, UnitTree}

abbrev pub variable_tree : Declaration → Decl
variable_tree x = variable (attributes_tree x.attributes) x.kind x.ident.name (option_map type_tree x.ty) (option_map node_tree x.initializer)

abbrev pub alias_tree : TypeAlias → Decl
alias_tree x = alias (attributes_tree x.attributes) x.ident.name (type_tree x.ty)

abbrev pub member_tree : StructMember → Member
member_tree x = record { attributes = attributes_tree x.attributes; name = x.ident.name; type = type_tree x.ty }

abbrev pub members_tree : List (Spanned StructMember) → List Member
members_tree members = map (λ n. member_tree n.node) members

abbrev pub structure_tree : Struct → Decl
structure_tree x = structure (attributes_tree x.attributes) x.ident.name (members_tree x.members)

abbrev pub parameter_tree : FormalParameter → Param
parameter_tree x = record { attributes = attributes_tree x.attributes; name = x.ident.name; type = type_tree x.ty }

abbrev pub function_tree : Function → Decl
function_tree x =
    function (attributes_tree x.attributes) x.ident.name (map parameter_tree x.parameters) (attributes_tree x.return_attributes)
    (option_map type_tree x.return_type) (block_tree x.body)

abbrev pub assertion_tree : ConstAssert → Decl
assertion_tree x = assertion (attributes_tree x.attributes) (node_tree x.expression)

-- nothing where it is `Void`
abbrev pub declaration_tree : GlobalDeclaration → Option Decl
declaration_tree code.Void = None
declaration_tree (code.Declaration x) = Some (variable_tree x)
declaration_tree (code.TypeAlias x) = Some (alias_tree x)
declaration_tree (code.Struct x) = Some (structure_tree x)
declaration_tree (code.Function x) = Some (function_tree x)
declaration_tree (code.ConstAssert x) = Some (assertion_tree x)

abbrev pub declarations_tree : List (Spanned GlobalDeclaration) → List Decl
declarations_tree declarations = filter_map (λ n. declaration_tree n.node) declarations

abbrev pub unit_tree : TranslationUnit → UnitTree
unit_tree u = record { imports = map importing_tree u.imports; directives = map directive_tree u.global_directives; declarations = declarations_tree u.global_declarations }
