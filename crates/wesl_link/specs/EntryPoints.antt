-- The entry points of a module: its functions with the attribute of a stage (WGSL, "Entry Point Declaration").
use Rattle.std.specs.Prelude.{Bool, true, false, List, [], ◌∷◌, if◌then◌else◌}
use Rattle.std.specs.List.{flat_map, list_any}
use Rattle.wgsl_path.specs.declared.ident.Ident.{Ident}
use Rattle.wgsl_path.specs.declared.span.Spanned.{Spanned}
use Rattle.wgsl_expressions.specs.declared.attributes.attribute.Attribute.{Attribute}
use Rattle.wgsl_expressions.specs.declared.attributes.attribute.Attribute.TheVariants as attribute
use Rattle.wgsl_declarations.specs.declared.declaration.Function.{Function}
use Rattle.wgsl_declarations.specs.declared.declaration.GlobalDeclaration.{GlobalDeclaration}
use Rattle.wgsl_declarations.specs.declared.declaration.GlobalDeclaration.TheVariants as code
use Rattle.wgsl_declarations.specs.declared.unit.TranslationUnit.{TranslationUnit}

-- the attribute of a stage
abbrev pub is_stage : Attribute → Bool
is_stage attribute.Vertex = true
is_stage attribute.Fragment = true
is_stage attribute.Compute = true
is_stage _ = false

abbrev pub is_stage_node : Spanned Attribute → Bool
is_stage_node n = is_stage n.node

abbrev pub has_stage : List (Spanned Attribute) → Bool
has_stage attributes = list_any is_stage_node attributes

-- the name of an entry point, where a function or a declaration is one
abbrev pub entry_of_function : Function → List Ident
entry_of_function x = if has_stage x.attributes then x.ident ∷ [] else []

abbrev pub entry_of : GlobalDeclaration → List Ident
entry_of code.Void = []
entry_of (code.Declaration x) = []
entry_of (code.TypeAlias x) = []
entry_of (code.Struct x) = []
entry_of (code.Function x) = entry_of_function x
entry_of (code.ConstAssert x) = []

abbrev pub entry_of_node : Spanned GlobalDeclaration → List Ident
entry_of_node n = entry_of n.node

-- those of a module, in the order of its text
abbrev pub entry_points : TranslationUnit → List Ident
entry_points u = flat_map entry_of_node u.global_declarations
