-- How declarations and modules are printed (this project's own layout).
use Rattle.std.specs.Prelude.{ℕ, List, [], ◌∷◌, ◌++◌, Option, Some, None, codes}
use Rattle.std.specs.List.{flat_map}
use Rattle.wgsl_declarations.specs.ExpressionsTree.{Typ}
use Rattle.wgsl_declarations.specs.ExpressionsPrint.{commas, typ_text, indent}
use Rattle.wgsl_declarations.specs.AttributesTree.{Attr}
use Rattle.wgsl_declarations.specs.AttributesPrint.{attrs_text}
use Rattle.wgsl_statements.specs.SimpleStatementsTree.{asserting, declaring}
use Rattle.wgsl_statements.specs.SimpleStatementsPrint.{simple_line}
use Rattle.wgsl_statements.specs.Tree.{Block}
use Rattle.wgsl_statements.specs.Print.{block_text}
use Rattle.wgsl_declarations.specs.ImportsPrint.{importing_text, directive_text}
use Rattle.wgsl_declarations.specs.Tree.{Member, Param, Decl, variable, alias, structure, function, assertion, UnitTree}

-- another name for a type, from behind its attributes to its `;`
unfoldable pub alias_text : List ℕ → Typ → List ℕ
alias_text name type = codes "alias " ++ name ++ codes " = " ++ typ_text type

-- a structure up to its members
unfoldable pub structure_text : List Attr → List ℕ → List ℕ
structure_text attributes name = attrs_text attributes ++ codes "struct " ++ name ++ codes " "

-- a member, to the end of its line
abbrev pub member_text : Member → List ℕ
member_text m = attrs_text m.attributes ++ m.name ++ codes ": " ++ typ_text m.type ++ codes ",\n"

-- members in braces: nothing, or lines a level deeper
abbrev pub members_text : List Member → List ℕ
members_text [] = codes "{}"
members_text (m ∷ ms) = codes "{\n" ++ flat_map (λ m. indent 1 ++ member_text m) (m ∷ ms) ++ codes "}"

abbrev pub param_text : Param → List ℕ
param_text p = attrs_text p.attributes ++ p.name ++ codes ": " ++ typ_text p.type

-- a function up to its result
unfoldable pub head_text : List Attr → List ℕ → List Param → List ℕ
head_text attributes name params = attrs_text attributes ++ codes "fn " ++ name ++ codes "(" ++ commas param_text params ++ codes ")"

-- the type of a function's result, and its attributes
abbrev pub result_text : List Attr → Option Typ → List ℕ
result_text attributes None = []
result_text attributes (Some t) = codes " -> " ++ attrs_text attributes ++ typ_text t

-- the body of a function, to the end of its line
unfoldable pub body_text : Block → List ℕ
body_text body = codes " " ++ block_text 0 body ++ codes "\n"

-- a declaration, to the end of its last line
abbrev pub decl_text : Decl → List ℕ
decl_text (variable attributes kind name type value) = simple_line (declaring attributes kind name type value)
decl_text (alias attributes name type) = attrs_text attributes ++ alias_text name type ++ codes ";\n"
decl_text (structure attributes name members) = structure_text attributes name ++ members_text members ++ codes "\n"
decl_text (function attributes name params result_attributes result body) =
    head_text attributes name params ++ result_text result_attributes result ++ body_text body
decl_text (assertion attributes x) = simple_line (asserting attributes x)

-- the same where there may be none
abbrev pub lines_text : Option Decl → List ℕ
lines_text None = []
lines_text (Some d) = decl_text d

-- the imports, then the directives, and then the declarations
abbrev pub unit_text : UnitTree → List ℕ
unit_text u = flat_map importing_text u.imports ++ flat_map directive_text u.directives ++ flat_map decl_text u.declarations
