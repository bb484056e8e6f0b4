-- What a lowered module declares.
use Rattle.std.specs.Prelude.{◌≡◌, Bool, true, false, not, List}
use Rattle.std.specs.List.{All}
use Rattle.wgsl_path.specs.declared.span.Spanned.{Spanned}
use Rattle.wgsl_simple_statements.specs.declared.declaration.DeclarationKind.{DeclarationKind}
use Rattle.wgsl_simple_statements.specs.declared.declaration.DeclarationKind.TheVariants as kinds
use Rattle.wgsl_declarations.specs.declared.declaration.GlobalDeclaration.{GlobalDeclaration}
use Rattle.wgsl_declarations.specs.declared.declaration.GlobalDeclaration.TheVariants as code

abbrev pub is_const : DeclarationKind → Bool
is_const kinds.Const = true
is_const _ = false

-- a variable, an override, a structure or a function: no const, alias or assertion, and no `;` alone
abbrev pub stays : GlobalDeclaration → Bool
stays (code.Declaration x) = not (is_const x.kind)
stays (code.Struct x) = true
stays (code.Function x) = true
stays code.Void = false
stays (code.TypeAlias x) = false
stays (code.ConstAssert x) = false

-- Each declaration of a list stays.
abbrev pub AllStay : List (Spanned GlobalDeclaration) → Type 0
AllStay declarations = All (λ n. stays n.node ≡ true) declarations
