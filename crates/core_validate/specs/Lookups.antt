-- What the code's own data say, in the words of `Scopes`.
use Rattle.std.specs.Prelude.{ℕ, List, map, Option}
use Rattle.std.specs.Str.{bytes_eq}
use Rattle.std.specs.Borrow.{Bor}
use Rattle.std.specs.HashMap.{HashMap, get_by}
use Rattle.core_syntax.specs.declared.declaration.FormalParameter.{FormalParameter}
use Rattle.wgsl_path.specs.declared.span.Spanned.{Spanned}
use Rattle.core_syntax.specs.declared.declaration.GlobalDeclaration.{GlobalDeclaration}
use Rattle.core_syntax.specs.Tree.{Decl}
use Rattle.core_syntax.specs.View.{declaration_tree}
use Rattle.core_syntax.specs.Names.{declared_name}
pub use Rattle.wgsl_words.specs.Names.{texts}
use Rattle.core_validate.specs.Scopes.{Name}

-- where an index has a name
abbrev pub lookup : {X S : Type 0} → HashMap (Bor (List ℕ)) X S → Name → Option X
lookup index x = get_by (λ k. bytes_eq x k.now) index

abbrev pub local_names : List FormalParameter → List Name
local_names locals = map (λ p. p.ident.name) locals

-- declarations without their places, and the names that they declare
abbrev pub trees : List (Spanned GlobalDeclaration) → List Decl
trees declarations = map (λ n. declaration_tree n.node) declarations

abbrev pub declared : List (Spanned GlobalDeclaration) → List Name
declared declarations = map (λ n. declared_name (declaration_tree n.node)) declarations
