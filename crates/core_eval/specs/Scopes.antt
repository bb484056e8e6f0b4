-- Scopes and declarations as contracts see them.
use Rattle.std.specs.Prelude.{◌≡◌, ℕ, List, [], map, Option, Some, None}
use Rattle.std.specs.Str.{bytes_eq}
use Rattle.std.specs.Borrow.{Bor}
use Rattle.std.specs.HashMap.{HashMap, get_by}
use Rattle.wgsl_path.specs.declared.span.Spanned.{Spanned}
use Rattle.core_syntax.specs.declared.declaration.GlobalDeclaration.{GlobalDeclaration}
use Rattle.core_syntax.specs.Tree.{Decl}
use Rattle.core_syntax.specs.View.{declaration_tree}
use Rattle.wgsl_shader_type.specs.declared.literal.LiteralInstance.{LiteralInstance}
use Rattle.core_meaning.specs.Names.{Name, find, find_decl}
use Rattle.core_meaning.specs.ConstStage as Stage
use Rattle.core_eval.specs.declared.scope.Scope.{Scope}

abbrev pub decls : List (Spanned GlobalDeclaration) → List Decl
decls nodes = map (λ n. declaration_tree n.node) nodes

abbrev pub seen : Option (Bor GlobalDeclaration) → Option Decl
seen (Some d) = Some (declaration_tree d.now)
seen None = None

-- what a table has under a name
abbrev pub lookup : {X S : Type 0} → HashMap (Bor (List ℕ)) X S → Name → Option X
lookup table x = get_by (λ k. bytes_eq x k.now) table

-- a table of the first declaration of each name
abbrev pub Declares : {S : Type 0} → HashMap (Bor (List ℕ)) (Bor GlobalDeclaration) S → List Decl → Type 0
Declares table ds = (x : Name) → seen (lookup table x) ≡ find_decl x ds

-- a table of the values of consts
abbrev pub Holds : {X S : Type 0} → HashMap (Bor (List ℕ)) X S → List (Name × X) → Type 0
Holds table bs = (x : Name) → lookup table x ≡ find x bs

abbrev pub scope_of : Scope → Stage.Scope
scope_of s = record { declared = λ x. seen (lookup s.declarations.now x); known = lookup s.consts.now; parameters = s.parameters.now }

-- outside of functions
abbrev pub outside : {S U : Type 0} → HashMap (Bor (List ℕ)) (Bor GlobalDeclaration) S → HashMap (Bor (List ℕ)) LiteralInstance U → Stage.Scope
outside declarations consts = record { declared = λ x. seen (lookup declarations x); known = lookup consts; parameters = [] }
