-- Conditions in lists where empty items stand for nothing.
use Rattle.std.proofs.Common.{◌≡◌, refl, sym, ap, ◌∙◌, List, [], ◌∷◌, Bool, true, false, Option, Some, None, map}
use Rattle.std.specs.Prelude.{◌||◌}
use Rattle.wgsl_path.specs.declared.span.Spanned.{Spanned}
use Rattle.wgsl_statements.specs.Tree.{Stm}
use Rattle.wgsl_statements.specs.View.{stms, part, statement_tree, statements_tree, part_layer, block_tree, elses_layer, else_layer}
use Rattle.wgsl_statements.specs.declared.statement.ElseIfClauseOf.{ElseIfClauseOf}
use Rattle.wgsl_statements.specs.declared.statement.ElseClauseOf.{ElseClauseOf}
use Rattle.wgsl_statements.specs.declared.statement.Statement.{Statement}
use Rattle.wgsl_declarations.specs.declared.declaration.GlobalDeclaration.{GlobalDeclaration}
use Rattle.wgsl_declarations.specs.Tree.{Decl}
use Rattle.wgsl_declarations.specs.View.{declaration_tree, declarations_tree}
use Rattle.std.specs.Prelude.{filter_map}
use Rattle.wesl_cond_left.specs.Open.{maybe_open, statements_open, part_open, block_open, elses_open, one_of, maybe_open_declaration, declarations_open}

one_more : (o : Option Stm) (os : List (Option Stm)) → statements_open (stms (o ∷ os)) ≡ maybe_open o || statements_open (stms os)
one_more None os = refl
one_more (Some s) os = refl

pub first_of_more : (n : Spanned Statement) (ns : List (Spanned Statement)) → statements_open (statements_tree (n ∷ ns)) ≡ maybe_open (statement_tree n.node) || statements_open (statements_tree ns)
first_of_more n ns = one_more (statement_tree n.node) (map (λ m. statement_tree m.node) ns)

maybe_part : (o : Option Stm) → part_open (part o) ≡ maybe_open o
maybe_part None = refl
maybe_part (Some s) = refl

pub open_part : (n : Spanned Statement) → part_open (part_layer statement_tree (Some n)) ≡ maybe_open (statement_tree n.node)
open_part n = maybe_part (statement_tree n.node)

one_declaration : (o : Option Decl) (n : Spanned GlobalDeclaration) (ns : List (Spanned GlobalDeclaration)) → declaration_tree n.node ≡ o → declarations_open (declarations_tree (n ∷ ns)) ≡ maybe_open_declaration o || declarations_open (declarations_tree ns)
one_declaration None n ns is = rw is refl
one_declaration (Some d) n ns is = rw is refl

pub first_declaration : (n : Spanned GlobalDeclaration) (ns : List (Spanned GlobalDeclaration)) → declarations_open (declarations_tree (n ∷ ns)) ≡ maybe_open_declaration (declaration_tree n.node) || declarations_open (declarations_tree ns)
first_declaration n ns = one_declaration (declaration_tree n.node) n ns refl

assoc : (a b c : Bool) → (a || b) || c ≡ a || (b || c)
assoc true b c = refl
assoc false b c = refl

pub open_elses : (cs : List (ElseIfClauseOf Statement)) (last : Option (ElseClauseOf Statement)) → elses_open (elses_layer statement_tree cs last) ≡ one_of (map (λ c. block_open (block_tree c.body)) cs) || elses_open (else_layer statement_tree last)
open_elses [] last = refl
open_elses (c ∷ cs) last =
    ap (λ b. block_open (block_tree c.body) || b) (open_elses cs last)
    ∙ sym (assoc (block_open (block_tree c.body)) (one_of (map (λ d. block_open (block_tree d.body)) cs)) (elses_open (else_layer statement_tree last)))
