-- Texts with the same tokens but for places are the same, from any start but that of modules, of which `ModuleLaws` speaks.
use Rattle.std.proofs.Common.{◌≡◌, refl, sym, ap, ◌∙◌, subst, ℕ, nat_lt, true, List, Some, None}
use Rattle.wgsl_path.specs.declared.span.Spanned.{Spanned}
use Rattle.wgsl_templates.specs.declared.meaning.token.SpannedTemplateToken.{SpannedTemplateToken}
use Rattle.wgsl_templates.specs.Tokens.{IsLexed}
use Rattle.wgsl_templates.proofs.Once.{lexed_once}
use Rattle.wgsl_print_laws.specs.Laws.{without_places}
use Rattle.wgsl_expressions.specs.View.{node_tree}
use Rattle.wgsl_declarations.specs.ImportsView.{directive_tree, importing_tree}
use Rattle.wgsl_simple_statements.specs.declared.declaration.DeclarationKind.{DeclarationKind}
use Rattle.wgsl_statements.specs.declared.statement.Statement.{Statement as Code}
use Rattle.wgsl_statements.specs.View.{statement_tree}
use Rattle.wgsl_declarations.specs.declared.declaration.GlobalDeclaration.{GlobalDeclaration}
use Rattle.wgsl_declarations.specs.View.{declaration_tree}
use Rattle.wgsl_grammar_tables.specs.Grammars.{phrase}
use Rattle.wgsl_semantic_values.specs.declared.part.Part.{Part}
use Rattle.wgsl_semantic_values.specs.declared.part.Part.TheVariants as part
use Rattle.wgsl_grammar_tables.specs.Nonterminals as n
use Rattle.wgsl_grammar_tables.specs.Expansion.{plain}
use Rattle.wgsl_parser.specs.Start.{Start}
use Rattle.wgsl_parser.specs.Start.TheVariants.{Expression, Statement, Declaration, Directive, Import, Kind}
use Rattle.wgsl_parser.specs.Phrases.{number}
use Rattle.wgsl_parser.specs.Readings.{goal_of}
use Rattle.wgsl_parser.specs.Texts.{IsParsed}
use Rattle.wgsl_read_back.specs.Laws.{SameTokensAreTheSame, SameTokensAreTheSameParts}
use Rattle.wgsl_read_back.proofs.Views.{View, Stands}
use Rattle.wgsl_read_back.proofs.Views as v
use Rattle.wgsl_read_back.proofs.Items.{AgainAs, Back}
use Rattle.wgsl_read_back.proofs.Families.{Expressed}
use Rattle.wgsl_read_back.proofs.Directives.{Directed}
use Rattle.wgsl_read_back.proofs.Imports.{Imported}
use Rattle.wgsl_read_back.proofs.DeclarationKinds.{Kinded}
use Rattle.wgsl_read_back.proofs.Blocks.{StatementRead, a_stated, a_void, IsVoidStatement}
use Rattle.wgsl_read_back.proofs.Declarations.{Declared, declares, is_void, IsVoidDeclaration}
use Rattle.wgsl_read_back.proofs.Returned.{parsed_as, parsed_good}
use Rattle.wgsl_read_back.proofs.ModuleLaws.{goal_is_declaration, declaration_of, goal_is_statement, statement_of}
use Rattle.wgsl_read_back.proofs.Whole.{goal_is_expression, expression_of, goal_is_directive, directive_of, goal_is_import, import_of, goal_is_kind, kind_of}

-- Of a start: what its values are as parts, each by itself, and their trees. Of a text: the tokens of another.
module _ {X T : Type 0} (s : Start) (lt : nat_lt (number s) 7 ≡ true) (k : ℕ) (goal : goal_of s ≡ k) (as_part : X → Part) (tree : X → T) (one : (x y : X) → as_part y ≡ as_part x → y ≡ x) (text other : List ℕ) (tokens again : List SpannedTemplateToken) (x : X) (at : IsLexed text tokens)
    (lexed : IsLexed other again) (same : without_places again ≡ without_places tokens) (p : IsParsed s text (as_part x)) where
  -- the part is of a tree, and so is that of the other tokens
  found_as : (u : T) (IsSo : Part → Type 0) → ((q : Part) → IsSo q → (y : X) × (q ≡ as_part y) × (tree y ≡ u)) → IsSo p.part.phrase.part → ((w : List SpannedTemplateToken) → without_places w ≡ without_places p.tokens → AgainAs (phrase k) IsSo w)
      → (y : X) × IsParsed s other (as_part y) × (tree y ≡ tree x)
  found_as u IsSo value_in is likewise =
      let found = likewise again (same ∙ ap without_places (lexed_once text tokens p.tokens at p.lexed)) in
      let y = value_in p.part.phrase.part is in
      let z = value_in found.value.part found.is in
      (z.0, subst (IsParsed s other) z.1 (parsed_as s lt k goal other again lexed found.value found.derives found.passes), z.2 ∙ sym y.2 ∙ ap tree (one x y.0 (sym y.1 ∙ sym p.part.same)))

  -- by a view
  found_back : (u : T) (v : View) → ((q : Part) → Stands q v → (y : X) × (q ≡ as_part y) × (tree y ≡ u)) → Back k v p.tokens p.part.phrase → (y : X) × IsParsed s other (as_part y) × (tree y ≡ tree x)
  found_back u v value_in b = found_as u (λ q. Stands q v) value_in b.item.stands (λ w e. let a = b.item.likewise w e in record { value = a.value; derives = a.derives; is = a.stands; passes = a.passes })

expressions : SameTokensAreTheSame Expression part.Expression node_tree
expressions text other tokens again x at lexed same p =
    let h : Expressed (plain n.Expression) p.tokens p.part.phrase = parsed_good Expression refl (plain n.Expression) goal_is_expression text (part.Expression x) p in
    found_back Expression refl (plain n.Expression) goal_is_expression part.Expression node_tree (λ x y e. cc) text other tokens again x at lexed same p h.0 (v.expression h.0) (λ q. expression_of q h.0) h.2

directives : SameTokensAreTheSame Directive part.Directive directive_tree
directives text other tokens again x at lexed same p =
    let h : Directed (plain n.Directive) p.tokens p.part.phrase = parsed_good Directive refl (plain n.Directive) goal_is_directive text (part.Directive x) p in
    found_back Directive refl (plain n.Directive) goal_is_directive part.Directive directive_tree (λ x y e. cc) text other tokens again x at lexed same p h.0 (v.directive h.0 h.1) (λ q. directive_of q h.0 h.1) h.3

imports : SameTokensAreTheSame Import part.Import importing_tree
imports text other tokens again x at lexed same p =
    let h : Imported (plain n.Import) p.tokens p.part.phrase = parsed_good Import refl (plain n.Import) goal_is_import text (part.Import x) p in
    found_back Import refl (plain n.Import) goal_is_import part.Import importing_tree (λ x y e. cc) text other tokens again x at lexed same p h.0 (v.importing h.0 h.1) (λ q. import_of q h.0 h.1) h.3

kinds : SameTokensAreTheSame Kind part.Kind (λ (x : DeclarationKind). x)
kinds text other tokens again x at lexed same p =
    let h : Kinded (plain n.Kind) p.tokens p.part.phrase = parsed_good Kind refl (plain n.Kind) goal_is_kind text (part.Kind x) p in
    found_back Kind refl (plain n.Kind) goal_is_kind part.Kind (λ (x : DeclarationKind). x) (λ x y e. cc) text other tokens again x at lexed same p h.0 (v.kind h.0) (λ q. kind_of q h.0) h.1

-- of these there is `;` alone
module _ (text other : List ℕ) (tokens again : List SpannedTemplateToken) (at : IsLexed text tokens) (lexed : IsLexed other again) (same : without_places again ≡ without_places tokens) where
  statement : (x : Spanned Code) (p : IsParsed Statement text (part.Statement x)) → StatementRead (plain n.Statement) p.tokens p.part.phrase → (y : Spanned Code) × IsParsed Statement other (part.Statement y) × (statement_tree y.node ≡ statement_tree x.node)
  statement x p (a_stated {s = s} {ts = ts} k b) =
      found_back Statement refl (plain n.Statement) goal_is_statement part.Statement (λ (x : Spanned Code). statement_tree x.node) (λ x y e. cc) text other tokens again x at lexed same p (Some s) (v.statement s ts) (λ q. statement_of q s ts) b
  statement x p (a_void y is none pass tokens_are likewise) =
      found_as Statement refl (plain n.Statement) goal_is_statement part.Statement (λ (x : Spanned Code). statement_tree x.node) (λ x y e. cc) text other tokens again x at lexed same p None IsVoidStatement (λ q h. h) (y, is, none) likewise

  declaration : (x : Spanned GlobalDeclaration) (p : IsParsed Declaration text (part.Global x)) → Declared (plain n.Declaration) p.tokens p.part.phrase → (y : Spanned GlobalDeclaration) × IsParsed Declaration other (part.Global y) × (declaration_tree y.node ≡ declaration_tree x.node)
  declaration x p (declares d ts k b) =
      found_back Declaration refl (plain n.Declaration) goal_is_declaration part.Global (λ (x : Spanned GlobalDeclaration). declaration_tree x.node) (λ x y e. cc) text other tokens again x at lexed same p (Some d) (v.declaration d ts) (λ q. declaration_of q d ts) b
  declaration x p (is_void g) =
      found_as Declaration refl (plain n.Declaration) goal_is_declaration part.Global (λ (x : Spanned GlobalDeclaration). declaration_tree x.node) (λ x y e. cc) text other tokens again x at lexed same p None IsVoidDeclaration (λ q h. h) (g.node, g.part_is, g.void) g.likewise

statements : SameTokensAreTheSame Statement part.Statement (λ (x : Spanned Code). statement_tree x.node)
statements text other tokens again x at lexed same p = statement text other tokens again at lexed same x p (parsed_good Statement refl (plain n.Statement) goal_is_statement text (part.Statement x) p)

declarations : SameTokensAreTheSame Declaration part.Global (λ (x : Spanned GlobalDeclaration). declaration_tree x.node)
declarations text other tokens again x at lexed same p = declaration text other tokens again at lexed same x p (parsed_good Declaration refl (plain n.Declaration) goal_is_declaration text (part.Global x) p)

pub same_tokens_are_the_same_parts : SameTokensAreTheSameParts
same_tokens_are_the_same_parts = (expressions, statements, declarations, directives, imports, kinds)
