-- What is printed of an expression, a directive, an import statement, a kind of declaration or an attribute that tokens derive is read as it again.
use Rattle.std.proofs.Common.{◌≡◌, refl, sym, ap, ◌∙◌, subst, ℕ, List}
use Rattle.wgsl_path.specs.declared.span.Spanned.{Spanned}
use Rattle.wgsl_templates.specs.declared.meaning.token.TemplateToken.{TemplateToken}
use Rattle.wgsl_expressions.specs.declared.expression.Expression.{Expression as Node}
use Rattle.wgsl_expressions.specs.Tree.{Exp}
use Rattle.wgsl_expressions.specs.View.{node_tree}
use Rattle.wgsl_expressions.specs.Print.{exp_text}
use Rattle.wgsl_declarations.specs.declared.imports.directive.GlobalDirective.{GlobalDirective}
use Rattle.wgsl_declarations.specs.declared.imports.import.ImportStatement.{ImportStatement}
use Rattle.wgsl_declarations.specs.ImportsTree.{Directive as DirectiveTree, Importing}
use Rattle.wgsl_declarations.specs.ImportsView.{directive_tree, importing_tree}
use Rattle.wgsl_declarations.specs.ImportsPrint.{directive_text, importing_text}
use Rattle.wgsl_simple_statements.specs.declared.declaration.DeclarationKind.{DeclarationKind}
use Rattle.wgsl_simple_statements.specs.Print.{kind_text}
use Rattle.wgsl_templates.specs.declared.meaning.token.SpannedTemplateToken.{SpannedTemplateToken}
use Rattle.wgsl_templates.specs.Tokens.{IsLexed}
use Rattle.wgsl_expressions.specs.declared.attributes.attribute.Attribute.{Attribute}
use Rattle.wgsl_expressions.specs.AttributesTree.{Attr}
use Rattle.wgsl_expressions.specs.AttributesView.{attribute_tree}
use Rattle.wgsl_expressions.specs.AttributesPrint.{attr_text}
use Rattle.wgsl_grammar_tables.specs.Grammars.{phrase}
use Rattle.wgsl_print_laws.proofs.Attributes.{attributes_are_laid_out}
use Rattle.wgsl_read_back.proofs.AttributeRows.{Attributed}
use Rattle.wgsl_read_back.proofs.Derived.{derived}
use Rattle.wgsl_print_laws.proofs.Expressions.{expressions_are_laid_out}
use Rattle.wgsl_print_laws.proofs.DirectiveLines.{directives_are_laid_out}
use Rattle.wgsl_print_laws.proofs.Imports.{imports_are_laid_out}
use Rattle.wgsl_print_laws.proofs.DeclarationKinds.{kinds_are_laid_out}
use Rattle.wgsl_semantic_values.specs.declared.part.Part.{Part}
use Rattle.wgsl_semantic_values.specs.declared.part.Part.TheVariants as part
use Rattle.wgsl_grammar_tables.specs.Nonterminals as n
use Rattle.wgsl_grammar_tables.specs.Expansion.{plain}
use Rattle.wgsl_grammar_tables.proofs.Written.{goal_is}
use Rattle.wgsl_parser.specs.Start.TheVariants.{Expression, Directive, Import, Kind}
use Rattle.wgsl_parser.specs.Readings.{goal_of}
use Rattle.wgsl_parser.specs.Texts.{IsParsed}
use Rattle.wgsl_read_back.specs.Laws.{ExpressionsAreReadBack, DirectivesAreReadBack, ImportsAreReadBack, KindsAreReadBack, AreAttribute, AttributesAreReadBack}
use Rattle.wgsl_read_back.proofs.Views.{Stands, an_expression, a_directive, an_importing, a_kind, an_attribute}
use Rattle.wgsl_read_back.proofs.Views as v
use Rattle.wgsl_read_back.proofs.Families.{Expressed}
use Rattle.wgsl_read_back.proofs.Directives.{Directed}
use Rattle.wgsl_read_back.proofs.Imports.{Imported}
use Rattle.wgsl_read_back.proofs.DeclarationKinds.{Kinded}
use Rattle.wgsl_read_back.proofs.Returned.{parsed_good, printed, read_again}

-- ---- expressions

pub goal_is_expression : goal_of Expression ≡ plain n.Expression
goal_is_expression = goal_is 1

pub expression_of : (p : Part) (e : Exp) → Stands p (v.expression e) → (y : Spanned Node) × (p ≡ part.Expression y) × (node_tree y ≡ e)
expression_of p e (an_expression y is q) = (y, is, q)

pub expressions_are_read_back : ExpressionsAreReadBack
expressions_are_read_back text x p =
    let h : Expressed (plain n.Expression) p.tokens p.part.phrase = parsed_good Expression refl (plain n.Expression) goal_is_expression text (part.Expression x) p in
    read_again Expression refl (plain n.Expression) goal_is_expression part.Expression (λ y e. node_tree y ≡ e) exp_text text x (node_tree x) p (λ y e. cc) (λ e q. sym q)
    h.0 (v.expression h.0) (λ q. expression_of q h.0) h.2 (λ s. expressions_are_laid_out h.0 s h.1)

-- ---- directives

pub goal_is_directive : goal_of Directive ≡ plain n.Directive
goal_is_directive = goal_is 4

pub directive_of : (p : Part) (d : DirectiveTree) (ts : List TemplateToken) → Stands p (v.directive d ts) → (y : GlobalDirective) × (p ≡ part.Directive y) × (directive_tree y ≡ d)
directive_of p d ts (a_directive y is q) = (y, is, q)

pub directives_are_read_back : DirectivesAreReadBack
directives_are_read_back text x p =
    let h : Directed (plain n.Directive) p.tokens p.part.phrase = parsed_good Directive refl (plain n.Directive) goal_is_directive text (part.Directive x) p in
    read_again Directive refl (plain n.Directive) goal_is_directive part.Directive (λ y d. directive_tree y ≡ d) directive_text text x (directive_tree x) p (λ y e. cc) (λ d q. sym q)
    h.0 (v.directive h.0 h.1) (λ q. directive_of q h.0 h.1) h.3 (λ s. directives_are_laid_out h.0 h.1 h.2 s)

-- ---- import statements

pub goal_is_import : goal_of Import ≡ plain n.Import
goal_is_import = goal_is 5

pub import_of : (p : Part) (i : Importing) (ts : List TemplateToken) → Stands p (v.importing i ts) → (y : ImportStatement) × (p ≡ part.Import y) × (importing_tree y ≡ i)
import_of p i ts (an_importing y is q) = (y, is, q)

pub imports_are_read_back : ImportsAreReadBack
imports_are_read_back text x p =
    let h : Imported (plain n.Import) p.tokens p.part.phrase = parsed_good Import refl (plain n.Import) goal_is_import text (part.Import x) p in
    read_again Import refl (plain n.Import) goal_is_import part.Import (λ y i. importing_tree y ≡ i) importing_text text x (importing_tree x) p (λ y e. cc) (λ i q. sym q)
    h.0 (v.importing h.0 h.1) (λ q. import_of q h.0 h.1) h.3 (λ s. imports_are_laid_out h.0 h.1 h.2 s)

-- ---- kinds of declarations

pub goal_is_kind : goal_of Kind ≡ plain n.Kind
goal_is_kind = goal_is 6

pub kind_of : (p : Part) (k : DeclarationKind) → Stands p (v.kind k) → (y : DeclarationKind) × (p ≡ part.Kind y) × (y ≡ k)
kind_of p k (a_kind is) = (k, is, refl)

pub kinds_are_read_back : KindsAreReadBack
kinds_are_read_back text x p =
    let h : Kinded (plain n.Kind) p.tokens p.part.phrase = parsed_good Kind refl (plain n.Kind) goal_is_kind text (part.Kind x) p in
    let r = read_again Kind refl (plain n.Kind) goal_is_kind part.Kind (λ y k. y ≡ k) kind_text text x x p (λ y e. cc) (λ k q. sym q) h.0 (v.kind h.0) (λ q. kind_of q h.0) h.1 (kinds_are_laid_out h.0) in
    let P : DeclarationKind → Type 0 = λ k. IsParsed Kind (kind_text x) (part.Kind k) in
    subst P r.2 r.1

-- ---- attributes, which no text is alone

attribute_of : (p : Part) (a : Attr) (ts : List TemplateToken) → Stands p (v.attribute a ts) → (y : Spanned Attribute) × (p ≡ part.Attribute y) × (attribute_tree y.node ≡ a)
attribute_of p a ts (an_attribute y is h q) = (y, is, q)

module _ (text : List ℕ) (tokens : List SpannedTemplateToken) (x : Spanned Attribute) (lexed : IsLexed text tokens) (p : AreAttribute tokens x) where
  attributed : Attributed (plain n.Attribute) tokens p.made
  attributed = derived (phrase (plain n.Attribute)) tokens p.made p.derives p.passes

  attribute_is : attributed.0 ≡ attribute_tree x.node
  attribute_is =
      let y = attribute_of p.made.part attributed.0 attributed.1 attributed.3.item.stands in
      let same : part.Attribute y.0 ≡ part.Attribute x = sym y.1 ∙ p.part_is in
      let node : y.0 ≡ x = cc in sym y.2 ∙ ap (λ (z : Spanned Attribute). attribute_tree z.node) node

  attribute_returned : (again : List SpannedTemplateToken) × IsLexed (attr_text attributed.0) again × (y : Spanned Attribute) × AreAttribute again y × (attribute_tree y.node ≡ attributed.0)
  attribute_returned =
      let found = printed text tokens lexed (attr_text attributed.0) (plain n.Attribute) (v.attribute attributed.0 attributed.1) p.made attributed.3 (λ s. attributes_are_laid_out attributed.0 attributed.1 attributed.2 s) in
      let r = attributed.3.item.again found.0 found.2 in
      let y = attribute_of r.value.part attributed.0 attributed.1 r.stands in
      (found.0, found.1, y.0, record { made = r.value; derives = r.derives; passes = r.passes; part_is = y.1 }, y.2)

pub attributes_are_read_back : AttributesAreReadBack
attributes_are_read_back text tokens x lexed p =
    let P : Attr → Type 0 = λ a. (again : List SpannedTemplateToken) × IsLexed (attr_text a) again × (y : Spanned Attribute) × AreAttribute again y × (attribute_tree y.node ≡ a) in
    subst P (attribute_is text tokens x lexed p) (attribute_returned text tokens x lexed p)
