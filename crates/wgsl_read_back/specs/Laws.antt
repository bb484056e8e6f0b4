-- What is printed is read back.
use Rattle.std.specs.Prelude.{◌≡◌, ℕ, List, map, ◌++◌, codes, Option, Some, None, Ok}
use Rattle.std.specs.List.{Contains}
use Rattle.std.specs.Option.{option_map}
use Rattle.wgsl_path.specs.declared.span.Spanned.{Spanned}
use Rattle.wgsl_path.specs.declared.path.ModulePath.{ModulePath}
use Rattle.wgsl_path.specs.Paths.{path_text}
use Rattle.wgsl_expressions.specs.declared.expression.Expression.{Expression as Node}
use Rattle.wgsl_expressions.specs.View.{node_tree}
use Rattle.wgsl_templates.specs.declared.meaning.token.SpannedTemplateToken.{SpannedTemplateToken}
use Rattle.wgsl_templates.specs.Tokens.{IsLexed}
use Rattle.wgsl_print_laws.specs.Laws.{without_places}
use Rattle.wgsl_grammar_tables.specs.Grammars.{phrase, Derives}
use Rattle.wgsl_grammar_tables.specs.Nonterminals as n
use Rattle.wgsl_grammar_tables.specs.Expansion.{plain}
use Rattle.wgsl_semantic_values.specs.declared.part.Part.{Part}
use Rattle.wgsl_parser.specs.Phrase.{Phrase}
use Rattle.wgsl_parser.specs.Phrases.{grammar}
use Rattle.wgsl_expressions.specs.declared.attributes.attribute.Attribute.{Attribute}
use Rattle.wgsl_expressions.specs.AttributesView.{attribute_tree}
use Rattle.wgsl_expressions.specs.AttributesPrint.{arguments_text, attr_text}
use Rattle.wgsl_attribute_words.specs.Attributes.{attribute_of}
use Rattle.wgsl_expressions.specs.Print.{exp_text}
use Rattle.wgsl_declarations.specs.declared.imports.directive.GlobalDirective.{GlobalDirective}
use Rattle.wgsl_declarations.specs.declared.imports.import.ImportStatement.{ImportStatement}
use Rattle.wgsl_declarations.specs.ImportsTree.{Importing}
use Rattle.wgsl_declarations.specs.ImportsView.{directive_tree, importing_tree}
use Rattle.wgsl_declarations.specs.ImportsPrint.{directive_text, importing_text}
use Rattle.wgsl_simple_statements.specs.declared.declaration.DeclarationKind.{DeclarationKind}
use Rattle.wgsl_simple_statements.specs.Print.{kind_text}
use Rattle.wgsl_declarations.specs.declared.declaration.GlobalDeclaration.{GlobalDeclaration}
use Rattle.wgsl_declarations.specs.declared.unit.TranslationUnit.{TranslationUnit}
use Rattle.wgsl_declarations.specs.Tree.{Decl}
use Rattle.wgsl_declarations.specs.View.{declaration_tree, unit_tree}
use Rattle.wgsl_declarations.specs.Print.{decl_text, unit_text}
use Rattle.wgsl_statements.specs.declared.statement.Statement.{Statement as Code}
use Rattle.wgsl_statements.specs.Tree.{Stm}
use Rattle.wgsl_statements.specs.View.{statement_tree}
use Rattle.wgsl_statements.specs.Print.{stm_text}
use Rattle.wgsl_semantic_values.specs.declared.part.Part.TheVariants as part
use Rattle.wgsl_parser.specs.Start.{Start}
use Rattle.wgsl_parser.specs.Start.TheVariants.{Expression, Statement, Declaration, Directive, Import, Kind}
use Rattle.wgsl_parser.specs.Texts.{IsParsed, ParsesModule}

-- Where a text is an expression, what is printed of its tree is one, too, with the same tree but for places.
abbrev pub ExpressionsAreReadBack : Type 0
ExpressionsAreReadBack = (text : List ℕ) (x : Spanned Node) → IsParsed Expression text (part.Expression x)
    → (y : Spanned Node) × IsParsed Expression (exp_text (node_tree x)) (part.Expression y) × (node_tree y ≡ node_tree x)

-- So is what is printed of a directive.
abbrev pub DirectivesAreReadBack : Type 0
DirectivesAreReadBack = (text : List ℕ) (x : GlobalDirective) → IsParsed Directive text (part.Directive x)
    → (y : GlobalDirective) × IsParsed Directive (directive_text (directive_tree x)) (part.Directive y) × (directive_tree y ≡ directive_tree x)

-- And what is printed of an import statement.
abbrev pub ImportsAreReadBack : Type 0
ImportsAreReadBack = (text : List ℕ) (x : ImportStatement) → IsParsed Import text (part.Import x)
    → (y : ImportStatement) × IsParsed Import (importing_text (importing_tree x)) (part.Import y) × (importing_tree y ≡ importing_tree x)

-- And what is printed of a kind of declaration, which has no places.
abbrev pub KindsAreReadBack : Type 0
KindsAreReadBack = (text : List ℕ) (x : DeclarationKind) → IsParsed Kind text (part.Kind x) → IsParsed Kind (kind_text x) (part.Kind x)

-- The attribute of a word and arguments is printed as `@`, that word and these arguments.
abbrev pub AttributesArePrintedAsRead : Type 0
AttributesArePrintedAsRead = (name : List ℕ) (arguments : Option (List (Spanned Node))) (x : Attribute) → attribute_of name arguments ≡ Some x
    → attr_text (attribute_tree x) ≡ codes "@" ++ name ++ arguments_text (option_map (map node_tree) arguments)

-- some tokens are this attribute, and no check fails in it
pub record AreAttribute (tokens : List SpannedTemplateToken) (x : Spanned Attribute) : Type 0 where
  pub made : Phrase Part
  pub derives : Derives grammar (phrase (plain n.Attribute)) tokens made
  pub passes : made.failure ≡ None
  pub part_is : made.part ≡ part.Attribute x

-- Where the tokens of a text are an attribute, so are those of what is printed of it, with the same tree but for places.
abbrev pub AttributesAreReadBack : Type 0
AttributesAreReadBack = (text : List ℕ) (tokens : List SpannedTemplateToken) (x : Spanned Attribute) → IsLexed text tokens → AreAttribute tokens x
    → (again : List SpannedTemplateToken) × IsLexed (attr_text (attribute_tree x.node)) again × (y : Spanned Attribute) × AreAttribute again y × (attribute_tree y.node ≡ attribute_tree x.node)

-- Where a text is a statement, and not `;` alone, what is printed of its tree at any level is one, too, with the same tree.
abbrev pub StatementsAreReadBack : Type 0
StatementsAreReadBack = (text : List ℕ) (x : Spanned Code) (s : Stm) → IsParsed Statement text (part.Statement x) → statement_tree x.node ≡ Some s → (level : ℕ)
    → (y : Spanned Code) × IsParsed Statement (stm_text level s) (part.Statement y) × (statement_tree y.node ≡ Some s)

-- Where a text is a declaration of a module, and not `;` alone, what is printed of its tree is one, too, with the same tree.
abbrev pub DeclarationsAreReadBack : Type 0
DeclarationsAreReadBack = (text : List ℕ) (x : Spanned GlobalDeclaration) (d : Decl) → IsParsed Declaration text (part.Global x) → declaration_tree x.node ≡ Some d
    → (y : Spanned GlobalDeclaration) × IsParsed Declaration (decl_text d) (part.Global y) × (declaration_tree y.node ≡ Some d)

-- Where a text is a module, so is what is printed of its tree, with the same tree.
abbrev pub ModulesAreReadBack : Type 0
ModulesAreReadBack = (text : List ℕ) (x : TranslationUnit) → ParsesModule text (Ok x) → (y : TranslationUnit) × ParsesModule (unit_text (unit_tree x)) (Ok y) × (unit_tree y ≡ unit_tree x)

-- Where two texts have the same tokens but for their places, and one is a module, so is the other, with the same tree.
abbrev pub SameTokensAreTheSameModule : Type 0
SameTokensAreTheSameModule = (text other : List ℕ) (tokens again : List SpannedTemplateToken) (x : TranslationUnit) → IsLexed text tokens → IsLexed other again → without_places again ≡ without_places tokens → ParsesModule text (Ok x)
    → (y : TranslationUnit) × ParsesModule other (Ok y) × (unit_tree y ≡ unit_tree x)

-- The same of what a text is from another start, by what it is as a part and its tree.
abbrev pub SameTokensAreTheSame : {X T : Type 0} → Start → (X → Part) → (X → T) → Type 0
SameTokensAreTheSame {X = X} s as_part tree = (text other : List ℕ) (tokens again : List SpannedTemplateToken) (x : X) → IsLexed text tokens → IsLexed other again → without_places again ≡ without_places tokens → IsParsed s text (as_part x)
    → (y : X) × IsParsed s other (as_part y) × (tree y ≡ tree x)

-- Of expressions, statements, declarations, also of `;` alone, which stands for no tree, directives, import statements and kinds of declarations.
abbrev pub SameTokensAreTheSameParts : Type 0
SameTokensAreTheSameParts =
    SameTokensAreTheSame Expression part.Expression node_tree
    × SameTokensAreTheSame Statement part.Statement (λ (x : Spanned Code). statement_tree x.node)
    × SameTokensAreTheSame Declaration part.Global (λ (x : Spanned GlobalDeclaration). declaration_tree x.node)
    × SameTokensAreTheSame Directive part.Directive directive_tree
    × SameTokensAreTheSame Import part.Import importing_tree
    × SameTokensAreTheSame Kind part.Kind (λ (x : DeclarationKind). x)

-- A text is one module at most.
abbrev pub TextsHaveOneModule : Type 0
TextsHaveOneModule = (text : List ℕ) (a b : TranslationUnit) → ParsesModule text (Ok a) → ParsesModule text (Ok b) → a ≡ b

-- Imports of texts that name modules by paths that print alike name them by one path.
abbrev pub ImportsOfTextsAreApart : Type 0
ImportsOfTextsAreApart = (one other : List ℕ) (x y : TranslationUnit) → ParsesModule one (Ok x) → ParsesModule other (Ok y) → (i j : Importing) (a b : ModulePath)
    → Contains (unit_tree x).imports i → Contains (unit_tree y).imports j → i.path ≡ Some a → j.path ≡ Some b → path_text a ≡ path_text b → a ≡ b
