-- What is printed of a statement, a declaration or a module that a text derives is read as it again.
use Rattle.std.proofs.Common.{◌≡◌, refl, sym, ap, ◌∙◌, subst, ℕ, List, [], ◌∷◌, Some, None, inl, inr, Ok}
use Rattle.wgsl_path.specs.declared.span.Spanned.{Spanned}
use Rattle.wgsl_templates.specs.declared.meaning.token.TemplateToken.{TemplateToken}
use Rattle.wgsl_templates.specs.declared.meaning.token.SpannedTemplateToken.{SpannedTemplateToken}
use Rattle.wgsl_templates.specs.Tokens.{IsLexed, start, nothing}
use Rattle.wgsl_templates.proofs.Once.{lexed_once}
use Rattle.wgsl_print_laws.specs.Laws.{without_places}
use Rattle.wgsl_declarations.specs.declared.declaration.GlobalDeclaration.{GlobalDeclaration}
use Rattle.wgsl_declarations.specs.declared.unit.TranslationUnit.{TranslationUnit}
use Rattle.wgsl_declarations.specs.Tree.{Decl, UnitTree}
use Rattle.wgsl_declarations.specs.View.{declaration_tree, unit_tree}
use Rattle.wgsl_declarations.specs.Print.{decl_text, unit_text}
use Rattle.wgsl_print_laws.proofs.Declarations.{declarations_are_laid_out}
use Rattle.wgsl_print_laws.proofs.ModulesLemmas.{modules_are_laid_out}
use Rattle.wgsl_print_laws.proofs.Statements.{statements_are_laid_out}
use Rattle.wgsl_statements.specs.declared.statement.Statement.{Statement as Code}
use Rattle.wgsl_statements.specs.Tree.{Stm}
use Rattle.wgsl_statements.specs.View.{statement_tree}
use Rattle.wgsl_statements.specs.Print.{stm_text}
use Rattle.wgsl_read_back.proofs.Blocks.{StatementRead, a_stated, a_void}
use Rattle.wgsl_grammar_tables.specs.Grammars.{phrase}
use Rattle.wgsl_semantic_values.specs.declared.part.Part.{Part}
use Rattle.wgsl_semantic_values.specs.declared.part.Part.TheVariants as part
use Rattle.wgsl_grammar_tables.specs.Nonterminals as n
use Rattle.wgsl_grammar_tables.specs.Expansion.{plain}
use Rattle.wgsl_grammar_tables.proofs.Written.{goal_is}
use Rattle.wgsl_parser.specs.Start.TheVariants.{Statement, Declaration, Module}
use Rattle.wgsl_parser.specs.Readings.{goal_of}
use Rattle.wgsl_parser.specs.Texts.{IsParsed, ParsesModule, IsBlank, empty_unit}
use Rattle.wgsl_read_back.specs.Laws.{StatementsAreReadBack, DeclarationsAreReadBack, ModulesAreReadBack, SameTokensAreTheSameModule}
use Rattle.wgsl_read_back.proofs.Views.{Stands, a_statement, a_declaration, a_module}
use Rattle.wgsl_read_back.proofs.Views as v
use Rattle.wgsl_read_back.proofs.Items.{Again}
use Rattle.wgsl_read_back.proofs.Declarations.{Declared, declares, is_void}
use Rattle.wgsl_read_back.proofs.Modules.{ModuleRead, of_nothing, of_some, unit}
use Rattle.wgsl_read_back.proofs.Returned.{parsed_good, found_again, returned_line, read_again}

-- ---- declarations

pub goal_is_declaration : goal_of Declaration ≡ plain n.Declaration
goal_is_declaration = goal_is 3

pub declaration_of : (p : Part) (d : Decl) (ts : List TemplateToken) → Stands p (v.declaration d ts) → (y : Spanned GlobalDeclaration) × (p ≡ part.Global y) × (declaration_tree y.node ≡ Some d)
declaration_of p d ts (a_declaration y is q) = (y, is, q)

abbrev pub DeclaredAs : Decl → Type 0
DeclaredAs d = (y : Spanned GlobalDeclaration) × IsParsed Declaration (decl_text d) (part.Global y) × (declaration_tree y.node ≡ Some d)

module _ (text : List ℕ) (x : Spanned GlobalDeclaration) (d : Decl) (p : IsParsed Declaration text (part.Global x)) (tree : declaration_tree x.node ≡ Some d) where
  -- the node is what the phrase has
  node_is : (y : Spanned GlobalDeclaration) → p.part.phrase.part ≡ part.Global y → declaration_tree y.node ≡ Some d
  node_is y is = let same : part.Global y ≡ part.Global x = sym is ∙ sym p.part.same in let node : y ≡ x = cc in ap (λ (z : Spanned GlobalDeclaration). declaration_tree z.node) node ∙ tree

  pub declaration_returned : Declared (plain n.Declaration) p.tokens p.part.phrase → DeclaredAs d
  declaration_returned (is_void g) = absurd (let wrong : None ≡ Some d = sym g.void ∙ node_is g.node g.part_is in cc)
  declaration_returned (declares e ts k b) =
      read_again Declaration refl (plain n.Declaration) goal_is_declaration part.Global (λ y d. declaration_tree y.node ≡ Some d) decl_text text x d p (λ y q. cc) (λ u q. let both : Some u ≡ Some d = sym q ∙ tree in cc)
      e (v.declaration e ts) (λ q. declaration_of q e ts) b (λ s. declarations_are_laid_out e ts k s)

-- ---- modules

pub goal_is_module : goal_of Module ≡ plain n.Module
goal_is_module = goal_is 0

module_in : (p : Part) (t : UnitTree) (ts : List TemplateToken) → Stands p (v.module_tree t ts) → (y : TranslationUnit) × (p ≡ part.Module y) × (unit_tree y ≡ t)
module_in p t ts (a_module y is q) = (y, is, q)

blank : IsBlank (unit_text (unit [] [] []))
blank = record { characters = []; are_scalars = refl; spell = refl; lexes = (start, nothing) }

abbrev pub ReadAs : UnitTree → Type 0
ReadAs t = (y : TranslationUnit) × ParsesModule (unit_text t) (Ok y) × (unit_tree y ≡ t)

empty_read : ReadAs (unit [] [] [])
empty_read = (empty_unit, inr (blank, refl), refl)

module _ (text : List ℕ) (x : TranslationUnit) (p : IsParsed Module text (part.Module x)) where
  pub unit_is : (t : UnitTree) (ts : List TemplateToken) → Stands p.part.phrase.part (v.module_tree t ts) → t ≡ unit_tree x
  unit_is t ts h =
      let y = module_in p.part.phrase.part t ts h in
      let same : part.Module y.0 ≡ part.Module x = sym y.1 ∙ sym p.part.same in
      let node : y.0 ≡ x = cc in sym y.2 ∙ ap unit_tree node

  module_returned : ModuleRead (plain n.Module) p.tokens p.part.phrase → ReadAs (unit_tree x)
  module_returned (of_nothing h again) = subst ReadAs (unit_is (unit [] [] []) [] h) empty_read
  module_returned (of_some t ts k b) =
      let r = returned_line Module refl (plain n.Module) goal_is_module text (part.Module x) p (unit_text t) (v.module_tree t ts) b (λ s. modules_are_laid_out t ts k s) in
      let y = module_in r.made t ts r.stands in
      let read : ReadAs t = (y.0, inl (subst (IsParsed Module (unit_text t)) y.1 r.parsed), y.2) in
      subst ReadAs (unit_is t ts b.stands) read

pub module_parsed : (text : List ℕ) (x : TranslationUnit) → ((p : IsParsed Module text (part.Module x)) → ModuleRead (plain n.Module) p.tokens p.part.phrase) → ParsesModule text (Ok x) → ReadAs (unit_tree x)
module_parsed text x derived (inl p) = module_returned text x p (derived p)
module_parsed text x derived (inr empty) = let same : unit [] [] [] ≡ unit_tree x = ap unit_tree (sym empty.1) in subst ReadAs same empty_read

-- ---- modules of the same tokens

no_tokens : (tokens : List SpannedTemplateToken) → without_places tokens ≡ [] → tokens ≡ []
no_tokens [] e = refl
no_tokens (k ∷ tokens) e = absurd cc

abbrev pub ModuleAs : List ℕ → UnitTree → Type 0
ModuleAs other t = (y : TranslationUnit) × ParsesModule other (Ok y) × (unit_tree y ≡ t)

module _ (text other : List ℕ) (again : List SpannedTemplateToken) (x : TranslationUnit) (lexed : IsLexed other again) where
  module _ (p : IsParsed Module text (part.Module x)) (same : without_places again ≡ without_places p.tokens) where
    module_in_other : (t : UnitTree) (ts : List TemplateToken) → Stands p.part.phrase.part (v.module_tree t ts) → Again (phrase (plain n.Module)) (v.module_tree t ts) again → ModuleAs other (unit_tree x)
    module_in_other t ts stands found =
        let r = found_again Module refl (plain n.Module) goal_is_module text (part.Module x) p other (v.module_tree t ts) again lexed found in
        let y = module_in r.made t ts r.stands in
        let read : ModuleAs other t = (y.0, inl (subst (IsParsed Module other) y.1 r.parsed), y.2) in
        subst (ModuleAs other) (unit_is text x p t ts stands) read

    module_likewise : ModuleRead (plain n.Module) p.tokens p.part.phrase → ModuleAs other (unit_tree x)
    module_likewise (of_nothing h likewise) = module_in_other (unit [] [] []) [] h (likewise again same)
    module_likewise (of_some t ts k b) = module_in_other t ts b.stands (b.likewise again same)

  -- of tokens that are those of the text
  module_of_same : (tokens : List SpannedTemplateToken) → IsLexed text tokens → without_places again ≡ without_places tokens → ParsesModule text (Ok x) → ModuleAs other (unit_tree x)
  module_of_same tokens at same (inl p) =
      let is : without_places again ≡ without_places p.tokens = same ∙ ap without_places (lexed_once text tokens p.tokens at p.lexed) in
      module_likewise p is (parsed_good Module refl (plain n.Module) goal_is_module text (part.Module x) p)
  module_of_same tokens at same (inr empty) =
      let none : again ≡ [] = no_tokens again (same ∙ ap without_places (lexed_once text tokens [] at empty.0)) in
      (empty_unit, inr (subst (IsLexed other) none lexed, refl), ap unit_tree (sym empty.1))

-- ---- statements

pub goal_is_statement : goal_of Statement ≡ plain n.Statement
goal_is_statement = goal_is 2

pub statement_of : (p : Part) (s : Stm) (ts : List TemplateToken) → Stands p (v.statement s ts) → (y : Spanned Code) × (p ≡ part.Statement y) × (statement_tree y.node ≡ Some s)
statement_of p s ts (a_statement y is q) = (y, is, q)

abbrev StatedAs : Stm → ℕ → Type 0
StatedAs s level = (y : Spanned Code) × IsParsed Statement (stm_text level s) (part.Statement y) × (statement_tree y.node ≡ Some s)

module _ (text : List ℕ) (x : Spanned Code) (s : Stm) (p : IsParsed Statement text (part.Statement x)) (tree : statement_tree x.node ≡ Some s) (level : ℕ) where
  code_is : (y : Spanned Code) → p.part.phrase.part ≡ part.Statement y → statement_tree y.node ≡ Some s
  code_is y is = let same : part.Statement y ≡ part.Statement x = sym is ∙ sym p.part.same in let node : y ≡ x = cc in ap (λ (z : Spanned Code). statement_tree z.node) node ∙ tree

  statement_returned : StatementRead (plain n.Statement) p.tokens p.part.phrase → StatedAs s level
  statement_returned (a_void y is none pass tokens again) = absurd (let wrong : None ≡ Some s = sym none ∙ code_is y is in cc)
  statement_returned (a_stated {s = e} {ts = ts} k b) =
      read_again Statement refl (plain n.Statement) goal_is_statement part.Statement (λ y u. statement_tree y.node ≡ Some u) (stm_text level) text x s p (λ y q. cc) (λ u q. let both : Some u ≡ Some s = sym q ∙ tree in cc)
      e (v.statement e ts) (λ q. statement_of q e ts) b (λ h. statements_are_laid_out e ts k h level)

-- ---- the laws

pub statements_are_read_back : StatementsAreReadBack
statements_are_read_back text x s p tree level = statement_returned text x s p tree level (parsed_good Statement refl (plain n.Statement) goal_is_statement text (part.Statement x) p)

pub declarations_are_read_back : DeclarationsAreReadBack
declarations_are_read_back text x d p tree = declaration_returned text x d p tree (parsed_good Declaration refl (plain n.Declaration) goal_is_declaration text (part.Global x) p)

pub modules_are_read_back : ModulesAreReadBack
modules_are_read_back text x h = module_parsed text x (λ p. parsed_good Module refl (plain n.Module) goal_is_module text (part.Module x) p) h

pub same_tokens_are_the_same_module : SameTokensAreTheSameModule
same_tokens_are_the_same_module text other tokens again x at lexed same h = module_of_same text other again x lexed tokens at same h
