-- What phrases of each nonterminal are, and what each production of expressions, directives, kinds of declarations, attributes and imports makes of what stands in its row.
use Rattle.std.proofs.Common.{◌≡◌, refl, None, ℕ, Bool, ◌==◌, true, false, if◌then◌else◌, List, [], ◌∷◌, ◌++◌}
use Rattle.wgsl_words.specs.declared.operators.BinaryOperator.{BinaryOperator}
use Rattle.wgsl_words.specs.declared.operators.UnaryOperator.{UnaryOperator}
use Rattle.wgsl_token.specs.declared.token.Fixed.TheVariants as f
use Rattle.wgsl_templates.specs.declared.meaning.token.SpannedTemplateToken.{SpannedTemplateToken}
use Rattle.wgsl_expressions.specs.declared.expression.LiteralExpression.TheVariants as lit
use Rattle.wgsl_print_laws.specs.Tokens.{mark, unary_sign, binary_sign}
use Rattle.wgsl_grammar_tables.specs.Grammars.{Symbol, token, phrase}
use Rattle.wgsl_semantic_values.specs.declared.part.Part.{Part}
use Rattle.wgsl_semantic_values.specs.declared.label.Label.{Label}
use Rattle.wgsl_semantic_values.specs.declared.label.Label.TheVariants as l
use Rattle.wgsl_semantic_values.specs.declared.label.NameLabel.TheVariants as name
use Rattle.wgsl_semantic_values.specs.declared.label.ExpressionLabel.TheVariants as label
use Rattle.wgsl_parser.specs.Phrase.{Phrase}
use Rattle.wgsl_grammar_tables.specs.Classes.{fixed_class}
use Rattle.wgsl_grammar_tables.specs.Nonterminals as n
use Rattle.wgsl_grammar_tables.specs.Expansion.{Made, plain, in_a_row, in_a_list, with_commas}
use Rattle.wgsl_read_back.proofs.Items.{OneToken}
use Rattle.wgsl_read_back.proofs.Rows.{make_of, Rebuild}
use Rattle.wgsl_read_back.proofs.Places.{mark_of}
use Rattle.wgsl_read_back.proofs.Families.{Expressed, Single, Typed, pass_expressed, pass_single, pass_typed, binary_expressed, unary_expressed}
use Rattle.wgsl_read_back.proofs.Operands.{Named, Upped, Called, Separated, Listed, name_alone, name_above, name_in_package, name_within, one_up, further_up, simple_typed, template_typed, call_without, call_with}
use Rattle.wgsl_read_back.proofs.Directives.{Ruled, Extended, Enumerated, NamesListed, Controlled, Directed, rule_alone, rule_of_two, extension, first_enumerated, more_enumerated, names_without, names_with, bare_row, bare_pattern, comma_row, comma_pattern, setting_without, setting_with, names_row, attributes_names_row, control_row, attributes_control_row, control_bare, control_attributed, enabled_bare, enabled_attributed, required_bare, required_attributed}
use Rattle.wgsl_semantic_values.specs.declared.label.DirectiveLabel.TheVariants as dir
use Rattle.wgsl_simple_statements.specs.declared.declaration.DeclarationKind.TheVariants as kinds
use Rattle.wgsl_semantic_values.specs.declared.label.AttributeLabel.TheVariants as attr
use Rattle.wgsl_read_back.proofs.DeclarationKinds.{Kinded, var_alone, template_row, template_pattern, var_in, pass_kinded, kind_alone}
use Rattle.wgsl_token.specs.declared.token.Fixed.{Fixed}
use Rattle.wgsl_templates.specs.Kinds.{kind}
use Rattle.wgsl_print_laws.specs.OptionalMarks.{Before, groups, is_any_word}
use Rattle.wgsl_read_back.proofs.AttributeRows.{Worded, word_alone, reserved_alone, keyword_alone, Argued, empty_row, arguments_row, no_arguments, some_arguments_read, Attributed, bare_attribute_row, attribute_row, bare_attribute, full_attribute, AttributesRowed, pass_attribute, first_attribute, more_attributes}
use Rattle.wgsl_semantic_values.specs.declared.label.ImportLabel.TheVariants as imp
use Rattle.wgsl_read_back.proofs.Imports.{Sourced, Stepped, Contained, Treed, TreesSeparated, TreesListed, Imported, step_row, own_row, further_row, renamed_row, collection_row, plain_row, from_row, attributes_plain_row, attributes_from_row, from_package, from_own, from_above, from_within, first_step, next_step, item_read, renamed_read, collection_read, tree_alone, tree_further, first_tree, more_trees, trees_without, trees_with, import_plain, import_from, import_attributed, import_attributed_from}
use Rattle.wgsl_read_back.proofs.Values.{NameTyped, ValueDeclared, Asserted}
use Rattle.wgsl_read_back.proofs.Plain.{Placed, Phony, PlainStated, Headed}
use Rattle.wgsl_read_back.proofs.Blocks.{StatementRead, StatementsRead, ElseIfRead, ElseIfsRead, Otherwise, Blocked, Selected, SelectorsSeparated, SelectorsListed, Claused, ClausesRead, Continued, BrokenIf}
use Rattle.wgsl_read_back.proofs.Members.{Membered, MembersSeparated, MembersListed}
use Rattle.wgsl_read_back.proofs.Parameters.{Parametered, ParametersSeparated, ParametersListed, Resulted}
use Rattle.wgsl_read_back.proofs.Declarations.{Declared}
use Rattle.wgsl_read_back.proofs.ModuleRows.{DeclarationsRowed, ImportsRowed, DirectivesRowed}
use Rattle.wgsl_read_back.proofs.Modules.{ModuleRead}
use Rattle.wgsl_read_back.proofs.Primaries.{literal_single, number_single, named_single, called_single, parenthesized_single, component_single, indexed_single, first_separated, more_separated, listed_without, listed_with}

-- ---- what phrases of each nonterminal are

pub data Sort : Type 0 where
  -- sentences, of which nothing is said
  unknown : Sort
  names : Sort
  upses : Sort
  types : Sort
  calls : Sort
  singles : Sort
  expressed : Sort
  separated : Sort
  lists : Sort
  rules : Sort
  settings : Sort
  directives : Sort
  extensions : Sort
  enumerated : Sort
  names_lists : Sort
  declaration_kinds : Sort
  words : Sort
  arguments : Sort
  attributes : Sort
  attribute_rows : Sort
  sources : Sort
  paths : Sort
  contents : Sort
  trees : Sort
  separated_trees : Sort
  tree_lists : Sort
  imports : Sort
  names_typed : Sort
  values : Sort
  assertions : Sort
  places : Sort
  phonies : Sort
  plains : Sort
  headers : Sort
  statements : Sort
  statement_rows : Sort
  else_ifs : Sort
  else_if_rows : Sort
  otherwises : Sort
  blocks : Sort
  selectors : Sort
  separated_selectors : Sort
  selector_lists : Sort
  clauses : Sort
  clause_rows : Sort
  endings : Sort
  break_ifs : Sort
  members : Sort
  separated_members : Sort
  member_lists : Sort
  parameters : Sort
  separated_parameters : Sort
  parameter_lists : Sort
  results : Sort
  declarations : Sort
  declaration_rows : Sort
  import_rows : Sort
  directive_rows : Sort
  modules : Sort

abbrev pub sort_in : List (ℕ × Sort) → ℕ → Sort
sort_in [] k = unknown
sort_in (e ∷ es) k = if k == e.0 then e.1 else sort_in es k

abbrev pub sort_of : ℕ → Sort
sort_of = sort_in ((plain n.Name, names) ∷ (plain n.Ups, upses) ∷ (plain n.Simple, types) ∷ (plain n.Templated, types) ∷ (plain n.TypeExpression, types) ∷ (plain n.Callee, types) ∷ (plain n.Call, calls) ∷ (plain n.Primary, singles) ∷ (plain n.Singular, singles) ∷ (plain n.Unary, expressed) ∷ (plain n.Product, expressed) ∷ (plain n.Sum, expressed) ∷ (plain n.Shift, expressed) ∷ (plain n.Relational, expressed) ∷ (plain n.Ands, expressed) ∷ (plain n.Xors, expressed) ∷ (plain n.Ors, expressed) ∷ (plain n.AllOf, expressed) ∷ (plain n.AnyOf, expressed) ∷ (plain n.Item, expressed) ∷ (plain n.Expression, expressed) ∷ (in_a_list n.Item, lists) ∷ (with_commas n.Item, separated) ∷ (in_a_list n.Expression, lists) ∷ (with_commas n.Expression, separated) ∷ (plain n.Rule, rules) ∷ (plain n.Control, settings) ∷ (plain n.Directive, directives) ∷ (plain n.Extension, extensions) ∷ (in_a_list n.Extension, names_lists) ∷ (with_commas n.Extension, enumerated) ∷ (plain n.VarHead, declaration_kinds) ∷ (plain n.Kind, declaration_kinds) ∷ (plain n.Word, words) ∷ (plain n.Arguments, arguments) ∷ (plain n.Attribute, attributes) ∷ (in_a_row n.Attribute, attribute_rows) ∷ (plain n.ClosedAttribute, attributes) ∷ (plain n.ClosedAttributes, attribute_rows) ∷ (plain n.Source, sources) ∷ (plain n.Path, paths) ∷ (plain n.Content, contents) ∷ (plain n.Tree, trees) ∷ (with_commas n.Tree, separated_trees) ∷ (in_a_list n.Tree, tree_lists) ∷ (plain n.Import, imports) ∷ (plain n.Typed, names_typed) ∷ (plain n.Var, values) ∷ (plain n.Const, values) ∷ (plain n.Let, values) ∷ (plain n.Override, values) ∷ (plain n.Local, values) ∷ (plain n.Assertion, assertions) ∷ (plain n.OpenPlace, places) ∷ (plain n.Target, places) ∷ (plain n.EnclosedPlace, places) ∷ (plain n.Place, places) ∷ (plain n.Phony, phonies) ∷ (plain n.Update, plains) ∷ (plain n.EnclosedUpdate, plains) ∷ (plain n.Plain, plains) ∷ (plain n.First, plains) ∷ (plain n.Initializer, headers) ∷ (plain n.Next, headers) ∷ (plain n.Statement, statements) ∷ (in_a_row n.Statement, statement_rows) ∷ (plain n.ElseIf, else_ifs) ∷ (in_a_row n.ElseIf, else_if_rows) ∷ (plain n.Else, otherwises) ∷ (plain n.Block, blocks) ∷ (plain n.Selector, selectors) ∷ (with_commas n.Selector, separated_selectors) ∷ (in_a_list n.Selector, selector_lists) ∷ (plain n.Clause, clauses) ∷ (in_a_row n.Clause, clause_rows) ∷ (plain n.Continuing, endings) ∷ (plain n.BreakIf, break_ifs) ∷ (plain n.Member, members) ∷ (with_commas n.Member, separated_members) ∷ (in_a_list n.Member, member_lists) ∷ (plain n.Parameter, parameters) ∷ (with_commas n.Parameter, separated_parameters) ∷ (in_a_list n.Parameter, parameter_lists) ∷ (plain n.Result, results) ∷ (plain n.Declaration, declarations) ∷ (in_a_row n.Declaration, declaration_rows) ∷ (in_a_row n.Import, import_rows) ∷ (in_a_row n.Directive, directive_rows) ∷ (plain n.Module, modules) ∷ [])

abbrev pub GoodAs : Sort → ℕ → List SpannedTemplateToken → Phrase Part → Type 0
GoodAs unknown k u x = Unit {0}
GoodAs names k u x = Named k u x
GoodAs upses k u x = Upped k u x
GoodAs types k u x = Typed k u x
GoodAs calls k u x = Called k u x
GoodAs singles k u x = Single k u x
GoodAs expressed k u x = Expressed k u x
GoodAs separated k u x = Separated k u x
GoodAs lists k u x = Listed k u x
GoodAs rules k u x = Ruled k u x
GoodAs settings k u x = Controlled k u x
GoodAs directives k u x = Directed k u x
GoodAs extensions k u x = Extended k u x
GoodAs enumerated k u x = Enumerated k u x
GoodAs names_lists k u x = NamesListed k u x
GoodAs declaration_kinds k u x = Kinded k u x
GoodAs words k u x = Worded k u x
GoodAs arguments k u x = Argued k u x
GoodAs attributes k u x = Attributed k u x
GoodAs attribute_rows k u x = AttributesRowed k u x
GoodAs sources k u x = Sourced k u x
GoodAs paths k u x = Stepped k u x
GoodAs contents k u x = Contained k u x
GoodAs trees k u x = Treed k u x
GoodAs separated_trees k u x = TreesSeparated k u x
GoodAs tree_lists k u x = TreesListed k u x
GoodAs imports k u x = Imported k u x
GoodAs names_typed k u x = NameTyped k u x
GoodAs values k u x = ValueDeclared k u x
GoodAs assertions k u x = Asserted k u x
GoodAs places k u x = Placed k u x
GoodAs phonies k u x = Phony k u x
GoodAs plains k u x = PlainStated k u x
GoodAs headers k u x = Headed k u x
GoodAs statements k u x = StatementRead k u x
GoodAs statement_rows k u x = StatementsRead k u x
GoodAs else_ifs k u x = ElseIfRead k u x
GoodAs else_if_rows k u x = ElseIfsRead k u x
GoodAs otherwises k u x = Otherwise k u x
GoodAs blocks k u x = Blocked k u x
GoodAs selectors k u x = Selected k u x
GoodAs separated_selectors k u x = SelectorsSeparated k u x
GoodAs selector_lists k u x = SelectorsListed k u x
GoodAs clauses k u x = Claused k u x
GoodAs clause_rows k u x = ClausesRead k u x
GoodAs endings k u x = Continued k u x
GoodAs break_ifs k u x = BrokenIf k u x
GoodAs members k u x = Membered k u x
GoodAs separated_members k u x = MembersSeparated k u x
GoodAs member_lists k u x = MembersListed k u x
GoodAs parameters k u x = Parametered k u x
GoodAs separated_parameters k u x = ParametersSeparated k u x
GoodAs parameter_lists k u x = ParametersListed k u x
GoodAs results k u x = Resulted k u x
GoodAs declarations k u x = Declared k u x
GoodAs declaration_rows k u x = DeclarationsRowed k u x
GoodAs import_rows k u x = ImportsRowed k u x
GoodAs directive_rows k u x = DirectivesRowed k u x
GoodAs modules k u x = ModuleRead k u x

abbrev pub Good : Symbol → List SpannedTemplateToken → Phrase Part → Type 0
Good (token c) u x = OneToken c u x
Good (phrase k) u x = GoodAs (sort_of k) k u x

pub data GoodRow : List Symbol → List SpannedTemplateToken → List (Phrase Part) → Type 0 where
  good_end : GoodRow [] [] []
  good_next : {s : Symbol} {ss : List Symbol} (u : List SpannedTemplateToken) {w : List SpannedTemplateToken} {x : Phrase Part} {xs : List (Phrase Part)} → Good s u x → GoodRow ss w xs → GoodRow (s ∷ ss) (u ++ w) (x ∷ xs)

abbrev pub Makes : ℕ → List Symbol → Label → List ℕ → Type 0
Makes k ss label pattern = Rebuild k ss label pattern → (u : List SpannedTemplateToken) (xs : List (Phrase Part)) → GoodRow ss u xs → Good (phrase k) u (make_of label pattern xs)

-- the same where no check fails in what is made
abbrev pub MakesWhen : ℕ → List Symbol → Label → List ℕ → Type 0
MakesWhen k ss label pattern = Rebuild k ss label pattern → (u : List SpannedTemplateToken) (xs : List (Phrase Part)) → GoodRow ss u xs → (make_of label pattern xs).failure ≡ None → Good (phrase k) u (make_of label pattern xs)

abbrev pub Step : Made → Type 0
Step m = MakesWhen m.left m.right m.label m.parts

abbrev pub PlainStep : Made → Type 0
PlainStep m = Makes m.left m.right m.label m.parts

pub always : (m : Made) → PlainStep m → Step m
always m h rebuild u xs row pass = h rebuild u xs row

abbrev pub Is : (ℕ → List SpannedTemplateToken → Phrase Part → Type 0) → ℕ → Type 0
Is X k = (u : List SpannedTemplateToken) (x : Phrase Part) → X k u x → Good (phrase k) u x

abbrev pub As : (ℕ → List SpannedTemplateToken → Phrase Part → Type 0) → ℕ → Type 0
As X k = (u : List SpannedTemplateToken) (x : Phrase Part) → Good (phrase k) u x → X k u x

pub as_expressed : {k : ℕ} {u : List SpannedTemplateToken} {x : Phrase Part} → Single k u x → Expressed k u x
as_expressed h = (h.0, h.1, h.3)

-- ---- steps

pub s_binary : (o : BinaryOperator) (k m r : ℕ) → Is Expressed k → As Expressed m → As Expressed r → Makes k (phrase m ∷ token (fixed_class (binary_sign o)) ∷ phrase r ∷ []) (l.Expression (label.Binary o)) (2 ∷ 1 ∷ 2 ∷ [])
s_binary o k m r out a b rebuild _ _ (good_next _ h (good_next _ i (good_next _ g good_end))) = out _ _ (binary_expressed o k m r rebuild (a _ _ h) i (b _ _ g))

pub s_unary : (o : UnaryOperator) (k m : ℕ) → Is Expressed k → As Expressed m → Makes k (token (fixed_class (unary_sign o)) ∷ phrase m ∷ []) (l.Expression (label.Unary o)) (1 ∷ 2 ∷ [])
s_unary o k m out a rebuild _ _ (good_next _ i (good_next _ h good_end)) = out _ _ (unary_expressed o k m rebuild i (a _ _ h))

pub s_pass : (k m : ℕ) → Is Expressed k → As Expressed m → Makes k (phrase m ∷ []) l.Pass (2 ∷ [])
s_pass k m out a rebuild _ _ (good_next _ h good_end) = out _ _ (pass_expressed k m rebuild (a _ _ h))

pub s_pass_singles : (k m : ℕ) → Is Single k → As Single m → Makes k (phrase m ∷ []) l.Pass (2 ∷ [])
s_pass_singles k m out a rebuild _ _ (good_next _ h good_end) = out _ _ (pass_single k m rebuild (a _ _ h))

pub s_pass_types : (k m : ℕ) → Is Typed k → As Typed m → Makes k (phrase m ∷ []) l.Pass (2 ∷ [])
s_pass_types k m out a rebuild _ _ (good_next _ h good_end) = out _ _ (pass_typed k m rebuild (a _ _ h))

pub s_name_alone : (k : ℕ) → Is Named k → Makes k (token 77 ∷ []) (l.Name name.NameAlone) (2 ∷ [])
s_name_alone k out rebuild _ _ (good_next _ i good_end) = out _ _ (name_alone k rebuild i)

pub s_name_above : (k m : ℕ) → Is Named k → As Upped m → Makes k (phrase m ∷ token 77 ∷ []) (l.Name name.NameAbove) (2 ∷ 2 ∷ [])
s_name_above k m out a rebuild _ _ (good_next _ h (good_next _ i good_end)) = out _ _ (name_above k m rebuild (a _ _ h) i)

pub s_name_in_package : (k : ℕ) → Is Named k → Makes k (token (fixed_class f.Package) ∷ token (fixed_class f.PathSeparator) ∷ token 77 ∷ []) (l.Name name.NameInPackage) (1 ∷ 1 ∷ 2 ∷ [])
s_name_in_package k out rebuild _ _ (good_next _ h (good_next _ i (good_next _ j good_end))) = out _ _ (name_in_package k rebuild h i j)

pub s_name_within : (k m : ℕ) → Is Named k → As Named m → Makes k (phrase m ∷ token (fixed_class f.PathSeparator) ∷ token 77 ∷ []) (l.Name name.NameWithin) (2 ∷ 1 ∷ 2 ∷ [])
s_name_within k m out a rebuild _ _ (good_next _ h (good_next _ i (good_next _ j good_end))) = out _ _ (name_within k m rebuild (a _ _ h) i j)

pub s_one_up : (k : ℕ) → Is Upped k → Makes k (token (fixed_class f.Super) ∷ token (fixed_class f.PathSeparator) ∷ []) (l.Name name.OneUp) (1 ∷ 1 ∷ [])
s_one_up k out rebuild _ _ (good_next _ i (good_next _ j good_end)) = out _ _ (one_up k rebuild i j)

pub s_further_up : (k m : ℕ) → Is Upped k → As Upped m → Makes k (phrase m ∷ token (fixed_class f.Super) ∷ token (fixed_class f.PathSeparator) ∷ []) (l.Name name.FurtherUp) (2 ∷ 1 ∷ 1 ∷ [])
s_further_up k m out a rebuild _ _ (good_next _ h (good_next _ i (good_next _ j good_end))) = out _ _ (further_up k m rebuild (a _ _ h) i j)

pub s_simple : (k m : ℕ) → Is Typed k → As Named m → Makes k (phrase m ∷ []) (l.Name name.Simple) (2 ∷ [])
s_simple k m out a rebuild _ _ (good_next _ h good_end) = out _ _ (simple_typed k m rebuild (a _ _ h))

pub s_templated : (k m r : ℕ) → Is Typed k → As Named m → As Listed r → Makes k (phrase m ∷ token 80 ∷ phrase r ∷ token 81 ∷ []) (l.Name name.Templated) (2 ∷ 1 ∷ 2 ∷ 1 ∷ [])
s_templated k m r out a b rebuild _ _ (good_next _ h (good_next _ i (good_next _ g (good_next _ j good_end)))) = out _ _ (template_typed k m r rebuild (a _ _ h) i (b _ _ g) j)

pub s_call_without : (k m : ℕ) → Is Called k → As Typed m → Makes k (phrase m ∷ token (fixed_class f.ParenLeft) ∷ token (fixed_class f.ParenRight) ∷ []) (l.Name name.Call) (2 ∷ 1 ∷ 0 ∷ 1 ∷ [])
s_call_without k m out a rebuild _ _ (good_next _ h (good_next _ i (good_next _ j good_end))) = out _ _ (call_without k m rebuild (a _ _ h) i j)

pub s_call_with : (k m r : ℕ) → Is Called k → As Typed m → As Listed r → Makes k (phrase m ∷ token (fixed_class f.ParenLeft) ∷ phrase r ∷ token (fixed_class f.ParenRight) ∷ []) (l.Name name.Call) (2 ∷ 1 ∷ 2 ∷ 1 ∷ [])
s_call_with k m r out a b rebuild _ _ (good_next _ h (good_next _ i (good_next _ g (good_next _ j good_end)))) = out _ _ (call_with k m r rebuild (a _ _ h) i (b _ _ g) j)

pub s_number : (k : ℕ) → Is Single k → Makes k (token 78 ∷ []) (l.Expression label.ALiteral) (2 ∷ [])
s_number k out rebuild _ _ (good_next _ i good_end) = out _ _ (number_single k rebuild i)

pub s_true : (k : ℕ) → Is Single k → Makes k (token (fixed_class f.True) ∷ []) (l.Expression label.ALiteral) (2 ∷ [])
s_true k out rebuild _ _ (good_next _ i good_end) = out _ _ (literal_single k (fixed_class f.True) rebuild (lit.Bool true) i (mark_of i.one.token f.True i.class))

pub s_false : (k : ℕ) → Is Single k → Makes k (token (fixed_class f.False) ∷ []) (l.Expression label.ALiteral) (2 ∷ [])
s_false k out rebuild _ _ (good_next _ i good_end) = out _ _ (literal_single k (fixed_class f.False) rebuild (lit.Bool false) i (mark_of i.one.token f.False i.class))

pub s_named : (k m : ℕ) → Is Single k → As Typed m → Makes k (phrase m ∷ []) (l.Expression label.Named) (2 ∷ [])
s_named k m out a rebuild _ _ (good_next _ h good_end) = out _ _ (named_single k m rebuild (a _ _ h))

pub s_called : (k m : ℕ) → Is Single k → As Called m → Makes k (phrase m ∷ []) (l.Expression label.Called) (2 ∷ [])
s_called k m out a rebuild _ _ (good_next _ h good_end) = out _ _ (called_single k m rebuild (a _ _ h))

pub s_parenthesized : (k m : ℕ) → Is Single k → As Expressed m → Makes k (token (fixed_class f.ParenLeft) ∷ phrase m ∷ token (fixed_class f.ParenRight) ∷ []) (l.Expression label.Parenthesized) (1 ∷ 2 ∷ 1 ∷ [])
s_parenthesized k m out a rebuild _ _ (good_next _ i (good_next _ h (good_next _ j good_end))) = out _ _ (parenthesized_single k m rebuild i (a _ _ h) j)

pub s_component : (k m : ℕ) → Is Single k → As Single m → Makes k (phrase m ∷ token (fixed_class f.Period) ∷ token 77 ∷ []) (l.Expression label.Component) (2 ∷ 1 ∷ 2 ∷ [])
s_component k m out a rebuild _ _ (good_next _ h (good_next _ i (good_next _ j good_end))) = out _ _ (component_single k m rebuild (a _ _ h) i j)

pub s_indexed : (k m r : ℕ) → Is Single k → As Single m → As Expressed r → Makes k (phrase m ∷ token (fixed_class f.BracketLeft) ∷ phrase r ∷ token (fixed_class f.BracketRight) ∷ []) (l.Expression label.Indexed) (2 ∷ 1 ∷ 2 ∷ 1 ∷ [])
s_indexed k m r out a b rebuild _ _ (good_next _ h (good_next _ i (good_next _ g (good_next _ j good_end)))) = out _ _ (indexed_single k m r rebuild (a _ _ h) i (b _ _ g) j)

pub s_first : (k m : ℕ) → Is Separated k → As Expressed m → Makes k (phrase m ∷ []) l.First (2 ∷ [])
s_first k m out a rebuild _ _ (good_next _ h good_end) = out _ _ (first_separated k m rebuild (a _ _ h))

pub s_more : (k m : ℕ) → Is Separated k → As Separated k → As Expressed m → Makes k (phrase k ∷ token (fixed_class f.Comma) ∷ phrase m ∷ []) l.More (2 ∷ 1 ∷ 2 ∷ [])
s_more k m out a b rebuild _ _ (good_next _ h (good_next _ i (good_next _ g good_end))) = out _ _ (more_separated k m rebuild (a _ _ h) i (b _ _ g))

pub s_listed_without : (k m : ℕ) → Is Listed k → As Separated m → Makes k (phrase m ∷ []) l.Pass (2 ∷ [])
s_listed_without k m out a rebuild _ _ (good_next _ h good_end) = out _ _ (listed_without k m rebuild (a _ _ h))

-- (the phrase is derived again without the comma)
pub s_listed_with : (k m : ℕ) → Is Listed k → As Separated m → Rebuild k (phrase m ∷ []) l.Pass (2 ∷ []) → Makes k (phrase m ∷ token (fixed_class f.Comma) ∷ []) l.Pass (2 ∷ 1 ∷ [])
s_listed_with k m out a bare rebuild _ _ (good_next _ h (good_next _ i good_end)) = out _ _ (listed_with k m rebuild bare (a _ _ h) i)

-- directives

pub s_rule : (k : ℕ) → Is Ruled k → Makes k (token 77 ∷ []) (l.Directive dir.Rule) (2 ∷ [])
s_rule k out rebuild _ _ (good_next _ i good_end) = out _ _ (rule_alone k rebuild i)

pub s_rule_of : (k : ℕ) → Is Ruled k → Makes k (token 77 ∷ token (fixed_class f.Period) ∷ token 77 ∷ []) (l.Directive dir.RuleOf) (2 ∷ 1 ∷ 2 ∷ [])
s_rule_of k out rebuild _ _ (good_next _ h (good_next _ i (good_next _ j good_end))) = out _ _ (rule_of_two k rebuild h i j)

pub s_extension : (k : ℕ) → Is Extended k → Makes k (token 77 ∷ []) (l.Directive dir.Extension) (2 ∷ [])
s_extension k out rebuild _ _ (good_next _ i good_end) = out _ _ (extension k rebuild i)

pub s_setting : (k m : ℕ) → Is Controlled k → As Ruled m → MakesWhen k (bare_row m) (l.Directive dir.Diagnostic) bare_pattern
s_setting k m out a rebuild _ _ (good_next _ h (good_next _ i (good_next _ j (good_next _ g (good_next _ r (good_next _ e good_end)))))) pass = out _ _ (setting_without k m rebuild h i j g (a _ _ r) e pass)

-- (the phrase is derived again without the comma)
pub s_setting_with : (k m : ℕ) → Is Controlled k → As Ruled m → Rebuild k (bare_row m) (l.Directive dir.Diagnostic) bare_pattern → MakesWhen k (comma_row m) (l.Directive dir.Diagnostic) comma_pattern
s_setting_with k m out a bare rebuild _ _ (good_next _ h (good_next _ i (good_next _ j (good_next _ g (good_next _ r (good_next _ c (good_next _ e good_end))))))) pass = out _ _ (setting_with k m rebuild bare h i j g (a _ _ r) c e pass)

pub s_control_bare : (k m : ℕ) → Is Directed k → As Controlled m → Makes k (control_row m) (l.Directive dir.Control) (0 ∷ 2 ∷ 1 ∷ [])
s_control_bare k m out a rebuild _ _ (good_next _ h (good_next _ i good_end)) = out _ _ (control_bare k m rebuild (a _ _ h) i)

pub s_control_attributed : (k r m : ℕ) → Is Directed k → As AttributesRowed r → As Controlled m → Makes k (attributes_control_row r m) (l.Directive dir.Control) (2 ∷ 2 ∷ 1 ∷ [])
s_control_attributed k r m out b a rebuild _ _ (good_next _ t (good_next _ h (good_next _ i good_end))) = out _ _ (control_attributed k r m rebuild (b _ _ t) (a _ _ h) i)

pub s_enable_bare : (k m : ℕ) → Is Directed k → As NamesListed m → Makes k (names_row f.Enable m) (l.Directive dir.Enable) (0 ∷ 1 ∷ 2 ∷ 1 ∷ [])
s_enable_bare k m out a rebuild _ _ (good_next _ i (good_next _ h (good_next _ j good_end))) = out _ _ (enabled_bare k m rebuild i (a _ _ h) j)

pub s_enable_attributed : (k r m : ℕ) → Is Directed k → As AttributesRowed r → As NamesListed m → Makes k (attributes_names_row f.Enable r m) (l.Directive dir.Enable) (2 ∷ 1 ∷ 2 ∷ 1 ∷ [])
s_enable_attributed k r m out b a rebuild _ _ (good_next _ t (good_next _ i (good_next _ h (good_next _ j good_end)))) = out _ _ (enabled_attributed k r m rebuild (b _ _ t) i (a _ _ h) j)

pub s_requires_bare : (k m : ℕ) → Is Directed k → As NamesListed m → Makes k (names_row f.Requires m) (l.Directive dir.Requires) (0 ∷ 1 ∷ 2 ∷ 1 ∷ [])
s_requires_bare k m out a rebuild _ _ (good_next _ i (good_next _ h (good_next _ j good_end))) = out _ _ (required_bare k m rebuild i (a _ _ h) j)

pub s_requires_attributed : (k r m : ℕ) → Is Directed k → As AttributesRowed r → As NamesListed m → Makes k (attributes_names_row f.Requires r m) (l.Directive dir.Requires) (2 ∷ 1 ∷ 2 ∷ 1 ∷ [])
s_requires_attributed k r m out b a rebuild _ _ (good_next _ t (good_next _ i (good_next _ h (good_next _ j good_end)))) = out _ _ (required_attributed k r m rebuild (b _ _ t) i (a _ _ h) j)

pub s_first_name : (k m : ℕ) → Is Enumerated k → As Extended m → Makes k (phrase m ∷ []) l.First (2 ∷ [])
s_first_name k m out a rebuild _ _ (good_next _ h good_end) = out _ _ (first_enumerated k m rebuild (a _ _ h))

pub s_more_names : (k m : ℕ) → Is Enumerated k → As Enumerated k → As Extended m → Makes k (phrase k ∷ token (fixed_class f.Comma) ∷ phrase m ∷ []) l.More (2 ∷ 1 ∷ 2 ∷ [])
s_more_names k m out a b rebuild _ _ (good_next _ h (good_next _ i (good_next _ g good_end))) = out _ _ (more_enumerated k m rebuild (a _ _ h) i (b _ _ g))

pub s_names_without : (k m : ℕ) → Is NamesListed k → As Enumerated m → Makes k (phrase m ∷ []) l.Pass (2 ∷ [])
s_names_without k m out a rebuild _ _ (good_next _ h good_end) = out _ _ (names_without k m rebuild (a _ _ h))

pub s_names_with : (k m : ℕ) → Is NamesListed k → As Enumerated m → Rebuild k (phrase m ∷ []) l.Pass (2 ∷ []) → Makes k (phrase m ∷ token (fixed_class f.Comma) ∷ []) l.Pass (2 ∷ 1 ∷ [])
s_names_with k m out a bare rebuild _ _ (good_next _ h (good_next _ i good_end)) = out _ _ (names_with k m rebuild bare (a _ _ h) i)

-- what declarations of values begin with

pub s_var : (k : ℕ) → Is Kinded k → Makes k (token (fixed_class f.Var) ∷ []) (l.Attribute attr.VarKind) (1 ∷ [])
s_var k out rebuild _ _ (good_next _ i good_end) = out _ _ (var_alone k rebuild i)

pub s_var_in : (k m : ℕ) → Is Kinded k → As Listed m → MakesWhen k (template_row m) (l.Attribute attr.VarIn) template_pattern
s_var_in k m out a rebuild _ _ (good_next _ h (good_next _ i (good_next _ g (good_next _ j good_end)))) pass = out _ _ (var_in k m rebuild h i (a _ _ g) j pass)

pub s_const_kind : (k : ℕ) → Is Kinded k → Makes k (token (fixed_class f.Const) ∷ []) l.Pass (2 ∷ [])
s_const_kind k out rebuild _ _ (good_next _ i good_end) = out _ _ (kind_alone f.Const kinds.Const refl refl (λ b o. refl) k rebuild refl i)

pub s_override_kind : (k : ℕ) → Is Kinded k → Makes k (token (fixed_class f.Override) ∷ []) l.Pass (2 ∷ [])
s_override_kind k out rebuild _ _ (good_next _ i good_end) = out _ _ (kind_alone f.Override kinds.Override refl refl (λ b o. refl) k rebuild refl i)

pub s_let_kind : (k : ℕ) → Is Kinded k → Makes k (token (fixed_class f.Let) ∷ []) l.Pass (2 ∷ [])
s_let_kind k out rebuild _ _ (good_next _ i good_end) = out _ _ (kind_alone f.Let kinds.Let refl refl (λ b o. refl) k rebuild refl i)

pub s_pass_kind : (k m : ℕ) → Is Kinded k → As Kinded m → Makes k (phrase m ∷ []) l.Pass (2 ∷ [])
s_pass_kind k m out a rebuild _ _ (good_next _ h good_end) = out _ _ (pass_kinded k m rebuild (a _ _ h))

-- attributes

pub s_attribute_word : (k : ℕ) → Is Worded k → Makes k (token 77 ∷ []) (l.Attribute attr.Word) (2 ∷ [])
s_attribute_word k out rebuild _ _ (good_next _ i good_end) = out _ _ (word_alone k rebuild i)

pub s_reserved_word : (k : ℕ) → Is Worded k → Makes k (token 79 ∷ []) (l.Attribute attr.ReservedWord) (2 ∷ [])
s_reserved_word k out rebuild _ _ (good_next _ i good_end) = out _ _ (reserved_alone k rebuild i)

pub s_keyword : (g : Fixed) → is_any_word (mark g) ≡ true → ((b : Before) (o : List Bool) → groups b o (kind (mark g)) ≡ o) → (k : ℕ) → Is Worded k → Makes k (token (fixed_class g) ∷ []) (l.Attribute (attr.Keyword g)) (1 ∷ [])
s_keyword g any level k out rebuild _ _ (good_next _ i good_end) = out _ _ (keyword_alone g any level k rebuild i)

pub s_no_arguments : (k : ℕ) → Is Argued k → Makes k empty_row (l.Attribute attr.Arguments) (1 ∷ 0 ∷ 1 ∷ [])
s_no_arguments k out rebuild _ _ (good_next _ i (good_next _ j good_end)) = out _ _ (no_arguments k rebuild i j)

pub s_arguments : (k m : ℕ) → Is Argued k → As Listed m → Makes k (arguments_row m) (l.Attribute attr.Arguments) (1 ∷ 2 ∷ 1 ∷ [])
s_arguments k m out a rebuild _ _ (good_next _ i (good_next _ g (good_next _ j good_end))) = out _ _ (some_arguments_read k m rebuild i (a _ _ g) j)

pub s_bare_attribute : (k m : ℕ) → Is Attributed k → As Worded m → MakesWhen k (bare_attribute_row m) (l.Attribute attr.Attribute) (1 ∷ 2 ∷ 0 ∷ [])
s_bare_attribute k m out a rebuild _ _ (good_next _ i (good_next _ g good_end)) pass = out _ _ (bare_attribute k m rebuild i (a _ _ g) pass)

pub s_attribute : (k m r : ℕ) → Is Attributed k → As Worded m → As Argued r → MakesWhen k (attribute_row m r) (l.Attribute attr.Attribute) (1 ∷ 2 ∷ 2 ∷ [])
s_attribute k m r out a b rebuild _ _ (good_next _ i (good_next _ g (good_next _ h good_end))) pass = out _ _ (full_attribute k m r rebuild i (a _ _ g) (b _ _ h) pass)

pub s_pass_attribute : (k m : ℕ) → Is Attributed k → As Attributed m → Makes k (phrase m ∷ []) l.Pass (2 ∷ [])
s_pass_attribute k m out a rebuild _ _ (good_next _ h good_end) = out _ _ (pass_attribute k m rebuild (a _ _ h))

pub s_first_attribute : (k m : ℕ) → Is AttributesRowed k → As Attributed m → Makes k (phrase m ∷ []) l.First (2 ∷ [])
s_first_attribute k m out a rebuild _ _ (good_next _ h good_end) = out _ _ (first_attribute k m rebuild (a _ _ h))

pub s_more_attributes : (k r m : ℕ) → Is AttributesRowed k → As AttributesRowed r → As Attributed m → Makes k (phrase r ∷ phrase m ∷ []) l.More (2 ∷ 2 ∷ [])
s_more_attributes k r m out a b rebuild _ _ (good_next _ g (good_next _ h good_end)) = out _ _ (more_attributes k r m rebuild (a _ _ g) (b _ _ h))

-- imports

pub s_from_package : (k : ℕ) → Is Sourced k → Makes k step_row (l.Import imp.FromPackage) (2 ∷ 1 ∷ [])
s_from_package k out rebuild _ _ (good_next _ i (good_next _ j good_end)) = out _ _ (from_package k rebuild i j)

pub s_from_own : (k : ℕ) → Is Sourced k → Makes k own_row (l.Import imp.FromOwn) (1 ∷ 1 ∷ [])
s_from_own k out rebuild _ _ (good_next _ i (good_next _ j good_end)) = out _ _ (from_own k rebuild i j)

pub s_from_above : (k m : ℕ) → Is Sourced k → As Upped m → Makes k (phrase m ∷ []) (l.Import imp.FromAbove) (2 ∷ [])
s_from_above k m out a rebuild _ _ (good_next _ h good_end) = out _ _ (from_above k m rebuild (a _ _ h))

pub s_from_within : (k m : ℕ) → Is Sourced k → As Sourced m → Makes k (further_row m) (l.Import imp.FromWithin) (2 ∷ 2 ∷ 1 ∷ [])
s_from_within k m out a rebuild _ _ (good_next _ h (good_next _ i (good_next _ j good_end))) = out _ _ (from_within k m rebuild (a _ _ h) i j)

pub s_first_step : (k : ℕ) → Is Stepped k → Makes k step_row (l.Import imp.FirstStep) (2 ∷ 1 ∷ [])
s_first_step k out rebuild _ _ (good_next _ i (good_next _ j good_end)) = out _ _ (first_step k rebuild i j)

pub s_next_step : (k m : ℕ) → Is Stepped k → As Stepped m → Makes k (further_row m) (l.Import imp.NextStep) (2 ∷ 2 ∷ 1 ∷ [])
s_next_step k m out a rebuild _ _ (good_next _ h (good_next _ i (good_next _ j good_end))) = out _ _ (next_step k m rebuild (a _ _ h) i j)

pub s_item : (k : ℕ) → Is Contained k → Makes k (token 77 ∷ []) (l.Import imp.Item) (2 ∷ [])
s_item k out rebuild _ _ (good_next _ i good_end) = out _ _ (item_read k rebuild i)

pub s_renamed : (k : ℕ) → Is Contained k → Makes k renamed_row (l.Import imp.Renamed) (2 ∷ 1 ∷ 2 ∷ [])
s_renamed k out rebuild _ _ (good_next _ h (good_next _ i (good_next _ j good_end))) = out _ _ (renamed_read k rebuild h i j)

pub s_collection : (k m : ℕ) → Is Contained k → As TreesListed m → Makes k (collection_row m) (l.Import imp.Collection) (1 ∷ 2 ∷ 1 ∷ [])
s_collection k m out a rebuild _ _ (good_next _ i (good_next _ h (good_next _ j good_end))) = out _ _ (collection_read k m rebuild i (a _ _ h) j)

pub s_tree_alone : (k m : ℕ) → Is Treed k → As Contained m → Makes k (phrase m ∷ []) (l.Import imp.Tree) (0 ∷ 2 ∷ [])
s_tree_alone k m out a rebuild _ _ (good_next _ h good_end) = out _ _ (tree_alone k m rebuild (a _ _ h))

pub s_tree_further : (k m r : ℕ) → Is Treed k → As Stepped m → As Contained r → Makes k (phrase m ∷ phrase r ∷ []) (l.Import imp.Tree) (2 ∷ 2 ∷ [])
s_tree_further k m r out a b rebuild _ _ (good_next _ g (good_next _ h good_end)) = out _ _ (tree_further k m r rebuild (a _ _ g) (b _ _ h))

pub s_first_tree : (k m : ℕ) → Is TreesSeparated k → As Treed m → Makes k (phrase m ∷ []) l.First (2 ∷ [])
s_first_tree k m out a rebuild _ _ (good_next _ h good_end) = out _ _ (first_tree k m rebuild (a _ _ h))

pub s_more_trees : (k m : ℕ) → Is TreesSeparated k → As TreesSeparated k → As Treed m → Makes k (phrase k ∷ token (fixed_class f.Comma) ∷ phrase m ∷ []) l.More (2 ∷ 1 ∷ 2 ∷ [])
s_more_trees k m out a b rebuild _ _ (good_next _ h (good_next _ i (good_next _ g good_end))) = out _ _ (more_trees k m rebuild (a _ _ h) i (b _ _ g))

pub s_trees_without : (k m : ℕ) → Is TreesListed k → As TreesSeparated m → Makes k (phrase m ∷ []) l.Pass (2 ∷ [])
s_trees_without k m out a rebuild _ _ (good_next _ h good_end) = out _ _ (trees_without k m rebuild (a _ _ h))

pub s_trees_with : (k m : ℕ) → Is TreesListed k → As TreesSeparated m → Rebuild k (phrase m ∷ []) l.Pass (2 ∷ []) → Makes k (phrase m ∷ token (fixed_class f.Comma) ∷ []) l.Pass (2 ∷ 1 ∷ [])
s_trees_with k m out a bare rebuild _ _ (good_next _ h (good_next _ i good_end)) = out _ _ (trees_with k m rebuild bare (a _ _ h) i)

pub s_import_plain : (k m : ℕ) → Is Imported k → As Contained m → Makes k (plain_row m) (l.Import imp.Import) (0 ∷ 1 ∷ 0 ∷ 2 ∷ 1 ∷ [])
s_import_plain k m out a rebuild _ _ (good_next _ i (good_next _ h (good_next _ j good_end))) = out _ _ (import_plain k m rebuild i (a _ _ h) j)

pub s_import_from : (k s m : ℕ) → Is Imported k → As Sourced s → As Contained m → Makes k (from_row s m) (l.Import imp.Import) (0 ∷ 1 ∷ 2 ∷ 2 ∷ 1 ∷ [])
s_import_from k s m out b a rebuild _ _ (good_next _ i (good_next _ g (good_next _ h (good_next _ j good_end)))) = out _ _ (import_from k s m rebuild i (b _ _ g) (a _ _ h) j)

pub s_import_attributed : (k r m : ℕ) → Is Imported k → As AttributesRowed r → As Contained m → Makes k (attributes_plain_row r m) (l.Import imp.Import) (2 ∷ 1 ∷ 0 ∷ 2 ∷ 1 ∷ [])
s_import_attributed k r m out c a rebuild _ _ (good_next _ t (good_next _ i (good_next _ h (good_next _ j good_end)))) = out _ _ (import_attributed k r m rebuild (c _ _ t) i (a _ _ h) j)

pub s_import_attributed_from : (k r s m : ℕ) → Is Imported k → As AttributesRowed r → As Sourced s → As Contained m → Makes k (attributes_from_row r s m) (l.Import imp.Import) (2 ∷ 1 ∷ 2 ∷ 2 ∷ 1 ∷ [])
s_import_attributed_from k r s m out c b a rebuild _ _ (good_next _ t (good_next _ i (good_next _ g (good_next _ h (good_next _ j good_end))))) = out _ _ (import_attributed_from k r s m rebuild (c _ _ t) i (b _ _ g) (a _ _ h) j)
