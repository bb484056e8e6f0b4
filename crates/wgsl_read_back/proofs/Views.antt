-- What a phrase stands for, without places, and its tokens as they are printed.
use Rattle.std.proofs.Common.{◌≡◌, ℕ, true, List, [], ◌∷◌, ◌++◌, map, codes, Option, Some, None}
use Rattle.wgsl_path.specs.declared.span.Spanned.{Spanned}
use Rattle.wgsl_path.specs.declared.path.PathOrigin.TheVariants.{Relative}
use Rattle.wgsl_path.specs.declared.path.ModulePath.{ModulePath}
use Rattle.wgsl_token.specs.declared.token.Fixed.TheVariants as f
use Rattle.wgsl_templates.specs.declared.meaning.token.TemplateToken.{TemplateToken}
use Rattle.wgsl_print_laws.specs.OptionalMarks.{Before, outside, callee, ends_operand}
use Rattle.wgsl_expressions.specs.declared.expression.Expression.{Expression}
use Rattle.wgsl_expressions.specs.declared.expression.FunctionCallOf.{FunctionCallOf}
use Rattle.wgsl_expressions.specs.declared.expression.TypeExpressionOf.{TypeExpressionOf}
use Rattle.wgsl_expressions.specs.Tree.{Exp, Exps, exps, Typ}
use Rattle.wgsl_expressions.specs.View.{node_tree, type_tree}
use Rattle.wgsl_declarations.specs.declared.imports.directive.GlobalDirective.{GlobalDirective}
use Rattle.wgsl_declarations.specs.declared.imports.import.ImportContent.{ImportContent}
use Rattle.wgsl_declarations.specs.declared.imports.import.ImportOf.{ImportOf}
use Rattle.wgsl_declarations.specs.declared.imports.import.ImportStatement.{ImportStatement}
use Rattle.wgsl_declarations.specs.ImportsTree.{Content, Imp, imps, Importing, Directive}
use Rattle.wgsl_declarations.specs.ImportsView.{content_tree, import_tree, importing_tree, directive_tree}
use Rattle.wgsl_simple_statements.specs.declared.declaration.DeclarationKind.{DeclarationKind}
use Rattle.wgsl_print_laws.specs.Directives.{names_tokens}
use Rattle.wgsl_expressions.specs.declared.attributes.attribute.Attribute.{Attribute}
use Rattle.wgsl_expressions.specs.AttributesTree.{Attr}
use Rattle.wgsl_expressions.specs.AttributesView.{attribute_tree, attributes_tree}
use Rattle.wgsl_parser.specs.Failures.{attribute_failed}
use Rattle.wgsl_print_laws.specs.Attributes.{name_exp, arguments_tokens}
use Rattle.wgsl_print_laws.specs.Imports.{steps_tokens, content_tokens, imps_tokens}
use Rattle.wgsl_print_laws.specs.DeclarationKinds.{kind_tokens}
use Rattle.wgsl_print_laws.specs.Tokens.{mark, word, origin_tokens, qualifier_tokens, exp_tokens, exps_tokens, typ_tokens}
use Rattle.std.specs.Option.{option_map}
use Rattle.wgsl_simple_statements.specs.declared.declaration.Declaration.{Declaration}
use Rattle.wgsl_simple_statements.specs.declared.declaration.ConstAssert.{ConstAssert}
use Rattle.wgsl_simple_statements.specs.declared.statement.BreakIfStatement.{BreakIfStatement}
use Rattle.wgsl_simple_statements.specs.declared.statement.CaseSelector.{CaseSelector}
use Rattle.wgsl_simple_statements.specs.Tree as s
use Rattle.wgsl_simple_statements.specs.Tree.{BreakIf, Selector}
use Rattle.wgsl_simple_statements.specs.View.{break_if_tree, selector_tree}
use Rattle.wgsl_statements.specs.declared.statement.Statement.{Statement}
use Rattle.wgsl_statements.specs.declared.statement.CompoundStatementOf.{CompoundStatementOf}
use Rattle.wgsl_statements.specs.declared.statement.ElseIfClauseOf.{ElseIfClauseOf}
use Rattle.wgsl_statements.specs.declared.statement.SwitchClauseOf.{SwitchClauseOf}
use Rattle.wgsl_statements.specs.declared.statement.ContinuingStatementOf.{ContinuingStatementOf}
use Rattle.wgsl_statements.specs.Tree.{Stm, simple, Stms, nil, Block, Clauses, Continuing, no_continuing}
use Rattle.wgsl_statements.specs.View.{statement_tree, statements_tree, block_tree, clauses_layer, continuing_layer}
use Rattle.wgsl_declarations.specs.declared.declaration.StructMember.{StructMember}
use Rattle.wgsl_declarations.specs.declared.declaration.FormalParameter.{FormalParameter}
use Rattle.wgsl_declarations.specs.declared.declaration.GlobalDeclaration.{GlobalDeclaration}
use Rattle.wgsl_declarations.specs.declared.unit.TranslationUnit.{TranslationUnit}
use Rattle.wgsl_declarations.specs.Tree.{Member, Param, Decl, UnitTree}
use Rattle.wgsl_declarations.specs.View.{member_tree, members_tree, parameter_tree, declaration_tree, declarations_tree, unit_tree}
use Rattle.wgsl_print_laws.specs.Simple.{annotation_tokens, declared_tokens, asserted_tokens, value_tokens, selector_tokens, selectors_tokens}
use Rattle.wgsl_semantic_values.specs.declared.part.TypedName.{TypedName}
use Rattle.wgsl_semantic_values.specs.declared.part.FunctionResult.{FunctionResult}
use Rattle.wgsl_semantic_values.specs.declared.part.QualifiedName.{QualifiedName}
use Rattle.wgsl_semantic_values.specs.declared.part.Part.{Part}
use Rattle.wgsl_semantic_values.specs.declared.part.Part.TheVariants as part
use Rattle.wgsl_parser.specs.Leaves.{leaf}

pub data View : Type 0 where
  token : TemplateToken → View
  ups : ℕ → View
  path : Option ModulePath → List ℕ → View
  type : Typ → View
  call : Typ → Exps → View
  expression : Exp → View
  expressions : List Exp → View
  -- a text, and a directive, with the tokens as which they are printed
  text : List ℕ → List TemplateToken → View
  texts : List (List ℕ) → View
  directive : Directive → List TemplateToken → View
  -- one without its `;`
  setting : Directive → List TemplateToken → View
  kind : DeclarationKind → View
  attribute_word : List ℕ → TemplateToken → View
  arguments : List Exp → View
  attribute : Attr → List TemplateToken → View
  -- attributes one behind the other, or none
  attributes : List Attr → List TemplateToken → View
  -- where an import begins, and the steps that lead further
  source : Option ModulePath → View
  steps : List (List ℕ) → View
  content : Content → View
  tree : Imp → View
  trees : List Imp → View
  importing : Importing → List TemplateToken → View
  -- what may be absent
  value : Option Exp → View
  -- a name and maybe its type, a declared value, and what is asserted
  typed : List ℕ → Option Typ → View
  declared : DeclarationKind → List ℕ → Option Typ → Option Exp → View
  asserted : Exp → View
  -- `_`, to which anything may be assigned
  phony : View
  -- a statement without `;`, as such and as a part of a header, which may be absent
  plain : s.Simple → List TemplateToken → View
  header : Option s.Simple → List TemplateToken → View
  statement : Stm → List TemplateToken → View
  statements : Stms → List TemplateToken → View
  block : Block → List TemplateToken → View
  -- `else` and a block, where it is there
  otherwise : Option Block → List TemplateToken → View
  else_if : Exp → Block → List TemplateToken → View
  else_ifs : List (Exp × Block) → List TemplateToken → View
  selector : Selector → View
  selectors : List Selector → View
  clause : List Selector → Block → List TemplateToken → View
  clauses : Clauses → List TemplateToken → View
  ending : Continuing → List TemplateToken → View
  break_if : Option BreakIf → List TemplateToken → View
  member : Member → List TemplateToken → View
  members : List Member → List TemplateToken → View
  parameter : Param → List TemplateToken → View
  parameters : List Param → List TemplateToken → View
  returned : List Attr → Option Typ → List TemplateToken → View
  declaration : Decl → List TemplateToken → View
  declarations : List Decl → List TemplateToken → View
  imports : List Importing → List TemplateToken → View
  directives : List Directive → List TemplateToken → View
  module_tree : UnitTree → List TemplateToken → View

abbrev pub view_tokens : View → List TemplateToken
view_tokens (token t) = t ∷ []
view_tokens (ups n) = origin_tokens (Relative n) ++ (mark f.PathSeparator ∷ [])
view_tokens (path q x) = qualifier_tokens q ++ (word x ∷ [])
view_tokens (type t) = typ_tokens t
view_tokens (call t xs) = typ_tokens t ++ (mark f.ParenLeft ∷ (exps_tokens xs ++ (mark f.ParenRight ∷ [])))
view_tokens (expression e) = exp_tokens e
view_tokens (expressions es) = exps_tokens (exps es)
view_tokens (text x ts) = ts
view_tokens (texts xs) = names_tokens xs
view_tokens (directive d ts) = ts
view_tokens (setting d ts) = ts
view_tokens (kind k) = kind_tokens k
view_tokens (attribute_word w t) = t ∷ []
view_tokens (arguments es) = arguments_tokens (Some es)
view_tokens (attribute a ts) = ts
view_tokens (attributes xs ts) = ts
view_tokens (source q) = qualifier_tokens q
view_tokens (steps xs) = steps_tokens xs
view_tokens (content c) = content_tokens c
view_tokens (tree i) = steps_tokens i.path ++ content_tokens i.content
view_tokens (trees is) = imps_tokens (imps is)
view_tokens (importing i ts) = ts
view_tokens (value o) = value_tokens o
view_tokens (typed x t) = word x ∷ annotation_tokens t
view_tokens (declared k x t o) = declared_tokens k x t o
view_tokens (asserted e) = asserted_tokens e
view_tokens phony = mark f.Underscore ∷ []
view_tokens (selector x) = selector_tokens x
view_tokens (selectors xs) = selectors_tokens xs
view_tokens (plain x ts) = ts
view_tokens (header o ts) = ts
view_tokens (statement x ts) = ts
view_tokens (statements xs ts) = ts
view_tokens (block b ts) = ts
view_tokens (otherwise o ts) = ts
view_tokens (else_if e b ts) = ts
view_tokens (else_ifs es ts) = ts
view_tokens (clause xs b ts) = ts
view_tokens (clauses cs ts) = ts
view_tokens (ending c ts) = ts
view_tokens (break_if o ts) = ts
view_tokens (member m ts) = ts
view_tokens (members ms ts) = ts
view_tokens (parameter x ts) = ts
view_tokens (parameters xs ts) = ts
view_tokens (returned xs t ts) = ts
view_tokens (declaration d ts) = ts
view_tokens (declarations ds ts) = ts
view_tokens (imports is ts) = ts
view_tokens (directives ds ts) = ts
view_tokens (module_tree u ts) = ts

-- no check fails in any of them
abbrev pub NoneFails : List (Spanned Attribute) → Type 0
NoneFails [] = Unit {0}
NoneFails (y ∷ ys) = (attribute_failed y.node ≡ None) × NoneFails ys

-- the part stands for this
pub data Stands (p : Part) : View → Type 0 where
  a_token : {t : TemplateToken} → p ≡ leaf t → Stands p (token t)
  an_ups : {n : ℕ} → p ≡ part.Ups n → Stands p (ups n)
  a_path : {q : Option ModulePath} {x : List ℕ} (y : QualifiedName) → p ≡ part.Path y → y.path ≡ q → y.ident.name ≡ x → Stands p (path q x)
  a_type : {t : Typ} (y : TypeExpressionOf Expression) → p ≡ part.Type y → type_tree y ≡ t → Stands p (type t)
  a_call : {t : Typ} {xs : Exps} (y : FunctionCallOf Expression) → p ≡ part.Call y → type_tree y.ty ≡ t → exps (map node_tree y.arguments) ≡ xs → Stands p (call t xs)
  an_expression : {e : Exp} (n : Spanned Expression) → p ≡ part.Expression n → node_tree n ≡ e → Stands p (expression e)
  a_text : {x : List ℕ} {ts : List TemplateToken} → p ≡ part.Text x → Stands p (text x ts)
  some_texts : {xs : List (List ℕ)} → p ≡ part.Texts xs → Stands p (texts xs)
  a_word : {w : List ℕ} {t : TemplateToken} → p ≡ part.Word w → Stands p (attribute_word w t)
  some_arguments : {es : List Exp} (ns : List (Spanned Expression)) → p ≡ part.Arguments ns → map node_tree ns ≡ es → Stands p (arguments es)
  an_attribute : {a : Attr} {ts : List TemplateToken} (y : Spanned Attribute) → p ≡ part.Attribute y → attribute_failed y.node ≡ None → attribute_tree y.node ≡ a → Stands p (attribute a ts)
  some_attributes : {xs : List Attr} {ts : List TemplateToken} (ys : List (Spanned Attribute)) → p ≡ part.Attributes ys → NoneFails ys → attributes_tree ys ≡ xs → Stands p (attributes xs ts)
  no_attributes : p ≡ part.Absent → Stands p (attributes [] [])
  a_source : {q : ModulePath} → p ≡ part.ModulePath q → Stands p (source (Some q))
  no_source : p ≡ part.Absent → Stands p (source None)
  some_steps : {xs : List (List ℕ)} → p ≡ part.Texts xs → Stands p (steps xs)
  no_steps : p ≡ part.Absent → Stands p (steps [])
  a_content : {c : Content} (y : ImportContent) → p ≡ part.Content y → content_tree y ≡ c → Stands p (content c)
  a_tree : {i : Imp} (y : ImportOf ImportContent) → p ≡ part.Tree y → import_tree y ≡ i → Stands p (tree i)
  some_trees : {is : List Imp} (ys : List (ImportOf ImportContent)) → p ≡ part.Trees ys → map import_tree ys ≡ is → Stands p (trees is)
  an_importing : {i : Importing} {ts : List TemplateToken} (y : ImportStatement) → p ≡ part.Import y → importing_tree y ≡ i → Stands p (importing i ts)
  a_value : {e : Exp} (n : Spanned Expression) → p ≡ part.Expression n → node_tree n ≡ e → Stands p (value (Some e))
  no_value : p ≡ part.Absent → Stands p (value None)
  a_typed : {x : List ℕ} {t : Option Typ} (y : TypedName) → p ≡ part.Typed y → y.ident.name ≡ x → option_map type_tree y.ty ≡ t → Stands p (typed x t)
  a_declared : {k : DeclarationKind} {x : List ℕ} {t : Option Typ} {o : Option Exp} (y : Declaration) → p ≡ part.Declaration y → y.attributes ≡ [] → y.kind ≡ k → y.ident.name ≡ x → option_map type_tree y.ty ≡ t → option_map node_tree y.initializer ≡ o
      → Stands p (declared k x t o)
  an_asserted : {e : Exp} (y : ConstAssert) → p ≡ part.Assertion y → y.attributes ≡ [] → node_tree y.expression ≡ e → Stands p (asserted e)
  a_phony : (n : Spanned Expression) → p ≡ part.Expression n → node_tree n ≡ name_exp (codes "_") → Stands p phony
  a_plain : {x : s.Simple} {ts : List TemplateToken} (y : Statement) → p ≡ part.Plain y → statement_tree y ≡ Some (simple x) → Stands p (plain x ts)
  a_header : {x : s.Simple} {ts : List TemplateToken} (y : Spanned Statement) → p ≡ part.Statement y → statement_tree y.node ≡ Some (simple x) → Stands p (header (Some x) ts)
  no_header : p ≡ part.Absent → Stands p (header None [])
  a_statement : {x : Stm} {ts : List TemplateToken} (y : Spanned Statement) → p ≡ part.Statement y → statement_tree y.node ≡ Some x → Stands p (statement x ts)
  some_statements : {xs : Stms} {ts : List TemplateToken} (ys : List (Spanned Statement)) → p ≡ part.Statements ys → statements_tree ys ≡ xs → Stands p (statements xs ts)
  no_statements : p ≡ part.Absent → Stands p (statements nil [])
  a_block : {b : Block} {ts : List TemplateToken} (y : CompoundStatementOf Statement) → p ≡ part.Block y → block_tree y ≡ b → Stands p (block b ts)
  an_else : {b : Block} {ts : List TemplateToken} (y : CompoundStatementOf Statement) → p ≡ part.Block y → block_tree y ≡ b → Stands p (otherwise (Some b) ts)
  no_else : p ≡ part.Absent → Stands p (otherwise None [])
  an_else_if : {e : Exp} {b : Block} {ts : List TemplateToken} (y : ElseIfClauseOf Statement) → p ≡ part.ElseIf y → node_tree y.expression ≡ e → block_tree y.body ≡ b → Stands p (else_if e b ts)
  some_else_ifs : {es : List (Exp × Block)} {ts : List TemplateToken} (ys : List (ElseIfClauseOf Statement)) → p ≡ part.ElseIfs ys → map (λ y. (node_tree y.expression, block_tree y.body)) ys ≡ es → Stands p (else_ifs es ts)
  no_else_ifs : p ≡ part.Absent → Stands p (else_ifs [] [])
  a_selector : {x : Selector} (y : CaseSelector) → p ≡ part.Selector y → selector_tree y ≡ x → Stands p (selector x)
  some_selectors : {xs : List Selector} (ys : List CaseSelector) → p ≡ part.Selectors ys → map selector_tree ys ≡ xs → Stands p (selectors xs)
  a_clause : {xs : List Selector} {b : Block} {ts : List TemplateToken} (y : SwitchClauseOf Statement) → p ≡ part.Clause y → map selector_tree y.case_selectors ≡ xs → block_tree y.body ≡ b → Stands p (clause xs b ts)
  some_clauses : {cs : Clauses} {ts : List TemplateToken} (ys : List (SwitchClauseOf Statement)) → p ≡ part.Clauses ys → clauses_layer statement_tree ys ≡ cs → Stands p (clauses cs ts)
  an_ending : {c : Continuing} {ts : List TemplateToken} (y : ContinuingStatementOf Statement) → p ≡ part.Continuing y → continuing_layer statement_tree (Some y) ≡ c → Stands p (ending c ts)
  no_ending : p ≡ part.Absent → Stands p (ending no_continuing [])
  a_break_if : {o : BreakIf} {ts : List TemplateToken} (y : BreakIfStatement) → p ≡ part.BreakIf y → break_if_tree y ≡ o → Stands p (break_if (Some o) ts)
  no_break_if : p ≡ part.Absent → Stands p (break_if None [])
  a_member : {m : Member} {ts : List TemplateToken} (y : Spanned StructMember) → p ≡ part.Member y → member_tree y.node ≡ m → Stands p (member m ts)
  some_members : {ms : List Member} {ts : List TemplateToken} (ys : List (Spanned StructMember)) → p ≡ part.Members ys → members_tree ys ≡ ms → Stands p (members ms ts)
  a_parameter : {x : Param} {ts : List TemplateToken} (y : FormalParameter) → p ≡ part.Parameter y → parameter_tree y ≡ x → Stands p (parameter x ts)
  some_parameters : {xs : List Param} {ts : List TemplateToken} (ys : List FormalParameter) → p ≡ part.Parameters ys → map parameter_tree ys ≡ xs → Stands p (parameters xs ts)
  no_parameters : p ≡ part.Absent → Stands p (parameters [] [])
  a_result : {xs : List Attr} {t : Typ} {ts : List TemplateToken} (y : FunctionResult) → p ≡ part.Result y → attributes_tree y.attributes ≡ xs → type_tree y.ty ≡ t → Stands p (returned xs (Some t) ts)
  no_result : p ≡ part.Absent → Stands p (returned [] None [])
  a_declaration : {d : Decl} {ts : List TemplateToken} (y : Spanned GlobalDeclaration) → p ≡ part.Global y → declaration_tree y.node ≡ Some d → Stands p (declaration d ts)
  some_declarations : {ds : List Decl} {ts : List TemplateToken} (ys : List (Spanned GlobalDeclaration)) → p ≡ part.Globals ys → declarations_tree ys ≡ ds → Stands p (declarations ds ts)
  no_declarations : p ≡ part.Absent → Stands p (declarations [] [])
  some_imports : {is : List Importing} {ts : List TemplateToken} (ys : List ImportStatement) → p ≡ part.Imports ys → map importing_tree ys ≡ is → Stands p (imports is ts)
  no_imports : p ≡ part.Absent → Stands p (imports [] [])
  some_directives : {ds : List Directive} {ts : List TemplateToken} (ys : List GlobalDirective) → p ≡ part.Directives ys → map directive_tree ys ≡ ds → Stands p (directives ds ts)
  no_directives : p ≡ part.Absent → Stands p (directives [] [])
  a_module : {u : UnitTree} {ts : List TemplateToken} (y : TranslationUnit) → p ≡ part.Module y → unit_tree y ≡ u → Stands p (module_tree u ts)
  a_kind : {k : DeclarationKind} → p ≡ part.Kind k → Stands p (kind k)
  a_directive : {d : Directive} {ts : List TemplateToken} (y : GlobalDirective) → p ≡ part.Directive y → directive_tree y ≡ d → Stands p (directive d ts)
  a_setting : {d : Directive} {ts : List TemplateToken} (y : GlobalDirective) → p ≡ part.Directive y → directive_tree y ≡ d → Stands p (setting d ts)
  some_expressions : {es : List Exp} (ns : List (Spanned Expression)) → p ≡ part.Expressions ns → map node_tree ns ≡ es → Stands p (expressions es)

-- what the last token of a phrase is
abbrev pub ends_as : View → Before → Type 0
ends_as (token t) b = Unit {0}
ends_as (ups n) b = Unit {0}
ends_as (path q x) b = b ≡ callee
ends_as (type t) b = b ≡ callee
ends_as (directive d ts) b = b ≡ outside
ends_as (setting d ts) b = Unit {0}
ends_as (kind k) b = Unit {0}
ends_as (attribute_word w t) b = Unit {0}
ends_as (arguments es) b = Unit {0}
ends_as (attribute a ts) b = Unit {0}
ends_as (attributes xs ts) b = Unit {0}
ends_as (source q) b = Unit {0}
ends_as (steps xs) b = Unit {0}
ends_as (content c) b = Unit {0}
ends_as (tree i) b = Unit {0}
ends_as (trees is) b = Unit {0}
ends_as (importing i ts) b = b ≡ outside
ends_as (typed x t) b = Unit {0}
ends_as (declared k x t o) b = Unit {0}
ends_as phony b = Unit {0}
ends_as (plain x ts) b = Unit {0}
ends_as (header o ts) b = Unit {0}
ends_as (statement x ts) b = b ≡ outside
ends_as (statements xs ts) b = b ≡ outside
ends_as (block c ts) b = b ≡ outside
ends_as (otherwise o ts) b = b ≡ outside
ends_as (else_if e c ts) b = b ≡ outside
ends_as (else_ifs es ts) b = b ≡ outside
ends_as (selector x) b = Unit {0}
ends_as (selectors xs) b = Unit {0}
ends_as (clause xs c ts) b = b ≡ outside
ends_as (clauses cs ts) b = b ≡ outside
ends_as (ending c ts) b = b ≡ outside
ends_as (break_if o ts) b = b ≡ outside
ends_as (member m ts) b = Unit {0}
ends_as (members ms ts) b = Unit {0}
ends_as (returned xs t ts) b = Unit {0}
ends_as (declaration d ts) b = b ≡ outside
ends_as (declarations ds ts) b = b ≡ outside
ends_as (imports is ts) b = b ≡ outside
ends_as (directives ds ts) b = b ≡ outside
ends_as (module_tree u ts) b = Unit {0}
ends_as _ b = ends_operand b ≡ true
