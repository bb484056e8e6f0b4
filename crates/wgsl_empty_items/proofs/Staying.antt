-- A statement without its empty items stands for the same tree.
use Rattle.std.proofs.Common.{◌≡◌, refl, sym, ap, ◌∙◌, subst, List, [], ◌∷◌, map, Bool, true, false, cond, not, Option, Some, None}
use Rattle.wgsl_path.specs.declared.span.Spanned.{Spanned}
use Rattle.wgsl_statements.specs.declared.statement.CompoundStatementOf.{CompoundStatementOf}
use Rattle.wgsl_statements.specs.declared.statement.ElseIfClauseOf.{ElseIfClauseOf}
use Rattle.wgsl_statements.specs.declared.statement.ElseClauseOf.{ElseClauseOf}
use Rattle.wgsl_statements.specs.declared.statement.SwitchClauseOf.{SwitchClauseOf}
use Rattle.wgsl_statements.specs.declared.statement.ContinuingStatementOf.{ContinuingStatementOf}
use Rattle.wgsl_statements.specs.declared.statement.Statement.{Statement, out-Statement, roll-Statement, out-roll-Statement, map-Statement, ind-Statement}
use Rattle.wgsl_statements.specs.declared.statement.Statement.TheOpen.{Statement-F}
use Rattle.wgsl_expressions.specs.View.{node_tree}
use Rattle.wgsl_expressions.specs.AttributesView.{attributes_tree}
use Rattle.wgsl_simple_statements.specs.View.{break_if_tree, selector_tree}
use Rattle.std.specs.Option.{option_map}
use Rattle.wgsl_statements.specs.Tree.{Stm, compound_statement, if_statement, switch_statement, loop_statement, for_statement, while_statement, Stms, cons, block, else_clause, else_if_clause, switch_clause, continuing_statement}
use Rattle.wgsl_statements.specs.View as v
use Rattle.wgsl_statements.specs.View.{stms, statement_tree, block_tree}
use Rattle.wgsl_statements.proofs.Trees.{tree_out}
use Rattle.wgsl_empty_items.specs.Statements.{is_void, is_void_layer, with_node, with_nodes, with_block, with_else_if, with_else, with_clause, with_continuing, with_part, layer, without_voids}
use Rattle.wgsl_empty_items.proofs.Layers.{layer-map}
use Rattle.wgsl_empty_items.proofs.Equations.{without_out}
use Rattle.wgsl_empty_items.proofs.Opened.{opened, out_layer}
use Rattle.wgsl_empty_items.proofs.Views.{view-map}

abbrev is_none : Option Stm → Bool
is_none None = true
is_none (Some x) = false

void_is_none : (s : Statement) → is_void s ≡ is_none (statement_tree s)
void_is_none s = at (out-Statement s) ∙ ap is_none (sym (tree_out s))
  where
    at : (x : Statement-F Statement) → is_void_layer x ≡ is_none (v.layer statement_tree x)
    at Statement-F.Void = refl
    at (Statement-F.Compound x) = refl
    at (Statement-F.Assignment x) = refl
    at (Statement-F.Increment x) = refl
    at (Statement-F.Decrement x) = refl
    at (Statement-F.If x) = refl
    at (Statement-F.Switch x) = refl
    at (Statement-F.Loop x) = refl
    at (Statement-F.For x) = refl
    at (Statement-F.While x) = refl
    at (Statement-F.Break x) = refl
    at (Statement-F.Continue x) = refl
    at (Statement-F.Return x) = refl
    at (Statement-F.Discard x) = refl
    at (Statement-F.FunctionCall x) = refl
    at (Statement-F.ConstAssert x) = refl
    at (Statement-F.Declaration x) = refl

module _ {A : Type 0} (h : A → Statement) (t : A → Option Stm) (same : (a : A) → statement_tree (h a) ≡ t a) where
  agree : (a : A) → is_void (h a) ≡ is_none (t a)
  agree a = void_is_none (h a) ∙ ap is_none (same a)

  abbrev trees : List (Spanned Statement) → Stms
  trees ns = stms (map (λ n. statement_tree n.node) ns)

  nodes_more : (n : Spanned A) (ks : List (Spanned Statement)) (rs : List (Option Stm)) (b : Bool) (o : Option Stm) → b ≡ is_none o → statement_tree (h n.node) ≡ o
      → trees ks ≡ stms rs → trees (cond (not b) (with_node h n ∷ ks) ks) ≡ stms (o ∷ rs)
  nodes_more n ks rs true None e is rest = rest
  nodes_more n ks rs true (Some x) e is rest = absurd (cc)
  nodes_more n ks rs false None e is rest = absurd (cc)
  nodes_more n ks rs false (Some x) e is rest = ap (λ z. stms (z ∷ map (λ n. statement_tree n.node) ks)) is ∙ ap (cons x) rest

  nodes_stay : (ns : List (Spanned A)) → trees (with_nodes h ns) ≡ v.nodes_layer t ns
  nodes_stay [] = refl
  nodes_stay (n ∷ ns) = nodes_more n (with_nodes h ns) (map (λ n. t n.node) ns) (is_void (h n.node)) (t n.node) (agree n.node) (same n.node) (nodes_stay ns)

  pub block_stays : (x : CompoundStatementOf A) → block_tree (with_block h x) ≡ v.block_layer t x
  block_stays x = ap (block (attributes_tree x.attributes)) (nodes_stay x.statements)

  else_stays : (o : Option (ElseClauseOf A)) → v.else_layer statement_tree (option_map (with_else h) o) ≡ v.else_layer t o
  else_stays None = refl
  else_stays (Some c) = ap else_clause (block_stays c.body)

  elses_stay : (cs : List (ElseIfClauseOf A)) (o : Option (ElseClauseOf A))
      → v.elses_layer statement_tree (map (with_else_if h) cs) (option_map (with_else h) o) ≡ v.elses_layer t cs o
  elses_stay [] o = else_stays o
  elses_stay (c ∷ cs) o = λ k. else_if_clause (node_tree c.expression) (block_stays c.body k) (elses_stay cs o k)

  clauses_stay : (cs : List (SwitchClauseOf A)) → v.clauses_layer statement_tree (map (with_clause h) cs) ≡ v.clauses_layer t cs
  clauses_stay [] = refl
  clauses_stay (c ∷ cs) = λ k. switch_clause (map selector_tree c.case_selectors) (block_stays c.body k) (clauses_stay cs k)

  continuing_stays : (o : Option (ContinuingStatementOf A)) → v.continuing_layer statement_tree (option_map (with_continuing h) o) ≡ v.continuing_layer t o
  continuing_stays None = refl
  continuing_stays (Some c) = λ k. continuing_statement (attributes_tree c.attributes) (block_stays c.body k) (option_map break_if_tree c.break_if)

  part_more : (n : Spanned A) (b : Bool) (o : Option Stm) → b ≡ is_none o → statement_tree (h n.node) ≡ o
      → v.part_layer statement_tree (cond b None (Some (with_node h n))) ≡ v.part o
  part_more n true None e is = refl
  part_more n true (Some x) e is = absurd (cc)
  part_more n false o e is = ap v.part is

  part_stays : (o : Option (Spanned A)) → v.part_layer statement_tree (with_part h o) ≡ v.part_layer t o
  part_stays None = refl
  part_stays (Some n) = part_more n (is_void (h n.node)) (t n.node) (agree n.node) (same n.node)

  pub layer_stays : (x : Statement-F A) → v.layer statement_tree (opened h x) ≡ v.layer t x
  layer_stays Statement-F.Void = refl
  layer_stays (Statement-F.Compound x) = λ k. Some (compound_statement (block_stays x k))
  layer_stays (Statement-F.Assignment x) = refl
  layer_stays (Statement-F.Increment x) = refl
  layer_stays (Statement-F.Decrement x) = refl
  layer_stays (Statement-F.If x) = λ k. Some (if_statement (attributes_tree x.attributes) (node_tree x.if_clause.expression) (block_stays x.if_clause.body k) (elses_stay x.else_if_clauses x.else_clause k))
  layer_stays (Statement-F.Switch x) = λ k. Some (switch_statement (attributes_tree x.attributes) (node_tree x.expression) (attributes_tree x.body_attributes) (clauses_stay x.clauses k))
  layer_stays (Statement-F.Loop x) = λ k. Some (loop_statement (attributes_tree x.attributes) (block_stays x.body k) (continuing_stays x.continuing k))
  layer_stays (Statement-F.For x) = λ k. Some (for_statement (attributes_tree x.attributes) (part_stays x.initializer k) (option_map node_tree x.condition) (part_stays x.update k) (block_stays x.body k))
  layer_stays (Statement-F.While x) = λ k. Some (while_statement (attributes_tree x.attributes) (node_tree x.condition) (block_stays x.body k))
  layer_stays (Statement-F.Break x) = refl
  layer_stays (Statement-F.Continue x) = refl
  layer_stays (Statement-F.Return x) = refl
  layer_stays (Statement-F.Discard x) = refl
  layer_stays (Statement-F.FunctionCall x) = refl
  layer_stays (Statement-F.ConstAssert x) = refl
  layer_stays (Statement-F.Declaration x) = refl

abbrev Stays : Statement → Type 0
Stays s = statement_tree (without_voids s) ≡ statement_tree s

abbrev Child : Type 0
Child = (s : Statement) × Stays s

abbrev bare : Child → Statement
bare c = c.0

abbrev done : Child → Statement
done c = without_voids c.0

abbrev said : Child → Option Stm
said c = statement_tree c.0

without_roll : (y : Statement-F Child) → without_voids (roll-Statement (map-Statement Child Statement bare y)) ≡ layer done y
without_roll y =
    without_out (roll-Statement (map-Statement Child Statement bare y))
    ∙ ap (layer without_voids) (out-roll-Statement (map-Statement Child Statement bare y))
    ∙ layer-map without_voids bare y

tree_roll : (y : Statement-F Child) → statement_tree (roll-Statement (map-Statement Child Statement bare y)) ≡ v.layer said y
tree_roll y =
    tree_out (roll-Statement (map-Statement Child Statement bare y))
    ∙ ap (v.layer statement_tree) (out-roll-Statement (map-Statement Child Statement bare y))
    ∙ view-map statement_tree bare y

pub tree_stays : (s : Statement) → Stays s
tree_stays = ind-Statement Stays (λ x y is. subst (λ z. Stays (roll-Statement z)) is
    (ap statement_tree (without_roll y) ∙ tree_out (layer done y) ∙ ap (v.layer statement_tree) (out_layer done y)
    ∙ layer_stays done said (λ c. c.1) y ∙ sym (tree_roll y)))
