-- A statement without its empty items has none inside.
use Rattle.std.proofs.Common.{◌≡◌, refl, sym, ap, ◌∙◌, subst, ℕ, ◌+◌, List, [], ◌∷◌, map, Bool, true, false, cond, not, Option, Some, None}
use Rattle.wgsl_path.specs.declared.span.Spanned.{Spanned}
use Rattle.wgsl_statements.specs.declared.statement.CompoundStatementOf.{CompoundStatementOf}
use Rattle.wgsl_statements.specs.declared.statement.ElseIfClauseOf.{ElseIfClauseOf}
use Rattle.wgsl_statements.specs.declared.statement.ElseClauseOf.{ElseClauseOf}
use Rattle.wgsl_statements.specs.declared.statement.SwitchClauseOf.{SwitchClauseOf}
use Rattle.wgsl_statements.specs.declared.statement.ContinuingStatementOf.{ContinuingStatementOf}
use Rattle.std.specs.Option.{option_map}
use Rattle.wgsl_statements.specs.declared.statement.Statement.{Statement, out-Statement, roll-Statement, out-roll-Statement, map-Statement, ind-Statement}
use Rattle.wgsl_statements.specs.declared.statement.Statement.TheOpen.{Statement-F}
use Rattle.wgsl_empty_items.specs.Statements.{is_void, is_void_layer, with_node, with_nodes, with_block, with_else_if, with_else, with_clause, with_continuing, with_part, layer, without_voids}
use Rattle.wgsl_empty_items.specs.Counts.{in_nodes, in_block, in_else_ifs, in_else, in_clauses, in_continuing, in_part, in_layer, voids}
use Rattle.wgsl_empty_items.proofs.Layers.{layer-map}
use Rattle.wgsl_empty_items.proofs.Equations.{without_out}
use Rattle.wgsl_empty_items.proofs.Opened.{opened, out_layer}
use Rattle.wgsl_empty_items.proofs.Counting.{voids_out}

abbrev one_if : Bool → ℕ
one_if b = cond b 1 0

module _ {A : Type 0} (h : A → Statement) (few : (a : A) → voids (h a) ≡ one_if (is_void (h a))) where
  nodes_more : (n : Spanned A) (ks : List (Spanned Statement)) (b : Bool) → voids (h n.node) ≡ one_if b → in_nodes voids ks ≡ 0
      → in_nodes voids (cond (not b) (with_node h n ∷ ks) ks) ≡ 0
  nodes_more n ks true e rest = rest
  nodes_more n ks false e rest = λ k. e k + rest k

  pub nodes_none : (ns : List (Spanned A)) → in_nodes voids (with_nodes h ns) ≡ 0
  nodes_none [] = refl
  nodes_none (n ∷ ns) = nodes_more n (with_nodes h ns) (is_void (h n.node)) (few n.node) (nodes_none ns)

  pub block_none : (x : CompoundStatementOf A) → in_block voids (with_block h x) ≡ 0
  block_none x = nodes_none x.statements

  else_none : (o : Option (ElseClauseOf A)) → in_else voids (option_map (with_else h) o) ≡ 0
  else_none None = refl
  else_none (Some c) = block_none c.body

  else_ifs_none : (cs : List (ElseIfClauseOf A)) → in_else_ifs voids (map (with_else_if h) cs) ≡ 0
  else_ifs_none [] = refl
  else_ifs_none (c ∷ cs) = λ k. block_none c.body k + else_ifs_none cs k

  clauses_none : (cs : List (SwitchClauseOf A)) → in_clauses voids (map (with_clause h) cs) ≡ 0
  clauses_none [] = refl
  clauses_none (c ∷ cs) = λ k. block_none c.body k + clauses_none cs k

  continuing_none : (o : Option (ContinuingStatementOf A)) → in_continuing voids (option_map (with_continuing h) o) ≡ 0
  continuing_none None = refl
  continuing_none (Some c) = block_none c.body

  part_more : (n : Spanned A) (b : Bool) → voids (h n.node) ≡ one_if b → in_part voids (cond b None (Some (with_node h n))) ≡ 0
  part_more n true e = refl
  part_more n false e = e

  part_none : (o : Option (Spanned A)) → in_part voids (with_part h o) ≡ 0
  part_none None = refl
  part_none (Some n) = part_more n (is_void (h n.node)) (few n.node)

  layer_none : (x : Statement-F A) → in_layer voids (opened h x) ≡ one_if (is_void_layer (opened h x))
  layer_none Statement-F.Void = refl
  layer_none (Statement-F.Compound x) = block_none x
  layer_none (Statement-F.Assignment x) = refl
  layer_none (Statement-F.Increment x) = refl
  layer_none (Statement-F.Decrement x) = refl
  layer_none (Statement-F.If x) = λ k. block_none x.if_clause.body k + (else_ifs_none x.else_if_clauses k + else_none x.else_clause k)
  layer_none (Statement-F.Switch x) = clauses_none x.clauses
  layer_none (Statement-F.Loop x) = λ k. block_none x.body k + continuing_none x.continuing k
  layer_none (Statement-F.For x) = λ k. part_none x.initializer k + (part_none x.update k + block_none x.body k)
  layer_none (Statement-F.While x) = block_none x.body
  layer_none (Statement-F.Break x) = refl
  layer_none (Statement-F.Continue x) = refl
  layer_none (Statement-F.Return x) = refl
  layer_none (Statement-F.Discard x) = refl
  layer_none (Statement-F.FunctionCall x) = refl
  layer_none (Statement-F.ConstAssert x) = refl
  layer_none (Statement-F.Declaration x) = refl

-- nothing inside, so that a `;` alone is the one that there may be
abbrev Few : Statement → Type 0
Few s = voids (without_voids s) ≡ one_if (is_void (without_voids s))

abbrev Child : Type 0
Child = (s : Statement) × Few s

abbrev bare : Child → Statement
bare c = c.0

abbrev done : Child → Statement
done c = without_voids c.0

few_of : (s : Statement) (x : Statement-F Statement) → out-Statement s ≡ x → in_layer voids x ≡ one_if (is_void_layer x) → voids s ≡ one_if (is_void s)
few_of s x e few = voids_out s ∙ ap (in_layer voids) e ∙ few ∙ ap (λ z. one_if (is_void_layer z)) (sym e)

pub few_are_left : (s : Statement) → Few s
few_are_left = ind-Statement Few (λ x y is. subst (λ z. Few (roll-Statement z)) is
    (subst (λ z. voids z ≡ one_if (is_void z)) (sym (without_out (roll-Statement (map-Statement Child Statement bare y))
    ∙ ap (layer without_voids) (out-roll-Statement (map-Statement Child Statement bare y)) ∙ layer-map without_voids bare y))
    (few_of (layer done y) (opened done y) (out_layer done y) (layer_none done (λ c. c.1) y))))
