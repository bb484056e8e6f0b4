-- Removing the empty items of a statement twice is removing them once.
use Rattle.std.proofs.Common.{◌≡◌, refl, sym, ap, ◌∙◌, subst, List, [], ◌∷◌, map, Bool, true, false, cond, not, Option, Some, None}
use Rattle.wgsl_path.specs.declared.span.Spanned.{Spanned}
use Rattle.wgsl_statements.specs.declared.statement.CompoundStatementOf.{CompoundStatementOf}
use Rattle.wgsl_statements.specs.declared.statement.ElseIfClauseOf.{ElseIfClauseOf}
use Rattle.wgsl_statements.specs.declared.statement.ElseClauseOf.{ElseClauseOf}
use Rattle.wgsl_statements.specs.declared.statement.SwitchClauseOf.{SwitchClauseOf}
use Rattle.wgsl_statements.specs.declared.statement.ContinuingStatementOf.{ContinuingStatementOf}
use Rattle.std.specs.Option.{option_map}
use Rattle.wgsl_statements.specs.declared.statement.Statement.{Statement, roll-Statement, out-roll-Statement, map-Statement, ind-Statement}
use Rattle.wgsl_statements.specs.declared.statement.Statement.TheOpen.{Statement-F}
use Rattle.wgsl_statements.specs.declared.statement.Statement.TheVariants as code
use Rattle.wgsl_empty_items.specs.Statements.{is_void, with_node, with_nodes, with_block, with_else_if, with_else, with_clause, with_continuing, with_part, layer, without_voids}
use Rattle.wgsl_empty_items.proofs.Layers.{layer-map}
use Rattle.wgsl_empty_items.proofs.Equations.{without_out}
use Rattle.wgsl_empty_items.proofs.Opened.{opened, out_layer}

module _ {A : Type 0} (h : A → Statement) (same : (a : A) → without_voids (h a) ≡ h a) where
  abbrev again : List (Spanned Statement) → List (Spanned Statement)
  again ns = with_nodes without_voids ns

  nodes_more : (n : Spanned A) (ks : List (Spanned Statement)) (b : Bool) → is_void (h n.node) ≡ b → again ks ≡ ks
      → again (cond (not b) (with_node h n ∷ ks) ks) ≡ cond (not b) (with_node h n ∷ ks) ks
  nodes_more n ks true e rest = rest
  nodes_more n ks false e rest =
      (λ k. cond (not (is_void (same n.node k))) (record { node = same n.node k; span = n.span } ∷ again ks) (again ks))
      ∙ ap (λ b. cond (not b) (with_node h n ∷ again ks) (again ks)) e ∙ ap (λ z. with_node h n ∷ z) rest

  nodes_twice : (ns : List (Spanned A)) → again (with_nodes h ns) ≡ with_nodes h ns
  nodes_twice [] = refl
  nodes_twice (n ∷ ns) = nodes_more n (with_nodes h ns) (is_void (h n.node)) refl (nodes_twice ns)

  pub block_twice : (x : CompoundStatementOf A) → with_block without_voids (with_block h x) ≡ with_block h x
  block_twice x = λ k. record { attributes = x.attributes; statements = nodes_twice x.statements k }

  else_twice : (o : Option (ElseClauseOf A)) → option_map (with_else without_voids) (option_map (with_else h) o) ≡ option_map (with_else h) o
  else_twice None = refl
  else_twice (Some c) = λ k. Some (record { body = block_twice c.body k })

  else_ifs_twice : (cs : List (ElseIfClauseOf A)) → map (with_else_if without_voids) (map (with_else_if h) cs) ≡ map (with_else_if h) cs
  else_ifs_twice [] = refl
  else_ifs_twice (c ∷ cs) = λ k. record { expression = c.expression; body = block_twice c.body k } ∷ else_ifs_twice cs k

  clauses_twice : (cs : List (SwitchClauseOf A)) → map (with_clause without_voids) (map (with_clause h) cs) ≡ map (with_clause h) cs
  clauses_twice [] = refl
  clauses_twice (c ∷ cs) = λ k. record { case_selectors = c.case_selectors; body = block_twice c.body k } ∷ clauses_twice cs k

  continuing_twice : (o : Option (ContinuingStatementOf A))
      → option_map (with_continuing without_voids) (option_map (with_continuing h) o) ≡ option_map (with_continuing h) o
  continuing_twice None = refl
  continuing_twice (Some c) = λ k. Some (record { attributes = c.attributes; body = block_twice c.body k; break_if = c.break_if })

  part_more : (n : Spanned A) (b : Bool) → is_void (h n.node) ≡ b
      → with_part without_voids (cond b None (Some (with_node h n))) ≡ cond b None (Some (with_node h n))
  part_more n true e = refl
  part_more n false e =
      (λ k. cond (is_void (same n.node k)) None (Some (record { node = same n.node k; span = n.span })))
      ∙ ap (λ b. cond b None (Some (with_node h n))) e

  part_twice : (o : Option (Spanned A)) → with_part without_voids (with_part h o) ≡ with_part h o
  part_twice None = refl
  part_twice (Some n) = part_more n (is_void (h n.node)) refl

  layer_twice : (x : Statement-F A) → layer without_voids (opened h x) ≡ layer h x
  layer_twice Statement-F.Void = refl
  layer_twice (Statement-F.Compound x) = ap code.Compound (block_twice x)
  layer_twice (Statement-F.Assignment x) = refl
  layer_twice (Statement-F.Increment x) = refl
  layer_twice (Statement-F.Decrement x) = refl
  layer_twice (Statement-F.If x) = λ k. code.If (record { attributes = x.attributes; if_clause = record { expression = x.if_clause.expression; body = block_twice x.if_clause.body k }; else_if_clauses = else_ifs_twice x.else_if_clauses k; else_clause = else_twice x.else_clause k })
  layer_twice (Statement-F.Switch x) = λ k. code.Switch (record { attributes = x.attributes; expression = x.expression; body_attributes = x.body_attributes; clauses = clauses_twice x.clauses k })
  layer_twice (Statement-F.Loop x) = λ k. code.Loop (record { attributes = x.attributes; body = block_twice x.body k; continuing = continuing_twice x.continuing k })
  layer_twice (Statement-F.For x) = λ k. code.For (record { attributes = x.attributes; initializer = part_twice x.initializer k; condition = x.condition; update = part_twice x.update k; body = block_twice x.body k })
  layer_twice (Statement-F.While x) = λ k. code.While (record { attributes = x.attributes; condition = x.condition; body = block_twice x.body k })
  layer_twice (Statement-F.Break x) = refl
  layer_twice (Statement-F.Continue x) = refl
  layer_twice (Statement-F.Return x) = refl
  layer_twice (Statement-F.Discard x) = refl
  layer_twice (Statement-F.FunctionCall x) = refl
  layer_twice (Statement-F.ConstAssert x) = refl
  layer_twice (Statement-F.Declaration x) = refl

abbrev Settled : Statement → Type 0
Settled s = without_voids (without_voids s) ≡ without_voids s

abbrev Child : Type 0
Child = (s : Statement) × Settled s

abbrev bare : Child → Statement
bare c = c.0

abbrev done : Child → Statement
done c = without_voids c.0

pub twice_is_once : (s : Statement) → Settled s
twice_is_once = ind-Statement Settled (λ x y is. subst (λ z. Settled (roll-Statement z)) is
    (subst (λ z. without_voids z ≡ z) (sym (without_out (roll-Statement (map-Statement Child Statement bare y))
    ∙ ap (layer without_voids) (out-roll-Statement (map-Statement Child Statement bare y)) ∙ layer-map without_voids bare y))
    (without_out (layer done y) ∙ ap (layer without_voids) (out_layer done y) ∙ layer_twice done (λ c. c.1) y)))
