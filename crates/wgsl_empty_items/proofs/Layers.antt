-- One map of the parts of a statement behind another.
use Rattle.std.proofs.Common.{◌≡◌, refl, ap, List, [], ◌∷◌, map, Option, Some, None}
use Rattle.wgsl_path.specs.declared.span.Spanned.{Spanned}
use Rattle.wgsl_statements.specs.declared.statement.CompoundStatementOf.{CompoundStatementOf}
use Rattle.wgsl_statements.specs.declared.statement.IfStatementOf.{IfStatementOf}
use Rattle.wgsl_statements.specs.declared.statement.ElseIfClauseOf.{ElseIfClauseOf}
use Rattle.wgsl_statements.specs.declared.statement.ElseClauseOf.{ElseClauseOf}
use Rattle.wgsl_statements.specs.declared.statement.SwitchClauseOf.{SwitchClauseOf}
use Rattle.wgsl_statements.specs.declared.statement.LoopStatementOf.{LoopStatementOf}
use Rattle.wgsl_statements.specs.declared.statement.ContinuingStatementOf.{ContinuingStatementOf}
use Rattle.wgsl_statements.specs.declared.statement.ForStatementOf.{ForStatementOf}
use Rattle.wgsl_statements.specs.declared.statement.Statement.{Statement, map-Statement}
use Rattle.wgsl_statements.specs.declared.statement.Statement.TheOpen.{Statement-F}
use Rattle.wgsl_statements.specs.declared.statement.Statement.TheVariants as code
use Rattle.wgsl_empty_items.specs.Statements.{kept, with_node, with_block, with_else_if, with_clause, with_part, layer}

pub map-map : {A B C : Type 0} (f : B → C) (h : A → B) (xs : List A) → map f (map h xs) ≡ map (λ x. f (h x)) xs
map-map f h [] = refl
map-map f h (x ∷ xs) = ap (λ t. f (h x) ∷ t) (map-map f h xs)

pub map-same : {A B : Type 0} (f g : A → B) → ((a : A) → f a ≡ g a) → (xs : List A) → map f xs ≡ map g xs
map-same f g same [] = refl
map-same f g same (x ∷ xs) = λ k. same x k ∷ map-same f g same xs k

module _ {A B : Type 0} (g : B → Statement) (f : A → B) where
  abbrev both : A → Statement
  both a = g (f a)

  abbrev node_map : Spanned A → Spanned B
  node_map n = record { node = f n.node; span = n.span }

  abbrev body_map : CompoundStatementOf A → CompoundStatementOf B
  body_map x = record { attributes = x.attributes; statements = map node_map x.statements }

  abbrev else_if_map : ElseIfClauseOf A → ElseIfClauseOf B
  else_if_map c = record { expression = c.expression; body = body_map c.body }

  abbrev clause_map : SwitchClauseOf A → SwitchClauseOf B
  clause_map c = record { case_selectors = c.case_selectors; body = body_map c.body }

  block-map : (x : CompoundStatementOf A) → with_block g (body_map x) ≡ with_block both x
  block-map x = λ k. record { attributes = x.attributes; statements = kept (map-map (with_node g) node_map x.statements k) }

  else-ifs-map : (cs : List (ElseIfClauseOf A)) → map (with_else_if g) (map else_if_map cs) ≡ map (with_else_if both) cs
  else-ifs-map [] = refl
  else-ifs-map (c ∷ cs) = λ k. record { expression = c.expression; body = block-map c.body k } ∷ else-ifs-map cs k

  clauses-map : (cs : List (SwitchClauseOf A)) → map (with_clause g) (map clause_map cs) ≡ map (with_clause both) cs
  clauses-map [] = refl
  clauses-map (c ∷ cs) = λ k. record { case_selectors = c.case_selectors; body = block-map c.body k } ∷ clauses-map cs k

  abbrev Same : Statement-F A → Type 0
  Same x = layer g (map-Statement A B f x) ≡ layer both x

  abbrev if_of : IfStatementOf A → Option (ElseClauseOf A) → IfStatementOf A
  if_of x o = record { attributes = x.attributes; if_clause = x.if_clause; else_if_clauses = x.else_if_clauses; else_clause = o }

  if-map : (x : IfStatementOf A) (o : Option (ElseClauseOf A)) → Same (Statement-F.If (if_of x o))
  if-map x None = λ k. code.If (record {
    attributes = x.attributes;
    if_clause = record { expression = x.if_clause.expression; body = block-map x.if_clause.body k };
    else_if_clauses = else-ifs-map x.else_if_clauses k;
    else_clause = None;
  })
  if-map x (Some c) = λ k. code.If (record {
    attributes = x.attributes;
    if_clause = record { expression = x.if_clause.expression; body = block-map x.if_clause.body k };
    else_if_clauses = else-ifs-map x.else_if_clauses k;
    else_clause = Some (record { body = block-map c.body k });
  })

  abbrev loop_of : LoopStatementOf A → Option (ContinuingStatementOf A) → LoopStatementOf A
  loop_of x o = record { attributes = x.attributes; body = x.body; continuing = o }

  loop-map : (x : LoopStatementOf A) (o : Option (ContinuingStatementOf A)) → Same (Statement-F.Loop (loop_of x o))
  loop-map x None = λ k. code.Loop (record { attributes = x.attributes; body = block-map x.body k; continuing = None })
  loop-map x (Some c) = λ k. code.Loop (record {
    attributes = x.attributes;
    body = block-map x.body k;
    continuing = Some (record { attributes = c.attributes; body = block-map c.body k; break_if = c.break_if });
  })

  abbrev for_of : ForStatementOf A → Option (Spanned A) → Option (Spanned A) → ForStatementOf A
  for_of x i u = record { attributes = x.attributes; initializer = i; condition = x.condition; update = u; body = x.body }

  abbrev done : ForStatementOf A → Option (Spanned A) → Option (Spanned A) → CompoundStatementOf Statement → Statement
  done x i u b = code.For (record { attributes = x.attributes; initializer = with_part both i; condition = x.condition; update = with_part both u; body = b })

  for-map : (x : ForStatementOf A) (i u : Option (Spanned A)) → Same (Statement-F.For (for_of x i u))
  for-map x None None = ap (done x None None) (block-map x.body)
  for-map x None (Some u) = ap (done x None (Some u)) (block-map x.body)
  for-map x (Some i) None = ap (done x (Some i) None) (block-map x.body)
  for-map x (Some i) (Some u) = ap (done x (Some i) (Some u)) (block-map x.body)

  pub layer-map : (x : Statement-F A) → Same x
  layer-map Statement-F.Void = refl
  layer-map (Statement-F.Compound x) = ap code.Compound (block-map x)
  layer-map (Statement-F.Assignment x) = refl
  layer-map (Statement-F.Increment x) = refl
  layer-map (Statement-F.Decrement x) = refl
  layer-map (Statement-F.If x) = if-map x x.else_clause
  layer-map (Statement-F.Switch x) = λ k. code.Switch (record {
    attributes = x.attributes;
    expression = x.expression;
    body_attributes = x.body_attributes;
    clauses = clauses-map x.clauses k;
  })
  layer-map (Statement-F.Loop x) = loop-map x x.continuing
  layer-map (Statement-F.For x) = for-map x x.initializer x.update
  layer-map (Statement-F.While x) = λ k. code.While (record { attributes = x.attributes; condition = x.condition; body = block-map x.body k })
  layer-map (Statement-F.Break x) = refl
  layer-map (Statement-F.Continue x) = refl
  layer-map (Statement-F.Return x) = refl
  layer-map (Statement-F.Discard x) = refl
  layer-map (Statement-F.FunctionCall x) = refl
  layer-map (Statement-F.ConstAssert x) = refl
  layer-map (Statement-F.Declaration x) = refl
