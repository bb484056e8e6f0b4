-- What a statement's parts have, behind a map of these parts.
use Rattle.std.proofs.Common.{◌≡◌, refl, ap, List, [], ◌∷◌, ◌++◌, map, Option, Some, None}
use Rattle.std.specs.List.{flat_map}
use Rattle.std.specs.Option.{option_map}
use Rattle.wgsl_path.specs.declared.span.Spanned.{Spanned}
use Rattle.wgsl_expressions.specs.declared.expression.Expression.{Expression}
use Rattle.wgsl_statements.specs.declared.statement.CompoundStatementOf.{CompoundStatementOf}
use Rattle.wgsl_statements.specs.declared.statement.IfStatementOf.{IfStatementOf}
use Rattle.wgsl_statements.specs.declared.statement.ElseIfClauseOf.{ElseIfClauseOf}
use Rattle.wgsl_statements.specs.declared.statement.ElseClauseOf.{ElseClauseOf}
use Rattle.wgsl_statements.specs.declared.statement.SwitchClauseOf.{SwitchClauseOf}
use Rattle.wgsl_statements.specs.declared.statement.LoopStatementOf.{LoopStatementOf}
use Rattle.wgsl_statements.specs.declared.statement.ContinuingStatementOf.{ContinuingStatementOf}
use Rattle.wgsl_statements.specs.declared.statement.ForStatementOf.{ForStatementOf}
use Rattle.wgsl_statements.specs.declared.statement.Statement.{Statement, map-Statement}
use Rattle.wgsl_statements.specs.declared.statement.Statement.TheOpen.{Statement-F}
use Rattle.wgsl_statements.specs.declared.statement.Statement.TheVariants as code
use Rattle.wesl_visit_children.specs.Parts.{Part, an_expression, in_attributes, in_option, in_marked, in_break_if, in_selector, in_node, in_block, in_else_if, in_clause, in_layer}
use Rattle.wesl_visit_children.specs.Rest.{Rest, around_attributes, around_break_if, around_selector, around_statement_node, around_block, around_else_if, around_clause, around_layer}

map-map : {A B C : Type 0} (f : B → C) (h : A → B) (xs : List A) → map f (map h xs) ≡ map (λ x. f (h x)) xs
map-map f h [] = refl
map-map f h (x ∷ xs) = ap (λ t. f (h x) ∷ t) (map-map f h xs)

module _ {A B : Type 0} (f : A → B) where
  abbrev node_map : Spanned A → Spanned B
  node_map n = record { node = f n.node; span = n.span }

  abbrev body_map : CompoundStatementOf A → CompoundStatementOf B
  body_map x = record { attributes = x.attributes; statements = map node_map x.statements }

  abbrev else_if_map : ElseIfClauseOf A → ElseIfClauseOf B
  else_if_map c = record { expression = c.expression; body = body_map c.body }

  abbrev clause_map : SwitchClauseOf A → SwitchClauseOf B
  clause_map c = record { case_selectors = c.case_selectors; body = body_map c.body }

module _ {A : Type 0} where
  abbrev if_of : IfStatementOf A → Option (ElseClauseOf A) → IfStatementOf A
  if_of x o = record { attributes = x.attributes; if_clause = x.if_clause; else_if_clauses = x.else_if_clauses; else_clause = o }

  abbrev loop_of : LoopStatementOf A → Option (ContinuingStatementOf A) → LoopStatementOf A
  loop_of x o = record { attributes = x.attributes; body = x.body; continuing = o }

  abbrev for_of : ForStatementOf A → Option (Spanned A) → Option (Spanned A) → ForStatementOf A
  for_of x i u = record { attributes = x.attributes; initializer = i; condition = x.condition; update = u; body = x.body }

module _ {A : Type 0} (f : A → List Part) where
  abbrev itself : List Part → List Part
  itself x = x

  nodes-in : (ns : List (Spanned A)) → flat_map (in_node itself) (map (node_map f) ns) ≡ flat_map (in_node f) ns
  nodes-in [] = refl
  nodes-in (n ∷ ns) = ap (λ t. f n.node ++ t) (nodes-in ns)

  block-in : (x : CompoundStatementOf A) → in_block itself (body_map f x) ≡ in_block f x
  block-in x = ap (λ t. in_attributes x.attributes ++ t) (nodes-in x.statements)

  else-ifs-in : (cs : List (ElseIfClauseOf A)) → flat_map (in_else_if itself) (map (else_if_map f) cs) ≡ flat_map (in_else_if f) cs
  else-ifs-in [] = refl
  else-ifs-in (c ∷ cs) = λ k. (an_expression c.expression ∷ block-in c.body k) ++ else-ifs-in cs k

  clauses-in : (cs : List (SwitchClauseOf A)) → flat_map (in_clause itself) (map (clause_map f) cs) ≡ flat_map (in_clause f) cs
  clauses-in [] = refl
  clauses-in (c ∷ cs) = λ k. (flat_map in_selector c.case_selectors ++ block-in c.body k) ++ clauses-in cs k

  abbrev Same : Statement-F A → Type 0
  Same x = in_layer itself (map-Statement A (List Part) f x) ≡ in_layer f x

  if-in : (x : IfStatementOf A) (o : Option (ElseClauseOf A)) → Same (Statement-F.If (if_of x o))
  if-in x None = λ k. in_marked x.attributes x.if_clause.expression ++ (block-in x.if_clause.body k ++ (else-ifs-in x.else_if_clauses k ++ []))
  if-in x (Some c) = λ k. in_marked x.attributes x.if_clause.expression ++ (block-in x.if_clause.body k ++ (else-ifs-in x.else_if_clauses k ++ block-in c.body k))

  loop-in : (x : LoopStatementOf A) (o : Option (ContinuingStatementOf A)) → Same (Statement-F.Loop (loop_of x o))
  loop-in x None = λ k. in_attributes x.attributes ++ (block-in x.body k ++ [])
  loop-in x (Some c) = λ k. in_attributes x.attributes ++ (block-in x.body k ++ (in_attributes c.attributes ++ (block-in c.body k ++ in_break_if c.break_if)))

  for-in : (x : ForStatementOf A) (i u : Option (Spanned A)) → Same (Statement-F.For (for_of x i u))
  for-in x None None = λ k. in_attributes x.attributes ++ ([] ++ (in_option x.condition ++ ([] ++ block-in x.body k)))
  for-in x None (Some u) = λ k. in_attributes x.attributes ++ ([] ++ (in_option x.condition ++ (f u.node ++ block-in x.body k)))
  for-in x (Some i) None = λ k. in_attributes x.attributes ++ (f i.node ++ (in_option x.condition ++ ([] ++ block-in x.body k)))
  for-in x (Some i) (Some u) = λ k. in_attributes x.attributes ++ (f i.node ++ (in_option x.condition ++ (f u.node ++ block-in x.body k)))

  pub layer-in : (x : Statement-F A) → Same x
  layer-in Statement-F.Void = refl
  layer-in (Statement-F.Compound x) = block-in x
  layer-in (Statement-F.Assignment x) = refl
  layer-in (Statement-F.Increment x) = refl
  layer-in (Statement-F.Decrement x) = refl
  layer-in (Statement-F.If x) = if-in x x.else_clause
  layer-in (Statement-F.Switch x) = λ k. in_marked x.attributes x.expression ++ (in_attributes x.body_attributes ++ clauses-in x.clauses k)
  layer-in (Statement-F.Loop x) = loop-in x x.continuing
  layer-in (Statement-F.For x) = for-in x x.initializer x.update
  layer-in (Statement-F.While x) = λ k. in_marked x.attributes x.condition ++ block-in x.body k
  layer-in (Statement-F.Break x) = refl
  layer-in (Statement-F.Continue x) = refl
  layer-in (Statement-F.Return x) = refl
  layer-in (Statement-F.Discard x) = refl
  layer-in (Statement-F.FunctionCall x) = refl
  layer-in (Statement-F.ConstAssert x) = refl
  layer-in (Statement-F.Declaration x) = refl

module _ (k : Rest) {A : Type 0} (f : A → Statement) where
  abbrev as_is : Statement → Statement
  as_is x = x

  block-around : (x : CompoundStatementOf A) → around_block k as_is (body_map f x) ≡ around_block k f x
  block-around x = λ i. record { attributes = around_attributes k x.attributes; statements = map-map (around_statement_node k as_is) (node_map f) x.statements i }

  else-ifs-around : (cs : List (ElseIfClauseOf A)) → map (around_else_if k as_is) (map (else_if_map f) cs) ≡ map (around_else_if k f) cs
  else-ifs-around [] = refl
  else-ifs-around (c ∷ cs) = λ i. record { expression = k.expression c.expression; body = block-around c.body i } ∷ else-ifs-around cs i

  clauses-around : (cs : List (SwitchClauseOf A)) → map (around_clause k as_is) (map (clause_map f) cs) ≡ map (around_clause k f) cs
  clauses-around [] = refl
  clauses-around (c ∷ cs) = λ i. record { case_selectors = map (around_selector k) c.case_selectors; body = block-around c.body i } ∷ clauses-around cs i

  abbrev SameAround : Statement-F A → Type 0
  SameAround x = around_layer k as_is (map-Statement A Statement f x) ≡ around_layer k f x

  if-around : (x : IfStatementOf A) (o : Option (ElseClauseOf A)) → SameAround (Statement-F.If (if_of x o))
  if-around x None = λ i.
      code.If (record { attributes = around_attributes k x.attributes; if_clause = record { expression = k.expression x.if_clause.expression; body = block-around x.if_clause.body i }; else_if_clauses = else-ifs-around x.else_if_clauses i; else_clause = None })
  if-around x (Some c) = λ i.
      code.If (record { attributes = around_attributes k x.attributes; if_clause = record { expression = k.expression x.if_clause.expression; body = block-around x.if_clause.body i }; else_if_clauses = else-ifs-around x.else_if_clauses i; else_clause = Some (record { body = block-around c.body i }) })

  loop-around : (x : LoopStatementOf A) (o : Option (ContinuingStatementOf A)) → SameAround (Statement-F.Loop (loop_of x o))
  loop-around x None = λ i. code.Loop (record { attributes = around_attributes k x.attributes; body = block-around x.body i; continuing = None })
  loop-around x (Some c) = λ i.
      code.Loop (record { attributes = around_attributes k x.attributes; body = block-around x.body i; continuing = Some (record { attributes = around_attributes k c.attributes; body = block-around c.body i; break_if = option_map (around_break_if k) c.break_if }) })

  abbrev for_from : ForStatementOf A → Option (Spanned Statement) → Option (Spanned Statement) → CompoundStatementOf Statement → Statement
  for_from x i u b = code.For (record { attributes = around_attributes k x.attributes; initializer = i; condition = option_map k.expression x.condition; update = u; body = b })

  for-around : (x : ForStatementOf A) (i u : Option (Spanned A)) → SameAround (Statement-F.For (for_of x i u))
  for-around x None None = ap (for_from x None None) (block-around x.body)
  for-around x None (Some u) = ap (for_from x None (Some (around_statement_node k f u))) (block-around x.body)
  for-around x (Some i) None = ap (for_from x (Some (around_statement_node k f i)) None) (block-around x.body)
  for-around x (Some i) (Some u) = ap (for_from x (Some (around_statement_node k f i)) (Some (around_statement_node k f u))) (block-around x.body)

  pub layer-around : (x : Statement-F A) → SameAround x
  layer-around Statement-F.Void = refl
  layer-around (Statement-F.Compound x) = ap code.Compound (block-around x)
  layer-around (Statement-F.Assignment x) = refl
  layer-around (Statement-F.Increment x) = refl
  layer-around (Statement-F.Decrement x) = refl
  layer-around (Statement-F.If x) = if-around x x.else_clause
  layer-around (Statement-F.Switch x) = λ i. code.Switch (record { attributes = around_attributes k x.attributes; expression = k.expression x.expression; body_attributes = around_attributes k x.body_attributes; clauses = clauses-around x.clauses i })
  layer-around (Statement-F.Loop x) = loop-around x x.continuing
  layer-around (Statement-F.For x) = for-around x x.initializer x.update
  layer-around (Statement-F.While x) = λ i. code.While (record { attributes = around_attributes k x.attributes; condition = k.expression x.condition; body = block-around x.body i })
  layer-around (Statement-F.Break x) = refl
  layer-around (Statement-F.Continue x) = refl
  layer-around (Statement-F.Return x) = refl
  layer-around (Statement-F.Discard x) = refl
  layer-around (Statement-F.FunctionCall x) = refl
  layer-around (Statement-F.ConstAssert x) = refl
  layer-around (Statement-F.Declaration x) = refl
