-- What the productions of statements make of their parts. Where parts do not fit, it is nothing.
use Rattle.std.specs.Prelude.{List, [], ◌∷◌}
use Rattle.wgsl_path.specs.declared.span.Span.{Span}
use Rattle.wgsl_simple_statements.specs.declared.statement.CaseSelector.TheVariants as selectors
use Rattle.wgsl_statements.specs.declared.statement.Statement.{Statement}
use Rattle.wgsl_statements.specs.declared.statement.Statement.TheVariants as statement
use Rattle.wgsl_nodes.specs.Statements.{statement_with}
use Rattle.wgsl_semantic_values.specs.declared.part.Part.{Part}
use Rattle.wgsl_semantic_values.specs.declared.part.Part.TheVariants as part
use Rattle.wgsl_semantic_values.specs.declared.label.StatementLabel.{StatementLabel}
use Rattle.wgsl_semantic_values.specs.declared.label.StatementLabel.TheVariants as label
use Rattle.wgsl_semantic_values.specs.declared.label.ClauseLabel.{ClauseLabel}
use Rattle.wgsl_semantic_values.specs.declared.label.ClauseLabel.TheVariants as clause
use Rattle.wgsl_semantic_values.specs.Reading.{expression_in, attributes_of}
use Rattle.wgsl_reduce_actions.specs.Reading.{statement_in, else_in, continuing_in, break_if_in, statements_of, else_ifs_of}

-- ---- statements, at the extent of their phrase

abbrev pub statement_at : Span → Statement → Part
statement_at s x = part.Statement (record { node = x; span = s })

-- a statement whose place was not known
abbrev pub placed : Span → List Part → Part
placed s (part.Plain x ∷ []) = statement_at s x
placed s _ = part.Absent

-- and one behind these attributes
abbrev pub attributed : Span → List Part → Part
attributed s (attributes ∷ part.Plain x ∷ []) = statement_at s (statement_with x (attributes_of attributes))
attributed s _ = part.Absent

abbrev pub void_statement : Span → List Part → Part
void_statement s [] = statement_at s statement.Void
void_statement s _ = part.Absent

abbrev pub compound : Span → List Part → Part
compound s (part.Block block ∷ []) = statement_at s (statement.Compound block)
compound s _ = part.Absent

abbrev pub if_statement : Span → List Part → Part
if_statement s (attributes ∷ part.Expression x ∷ part.Block body ∷ else_ifs ∷ otherwise ∷ []) = statement_at s (statement.If (record {
  attributes = attributes_of attributes;
  if_clause = record { expression = x; body = body };
  else_if_clauses = else_ifs_of else_ifs;
  else_clause = else_in otherwise;
}))
if_statement s _ = part.Absent

-- the second attributes stand before the first brace
abbrev pub switch_statement : Span → List Part → Part
switch_statement s (outer ∷ part.Expression x ∷ inner ∷ part.Clauses clauses ∷ []) = statement_at s (statement.Switch (record {
  attributes = attributes_of outer;
  expression = x;
  body_attributes = attributes_of inner;
  clauses = clauses;
}))
switch_statement s _ = part.Absent

abbrev pub loop_statement : Span → List Part → Part
loop_statement s (outer ∷ inner ∷ statements ∷ continuing ∷ []) = statement_at s (statement.Loop (record {
  attributes = attributes_of outer;
  body = record { attributes = attributes_of inner; statements = statements_of statements };
  continuing = continuing_in continuing;
}))
loop_statement s _ = part.Absent

abbrev pub for_statement : Span → List Part → Part
for_statement s (attributes ∷ initializer ∷ condition ∷ update ∷ part.Block body ∷ []) = statement_at s (statement.For (record {
  attributes = attributes_of attributes;
  initializer = statement_in initializer;
  condition = expression_in condition;
  update = statement_in update;
  body = body;
}))
for_statement s _ = part.Absent

abbrev pub while_statement : Span → List Part → Part
while_statement s (attributes ∷ part.Expression x ∷ part.Block body ∷ []) = statement_at s (statement.While (record {
  attributes = attributes_of attributes;
  condition = x;
  body = body;
}))
while_statement s _ = part.Absent

abbrev pub make_statement : StatementLabel → Span → List Part → Part
make_statement label.Header s parts = placed s parts
make_statement label.VoidStatement s parts = void_statement s parts
make_statement label.PlainStatement s parts = attributed s parts
make_statement label.Compound s parts = compound s parts
make_statement label.If s parts = if_statement s parts
make_statement label.Switch s parts = switch_statement s parts
make_statement label.Loop s parts = loop_statement s parts
make_statement label.For s parts = for_statement s parts
make_statement label.While s parts = while_statement s parts

-- ---- what statements consist of

abbrev pub braces : List Part → Part
braces (attributes ∷ statements ∷ []) = part.Block (record { attributes = attributes_of attributes; statements = statements_of statements })
braces _ = part.Absent

abbrev pub else_if : List Part → Part
else_if (part.Expression x ∷ part.Block body ∷ []) = part.ElseIf (record { expression = x; body = body })
else_if _ = part.Absent

abbrev pub default_selector : List Part → Part
default_selector [] = part.Selector selectors.Default
default_selector _ = part.Absent

abbrev pub selector : List Part → Part
selector (part.Expression x ∷ []) = part.Selector (selectors.Expression x)
selector _ = part.Absent

abbrev pub case_clause : List Part → Part
case_clause (part.Selectors xs ∷ part.Block body ∷ []) = part.Clause (record { case_selectors = xs; body = body })
case_clause _ = part.Absent

-- its one selector is `default`
abbrev pub default_clause : List Part → Part
default_clause (part.Block body ∷ []) = part.Clause (record { case_selectors = selectors.Default ∷ []; body = body })
default_clause _ = part.Absent

-- the attributes stand before the first brace
abbrev pub continuing_block : List Part → Part
continuing_block (attributes ∷ statements ∷ break_if ∷ []) = part.Continuing (record {
  attributes = [];
  body = record { attributes = attributes_of attributes; statements = statements_of statements };
  break_if = break_if_in break_if;
})
continuing_block _ = part.Absent

abbrev pub break_where : List Part → Part
break_where (part.Expression x ∷ []) = part.BreakIf (record { attributes = []; expression = x })
break_where _ = part.Absent

abbrev pub make_clause : ClauseLabel → List Part → Part
make_clause clause.Block parts = braces parts
make_clause clause.ElseIf parts = else_if parts
make_clause clause.DefaultSelector parts = default_selector parts
make_clause clause.Selector parts = selector parts
make_clause clause.Case parts = case_clause parts
make_clause clause.Default parts = default_clause parts
make_clause clause.Continuing parts = continuing_block parts
make_clause clause.BreakIf parts = break_where parts
