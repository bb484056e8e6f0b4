-- What features leave inside statements.
use Rattle.std.specs.Prelude.{List, map}
use Rattle.wgsl_expressions.specs.Tree.{Exp}
use Rattle.wgsl_expressions.specs.View.{node_tree}
use Rattle.wgsl_simple_statements.specs.Tree.{Selector}
use Rattle.wgsl_simple_statements.specs.View.{selector_tree}
use Rattle.wgsl_statements.specs.declared.statement.Statement.{Statement}
use Rattle.wgsl_statements.specs.declared.statement.ElseIfClauseOf.{ElseIfClauseOf}
use Rattle.wgsl_statements.specs.declared.statement.ElseClauseOf.{ElseClauseOf}
use Rattle.wgsl_statements.specs.declared.statement.SwitchClauseOf.{SwitchClauseOf}
use Rattle.wgsl_statements.specs.Tree.{Stm, Block, Elses, Clauses, Continuing, Part}
use Rattle.wgsl_statements.specs.View.{block_tree}
use Rattle.wesl_conditions.specs.declared.features.feature.Features.{Features}
use Rattle.wesl_conditions.specs.Chains.{left}
use Rattle.wesl_conditions.specs.Trees.{in_statement, in_block, in_elses, in_clauses, in_continuing, in_part}

abbrev pub statement_left : Features → Stm → Stm
statement_left features = in_statement (λ T has items. left features has items)

abbrev pub block_left : Features → Block → Block
block_left features = in_block (λ T has items. left features has items)

abbrev pub elses_left : Features → Elses → Elses
elses_left features = in_elses (λ T has items. left features has items)

abbrev pub clauses_left : Features → Clauses → Clauses
clauses_left features = in_clauses (λ T has items. left features has items)

abbrev pub continuing_left : Features → Continuing → Continuing
continuing_left features = in_continuing (λ T has items. left features has items)

abbrev pub part_left : Features → Part → Part
part_left features = in_part (λ T has items. left features has items)

-- ---- clauses as pairs

abbrev pub else_if_pair : ElseIfClauseOf Statement → Exp × Block
else_if_pair c = (node_tree c.expression, block_tree c.body)

abbrev pub else_block : ElseClauseOf Statement → Block
else_block c = block_tree c.body

abbrev pub switch_pair : SwitchClauseOf Statement → List Selector × Block
switch_pair c = (map selector_tree c.case_selectors, block_tree c.body)

abbrev pub pair_left : Features → {A : Type 0} → A × Block → A × Block
pair_left features p = (p.0, block_left features p.1)
