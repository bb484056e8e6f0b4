use Rattle.std.proofs.Common.{rules, ◌∙◌, length-set}
use Rattle.std.specs.Option.{option_map}
use Rattle.wgsl_expressions.specs.View.{node_tree}
use Rattle.wgsl_expressions.specs.AttributesView.{attributes_tree}
use Rattle.wgsl_statements.specs.View.{statement_tree, block_tree}
use Rattle.wesl_cond.specs.Leaving.{statement_left, else_if_pair, switch_pair, pair_left}
use Rattle.wesl_cond.proofs.Changing.{changed_more, later_same}
use Rattle.wesl_cond.proofs.Clauses.{if_left}
use Rattle.wesl_cond.proofs.statements.settle.+settle.Goals as goal

pub settle_each-loop-i-preserved : goal.settle_each-loop-i-preserved
settle_each-loop-i-preserved t c = (
  changed_more (λ n. statement_tree n.node) (option_map (statement_left c.args.features.now)) c.args.nodes.now c.loop-i.nodes c.loop-i.i c.get_mut.result.now c.settle_node.new.node
      (search rules) c.loop-i.invariant.0 c.get_mut.ensures.value c.settle_node.ensures,
  length-set c.loop-i.nodes c.loop-i.i c.settle_node.new.node ∙ c.loop-i.invariant.1,
  later_same c.args.nodes.now c.loop-i.nodes c.loop-i.i c.settle_node.new.node c.loop-i.invariant.2,
)

pub settle_else_ifs-loop-i-preserved : goal.settle_else_ifs-loop-i-preserved
settle_else_ifs-loop-i-preserved t c = (
  changed_more else_if_pair (pair_left c.args.features.now) c.args.clauses.now c.loop-i.clauses c.loop-i.i c.get_mut.result.now c.settle_else_if.new.clause
      (search rules) c.loop-i.invariant.0 c.get_mut.ensures.value c.settle_else_if.ensures,
  length-set c.loop-i.clauses c.loop-i.i c.settle_else_if.new.clause ∙ c.loop-i.invariant.1,
  later_same c.args.clauses.now c.loop-i.clauses c.loop-i.i c.settle_else_if.new.clause c.loop-i.invariant.2,
)

pub settle_clauses-loop-i-preserved : goal.settle_clauses-loop-i-preserved
settle_clauses-loop-i-preserved t c = (
  changed_more switch_pair (pair_left c.args.features.now) c.args.clauses.now c.loop-i.clauses c.loop-i.i c.get_mut.result.now c.settle_clause.new.clause
      (search rules) c.loop-i.invariant.0 c.get_mut.ensures.value c.settle_clause.ensures,
  length-set c.loop-i.clauses c.loop-i.i c.settle_clause.new.clause ∙ c.loop-i.invariant.1,
  later_same c.args.clauses.now c.loop-i.clauses c.loop-i.i c.settle_clause.new.clause c.loop-i.invariant.2,
)

pub settle_if-returns : goal.settle_if-returns
settle_if-returns t c =
    if_left c.args.features.now (attributes_tree c.args.x.now.attributes) (node_tree c.args.x.now.if_clause.expression) (block_tree c.args.x.now.if_clause.body) (block_tree c.settle_block.new.block)
    c.args.x.now.else_if_clauses c.settle_else_ifs.new.clauses c.args.x.now.else_clause c.settle_else.new.clause
    c.settle_block.ensures c.settle_else_ifs.ensures c.settle_else.ensures
