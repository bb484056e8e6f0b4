-- Statements that hold others.
use Rattle.std.proofs.Common.{rules, arith, refl, ap}
use Rattle.std.proofs.lemmas.Grind.{common_steps}
use Rattle.wgsl_statements.specs.declared.statement.Statement.TheVariants as stated
use Rattle.wgsl_statements.specs.View.{statement_tree, block_tree, if_layer, switch_layer, loop_layer, for_layer, while_layer}
use Rattle.wgsl_statements.proofs.Trees as statements
use Rattle.wesl_mark.specs.Lists.{flats}
use Rattle.wesl_marks.specs.Laid.{in_block, in_stm, in_optional_stm}
use Rattle.wesl_marks.proofs.Steps.{if_ok, of_layer, in_first, grown, always}
use Rattle.wesl_marks.proofs.statements.+statements.Goals as goal

pub mark_statement-returns-in-Compound-clause-flats : goal.mark_statement-returns-in-Compound-clause-flats
mark_statement-returns-in-Compound-clause-flats t c = if_ok c.mark_block.result (of_layer stated.Compound (λ x. in_block (block_tree x)) (λ x. ap in_optional_stm (statements.tree_of_compound x)) (flats c.args.list.now) (flats c.mark_block.new.list) c.args.statement.now c.in-Compound.x c.in-Compound.x c.in-Compound.is refl) c.mark_block.ensures.flats

pub mark_statement-returns-in-If-clause-flats : goal.mark_statement-returns-in-If-clause-flats
mark_statement-returns-in-If-clause-flats t c = if_ok c.mark_if.result (of_layer stated.If (λ x. in_stm (if_layer statement_tree x)) (λ x. ap in_optional_stm (statements.tree_of_if x)) (flats c.args.list.now) (flats c.mark_if.new.list) c.args.statement.now c.in-If.x c.get.result.now c.in-If.is c.get.ensures) c.mark_if.ensures.flats

pub mark_statement-returns-in-Switch-clause-flats : goal.mark_statement-returns-in-Switch-clause-flats
mark_statement-returns-in-Switch-clause-flats t c = if_ok c.mark_switch.result (of_layer stated.Switch (λ x. in_stm (switch_layer statement_tree x)) (λ x. ap in_optional_stm (statements.tree_of_switch x)) (flats c.args.list.now) (flats c.mark_switch.new.list) c.args.statement.now c.in-Switch.x c.get-in-Switch.result.now c.in-Switch.is c.get-in-Switch.ensures) c.mark_switch.ensures.flats

pub mark_statement-returns-in-Loop-clause-flats : goal.mark_statement-returns-in-Loop-clause-flats
mark_statement-returns-in-Loop-clause-flats t c = if_ok c.mark_loop.result (of_layer stated.Loop (λ x. in_stm (loop_layer statement_tree x)) (λ x. ap in_optional_stm (statements.tree_of_loop x)) (flats c.args.list.now) (flats c.mark_loop.new.list) c.args.statement.now c.in-Loop.x c.get-in-Loop.result.now c.in-Loop.is c.get-in-Loop.ensures) c.mark_loop.ensures.flats

pub mark_statement-returns-in-For-clause-flats : goal.mark_statement-returns-in-For-clause-flats
mark_statement-returns-in-For-clause-flats t c = if_ok c.mark_for.result (of_layer stated.For (λ x. in_stm (for_layer statement_tree x)) (λ x. ap in_optional_stm (statements.tree_of_for x)) (flats c.args.list.now) (flats c.mark_for.new.list) c.args.statement.now c.in-For.x c.get-in-For.result.now c.in-For.is c.get-in-For.ensures) c.mark_for.ensures.flats

pub mark_statement-returns-in-While-clause-flats : goal.mark_statement-returns-in-While-clause-flats
mark_statement-returns-in-While-clause-flats t c = if_ok c.mark_while.result (of_layer stated.While (λ x. in_stm (while_layer statement_tree x)) (λ x. ap in_optional_stm (statements.tree_of_while x)) (flats c.args.list.now) (flats c.mark_while.new.list) c.args.statement.now c.in-While.x c.get-in-While.result.now c.in-While.is c.get-in-While.ensures) c.mark_while.ensures.flats

pub mark_statements-loop-statement-preserved : goal.mark_statements-loop-statement-preserved
mark_statements-loop-statement-preserved t c = (first_of (search rules, grind (arith, common_steps), grind (arith, in_first)), λ first h. c.in_ok-mark_statement.ensures.grows first (c.loop-statement.invariant.1 first h))

pub mark_block-returns-clause-grows : goal.mark_block-returns-clause-grows
mark_block-returns-clause-grows t c = grown c.leave.result _ _ _ (λ first h. c.in_ok-mark_statements.ensures.grows first (c.in_ok-enter.ensures.grows first (c.in_ok-mark_attributes.ensures.grows first h))) (always c.leave.result c.leave.ensures.grows)

pub mark_if-loop-clause-preserved : goal.mark_if-loop-clause-preserved
mark_if-loop-clause-preserved t c = (first_of (search rules, grind (arith, common_steps)), λ first h. c.in_ok-mark_block-2.ensures.grows first (c.in_ok-mark_expression.ensures.grows first (c.loop-clause.invariant.1 first h)))

pub mark_if-returns-in-None-clause-grows : goal.mark_if-returns-in-None-clause-grows
mark_if-returns-in-None-clause-grows t c first h = c.loop-clause.invariant.1 first (c.in_ok-mark_block.ensures.grows first (c.in_ok-mark_marked.ensures.grows first h))

pub mark_if-returns-in-Some-clause-grows : goal.mark_if-returns-in-Some-clause-grows
mark_if-returns-in-Some-clause-grows t c = grown c.mark_block-in-Some.result _ _ _ (λ first h. c.loop-clause.invariant.1 first (c.in_ok-mark_block.ensures.grows first (c.in_ok-mark_marked.ensures.grows first h))) c.mark_block-in-Some.ensures.grows

pub mark_switch-loop-clause-preserved : goal.mark_switch-loop-clause-preserved
mark_switch-loop-clause-preserved t c = (first_of (search rules, grind (arith, common_steps)), λ first h. c.in_ok-mark_block.ensures.grows first (c.in_ok-mark_selectors.ensures.grows first (c.loop-clause.invariant.1 first h)))

pub mark_switch-returns-clause-grows : goal.mark_switch-returns-clause-grows
mark_switch-returns-clause-grows t c first h = c.loop-clause.invariant.1 first (c.in_ok-mark_attributes.ensures.grows first (c.in_ok-mark_marked.ensures.grows first h))

pub mark_loop-returns-clause-grows : goal.mark_loop-returns-clause-grows
mark_loop-returns-clause-grows t c = grown c.leave.result _ _ _ (λ first h. c.in_ok-mark_continuing.ensures.grows first (c.in_ok-mark_statements.ensures.grows first (c.in_ok-enter.ensures.grows first (c.in_ok-mark_attributes-2.ensures.grows first (c.in_ok-mark_attributes.ensures.grows first h))))) (always c.leave.result c.leave.ensures.grows)

pub mark_continuing-returns-in_ok-mark_break_if-in-Some-clause-grows : goal.mark_continuing-returns-in_ok-mark_break_if-in-Some-clause-grows
mark_continuing-returns-in_ok-mark_break_if-in-Some-clause-grows t c = grown c.leave.result _ _ _ (λ first h. c.in_ok-mark_break_if-in-Some.ensures.grows first (c.in_ok-mark_statements-in-Some.ensures.grows first (c.in_ok-enter-in-Some.ensures.grows first (c.in_ok-mark_attributes-in-Some-2.ensures.grows first (c.in_ok-mark_attributes-in-Some.ensures.grows first h))))) (always c.leave.result c.leave.ensures.grows)

pub mark_for-returns-clause-grows : goal.mark_for-returns-clause-grows
mark_for-returns-clause-grows t c = grown c.leave.result _ _ _ (λ first h. c.in_ok-mark_statements.ensures.grows first (c.in_ok-mark_attributes-2.ensures.grows first (c.in_ok-mark_header.ensures.grows first (c.in_ok-enter.ensures.grows first (c.in_ok-mark_attributes.ensures.grows first h))))) (always c.leave.result c.leave.ensures.grows)

pub mark_header-returns-clause-grows : goal.mark_header-returns-clause-grows
mark_header-returns-clause-grows t c = grown c.mark_part-2.result _ _ _ (λ first h. c.in_ok-mark_optional.ensures.grows first (c.in_ok-mark_part.ensures.grows first h)) c.mark_part-2.ensures.grows

pub mark_while-returns-clause-grows : goal.mark_while-returns-clause-grows
mark_while-returns-clause-grows t c = grown c.mark_block.result _ _ _ (λ first h. c.in_ok-mark_marked.ensures.grows first h) c.mark_block.ensures.grows
