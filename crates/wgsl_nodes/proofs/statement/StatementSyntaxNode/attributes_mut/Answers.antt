use Rattle.std.proofs.Common.{rules}
use Rattle.wgsl_nodes.proofs.Statements.{own_of_if, with_of_if, with_of_switch, own_of_loop, with_of_loop, with_of_for, own_of_call, with_of_call, with_of_value}
use Rattle.wgsl_nodes.proofs.statement.StatementSyntaxNode.attributes_mut.Goals as goal

pub returns-in-If : goal.returns-in-If
returns-in-If c = (rw c.in-If.is (search (rules, with_of_if) depth 12 fits 20000), record { writes_back = tt; value = rw c.in-If.is (search (rules, own_of_if) depth 12 fits 20000) })

pub returns-in-Switch : goal.returns-in-Switch
returns-in-Switch c = (rw c.in-Switch.is (search (rules, with_of_switch) depth 12 fits 20000), record { writes_back = tt; value = search rules depth 12 fits 20000 })

pub returns-in-Loop : goal.returns-in-Loop
returns-in-Loop c = (rw c.in-Loop.is (search (rules, with_of_loop) depth 12 fits 20000), record { writes_back = tt; value = rw c.in-Loop.is (search (rules, own_of_loop) depth 12 fits 20000) })

pub returns-in-For : goal.returns-in-For
returns-in-For c = (rw c.in-For.is (search (rules, with_of_for) depth 12 fits 20000), record { writes_back = tt; value = search rules depth 12 fits 20000 })

pub returns-in-While : goal.returns-in-While
returns-in-While c = search rules depth 12 fits 20000

pub returns-in-Break : goal.returns-in-Break
returns-in-Break c = search rules depth 12 fits 20000

pub returns-in-Continue : goal.returns-in-Continue
returns-in-Continue c = search rules depth 12 fits 20000

pub returns-in-Return : goal.returns-in-Return
returns-in-Return c = search rules depth 12 fits 20000

pub returns-in-Discard : goal.returns-in-Discard
returns-in-Discard c = search rules depth 12 fits 20000

pub returns-in-FunctionCall : goal.returns-in-FunctionCall
returns-in-FunctionCall c = rw c.in-FunctionCall.is (search (rules, with_of_call, own_of_call) depth 12 fits 20000)

pub returns-in-ConstAssert : goal.returns-in-ConstAssert
returns-in-ConstAssert c = search rules depth 12 fits 20000

pub returns-in-Declaration : goal.returns-in-Declaration
returns-in-Declaration c = (rw c.in-Declaration.is (search (rules, with_of_value) depth 12 fits 20000), record { writes_back = tt; value = search rules depth 12 fits 20000 })
