use Rattle.std.proofs.Common.{sym, subst}
use Rattle.wgsl_grammar_tables.specs.Runs.{PassesBy, stays, goes_on}
use Rattle.wgsl_grammar_tables.proofs.shift_reduce.machine.settle.Goals as goal

pub returns-in_default-clause-passes : goal.returns-in_default-clause-passes
returns-in_default-clause-passes g c = c.loop-step.invariant c.loop-step.state stays

pub loop-step-preserved : goal.loop-step-preserved
loop-step-preserved g c =
    λ t more. c.loop-step.invariant t
    (goes_on c.in-Some.left c.in-Some-state_behind.to (subst (λ k. PassesBy g.D.Driver.grammar k c.args.part.now c.in-Some.left) c.action-action.ensures (c.in-Some.ensures c.args.part.now c.requires)) (sym c.in-Some-state_behind.ensures) more)
