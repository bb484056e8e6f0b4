use Rattle.std.proofs.Common.{◌≡◌, rules, Err}
use Rattle.wesl_visit_expressions.specs.Expressions.{inside_by, around_by}
use Rattle.wesl_visit_children.proofs.Deep.{changed_both, changed_refusal_first}
use Rattle.std.specs.Fn.{CalledAtMut}
use Rattle.wesl_visit_expressions.proofs.expressions.change.change_sizes.Goals as goal

pub returns-in_err-change_node-clause-changed : goal.returns-in_err-change_node-clause-changed
returns-in_err-change_node-clause-changed g c =
    let same : c.from_residual.result ≡ Err c.in_err-change_node.field-0.0 = search rules in
    rw same (changed_refusal_first (inside_by c.args.deep) (around_by c.args.deep) (CalledAtMut g.F.FnMut) _ c.in_err-change_node.ensures.changed)

pub returns-in_err-change_option-clause-changed : goal.returns-in_err-change_option-clause-changed
returns-in_err-change_option-clause-changed g c =
    let same : c.from_residual-in_err-change_option.result ≡ Err c.in_err-change_option.field-0.0 = search rules in
    rw same (changed_both (inside_by c.args.deep) (around_by c.args.deep) (CalledAtMut g.F.FnMut) c.in_ok-change_node.ensures.changed (changed_refusal_first (inside_by c.args.deep) (around_by c.args.deep) (CalledAtMut g.F.FnMut) _ c.in_err-change_option.ensures.changed))

pub returns-clause-changed : goal.returns-clause-changed
returns-clause-changed g c = changed_both (inside_by c.args.deep) (around_by c.args.deep) (CalledAtMut g.F.FnMut) c.in_ok-change_node.ensures.changed (changed_both (inside_by c.args.deep) (around_by c.args.deep) (CalledAtMut g.F.FnMut) c.in_ok-change_option.ensures.changed (c.change_option-2.ensures.changed))
