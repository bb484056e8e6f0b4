use Rattle.std.proofs.Common.{rules, refl, ◌≡◌, ◌∙◌, Err, length-set}
use Rattle.std.specs.Fn.{CalledAtMut}
use Rattle.wesl_visit_children.specs.Turns.{remade_none}
use Rattle.wesl_visit.specs.Statements.{in_declaration_node, around_declaration_node, inside_by, around_by}
use Rattle.wesl_visit_children.proofs.Lists.{map_stays, later_same}
use Rattle.wesl_visit_children.proofs.DeepLoops.{changed_more, changed_refusal_at}
use Rattle.wesl_visit.proofs.change.change_declarations.Goals as goal

pub loop-i-init : goal.loop-i-init
loop-i-init g c = (search rules, remade_none, refl, refl, λ k d le. refl)

pub loop-i-preserved : goal.loop-i-preserved
loop-i-preserved g c = (
  c.in_ok-change_declaration_node.ensures.callable,
  changed_more (inside_by c.args.deep) (around_by c.args.deep) (CalledAtMut g.F.FnMut) in_declaration_node c.args.f.now c.loop-i.f c.change_declaration_node.new.f c.args.declarations.now c.loop-i.declarations c.loop-i.i c.get_mut.result.now c.change_declaration_node.new.declaration (search rules) c.loop-i.invariant.3 c.get_mut.ensures.value c.loop-i.invariant.4 c.loop-i.invariant.1 c.in_ok-change_declaration_node.ensures.changed,
  map_stays around_declaration_node c.loop-i.declarations c.loop-i.i c.get_mut.result.now c.change_declaration_node.new.declaration (search rules) c.get_mut.ensures.value c.in_ok-change_declaration_node.ensures.rest ∙ c.loop-i.invariant.2,
  length-set c.loop-i.declarations c.loop-i.i c.change_declaration_node.new.declaration ∙ c.loop-i.invariant.3,
  later_same c.args.declarations.now c.loop-i.declarations c.loop-i.i c.change_declaration_node.new.declaration c.loop-i.invariant.4,
)

pub returns-in_err-change_declaration_node-clause-changed : goal.returns-in_err-change_declaration_node-clause-changed
returns-in_err-change_declaration_node-clause-changed g c =
    let same : c.from_residual.result ≡ Err c.in_err-change_declaration_node.field-0.0 = search rules in
    rw same (changed_refusal_at (inside_by c.args.deep) (around_by c.args.deep) (CalledAtMut g.F.FnMut) in_declaration_node c.args.f.now c.loop-i.f c.change_declaration_node.new.f c.in_err-change_declaration_node.field-0.0 c.args.declarations.now c.loop-i.declarations c.loop-i.i c.get_mut.result.now c.change_declaration_node.new.declaration (search rules) c.loop-i.invariant.3 c.get_mut.ensures.value c.loop-i.invariant.4 c.loop-i.invariant.1 c.in_err-change_declaration_node.ensures.changed)

pub returns-in_err-change_declaration_node-clause-rest : goal.returns-in_err-change_declaration_node-clause-rest
returns-in_err-change_declaration_node-clause-rest g c = map_stays around_declaration_node c.loop-i.declarations c.loop-i.i c.get_mut.result.now c.change_declaration_node.new.declaration (search rules) c.get_mut.ensures.value c.in_err-change_declaration_node.ensures.rest ∙ c.loop-i.invariant.2
