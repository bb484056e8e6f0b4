use Rattle.std.proofs.Common.{◌≡◌, sym, ap, ◌∙◌, map, rules, of_calls, refl, Err, length-set}
use Rattle.wesl_visit_expressions.specs.Types.{types_in, around_types, in_node, in_argument, in_brackets, around_node, around_argument, inside_by, around_by}
use Rattle.wesl_visit_children.specs.Turns.{remade_none, remade_refusal_inside}
use Rattle.wesl_visit_children.proofs.Deep.{changed_both, changed_refusal_first, changed_node, changed_as}
use Rattle.wesl_visit_children.proofs.Lists.{map_stays, later_same}
use Rattle.wesl_visit_children.proofs.DeepLoops.{changed_more, changed_refusal_at}
use Rattle.wesl_visit_expressions.proofs.Visits.{nothing_inside, arguments_stay}
use Rattle.wesl_visit_expressions.proofs.TypesCases.{inner, in_of_parenthesized, in_of_component, in_of_unary, in_of_indexing, in_of_binary, around_of_parenthesized, around_of_component, around_of_unary, around_of_indexing, around_of_binary, in_of_call, around_of_call, in_of_named, around_of_named}
use Rattle.wgsl_expressions.specs.declared.expression.Expression.TheVariants as code
use Rattle.std.specs.Fn.{CalledAtMut}
use Rattle.std.specs.List.{flat_map}
use Rattle.wesl_visit_expressions.proofs.types.change.+change.Goals as goal

pub change_expression-returns-in-Literal-clause-changed : goal.change_expression-returns-in-Literal-clause-changed
change_expression-returns-in-Literal-clause-changed g t c = search (rules, inner, remade_none)

pub change_type-returns-in_err-change_inside-clause-changed : goal.change_type-returns-in_err-change_inside-clause-changed
change_type-returns-in_err-change_inside-clause-changed g t c =
    let same : c.from_residual.result ≡ Err c.in_err-change_inside.field-0.0 = search rules in
    rw same (remade_refusal_inside c.in_err-change_inside.ensures.changed c.in_err-change_inside.ensures.rest)

pub change_type-returns-clause-changed : goal.change_type-returns-clause-changed
change_type-returns-clause-changed g t c =
    let step : CalledAtMut g.F.FnMut c.change_inside.new.f c.change_inside.new.ty c.f.result c.f.new.self c.f.new.arg2 = search (rules, of_calls) in
    changed_node (inside_by c.args.deep) (around_by c.args.deep) (CalledAtMut g.F.FnMut) c.args.f.now c.change_inside.new.f c.f.new.self c.args.ty.now c.change_inside.new.ty c.f.new.arg2
    c.f.result c.in_ok-change_inside.ensures.changed c.in_ok-change_inside.ensures.rest step

pub change_inside-returns-else-deep-clause-changed : goal.change_inside-returns-else-deep-clause-changed
change_inside-returns-else-deep-clause-changed g t c = nothing_inside c.args.deep (CalledAtMut g.F.FnMut) c.args.f.now c.args.ty.now c.if-deep.false

pub change_call-returns-in_err-change_type-clause-changed : goal.change_call-returns-in_err-change_type-clause-changed
change_call-returns-in_err-change_type-clause-changed g t c =
    let same : c.from_residual.result ≡ Err c.in_err-change_type.field-0.0 = search rules in
    rw same (changed_refusal_first (inside_by c.args.deep) (around_by c.args.deep) (CalledAtMut g.F.FnMut) _ c.in_err-change_type.ensures.changed)

pub change_call-returns-clause-changed : goal.change_call-returns-clause-changed
change_call-returns-clause-changed g t c = changed_both (inside_by c.args.deep) (around_by c.args.deep) (CalledAtMut g.F.FnMut) c.in_ok-change_type.ensures.changed c.change_nodes.ensures.changed

pub change_nodes-loop-i-init : goal.change_nodes-loop-i-init
change_nodes-loop-i-init g t c = (search rules, remade_none, refl, refl, λ k d le. refl)

pub change_nodes-loop-i-preserved : goal.change_nodes-loop-i-preserved
change_nodes-loop-i-preserved g t c = (
  c.in_ok-change_expression.ensures.callable,
  changed_more (inside_by c.args.deep) (around_by c.args.deep) (CalledAtMut g.F.FnMut) in_node c.args.f.now c.loop-i.f c.change_expression.new.f c.args.nodes.now c.loop-i.nodes c.loop-i.i c.get_mut.result.now (record { node = c.change_expression.new.expression; span = c.get_mut.result.now.span }) (search rules) c.loop-i.invariant.3 c.get_mut.ensures.value c.loop-i.invariant.4 c.loop-i.invariant.1 (rw c.node_mut.ensures.value at c.in_ok-change_expression.ensures.changed),
  map_stays around_node c.loop-i.nodes c.loop-i.i c.get_mut.result.now (record { node = c.change_expression.new.expression; span = c.get_mut.result.now.span }) (search rules) c.get_mut.ensures.value (ap (λ e. record { node = e; span = c.get_mut.result.now.span }) (rw c.node_mut.ensures.value at c.in_ok-change_expression.ensures.rest)) ∙ c.loop-i.invariant.2,
  length-set c.loop-i.nodes c.loop-i.i (record { node = c.change_expression.new.expression; span = c.get_mut.result.now.span }) ∙ c.loop-i.invariant.3,
  later_same c.args.nodes.now c.loop-i.nodes c.loop-i.i (record { node = c.change_expression.new.expression; span = c.get_mut.result.now.span }) c.loop-i.invariant.4,
)

pub change_nodes-returns-in_err-change_expression-clause-changed : goal.change_nodes-returns-in_err-change_expression-clause-changed
change_nodes-returns-in_err-change_expression-clause-changed g t c =
    let same : c.from_residual.result ≡ Err c.in_err-change_expression.field-0.0 = search rules in
    rw same (changed_refusal_at (inside_by c.args.deep) (around_by c.args.deep) (CalledAtMut g.F.FnMut) in_node c.args.f.now c.loop-i.f c.change_expression.new.f c.in_err-change_expression.field-0.0 c.args.nodes.now c.loop-i.nodes c.loop-i.i c.get_mut.result.now (record { node = c.change_expression.new.expression; span = c.get_mut.result.now.span }) (search rules) c.loop-i.invariant.3 c.get_mut.ensures.value c.loop-i.invariant.4 c.loop-i.invariant.1 (rw c.node_mut.ensures.value at c.in_err-change_expression.ensures.changed))

pub change_nodes-returns-in_err-change_expression-clause-rest : goal.change_nodes-returns-in_err-change_expression-clause-rest
change_nodes-returns-in_err-change_expression-clause-rest g t c = map_stays around_node c.loop-i.nodes c.loop-i.i c.get_mut.result.now (record { node = c.change_expression.new.expression; span = c.get_mut.result.now.span }) (search rules) c.get_mut.ensures.value (ap (λ e. record { node = e; span = c.get_mut.result.now.span }) (rw c.node_mut.ensures.value at c.in_err-change_expression.ensures.rest)) ∙ c.loop-i.invariant.2

pub change_arguments-returns-in-None-clause-changed : goal.change_arguments-returns-in-None-clause-changed
change_arguments-returns-in-None-clause-changed g t c = rw c.in-None.is remade_none

pub change_arguments-loop-i-init : goal.change_arguments-loop-i-init
change_arguments-loop-i-init g t c = (search rules, remade_none, refl, refl, λ k d le. refl)

pub change_arguments-loop-i-preserved : goal.change_arguments-loop-i-preserved
change_arguments-loop-i-preserved g t c = (
  c.in_ok-change_expression-in-Some.ensures.callable,
  changed_more (inside_by c.args.deep) (around_by c.args.deep) (CalledAtMut g.F.FnMut) in_argument c.args.f.now c.loop-i.f c.change_expression.new.f c.get_mut-arguments.result.now c.loop-i.arguments c.loop-i.i c.get_mut.result.now (record { expression = record { node = c.change_expression.new.expression; span = c.get_mut.result.now.expression.span } }) (search rules) c.loop-i.invariant.3 c.get_mut.ensures.value c.loop-i.invariant.4 c.loop-i.invariant.1 (rw c.node_mut.ensures.value at c.in_ok-change_expression-in-Some.ensures.changed),
  map_stays around_argument c.loop-i.arguments c.loop-i.i c.get_mut.result.now (record { expression = record { node = c.change_expression.new.expression; span = c.get_mut.result.now.expression.span } }) (search rules) c.get_mut.ensures.value (ap (λ e. record { expression = record { node = e; span = c.get_mut.result.now.expression.span } }) (rw c.node_mut.ensures.value at c.in_ok-change_expression-in-Some.ensures.rest)) ∙ c.loop-i.invariant.2,
  length-set c.loop-i.arguments c.loop-i.i (record { expression = record { node = c.change_expression.new.expression; span = c.get_mut.result.now.expression.span } }) ∙ c.loop-i.invariant.3,
  later_same c.get_mut-arguments.result.now c.loop-i.arguments c.loop-i.i (record { expression = record { node = c.change_expression.new.expression; span = c.get_mut.result.now.expression.span } }) c.loop-i.invariant.4,
)

pub change_arguments-returns-in_err-change_expression-in-Some-clause-changed : goal.change_arguments-returns-in_err-change_expression-in-Some-clause-changed
change_arguments-returns-in_err-change_expression-in-Some-clause-changed g t c =
    let same : c.from_residual.result ≡ Err c.in_err-change_expression-in-Some.field-0.0 = search rules in
    let items : c.get_mut-arguments.result.now ≡ c.in-Some.arguments = search rules in
    rw same (changed_as (inside_by c.args.deep) (around_by c.args.deep) (CalledAtMut g.F.FnMut) (ap (flat_map in_argument) items ∙ sym (ap in_brackets c.in-Some.is)) refl (changed_refusal_at (inside_by c.args.deep) (around_by c.args.deep) (CalledAtMut g.F.FnMut) in_argument c.args.f.now c.loop-i.f c.change_expression.new.f c.in_err-change_expression-in-Some.field-0.0 c.get_mut-arguments.result.now c.loop-i.arguments c.loop-i.i c.get_mut.result.now (record { expression = record { node = c.change_expression.new.expression; span = c.get_mut.result.now.expression.span } }) (search rules) c.loop-i.invariant.3 c.get_mut.ensures.value c.loop-i.invariant.4 c.loop-i.invariant.1 (rw c.node_mut.ensures.value at c.in_err-change_expression-in-Some.ensures.changed)))

pub change_arguments-returns-in_err-change_expression-in-Some-clause-rest : goal.change_arguments-returns-in_err-change_expression-in-Some-clause-rest
change_arguments-returns-in_err-change_expression-in-Some-clause-rest g t c =
    let items : c.get_mut-arguments.result.now ≡ c.in-Some.arguments = search rules in
    arguments_stay c.args.ty.now c.in-Some.arguments _ c.in-Some.is (◌∙◌ {b = map around_argument c.loop-i.arguments} (map_stays around_argument c.loop-i.arguments c.loop-i.i c.get_mut.result.now (record { expression = record { node = c.change_expression.new.expression; span = c.get_mut.result.now.expression.span } }) (search rules) c.get_mut.ensures.value (ap (λ e. record { expression = record { node = e; span = c.get_mut.result.now.expression.span } }) (rw c.node_mut.ensures.value at c.in_err-change_expression-in-Some.ensures.rest))) (◌∙◌ {b = map around_argument c.get_mut-arguments.result.now} c.loop-i.invariant.2 (ap (map around_argument) items)))

pub change_expression-returns-in-Parenthesized-clause-changed : goal.change_expression-returns-in-Parenthesized-clause-changed
change_expression-returns-in-Parenthesized-clause-changed g t c =
    let value : c.node_mut.result.now ≡ c.in-Parenthesized.x.expression.node = c.node_mut.ensures.value ∙ (λ k. (c.in-Parenthesized.x-is k).expression.node) in
    rw c.in-Parenthesized.is (rw (code.outs-Parenthesized c.in-Parenthesized.x) (changed_as (inside_by c.args.deep) (around_by c.args.deep) (CalledAtMut g.F.FnMut) {t = c.change_expression.new.f} (sym (in_of_parenthesized c.in-Parenthesized.x)) (sym (in_of_parenthesized (record { expression = record { node = c.change_expression.new.expression; span = c.in-Parenthesized.x.expression.span } }))) (rw value at c.change_expression.ensures.changed)))

pub change_expression-returns-in-Parenthesized-clause-rest : goal.change_expression-returns-in-Parenthesized-clause-rest
change_expression-returns-in-Parenthesized-clause-rest g t c =
    let value : c.node_mut.result.now ≡ c.in-Parenthesized.x.expression.node = c.node_mut.ensures.value ∙ (λ k. (c.in-Parenthesized.x-is k).expression.node) in
    rw c.in-Parenthesized.is (rw (code.outs-Parenthesized c.in-Parenthesized.x) (around_of_parenthesized (record { expression = record { node = c.change_expression.new.expression; span = c.in-Parenthesized.x.expression.span } })
    ∙ ap (λ e. code.Parenthesized (record { expression = record { node = e; span = c.in-Parenthesized.x.expression.span } })) (rw value at c.change_expression.ensures.rest)
    ∙ sym (around_of_parenthesized c.in-Parenthesized.x)))

pub change_expression-returns-in-NamedComponent-clause-changed : goal.change_expression-returns-in-NamedComponent-clause-changed
change_expression-returns-in-NamedComponent-clause-changed g t c =
    let value : c.node_mut-in-NamedComponent.result.now ≡ c.in-NamedComponent.x.base.node = c.node_mut-in-NamedComponent.ensures.value ∙ (λ k. (c.in-NamedComponent.x-is k).base.node) in
    rw c.in-NamedComponent.is (rw (code.outs-NamedComponent c.in-NamedComponent.x) (changed_as (inside_by c.args.deep) (around_by c.args.deep) (CalledAtMut g.F.FnMut) {t = c.change_expression-in-NamedComponent.new.f} (sym (in_of_component c.in-NamedComponent.x)) (sym (in_of_component (record { base = record { node = c.change_expression-in-NamedComponent.new.expression; span = c.in-NamedComponent.x.base.span }; component = c.in-NamedComponent.x.component }))) (rw value at c.change_expression-in-NamedComponent.ensures.changed)))

pub change_expression-returns-in-NamedComponent-clause-rest : goal.change_expression-returns-in-NamedComponent-clause-rest
change_expression-returns-in-NamedComponent-clause-rest g t c =
    let value : c.node_mut-in-NamedComponent.result.now ≡ c.in-NamedComponent.x.base.node = c.node_mut-in-NamedComponent.ensures.value ∙ (λ k. (c.in-NamedComponent.x-is k).base.node) in
    rw c.in-NamedComponent.is (rw (code.outs-NamedComponent c.in-NamedComponent.x) (around_of_component (record { base = record { node = c.change_expression-in-NamedComponent.new.expression; span = c.in-NamedComponent.x.base.span }; component = c.in-NamedComponent.x.component })
    ∙ ap (λ e. code.NamedComponent (record { base = record { node = e; span = c.in-NamedComponent.x.base.span }; component = c.in-NamedComponent.x.component })) (rw value at c.change_expression-in-NamedComponent.ensures.rest)
    ∙ sym (around_of_component c.in-NamedComponent.x)))

pub change_expression-returns-in-Unary-clause-changed : goal.change_expression-returns-in-Unary-clause-changed
change_expression-returns-in-Unary-clause-changed g t c =
    let value : c.node_mut-in-Unary.result.now ≡ c.in-Unary.x.operand.node = c.node_mut-in-Unary.ensures.value ∙ (λ k. (c.in-Unary.x-is k).operand.node) in
    rw c.in-Unary.is (rw (code.outs-Unary c.in-Unary.x) (changed_as (inside_by c.args.deep) (around_by c.args.deep) (CalledAtMut g.F.FnMut) {t = c.change_expression-in-Unary.new.f} (sym (in_of_unary c.in-Unary.x)) (sym (in_of_unary (record { operator = c.in-Unary.x.operator; operand = record { node = c.change_expression-in-Unary.new.expression; span = c.in-Unary.x.operand.span } }))) (rw value at c.change_expression-in-Unary.ensures.changed)))

pub change_expression-returns-in-Unary-clause-rest : goal.change_expression-returns-in-Unary-clause-rest
change_expression-returns-in-Unary-clause-rest g t c =
    let value : c.node_mut-in-Unary.result.now ≡ c.in-Unary.x.operand.node = c.node_mut-in-Unary.ensures.value ∙ (λ k. (c.in-Unary.x-is k).operand.node) in
    rw c.in-Unary.is (rw (code.outs-Unary c.in-Unary.x) (around_of_unary (record { operator = c.in-Unary.x.operator; operand = record { node = c.change_expression-in-Unary.new.expression; span = c.in-Unary.x.operand.span } })
    ∙ ap (λ e. code.Unary (record { operator = c.in-Unary.x.operator; operand = record { node = e; span = c.in-Unary.x.operand.span } })) (rw value at c.change_expression-in-Unary.ensures.rest)
    ∙ sym (around_of_unary c.in-Unary.x)))

pub change_expression-returns-in_err-change_expression-in-Indexing-clause-changed : goal.change_expression-returns-in_err-change_expression-in-Indexing-clause-changed
change_expression-returns-in_err-change_expression-in-Indexing-clause-changed g t c =
    let same : c.from_residual.result ≡ Err c.in_err-change_expression-in-Indexing.field-0.0 = search rules in
    let value : c.node_mut-in-Indexing.result.now ≡ c.in-Indexing.x.base.node = c.node_mut-in-Indexing.ensures.value ∙ (λ k. (c.in-Indexing.x-is k).base.node) in
    rw same (rw c.in-Indexing.is (rw (code.outs-Indexing c.in-Indexing.x) (changed_as (inside_by c.args.deep) (around_by c.args.deep) (CalledAtMut g.F.FnMut) {t = c.change_expression-in-Indexing.new.f} (sym (in_of_indexing c.in-Indexing.x)) (sym (in_of_indexing (record { base = record { node = c.change_expression-in-Indexing.new.expression; span = c.in-Indexing.x.base.span }; index = c.in-Indexing.x.index }))) (changed_refusal_first (inside_by c.args.deep) (around_by c.args.deep) (CalledAtMut g.F.FnMut) {t = c.change_expression-in-Indexing.new.f} (types_in c.in-Indexing.x.index.node) (rw value at c.in_err-change_expression-in-Indexing.ensures.changed)))))

pub change_expression-returns-in_err-change_expression-in-Indexing-clause-rest : goal.change_expression-returns-in_err-change_expression-in-Indexing-clause-rest
change_expression-returns-in_err-change_expression-in-Indexing-clause-rest g t c =
    let value : c.node_mut-in-Indexing.result.now ≡ c.in-Indexing.x.base.node = c.node_mut-in-Indexing.ensures.value ∙ (λ k. (c.in-Indexing.x-is k).base.node) in
    rw c.in-Indexing.is (rw (code.outs-Indexing c.in-Indexing.x) (around_of_indexing (record { base = record { node = c.change_expression-in-Indexing.new.expression; span = c.in-Indexing.x.base.span }; index = c.in-Indexing.x.index })
    ∙ ap (λ e. code.Indexing (record { base = record { node = e; span = c.in-Indexing.x.base.span }; index = around_node c.in-Indexing.x.index })) (rw value at c.in_err-change_expression-in-Indexing.ensures.rest)
    ∙ sym (around_of_indexing c.in-Indexing.x)))

pub change_expression-returns-in_ok-change_expression-in-Indexing-clause-changed : goal.change_expression-returns-in_ok-change_expression-in-Indexing-clause-changed
change_expression-returns-in_ok-change_expression-in-Indexing-clause-changed g t c =
    let value : c.node_mut-in-Indexing.result.now ≡ c.in-Indexing.x.base.node = c.node_mut-in-Indexing.ensures.value ∙ (λ k. (c.in-Indexing.x-is k).base.node) in
    let value_2 : c.node_mut-in-Indexing-2.result.now ≡ c.in-Indexing.x.index.node = c.node_mut-in-Indexing-2.ensures.value ∙ (λ k. (c.in-Indexing.x-is k).index.node) in
    rw c.in-Indexing.is (rw (code.outs-Indexing c.in-Indexing.x) (changed_as (inside_by c.args.deep) (around_by c.args.deep) (CalledAtMut g.F.FnMut) {t = c.change_expression-in-Indexing-2.new.f} (sym (in_of_indexing c.in-Indexing.x)) (sym (in_of_indexing (record { base = record { node = c.change_expression-in-Indexing.new.expression; span = c.in-Indexing.x.base.span }; index = record { node = c.change_expression-in-Indexing-2.new.expression; span = c.in-Indexing.x.index.span } }))) (changed_both (inside_by c.args.deep) (around_by c.args.deep) (CalledAtMut g.F.FnMut) {t = c.change_expression-in-Indexing.new.f} (rw value at c.in_ok-change_expression-in-Indexing.ensures.changed) (rw value_2 at c.change_expression-in-Indexing-2.ensures.changed))))

pub change_expression-returns-in_ok-change_expression-in-Indexing-clause-rest : goal.change_expression-returns-in_ok-change_expression-in-Indexing-clause-rest
change_expression-returns-in_ok-change_expression-in-Indexing-clause-rest g t c =
    let value : c.node_mut-in-Indexing.result.now ≡ c.in-Indexing.x.base.node = c.node_mut-in-Indexing.ensures.value ∙ (λ k. (c.in-Indexing.x-is k).base.node) in
    let value_2 : c.node_mut-in-Indexing-2.result.now ≡ c.in-Indexing.x.index.node = c.node_mut-in-Indexing-2.ensures.value ∙ (λ k. (c.in-Indexing.x-is k).index.node) in
    let first : around_types c.change_expression-in-Indexing.new.expression ≡ around_types c.in-Indexing.x.base.node = rw value at c.in_ok-change_expression-in-Indexing.ensures.rest in
    let second : around_types c.change_expression-in-Indexing-2.new.expression ≡ around_types c.in-Indexing.x.index.node = rw value_2 at c.change_expression-in-Indexing-2.ensures.rest in
    rw c.in-Indexing.is (rw (code.outs-Indexing c.in-Indexing.x) (around_of_indexing (record { base = record { node = c.change_expression-in-Indexing.new.expression; span = c.in-Indexing.x.base.span }; index = record { node = c.change_expression-in-Indexing-2.new.expression; span = c.in-Indexing.x.index.span } })
    ∙ (λ k. code.Indexing (record { base = record { node = first k; span = c.in-Indexing.x.base.span }; index = record { node = second k; span = c.in-Indexing.x.index.span } }))
    ∙ sym (around_of_indexing c.in-Indexing.x)))

pub change_expression-returns-in_err-change_expression-in-Binary-clause-changed : goal.change_expression-returns-in_err-change_expression-in-Binary-clause-changed
change_expression-returns-in_err-change_expression-in-Binary-clause-changed g t c =
    let same : c.from_residual-in_err-change_expression-in-Binary.result ≡ Err c.in_err-change_expression-in-Binary.field-0.0 = search rules in
    let value : c.node_mut-in-Binary.result.now ≡ c.in-Binary.x.left.node = c.node_mut-in-Binary.ensures.value ∙ (λ k. (c.in-Binary.x-is k).left.node) in
    rw same (rw c.in-Binary.is (rw (code.outs-Binary c.in-Binary.x) (changed_as (inside_by c.args.deep) (around_by c.args.deep) (CalledAtMut g.F.FnMut) {t = c.change_expression-in-Binary.new.f} (sym (in_of_binary c.in-Binary.x)) (sym (in_of_binary (record { operator = c.in-Binary.x.operator; left = record { node = c.change_expression-in-Binary.new.expression; span = c.in-Binary.x.left.span }; right = c.in-Binary.x.right }))) (changed_refusal_first (inside_by c.args.deep) (around_by c.args.deep) (CalledAtMut g.F.FnMut) {t = c.change_expression-in-Binary.new.f} (types_in c.in-Binary.x.right.node) (rw value at c.in_err-change_expression-in-Binary.ensures.changed)))))

pub change_expression-returns-in_err-change_expression-in-Binary-clause-rest : goal.change_expression-returns-in_err-change_expression-in-Binary-clause-rest
change_expression-returns-in_err-change_expression-in-Binary-clause-rest g t c =
    let value : c.node_mut-in-Binary.result.now ≡ c.in-Binary.x.left.node = c.node_mut-in-Binary.ensures.value ∙ (λ k. (c.in-Binary.x-is k).left.node) in
    rw c.in-Binary.is (rw (code.outs-Binary c.in-Binary.x) (around_of_binary (record { operator = c.in-Binary.x.operator; left = record { node = c.change_expression-in-Binary.new.expression; span = c.in-Binary.x.left.span }; right = c.in-Binary.x.right })
    ∙ ap (λ e. code.Binary (record { operator = c.in-Binary.x.operator; left = record { node = e; span = c.in-Binary.x.left.span }; right = around_node c.in-Binary.x.right })) (rw value at c.in_err-change_expression-in-Binary.ensures.rest)
    ∙ sym (around_of_binary c.in-Binary.x)))

pub change_expression-returns-in_ok-change_expression-in-Binary-clause-changed : goal.change_expression-returns-in_ok-change_expression-in-Binary-clause-changed
change_expression-returns-in_ok-change_expression-in-Binary-clause-changed g t c =
    let value : c.node_mut-in-Binary.result.now ≡ c.in-Binary.x.left.node = c.node_mut-in-Binary.ensures.value ∙ (λ k. (c.in-Binary.x-is k).left.node) in
    let value_2 : c.node_mut-in-Binary-2.result.now ≡ c.in-Binary.x.right.node = c.node_mut-in-Binary-2.ensures.value ∙ (λ k. (c.in-Binary.x-is k).right.node) in
    rw c.in-Binary.is (rw (code.outs-Binary c.in-Binary.x) (changed_as (inside_by c.args.deep) (around_by c.args.deep) (CalledAtMut g.F.FnMut) {t = c.change_expression-in-Binary-2.new.f} (sym (in_of_binary c.in-Binary.x)) (sym (in_of_binary (record { operator = c.in-Binary.x.operator; left = record { node = c.change_expression-in-Binary.new.expression; span = c.in-Binary.x.left.span }; right = record { node = c.change_expression-in-Binary-2.new.expression; span = c.in-Binary.x.right.span } }))) (changed_both (inside_by c.args.deep) (around_by c.args.deep) (CalledAtMut g.F.FnMut) {t = c.change_expression-in-Binary.new.f} (rw value at c.in_ok-change_expression-in-Binary.ensures.changed) (rw value_2 at c.change_expression-in-Binary-2.ensures.changed))))

pub change_expression-returns-in_ok-change_expression-in-Binary-clause-rest : goal.change_expression-returns-in_ok-change_expression-in-Binary-clause-rest
change_expression-returns-in_ok-change_expression-in-Binary-clause-rest g t c =
    let value : c.node_mut-in-Binary.result.now ≡ c.in-Binary.x.left.node = c.node_mut-in-Binary.ensures.value ∙ (λ k. (c.in-Binary.x-is k).left.node) in
    let value_2 : c.node_mut-in-Binary-2.result.now ≡ c.in-Binary.x.right.node = c.node_mut-in-Binary-2.ensures.value ∙ (λ k. (c.in-Binary.x-is k).right.node) in
    let first : around_types c.change_expression-in-Binary.new.expression ≡ around_types c.in-Binary.x.left.node = rw value at c.in_ok-change_expression-in-Binary.ensures.rest in
    let second : around_types c.change_expression-in-Binary-2.new.expression ≡ around_types c.in-Binary.x.right.node = rw value_2 at c.change_expression-in-Binary-2.ensures.rest in
    rw c.in-Binary.is (rw (code.outs-Binary c.in-Binary.x) (around_of_binary (record { operator = c.in-Binary.x.operator; left = record { node = c.change_expression-in-Binary.new.expression; span = c.in-Binary.x.left.span }; right = record { node = c.change_expression-in-Binary-2.new.expression; span = c.in-Binary.x.right.span } })
    ∙ (λ k. code.Binary (record { operator = c.in-Binary.x.operator; left = record { node = first k; span = c.in-Binary.x.left.span }; right = record { node = second k; span = c.in-Binary.x.right.span } }))
    ∙ sym (around_of_binary c.in-Binary.x)))

pub change_expression-returns-in-FunctionCall-clause-changed : goal.change_expression-returns-in-FunctionCall-clause-changed
change_expression-returns-in-FunctionCall-clause-changed g t c =
    let value : c.get_mut.result.now ≡ c.in-FunctionCall.x = c.get_mut.ensures.value ∙ (λ k. c.in-FunctionCall.x-is k) in
    rw c.in-FunctionCall.is (rw (code.outs-FunctionCall c.in-FunctionCall.x) (changed_as (inside_by c.args.deep) (around_by c.args.deep) (CalledAtMut g.F.FnMut) {t = c.change_call.new.f} (sym (in_of_call c.in-FunctionCall.x)) (sym (in_of_call c.change_call.new.x)) (rw value at c.change_call.ensures.changed)))

pub change_expression-returns-in-FunctionCall-clause-rest : goal.change_expression-returns-in-FunctionCall-clause-rest
change_expression-returns-in-FunctionCall-clause-rest g t c =
    let value : c.get_mut.result.now ≡ c.in-FunctionCall.x = c.get_mut.ensures.value ∙ (λ k. c.in-FunctionCall.x-is k) in
    rw c.in-FunctionCall.is (rw (code.outs-FunctionCall c.in-FunctionCall.x) (around_of_call c.change_call.new.x ∙ ap code.FunctionCall (rw value at c.change_call.ensures.rest) ∙ sym (around_of_call c.in-FunctionCall.x)))

pub change_expression-returns-in-TypeOrIdentifier-clause-changed : goal.change_expression-returns-in-TypeOrIdentifier-clause-changed
change_expression-returns-in-TypeOrIdentifier-clause-changed g t c =
    rw c.in-TypeOrIdentifier.is (rw (code.outs-TypeOrIdentifier c.in-TypeOrIdentifier.x) (changed_as (inside_by c.args.deep) (around_by c.args.deep) (CalledAtMut g.F.FnMut) {t = c.change_type.new.f} (sym (in_of_named c.in-TypeOrIdentifier.x)) (sym (in_of_named c.change_type.new.ty)) (rw c.in-TypeOrIdentifier.x-is at c.change_type.ensures.changed)))

pub change_expression-returns-in-TypeOrIdentifier-clause-rest : goal.change_expression-returns-in-TypeOrIdentifier-clause-rest
change_expression-returns-in-TypeOrIdentifier-clause-rest g t c =
    rw c.in-TypeOrIdentifier.is (rw (code.outs-TypeOrIdentifier c.in-TypeOrIdentifier.x) (around_of_named c.change_type.new.ty ∙ sym (around_of_named c.in-TypeOrIdentifier.x)))
