use Rattle.std.proofs.Common.{◌≡◌, ◌+◌, ◌*◌, ◌++◌, drop, map}
use Rattle.core_syntax.specs.Tree.{exps}
use Rattle.core_syntax.specs.View.{tree, node_tree}
use Rattle.core_validate.specs.Scopes.{all_places}
use Rattle.core_validate.specs.Lookups.{lookup, local_names}
use Rattle.core_validate.proofs.place.+collecting.Given as goal

abbrev pub decreases-add_expression : goal.decreases-add_expression
decreases-add_expression l = 8 * goal.size-add_expression l

abbrev pub decreases-add_expressions : goal.decreases-add_expressions
decreases-add_expressions l = 8 * goal.size-add_expressions l + 2

abbrev pub decreases-add_call : goal.decreases-add_call
decreases-add_call l = 8 * goal.size-add_call l + 5

abbrev pub decreases-add_template_arguments : goal.decreases-add_template_arguments
decreases-add_template_arguments l = 8 * goal.size-add_template_arguments l + 2

abbrev pub decreases-add_type : goal.decreases-add_type
decreases-add_type l = 8 * goal.size-add_type l + 4

abbrev pub invariant-add_expressions-loop-expression : goal.invariant-add_expressions-loop-expression
invariant-add_expressions-loop-expression l =
    l.places ++ all_places (lookup l.index) (local_names l.locals) (exps (map node_tree (drop l.expression-index l.expressions)))
    ≡ l.initial.places ++ all_places (lookup l.index) (local_names l.locals) (exps (map node_tree l.expressions))

abbrev pub invariant-add_template_arguments-loop-argument : goal.invariant-add_template_arguments-loop-argument
invariant-add_template_arguments-loop-argument l =
    l.places ++ all_places (lookup l.index) (local_names l.locals) (exps (map (λ a. tree a.expression.node) (drop l.argument-index l.arguments)))
    ≡ l.initial.places ++ all_places (lookup l.index) (local_names l.locals) (exps (map (λ a. tree a.expression.node) l.arguments))
