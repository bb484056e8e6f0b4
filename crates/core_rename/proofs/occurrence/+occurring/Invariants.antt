use Rattle.std.proofs.Common.{◌≡◌, ◌+◌, ◌*◌, ◌++◌, drop, map}
use Rattle.core_syntax.specs.View.{node_tree}
use Rattle.core_syntax.specs.Tree.{exps}
use Rattle.core_link_spec.specs.Occurrences.{in_expressions}
use Rattle.core_rename.specs.Scopes.{texts}
use Rattle.core_rename.proofs.occurrence.+occurring.Given as goal

abbrev pub decreases-add_expression : goal.decreases-add_expression
decreases-add_expression l = 8 * goal.size-add_expression l

abbrev pub decreases-add_expressions : goal.decreases-add_expressions
decreases-add_expressions l = 8 * goal.size-add_expressions l + 2

abbrev pub decreases-add_template : goal.decreases-add_template
decreases-add_template l = 8 * goal.size-add_template l + 3

abbrev pub decreases-add_type : goal.decreases-add_type
decreases-add_type l = 8 * goal.size-add_type l + 4

abbrev pub decreases-add_call : goal.decreases-add_call
decreases-add_call l = 8 * goal.size-add_call l + 5

abbrev pub invariant-add_expressions-loop-expression : goal.invariant-add_expressions-loop-expression
invariant-add_expressions-loop-expression l =
    texts l.found.items ++ in_expressions l.scope (exps (map node_tree (drop l.expression-index l.expressions)))
    ≡ texts l.initial.found.items ++ in_expressions l.scope (exps (map node_tree l.expressions))

abbrev pub invariant-add_template-loop-argument : goal.invariant-add_template-loop-argument
invariant-add_template-loop-argument l =
    texts l.found.items ++ in_expressions l.scope (exps (map (λ a. node_tree a.expression) (drop l.argument-index l.arguments)))
    ≡ texts l.initial.found.items ++ in_expressions l.scope (exps (map (λ a. node_tree a.expression) l.arguments))
