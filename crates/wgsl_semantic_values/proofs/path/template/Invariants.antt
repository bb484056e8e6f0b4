use Rattle.std.proofs.Common.{◌≡◌, ◌++◌}
use Rattle.std.specs.Vec.Iter.{into_iter_items}
use Rattle.wgsl_semantic_values.specs.Making.{template_of}
use Rattle.wgsl_semantic_values.proofs.path.template.Given as goal

-- what was taken over and what is still to come
abbrev pub invariant-loop-expression : goal.invariant-loop-expression
invariant-loop-expression l = l.arguments ++ template_of (into_iter_items l.expression-iterator) ≡ template_of l.fn.expressions
