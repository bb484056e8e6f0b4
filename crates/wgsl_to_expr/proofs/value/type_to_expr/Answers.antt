use Rattle.std.proofs.Common.{ap, sym, ◌∙◌, Some}
use Rattle.std.specs.Option.{option_map}
use Rattle.wgsl_expressions.specs.Tree.{named}
use Rattle.wgsl_expressions.proofs.Trees.{tree_of_named}
use Rattle.wgsl_to_expr.proofs.value.type_to_expr.Goals as goal

pub returns-in-Ok : goal.returns-in-Ok
returns-in-Ok c = ap (option_map named) c.in-Ok.ensures ∙ ap Some (sym (tree_of_named c.in-Ok.written))
