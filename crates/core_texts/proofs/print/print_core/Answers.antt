use Rattle.wgsl_declarations.specs.View as whole
use Rattle.core_syntax.specs.View.{unit_tree}
use Rattle.core_texts.proofs.Printing.{printed, refused}
use Rattle.core_texts.proofs.print.print_core.Goals as goal

pub returns-in-Ok : goal.returns-in-Ok
returns-in-Ok c = printed (unit_tree c.args.unit) (whole.unit_tree c.in_ok-module.module) c.in-Ok.text c.in_ok-module.ensures c.in-Ok.ensures.answer

pub returns-in-Err-Node : goal.returns-in-Err-Node
returns-in-Err-Node c =
    let said = rw c.in-Err-Node.field-0-is at c.in-Err-Node.ensures.answer in
    refused (unit_tree c.args.unit) (whole.unit_tree c.in_ok-module.module) _ c.in_ok-module.ensures said
