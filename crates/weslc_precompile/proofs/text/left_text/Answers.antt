use Rattle.wgsl_declarations.specs.View.{unit_tree}
use Rattle.weslc_precompile.proofs.Steps.{fixed_printed}
use Rattle.weslc_precompile.proofs.text.left_text.Goals as goal

pub returns : goal.returns
returns c =
    fixed_printed c.args.features.now c.args.text.now c.args.unit.now (unit_tree c.fix.new.unit) c.print_back.result c.requires c.in_ok-fix.ensures c.print_back.ensures
