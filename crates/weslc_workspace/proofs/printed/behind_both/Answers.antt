use Rattle.weslc_workspace.proofs.Fronts.{both}
use Rattle.weslc_workspace.proofs.printed.behind_both.Goals as goal

pub returns : goal.returns
returns c = both c.args.first.now c.args.second.now c.args.text.now c.in_ok-behind.field-0.now c.behind-2.result c.in_ok-behind.ensures c.behind-2.ensures
