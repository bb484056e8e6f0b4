use Rattle.weslc_workspace.proofs.Maps.{told_of}
use Rattle.weslc_workspace.proofs.modules.Modules.parse.Goals as goal

pub returns : goal.returns
returns c = record { told = told_of c.args.self.now.texts c.args.self.now.parsed c.get.result c.args.path.now c.get.ensures.value c.args.self.now.told }
