use Rattle.std.specs.Prelude.{string_bytes}
use Rattle.weslc_workspace.proofs.Maps.{of_texts_when_inserted}
use Rattle.weslc_workspace.proofs.asking.Asking.keep.Goals as goal

pub invariant_of-self : goal.invariant_of-self
invariant_of-self c = record {
  of_texts = of_texts_when_inserted c.insert.result (string_bytes c.args.path) c.args.self.now.modules.now.texts c.args.self.now.fresh c.insert.new.self c.args.parsed c.insert.ensures.updates
      c.insert.ensures.err c.requires c.args.self.now.of_texts;
  noted = c.args.self.now.noted;
}
