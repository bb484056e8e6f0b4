use Rattle.wesl_cond.proofs.Flat.{imports_left, directives_left, declarations_left}
use Rattle.wesl_cond.proofs.settle.settle_unit.Goals as goal

pub returns : goal.returns
returns c = λ i. record {
  imports = imports_left c.args.features.now c.args.unit.now.imports c.settle_list.new.items c.settle_list.ensures i;
  directives = directives_left c.args.features.now c.args.unit.now.global_directives c.settle_list-2.new.items c.settle_list-2.ensures i;
  declarations =
      declarations_left c.args.features.now c.args.unit.now.global_declarations c.settle_each.new.nodes c.settle_list-3.new.items c.settle_each.ensures c.settle_list-3.ensures i;
}
