use Rattle.wgsl_types.proofs.Lawful as law
use Rattle.wgsl_types.proofs.laws.convert_all_ty_ignores_order.Goals as goal

pub returns : goal.returns
returns c = law.any_order
