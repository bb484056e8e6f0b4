-- The test says what the relation says.
use Rattle.wesl_router.proofs.Starting.{told}
use Rattle.wesl_router.proofs.choice.begins.Goals as goal

pub returns : goal.returns
returns c = told c.args.path.now c.args.prefix.now c.starts_with.result c.starts_with.ensures
