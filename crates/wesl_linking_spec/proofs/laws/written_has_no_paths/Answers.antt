use Rattle.wesl_linking_spec.proofs.NoPaths.{written_has_no_paths as law}
use Rattle.wesl_linking_spec.proofs.laws.written_has_no_paths.Goals as goal

pub returns : goal.returns
returns c = law
