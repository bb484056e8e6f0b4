use Rattle.wgsl_path.proofs.JoinLemmas.{tells_beginning}
use Rattle.wgsl_path.proofs.joining.begins_with.Goals as goal

pub returns-then-first-names : goal.returns-then-first-names
returns-then-first-names c = tells_beginning c.args.names.now c.args.first.now c.eq.result c.eq.ensures
