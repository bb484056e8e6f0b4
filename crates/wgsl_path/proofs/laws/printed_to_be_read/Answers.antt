use Rattle.wgsl_path.proofs.Printed as printed
use Rattle.wgsl_path.proofs.laws.printed_to_be_read.Goals as goal

pub returns-clause-read : goal.returns-clause-read
returns-clause-read c = printed.read

pub returns-clause-once : goal.returns-clause-once
returns-clause-once c = printed.once
