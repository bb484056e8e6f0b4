use Rattle.wgsl_read_back.proofs.AttributeTrees as trees
use Rattle.wgsl_read_back.proofs.laws.attributes_are_printed_as_read.Goals as goal

pub returns : goal.returns
returns c = trees.attributes_are_printed_as_read
