use Rattle.std.proofs.Common.{◌+◌, ◌*◌}
use Rattle.wgsl_lower_expressions.proofs.folding.places.+place.Given as goal

abbrev pub decreases-fold_indices : goal.decreases-fold_indices
decreases-fold_indices l = 8 * goal.size-fold_indices l

abbrev pub decreases-fold_index : goal.decreases-fold_index
decreases-fold_index l = 8 * goal.size-fold_index l + 1
