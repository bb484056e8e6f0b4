use Rattle.std.proofs.Common.{◌≡◌, take, fold}
use Rattle.std.specs.List.{flat_map}
use Rattle.std.specs.Hash.{str}
use Rattle.wgsl_path.proofs.equality.hash_names.Given as goal

abbrev pub invariant-loop-name : goal.invariant-loop-name
invariant-loop-name g l = l.state ≡ fold g.H.Hasher.write l.initial.state (flat_map str (take l.name-index l.names))
