use Rattle.std.proofs.Common.{◌≡◌, ◌++◌, length, Ok}
use Rattle.wgsl_path.specs.Paths.{components_text, rest_text}
use Rattle.wgsl_path.specs.Reading.{left_parts, components_of, then_read}
use Rattle.wgsl_path.proofs.reading.read_components.Given as goal

abbrev pub invariant-loop-rest : goal.invariant-loop-rest
invariant-loop-rest l = record {
  prints : components_text l.components ++ rest_text l.rest ≡ rest_text l.fn.text;
  reads : components_of (left_parts l.fn.text) ≡ then_read (components_of (left_parts l.rest)) (λ names. Ok (l.components ++ names));
}

abbrev pub decreases-loop-rest : goal.decreases-loop-rest
decreases-loop-rest l = length (rest_text l.rest)
