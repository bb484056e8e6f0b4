use Rattle.std.proofs.Common.{◌≡◌, ◌++◌, ◌+◌, ◌≤◌, ℕ, length}
use Rattle.wgsl_path.specs.Paths.{supers, rest_text}
use Rattle.wgsl_path.specs.Reading.{left_parts, path_above}
use Rattle.wgsl_path.proofs.reading.read_supers.Given as goal

abbrev pub invariant-loop-rest : goal.invariant-loop-rest
invariant-loop-rest l = record {
  read : supers l.levels ++ rest_text l.rest ≡ rest_text l.fn.text;
  above : (n : ℕ) → path_above n (left_parts l.fn.text) ≡ path_above (l.levels + n) (left_parts l.rest);
  few : l.levels + length (rest_text l.rest) ≤ length (rest_text l.fn.text);
}

abbrev pub decreases-loop-rest : goal.decreases-loop-rest
decreases-loop-rest l = length (rest_text l.rest)
