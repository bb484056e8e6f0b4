-- Bytes that a writer got, one run after another.
use Rattle.std.proofs.Common.{sym, ap, ◌∙◌, ℕ, List, ◌++◌, ◌+◌, take, drop, Option, Some, None, append_assoc}
use Rattle.std.specs.Io.KnownBytes.{Appends, Keeps}
use Rattle.std.proofs.Math.Seq.{take-add}

-- the next n bytes behind the first k
pub next_written : (a b c : Option (List ℕ)) (k n : ℕ) (xs : List ℕ) → Appends a b (take k xs) → Appends b c (take n (drop k xs)) → Appends a c (take (k + n) xs)
next_written None b c k n xs first second = tt
next_written (Some ws) (Some bs) (Some cs) k n xs first second =
    second ∙ ap (λ t. t ++ take n (drop k xs)) first ∙ append_assoc ws (take k xs) (take n (drop k xs)) ∙ ap (λ t. ws ++ t) (sym (take-add k n xs))
next_written (Some ws) None c k n xs first second = absurd first
next_written (Some ws) (Some bs) None k n xs first second = absurd second

pub still_written : (a b c : Option (List ℕ)) (xs : List ℕ) → Appends a b xs → Keeps b c → Appends a c xs
still_written None b c xs first kept = tt
still_written (Some ws) (Some bs) (Some cs) xs first kept = kept ∙ first
still_written (Some ws) None c xs first kept = absurd first
still_written (Some ws) (Some bs) None xs first kept = absurd kept
