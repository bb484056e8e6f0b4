-- Bytes taken of a reader, one run after another.
use Rattle.std.proofs.Common.{refl, sym, ap, ◌∙◌, ℕ, List, [], ◌++◌, ◌<◌, length, Option, Some, None, arith, append_assoc, length-append}
use Rattle.std.specs.Io.KnownBytes.{Consumes, Keeps, IsAtEnd}
use Rattle.std.proofs.lemmas.List.{append-nil}
use Rattle.weslc_bundle.specs.Served.{AreAll, AreTooMany}

pub none_taken : (a : Option (List ℕ)) → Consumes a a []
none_taken None = tt
none_taken (Some xs) = refl

pub more_taken : (a b c : Option (List ℕ)) (xs ys : List ℕ) → Consumes a b xs → Consumes b c ys → Consumes a c (xs ++ ys)
more_taken None b c xs ys first second = tt
more_taken (Some ws) (Some bs) (Some cs) xs ys first second = first ∙ ap (λ t. xs ++ t) second ∙ sym (append_assoc xs ys cs)
more_taken (Some ws) None c xs ys first second = absurd first
more_taken (Some ws) (Some bs) None xs ys first second = absurd second

pub still_taken : (a b c : Option (List ℕ)) (xs : List ℕ) → Consumes a b xs → Keeps b c → Consumes a c xs
still_taken None b c xs first kept = tt
still_taken (Some ws) (Some bs) (Some cs) xs first kept = first ∙ ap (λ t. xs ++ t) (sym kept)
still_taken (Some ws) None c xs first kept = absurd first
still_taken (Some ws) (Some bs) None xs first kept = absurd kept

pub all_taken : (a b c : Option (List ℕ)) (xs : List ℕ) → Consumes a b xs → Consumes b c [] → IsAtEnd c → AreAll a xs
all_taken None b c xs first none end = tt
all_taken (Some ws) (Some bs) (Some cs) xs first none end = sym (first ∙ ap (λ t. xs ++ t) (none ∙ end) ∙ append-nil xs)
all_taken (Some ws) None c xs first none end = absurd first
all_taken (Some ws) (Some bs) None xs first none end = absurd none

pub many_taken : (a b : Option (List ℕ)) (xs : List ℕ) → Consumes a b xs → 16777216 < length xs → AreTooMany a
many_taken None b xs first many = tt
many_taken (Some ws) (Some bs) xs first many = omega (arith, ap length first, length-append xs bs)
many_taken (Some ws) None xs first many = absurd first
