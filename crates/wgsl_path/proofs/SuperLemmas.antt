-- Reading one more `super`.
use Rattle.std.proofs.Common.{◌≡◌, ℕ, suc, List, ◌++◌, ◌+◌, ◌≤◌, length, codes, true, arith, sym, ap, ◌∙◌, append_assoc, add-one, length-append}
use Rattle.std.specs.Str.{bytes_eq}
use Rattle.std.proofs.lemmas.Slice.Eq.{bytes_eq-Decides}
use Rattle.wgsl_path.specs.Paths.{supers}

pub supers_more : (n : ℕ) (part after rest text : List ℕ) → rest ≡ codes "::" ++ (part ++ after) → bytes_eq part (codes "super") ≡ true
    → supers n ++ rest ≡ text → supers (n + 1) ++ after ≡ text
supers_more n part after rest text splits test before =
    let same : part ≡ codes "super" = (bytes_eq-Decides part (codes "super")).0 test in
    let at_suc : supers (suc n) ++ after ≡ text =
    append_assoc (supers n) (codes "::super") after ∙ sym (ap (λ p. supers n ++ (codes "::" ++ (p ++ after))) same) ∙ sym (ap (λ r. supers n ++ r) splits) ∙ before in
    rw add-one at_suc

pub few_more : (n m : ℕ) (part after rest : List ℕ) → rest ≡ codes "::" ++ (part ++ after) → n + length rest ≤ m → n + 1 + length after ≤ m
few_more n m part after rest splits few = omega (arith, ap length splits, length-append (codes "::") (part ++ after), length-append part after)
