-- Counts of parses, one after another.
use Rattle.std.proofs.Common.{◌≡◌, refl, ◌∙◌, ℕ, ◌+◌, inl, inr, arith}
use Rattle.std.specs.Prelude.{min}
use Rattle.weslc_workspace.specs.Held.{Rises, Counts, parsed_count}
use Rattle.weslc_workspace.specs.declared.modules.Modules.{Modules}

rises_more : (n k m l o : ℕ) → Rises n k m → Rises m l o → Rises n (k + l) o
rises_more n k m l o (inl (none, same)) (inl (nothing, equal)) = inl (omega arith, equal ∙ same)
rises_more n k m l o (inl (none, same)) (inr more) = inr (omega arith)
rises_more n k m l o (inr first) (inl (nothing, equal)) = inr (omega arith)
rises_more n k m l o (inr first) (inr more) = inr (omega arith)

-- nothing is parsed
pub counts_none : (a b : Modules) → parsed_count b ≡ parsed_count a → b.parses ≡ a.parses → Counts a b
counts_none a b parsed same = record { more = 0; parsed = omega arith; counted = inl (refl, same) }

-- one text is parsed
pub counts_one : (a b : Modules) → parsed_count b ≡ parsed_count a + 1 → b.parses ≡ min (a.parses + 1) 18446744073709551615 → Counts a b
counts_one a b parsed more = record { more = 1; parsed = parsed; counted = inr more }

-- some are parsed, and then some more
pub counts_more : (a b c : Modules) → Counts a b → Counts b c → Counts a c
counts_more a b c first next =
    record {
      more = first.more + next.more;
      parsed = let one = first.parsed in let other = next.parsed in omega arith;
      counted = rises_more a.parses first.more b.parses next.more c.parses first.counted next.counted;
    }
