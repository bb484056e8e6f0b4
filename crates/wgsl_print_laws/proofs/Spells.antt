-- Characters and the bytes that spell them in UTF-8.
use Rattle.std.proofs.Common.{◌≡◌, refl, ap, ◌∙◌, ℕ, ◌<◌, nat_lt, true, ◌&&◌, List, [], ◌∷◌, ◌++◌, arith}
use Rattle.std.specs.Str.{encode_utf8_all, all_scalars}
use Rattle.std.specs.List.{list_all}
use Rattle.std.proofs.Math.Utf8.{scalar, low_scalar}
use Rattle.std.proofs.lemmas.Bool.{ltb-true}
use Rattle.std.proofs.lemmas.Str.Ascii.{encode_ascii}
use Rattle.std.proofs.lemmas.Str.{encodes-append}
use Rattle.wgsl_base.proofs.Bools.{and_both as both}

-- the characters are spelled so in UTF-8
pub record Spells (cs bytes : List ℕ) : Type 0 where
  pub scalars : all_scalars cs ≡ true
  pub encodes : encode_utf8_all cs ≡ bytes

pub scalars_then : (cs ds : List ℕ) → all_scalars cs ≡ true → all_scalars ds ≡ true → all_scalars (cs ++ ds) ≡ true
scalars_then [] ds p q = q
scalars_then (c ∷ cs) ds p q = let (one, others) = both (scalar c) (all_scalars cs) p in ap (λ b. b && all_scalars (cs ++ ds)) one ∙ scalars_then cs ds others q

pub spells_then : {cs ds xs ys : List ℕ} → Spells cs xs → Spells ds ys → Spells (cs ++ ds) (xs ++ ys)
spells_then {cs = cs} {ds = ds} p q = record {
  scalars = scalars_then cs ds p.scalars q.scalars;
  encodes = encodes-append cs ds ∙ (λ k. p.encodes k ++ q.encodes k);
}

-- ASCII spells itself
pub spells_ascii : (cs : List ℕ) → list_all (λ c. nat_lt c 128) cs ≡ true → Spells cs cs
spells_ascii [] h = record { scalars = refl; encodes = refl }
spells_ascii (c ∷ cs) h =
    let (one, others) = both (nat_lt c 128) (list_all (λ d. nat_lt d 128) cs) h in
    let low : c < 128 = ltb-true c 128 one in
    let behind = spells_ascii cs others in
    record {
      scalars = ap (λ b. b && all_scalars cs) (low_scalar c (omega arith)) ∙ behind.scalars;
      encodes = λ k. encode_ascii c low k ++ behind.encodes k;
    }
