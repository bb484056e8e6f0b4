-- Texts in ASCII.
use Rattle.std.proofs.Common.{◌≡◌, ℕ, ◌+◌, ◌≤◌, List, ◌∷◌, length, take, drop, ap, arith, length-take-le, length-drop}
use Rattle.std.proofs.lemmas.Str.{length-le-encodes}
use Rattle.std.proofs.lemmas.Str.{len_utf8_bounds}
use Rattle.wgsl_lex.specs.Tokens.{size}
use Rattle.wgsl_lex.proofs.Sizes.{size_parts}
use Rattle.wgsl_templates.proofs.Blanks.{size_first}

-- of characters with one byte each, the parts have as many bytes as characters
module _ (cs front back : List ℕ) (n : ℕ) (f : front ≡ take n cs) (b : back ≡ drop n cs) (bound : n ≤ length cs) (narrow : size cs ≡ length cs) where
  lengths : length front + length back ≡ length cs
  lengths = omega (arith, ap length f, ap length b, length-take-le n cs bound, length-drop n cs)

  pub front_bytes : size front ≡ length front
  front_bytes = omega (arith, lengths, size_parts cs front back n f b, narrow, length-le-encodes front, length-le-encodes back)

  pub back_bytes : size back ≡ length back
  back_bytes = omega (arith, lengths, size_parts cs front back n f b, narrow, length-le-encodes front, length-le-encodes back)

pub behind_bytes : (cs : List ℕ) (c : ℕ) (behind : List ℕ) → cs ≡ c ∷ behind → size cs ≡ length cs → size behind ≡ length behind
behind_bytes cs c behind is narrow = omega (arith, ap length is, size_first cs c behind is, narrow, length-le-encodes behind, (len_utf8_bounds c).0)
