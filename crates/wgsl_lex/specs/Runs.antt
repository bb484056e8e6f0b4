-- Runs of characters of one kind.
use Rattle.std.specs.Prelude.{◌≡◌, ◌≢◌, ℕ, ◌<◌, ◌≤◌, Bool, true, false, not, List, [], ◌++◌, ◌^◌, length, take, slice_index, Option, Some, None, MatchOption, ◌+◌, ◌*◌, ◌==◌, ◌&&◌, ◌∷◌, fold}
use Rattle.wgsl_lex.specs.Tokens.{is_line_break, magnitude, digit_value}

abbrev pub is_no_line_break : ℕ → Bool
is_no_line_break c = not (is_line_break c)

-- The first n characters pass the test, and the next one, if any, doesn't.
pub record IsRun (test : ℕ → Bool) (cs : List ℕ) (n : ℕ) : Type 0 where
  pub within : n ≤ length cs
  pub each : (k : ℕ) → k < n → test (slice_index cs k) ≡ true
  pub stops : n < length cs → test (slice_index cs n) ≡ false

-- The longest run of characters that passes a test: no more of what stands behind passes with it.
pub record IsLongestRun (test : List ℕ → Bool) (cs rest : List ℕ) : Type 0 where
  pub passes : test cs ≡ true
  pub longest : (more behind : List ℕ) → more ≢ [] → rest ≡ more ++ behind → test (cs ++ more) ≡ false

-- The longest whole number without its suffix, and its value.
pub record IsLongestMagnitude (cs rest : List ℕ) (value : ℕ) : Type 0 where
  pub is : magnitude cs ≡ Some value
  pub longest : (more behind : List ℕ) → more ≢ [] → rest ≡ more ++ behind → magnitude (cs ++ more) ≡ None

-- The first n characters pass the test and more of them don't, or n is 0 and none at the front pass.
pub record IsLongestFront (test : List ℕ → Bool) (cs : List ℕ) (n : ℕ) : Type 0 where
  pub within : n ≤ length cs
  pub passes : 0 < n → test (take n cs) ≡ true
  pub longest : (k : ℕ) → n < k → k ≤ length cs → test (take k cs) ≡ false

-- a value in 64 bits, or none where it is past them
abbrev pub IsValue : Option ℕ → ℕ → Type 0
IsValue word value = MatchOption word (2 ^ 64 ≤ value) (λ n. n ≡ value)

-- the value of some digits behind what has this value
abbrev pub value_behind : ℕ → ℕ → List ℕ → ℕ
value_behind base before cs = fold (λ n c. n * base + digit_value c) before cs

-- whether these two characters stand first
abbrev pub begins_with_pair : ℕ → ℕ → List ℕ → Bool
begins_with_pair c d [] = false
begins_with_pair c d (x ∷ []) = false
begins_with_pair c d (x ∷ y ∷ xs) = (x == c) && (y == d)
