-- What stands in a text behind its beginning.
use denote.Ref.{Bor}
use Rattle.std.specs.Prelude.{◌≡◌, ◌++◌, ℕ, List, Option, MatchOption}

-- what stands behind this beginning; nothing, where the text does not begin so
abbrev pub IsBehind : List ℕ → List ℕ → Option (Bor (List ℕ)) → Type 0
IsBehind front text behind = MatchOption behind ((rest : List ℕ) → ¬ (text ≡ front ++ rest)) (λ rest. text ≡ front ++ rest.now)
