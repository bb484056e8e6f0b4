-- Text with four spaces before each line.
use Rattle.std.specs.Prelude.{ℕ, List, [], ◌∷◌, ◌++◌, ◌==◌, codes}
use Rattle.std.specs.List.{slice_split}

-- four spaces
abbrev pub margin : List ℕ
margin = codes "    "

-- What stands behind the last line break: a line, unless nothing does.
abbrev pub last_line : List ℕ → List ℕ
last_line [] = []
last_line (b ∷ bs) = margin ++ b ∷ bs

-- what stands between line breaks
abbrev pub indented_lines : List (List ℕ) → List ℕ
indented_lines [] = []
indented_lines (l ∷ []) = last_line l
indented_lines (l ∷ m ∷ ls) = margin ++ (l ++ 10 ∷ indented_lines (m ∷ ls))

abbrev pub indented : List ℕ → List ℕ
indented text = indented_lines (slice_split (λ b. b == 10) text)
