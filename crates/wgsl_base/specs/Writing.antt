-- Text that is written piece by piece, with four spaces before each line.
use Rattle.std.specs.Prelude.{◌≡◌, ◌≢◌, ℕ, ◌<◌, Bool, true, false, List, [], ◌∷◌, ◌++◌, ◌==◌, length, get_or}
use Rattle.std.specs.Fmt.{HasWritten, IsPlainFormatter}
use Rattle.wgsl_base.specs.Indented.{margin}
use Rattle.wgsl_base.specs.declared.indent.lines.Lines.{Lines}

-- no line break
abbrev pub HasNoBreak : List ℕ → Type 0
HasNoBreak text = (i : ℕ) → i < length text → get_or text i 0 ≢ 10

-- the four spaces, where a line begins
abbrev pub margin_if : Bool → List ℕ
margin_if true = margin
margin_if false = []

-- what is written of a piece, where a line begins or not
abbrev pub piece_indented : Bool → List ℕ → List ℕ
piece_indented begins [] = []
piece_indented begins (b ∷ bs) = margin_if begins ++ b ∷ piece_indented (b == 10) bs

-- whether a line begins behind a piece
abbrev pub begins_behind : Bool → List ℕ → Bool
begins_behind begins [] = begins
begins_behind begins (b ∷ bs) = begins_behind (b == 10) bs

-- what a call writes to the formatter inside
pub record Indents {W : Type 0} (took : W → List ℕ → W → Type 0) (old : Lines W) (s : List ℕ) (new : Lines W) : Type 0 where
  pub writes : IsPlainFormatter old.f.now → HasWritten took old.f.now (piece_indented old.begins s) new.f.now
  pub begins : new.begins ≡ begins_behind old.begins s
  pub same : new.f.ghost_name ≡ old.f.ghost_name
