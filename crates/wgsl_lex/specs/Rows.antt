-- Where words stand in the table.
use Rattle.std.specs.Prelude.{◌≡◌, ℕ, ◌+◌, ◌-◌, ◌*◌, ◌/◌, ◌%◌, true, false, List, length, slice_index, Option, Some, None}
use Rattle.std.specs.List.{slice_index_or}
use Rattle.std.specs.Str.{bytes_eq}
use Rattle.wgsl_lex.specs.declared.rows.TheConstants.{ROWS}

-- a number that no two words of the table share
abbrev pub place : List ℕ → ℕ
place word = (850 * slice_index word 0 + 900 * slice_index word (length word / 2) + 431 * slice_index word (length word - 1) + 635 * length word) % 1024

-- the row of the word that has this place
abbrev pub row : List ℕ → ℕ
row word = slice_index ROWS (place word)

-- what that row of a table has, if it is spelled so
pub data IsRow {X V : Type 0} (spelled : X → List ℕ) (value : X → V) (table : List X) (k : ℕ) (word : List ℕ) : Option V → Type 0 where
  is_there : (d : X) → bytes_eq (spelled (slice_index_or table k d)) word ≡ true → IsRow spelled value table k word (Some (value (slice_index_or table k d)))
  is_other : (d : X) → bytes_eq (spelled (slice_index_or table k d)) word ≡ false → IsRow spelled value table k word None
