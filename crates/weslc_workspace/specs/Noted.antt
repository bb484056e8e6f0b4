-- A module is asked for.
use Rattle.std.specs.Prelude.{◌≡◌, ℕ, List, true, if◌then◌else◌}
use Rattle.std.specs.List.{Contains}
use Rattle.std.specs.HashSet.{HashSet, contains_text}
use Rattle.std.specs.Str.{bytes_eq}
use Rattle.std.specs.declared.string.String.{String}
use Rattle.wgsl_path.specs.declared.path.ModulePath.{ModulePath}
use Rattle.wgsl_path.specs.Paths.{path_text}

-- this printed path is among those that were asked for, and each other one just where it was before
abbrev pub IsNoted : {Y S : Type 0} → HashSet (String Y) S → List ℕ → HashSet (String Y) S → Type 0
IsNoted old p new = (q : List ℕ) → contains_text new q ≡ (if bytes_eq p q then true else contains_text old q)

-- whatever was asked for is among these
abbrev pub AreNoted : {Y S : Type 0} → List ModulePath → HashSet (String Y) S → Type 0
AreNoted requests asked = (p : ModulePath) → Contains requests p → contains_text asked (path_text p) ≡ true
