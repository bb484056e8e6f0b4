-- Texts of modules, and what the parser told of them.
use Rattle.std.specs.Prelude.{◌≡◌, ◌⊎◌, ℕ, ◌+◌, List, Option, Bool, false, min, if◌then◌else◌}
use Rattle.std.specs.Option.{is_some}
use Rattle.std.specs.Str.{bytes_eq}
use Rattle.std.specs.HashMap.{get_by_text, hash_map_len}
use Rattle.weslc_workspace.specs.declared.modules.Modules.{Modules}

-- the text that is set at a printed path
abbrev pub text_at : Modules → List ℕ → Option (List ℕ)
text_at m p = get_by_text m.texts p

-- the text there was parsed since it was set
abbrev pub is_parsed : Modules → List ℕ → Bool
is_parsed m p = is_some (get_by_text m.parsed p)

-- how many texts were parsed since they were set
abbrev pub parsed_count : Modules → ℕ
parsed_count m = hash_map_len m.parsed

-- a text is set at a printed path, or none
abbrev pub IsSet : Modules → List ℕ → Option (List ℕ) → Modules → Type 0
IsSet old p text new = (q : List ℕ) → text_at new q ≡ (if bytes_eq p q then text else text_at old q)

-- what is at this path is not parsed, and all else as before
abbrev pub IsUnparsed : Modules → List ℕ → Modules → Type 0
IsUnparsed old p new = (q : List ℕ) → is_parsed new q ≡ (if bytes_eq p q then false else is_parsed old q)

-- a count rises by so much, up to the largest number
abbrev pub Rises : ℕ → ℕ → ℕ → Type 0
Rises old more new = ((more ≡ 0) × (new ≡ old)) ⊎ (new ≡ min (old + more) 18446744073709551615)

-- The count of parses rises by the number of texts that are parsed now and were not before.
pub record Counts (old new : Modules) : Type 0 where
  pub more : ℕ
  pub parsed : parsed_count new ≡ parsed_count old + more
  pub counted : Rises old.parses more new.parses
