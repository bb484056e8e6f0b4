-- Places in a text, by its lines. A text is read as the characters that its UTF-8 spells, and a place counts its bytes.
use Rattle.std.specs.Prelude.{ℕ, suc, ◌+◌, ◌-◌, Bool, false, ◌&&◌, not, ◌==◌, nat_le, if◌then◌else◌, List, [], ◌∷◌}
use Rattle.std.specs.Char.{len_utf8}
use Rattle.wgsl_lex.specs.Tokens.{is_line_break}

-- a line feed stands first
abbrev pub begins_with_feed : List ℕ → Bool
begins_with_feed [] = false
begins_with_feed (c ∷ cs) = c == 10

-- This character, in front of those, ends a line: a line break, but no carriage return in front of a line feed, which ends it for both.
abbrev pub ends_line : ℕ → List ℕ → Bool
ends_line c behind = is_line_break c && not ((c == 13) && begins_with_feed behind)

-- How many lines end before a place, and how many characters of its line and how many bytes stand before it; the characters from the beginning of its line on, and from the place on.
pub record Place : Type 0 where
  pub line : ℕ
  pub column : ℕ
  pub offset : ℕ
  pub from : List ℕ
  pub rest : List ℕ

-- the beginning of some characters
abbrev pub beginning : List ℕ → Place
beginning cs = record { line = 0; column = 0; offset = 0; from = cs; rest = cs }

-- one character on, where these stand behind it
abbrev pub next : Place → ℕ → List ℕ → Place
next p c behind =
    if ends_line c behind then record { line = suc p.line; column = 0; offset = p.offset + len_utf8 c; from = behind; rest = behind }
    else record { line = p.line; column = suc p.column; offset = p.offset + len_utf8 c; from = p.from; rest = behind }

-- from a place, before these characters, so many bytes on; no further than the text's end, and never into a character
abbrev pub onward : Place → ℕ → List ℕ → Place
onward p n [] = p
onward p n (c ∷ cs) = if nat_le (len_utf8 c) n then onward (next p c cs) (n - len_utf8 c) cs else p

-- the place of a byte of some characters
abbrev pub place_at : ℕ → List ℕ → Place
place_at n cs = onward (beginning cs) n cs
