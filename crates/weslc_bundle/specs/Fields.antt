-- How a field of an error line shows a character.
use Rattle.std.specs.Prelude.{ℕ, ◌||◌, ◌==◌, ◌++◌, Bool, false, List, codes, if◌then◌else◌}
use Rattle.std.specs.Char.{is_whitespace, is_control, encode_utf8}
use Rattle.std.specs.Fmt.{radix_digits}
use Rattle.std.specs.List.{flat_map}
use Rattle.std.specs.Str.{chars}

-- white space, control characters, the marks of direction U+200E and U+200F, and the backslash
abbrev pub is_escaped : ℕ → Bool
is_escaped c = is_whitespace c || is_control c || c == 0x200e || c == 0x200f || c == 92

-- `\u{..}` round the number in lower-case hex digits, or the character itself
abbrev pub escaped_char : ℕ → List ℕ
escaped_char c = if is_escaped c then codes "\\u{" ++ radix_digits 16 false c ++ codes "}" else encode_utf8 c

-- each character of a text so
abbrev pub escaped : List ℕ → List ℕ
escaped text = flat_map escaped_char (chars text)
