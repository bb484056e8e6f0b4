-- What is shown of a place in a text (this project's own layout).
use Rattle.std.specs.Prelude.{ℕ, zero, suc, ◌+◌, ◌-◌, ◌&&◌, not, ◌==◌, nat_le, if◌then◌else◌, List, [], ◌∷◌, ◌++◌, replicate, codes}
use Rattle.std.specs.Char.{encode_utf8, len_utf8}
use Rattle.std.specs.Fmt.{decimal}
use Rattle.std.specs.Str.{chars}
use Rattle.wgsl_path.specs.declared.span.Span.{Span}
use Rattle.wgsl_lex.specs.Tokens.{is_line_break}
use Rattle.wgsl_parse.specs.Places.{Place, place_at}

-- the characters before the first line break
abbrev pub line_text : List ℕ → List ℕ
line_text [] = []
line_text (c ∷ cs) = if is_line_break c then [] else encode_utf8 c ++ line_text cs

-- below a tab stands a tab, below any other character a space
abbrev pub blank_below : ℕ → ℕ
blank_below c = if c == 9 then 9 else 32

-- below the first characters, so many of them
abbrev pub blanks_below : ℕ → List ℕ → List ℕ
blanks_below zero cs = []
blanks_below (suc n) [] = []
blanks_below (suc n) (c ∷ cs) = encode_utf8 (blank_below c) ++ blanks_below n cs

-- how many characters before the first line break end within so many bytes
abbrev pub marked : ℕ → List ℕ → ℕ
marked n [] = 0
marked n (c ∷ cs) = if nat_le (len_utf8 c) n && not (is_line_break c) then suc (marked (n - len_utf8 c) cs) else 0

-- one mark at least
abbrev pub at_least_one : ℕ → ℕ
at_least_one zero = 1
at_least_one (suc n) = suc n

-- The marks below a line: one for each character of it that is of the text up to this byte, from the place on; or one at the place.
abbrev pub marks : ℕ → Place → List ℕ
marks end p = replicate (at_least_one (marked (end - p.offset) p.rest)) 94

-- where a place is, both counted from 1
abbrev pub place_text : Place → List ℕ
place_text p = codes "line " ++ decimal (p.line + 1) ++ codes ", column " ++ decimal (p.column + 1)

-- its line, and the marks below it
abbrev pub line_with_marks : ℕ → Place → List ℕ
line_with_marks end p = line_text p.from ++ codes "\n" ++ blanks_below p.column p.from ++ marks end p

-- what is shown of a part of a text
abbrev pub snippet_text : List ℕ → Span → List ℕ
snippet_text text s =
    let p = place_at s.start (chars text) in
    place_text p ++ codes "\n" ++ line_with_marks s.end p
