-- The tokens of a text (WGSL, "Textual Structure"). A text is read as the characters that its UTF-8 spells, and a place
-- counts its bytes.
use Rattle.std.specs.Prelude.{◌≡◌, ◌≢◌, ℕ, zero, suc, ◌+◌, ◌*◌, ◌-◌, Bool, true, false, ◌&&◌, ◌||◌, not, ◌==◌, nat_le, if◌then◌else◌, List, [], ◌∷◌, ◌++◌, length, reverse, fold, find, Option, Some, None, codes, pos}
use Rattle.std.specs.Option.{option_map, option_or}
use Rattle.std.specs.List.{list_all, list_any}
use Rattle.std.specs.Char.{is_ascii_digit, is_ascii_hexdigit}
use Rattle.std.specs.Str.{encode_utf8_all, all_scalars, bytes_eq}
use Rattle.unicode_ident.specs.Ident.{is_xid_start, is_xid_continue}
use Rattle.wgsl_token.specs.declared.token.Token.{Token}
use Rattle.wgsl_token.specs.declared.token.Token.TheVariants.{Fixed, Identifier, Reserved, AbstractInt, I32, U32, AbstractFloat, F32, F16, Invalid}
use Rattle.wgsl_token.specs.declared.token.Fixed.{Fixed as FixedToken}
use Rattle.wgsl_token.specs.declared.token.Fixed.TheVariants as f
use Rattle.wgsl_token.specs.declared.token.SpannedToken.{SpannedToken}
use Rattle.wgsl_token.specs.Spelling.{spelling}
use Rattle.wgsl_lex.specs.Floats.{is_mark, is_float, takes_float_suffix}

-- Blankspace and comments (WGSL, "Blankspace and Line Breaks", "Comments")

-- line feed to carriage return, next line, line separator, paragraph separator
abbrev pub is_line_break : ℕ → Bool
is_line_break c = (nat_le 10 c && nat_le c 13) || (c == 133) || (c == 8232) || (c == 8233)

-- besides, the space, the tab and the marks for left to right and right to left
abbrev pub is_blank : ℕ → Bool
is_blank c = (c == 32) || (c == 9) || (c == 8206) || (c == 8207) || is_line_break c

-- behind `//`: what stands on that line
abbrev pub is_line_comment_tail : List ℕ → Bool
is_line_comment_tail cs = list_all (λ c. not (is_line_break c)) cs

-- Behind the opening of so many block comments, one in another: the characters up to where the outermost closes, or some of
-- them where it doesn't. (A block comment that never closes runs to the end of the text: this project's choice.)
abbrev pub is_block_comment_tail : ℕ → List ℕ → Bool
is_block_comment_tail zero [] = true
is_block_comment_tail zero (c ∷ cs) = false
is_block_comment_tail (suc depth) [] = true
is_block_comment_tail (suc depth) (c ∷ []) = true
is_block_comment_tail (suc depth) (c ∷ d ∷ cs) =
    if (c == 42) && (d == 47) then is_block_comment_tail depth cs
    else (if (c == 47) && (d == 42) then is_block_comment_tail (suc (suc depth)) cs else is_block_comment_tail (suc depth) (d ∷ cs))

-- one blank character, or one comment
abbrev pub is_trivia : List ℕ → Bool
is_trivia [] = false
is_trivia (c ∷ []) = is_blank c
is_trivia (c ∷ d ∷ cs) = (c == 47) && (((d == 47) && is_line_comment_tail cs) || ((d == 42) && is_block_comment_tail 1 cs))

-- Words (WGSL, "Identifiers", "Keywords", "Reserved Words")

-- one XID_Start, or an XID_Start or `_` and then one or more XID_Continue
abbrev pub is_word : List ℕ → Bool
is_word [] = false
is_word (c ∷ []) = is_xid_start c
is_word (c ∷ d ∷ cs) = (is_xid_start c || (c == 95)) && list_all is_xid_continue (d ∷ cs)

abbrev pub begins_with_two_underscores : List ℕ → Bool
begins_with_two_underscores [] = false
begins_with_two_underscores (c ∷ []) = false
begins_with_two_underscores (c ∷ d ∷ cs) = (c == 95) && (d == 95)

-- the tokens that are spelled in one way
abbrev pub all_fixed : List FixedToken
all_fixed = f.Alias ∷ f.Break ∷ f.Case ∷ f.Const ∷ f.ConstAssert ∷ f.Continue ∷ f.Continuing ∷ f.Default ∷ f.Diagnostic ∷ f.Discard ∷ f.Else ∷
    f.Enable ∷ f.False ∷ f.Fn ∷ f.For ∷ f.If ∷ f.Let ∷ f.Loop ∷ f.Override ∷ f.Requires ∷ f.Return ∷ f.Struct ∷ f.Switch ∷ f.True ∷ f.Var ∷ f.While ∷
    f.And ∷ f.AndAnd ∷ f.Arrow ∷ f.Attr ∷ f.ForwardSlash ∷ f.Bang ∷ f.BracketLeft ∷ f.BracketRight ∷ f.BraceLeft ∷ f.BraceRight ∷ f.Colon ∷
    f.PathSeparator ∷ f.Comma ∷ f.Equal ∷ f.EqualEqual ∷ f.NotEqual ∷ f.GreaterThan ∷ f.GreaterThanEqual ∷ f.ShiftRight ∷ f.LessThan ∷
    f.LessThanEqual ∷ f.ShiftLeft ∷ f.Modulo ∷ f.Minus ∷ f.MinusMinus ∷ f.Period ∷ f.Plus ∷ f.PlusPlus ∷ f.Or ∷ f.OrOr ∷ f.ParenLeft ∷ f.ParenRight ∷
    f.Semicolon ∷ f.Star ∷ f.Tilde ∷ f.Underscore ∷ f.Xor ∷ f.PlusEqual ∷ f.MinusEqual ∷ f.TimesEqual ∷ f.DivisionEqual ∷ f.ModuloEqual ∷
    f.AndEqual ∷ f.OrEqual ∷ f.XorEqual ∷ f.ShiftRightAssign ∷ f.ShiftLeftAssign ∷ f.Import ∷ f.Package ∷ f.Super ∷ f.As ∷ []

-- the one that is spelled so
unfoldable pub fixed_of : List ℕ → Option FixedToken
fixed_of cs = find (λ fixed. bytes_eq (spelling fixed) cs) all_fixed

-- the reserved words that no grammar names (this project's table)
abbrev pub reserved_words : List (List ℕ)
reserved_words = codes "NULL" ∷ codes "Self" ∷ codes "abstract" ∷ codes "active" ∷ codes "alignas" ∷ codes "alignof" ∷ codes "asm" ∷ codes "asm_fragment" ∷ codes
    "async" ∷ codes "attribute" ∷ codes "auto" ∷ codes "await" ∷ codes "become" ∷ codes "cast" ∷ codes "catch" ∷ codes "class" ∷ codes "co_await" ∷ codes
    "co_return" ∷ codes "co_yield" ∷ codes "coherent" ∷ codes "column_major" ∷ codes "common" ∷ codes "compile" ∷ codes "compile_fragment" ∷ codes
    "concept" ∷ codes "const_cast" ∷ codes "consteval" ∷ codes "constexpr" ∷ codes "constinit" ∷ codes "crate" ∷ codes "debugger" ∷ codes "decltype" ∷
    codes "delete" ∷ codes "demote" ∷ codes "demote_to_helper" ∷ codes "do" ∷ codes "dynamic_cast" ∷ codes "enum" ∷ codes "explicit" ∷ codes "export" ∷
    codes "extends" ∷ codes "extern" ∷ codes "external" ∷ codes "fallthrough" ∷ codes "filter" ∷ codes "final" ∷ codes "finally" ∷ codes "friend" ∷ codes
    "from" ∷ codes "fxgroup" ∷ codes "get" ∷ codes "goto" ∷ codes "groupshared" ∷ codes "highp" ∷ codes "impl" ∷ codes "implements" ∷ codes "inline" ∷
    codes "instanceof" ∷ codes "interface" ∷ codes "layout" ∷ codes "lowp" ∷ codes "macro" ∷ codes "macro_rules" ∷ codes "match" ∷ codes "mediump" ∷ codes
    "meta" ∷ codes "mod" ∷ codes "module" ∷ codes "move" ∷ codes "mut" ∷ codes "mutable" ∷ codes "namespace" ∷ codes "new" ∷ codes "nil" ∷ codes
    "noexcept" ∷ codes "noinline" ∷ codes "nointerpolation" ∷ codes "non_coherent" ∷ codes "noncoherent" ∷ codes "noperspective" ∷ codes "null" ∷ codes
    "nullptr" ∷ codes "of" ∷ codes "operator" ∷ codes "packoffset" ∷ codes "partial" ∷ codes "pass" ∷ codes "patch" ∷ codes "pixelfragment" ∷ codes
    "precise" ∷ codes "precision" ∷ codes "premerge" ∷ codes "priv" ∷ codes "protected" ∷ codes "pub" ∷ codes "public" ∷ codes "readonly" ∷ codes "ref" ∷
    codes "regardless" ∷ codes "register" ∷ codes "reinterpret_cast" ∷ codes "require" ∷ codes "resource" ∷ codes "restrict" ∷ codes "self" ∷ codes "set"
    ∷ codes "shared" ∷ codes "sizeof" ∷ codes "smooth" ∷ codes "snorm" ∷ codes "static" ∷ codes "static_assert" ∷ codes "static_cast" ∷ codes "std" ∷
    codes "subroutine" ∷ codes "target" ∷ codes "template" ∷ codes "this" ∷ codes "thread_local" ∷ codes "throw" ∷ codes "trait" ∷ codes "try" ∷ codes
    "type" ∷ codes "typedef" ∷ codes "typeid" ∷ codes "typename" ∷ codes "typeof" ∷ codes "union" ∷ codes "unless" ∷ codes "unorm" ∷ codes "unsafe" ∷
    codes "unsized" ∷ codes "use" ∷ codes "using" ∷ codes "varying" ∷ codes "virtual" ∷ codes "volatile" ∷ codes "wgsl" ∷ codes "where" ∷ codes "with" ∷
    codes "writeonly" ∷ codes "yield" ∷ []

unfoldable pub is_reserved : List ℕ → Bool
is_reserved cs = list_any (λ word. bytes_eq word cs) reserved_words

-- the token of a word that is no keyword
abbrev pub word_token : List ℕ → Token
word_token cs = if begins_with_two_underscores cs then Invalid else (if is_reserved cs then Reserved (encode_utf8_all cs) else Identifier (encode_utf8_all cs))

-- Whole numbers (WGSL, "Numeric Literals")

-- the value of a digit: `0` to `9`, `A` to `F` or `a` to `f`
abbrev pub digit_value : ℕ → ℕ
digit_value c = if nat_le c 57 then c - 48 else (if nat_le c 70 then c - 55 else c - 87)

abbrev pub digits_value : ℕ → List ℕ → ℕ
digits_value base cs = fold (λ n c. n * base + digit_value c) 0 cs

-- behind `0`: nothing, or `x` or `X` and hexadecimal digits
abbrev pub zero_led_value : List ℕ → Option ℕ
zero_led_value [] = Some 0
zero_led_value (x ∷ []) = None
zero_led_value (x ∷ c ∷ cs) = if is_mark x && list_all is_ascii_hexdigit (c ∷ cs) then Some (digits_value 16 (c ∷ cs)) else None

-- the value of a whole number without its suffix: `0`, a hexadecimal number, or a digit other than `0` and digits
abbrev pub magnitude : List ℕ → Option ℕ
magnitude [] = None
magnitude (c ∷ cs) = if c == 48 then zero_led_value cs else (if list_all is_ascii_digit (c ∷ cs) then Some (digits_value 10 (c ∷ cs)) else None)

-- A number past the range of its type is no token.
abbrev pub abstract_token : ℕ → Token
abstract_token n = if nat_le n 9223372036854775807 then AbstractInt (pos n) else Invalid

abbrev pub signed_token : ℕ → Token
signed_token n = if nat_le n 2147483647 then I32 (pos n) else Invalid

abbrev pub unsigned_token : ℕ → Token
unsigned_token n = if nat_le n 4294967295 then U32 n else Invalid

-- Numbers with a suffix or without (WGSL, "Numeric Literals")

-- A float's value is not computed: the token has the text before the suffix.
abbrev pub plain_number : List ℕ → Option Token
plain_number cs = option_or (option_map abstract_token (magnitude cs)) (if is_float cs then Some (AbstractFloat (encode_utf8_all cs)) else None)

-- with the suffix `i` or `u` of a whole number, or `f` or `h` of a float
abbrev pub number_with : ℕ → List ℕ → Option Token
number_with suffix cs =
    if suffix == 105 then option_map signed_token (magnitude cs)
    else (if suffix == 117 then option_map unsigned_token (magnitude cs)
    else (if (suffix == 102) && takes_float_suffix cs then Some (F32 (encode_utf8_all cs))
    else (if (suffix == 104) && takes_float_suffix cs then Some (F16 (encode_utf8_all cs)) else None)))

-- from the characters in reverse: the suffix, and the number before it
abbrev pub suffixed_number : List ℕ → Option Token
suffixed_number [] = None
suffixed_number (c ∷ cs) = number_with c (reverse cs)

abbrev pub number_token : List ℕ → Option Token
number_token cs = option_or (plain_number cs) (suffixed_number (reverse cs))

-- Forms: what a run of characters is

-- what some characters are by themselves
pub data Form : Type 0 where
  trivia : Form
  token : Token → Form

unfoldable pub token_form : List ℕ → Option Token
token_form cs = option_or (option_map Fixed (fixed_of cs)) (if is_word cs then Some (word_token cs) else number_token cs)

unfoldable pub form : List ℕ → Option Form
form cs = if is_trivia cs then Some trivia else option_map token (token_form cs)

-- No more of what stands behind these characters makes a form with them.
abbrev pub NoLonger : List ℕ → List ℕ → Type 0
NoLonger cs rest = (more behind : List ℕ) → more ≢ [] → rest ≡ more ++ behind → form (cs ++ more) ≡ None

-- the longest form at the front
pub record IsLongest (cs rest : List ℕ) (what : Form) : Type 0 where
  pub is : form cs ≡ Some what
  pub longest : NoLonger cs rest

-- The tokens of a text

-- how many bytes the characters have
abbrev pub size : List ℕ → ℕ
size cs = length (encode_utf8_all cs)

abbrev pub spanned : Token → ℕ → ℕ → SpannedToken
spanned t start end = record { token = t; span = record { start = start; end = end } }

-- The tokens of some characters, of which the first stands at this byte: at every place the longest form, trivia being left
-- out. A character with which no form begins is an invalid token.
pub data Lexes : ℕ → List ℕ → List SpannedToken → Type 0 where
  at_the_end : {at : ℕ} → Lexes at [] []
  behind_trivia : {at : ℕ} {cs rest : List ℕ} {tokens : List SpannedToken} → IsLongest cs rest trivia → Lexes (at + size cs) rest tokens
      → Lexes at (cs ++ rest) tokens
  a_token : {at : ℕ} {cs rest : List ℕ} {t : Token} {tokens : List SpannedToken} → IsLongest cs rest (token t) → Lexes (at + size cs) rest tokens
      → Lexes at (cs ++ rest) (spanned t at (at + size cs) ∷ tokens)
  no_token : {at c : ℕ} {rest : List ℕ} {tokens : List SpannedToken} → form (c ∷ []) ≡ None → NoLonger (c ∷ []) rest → Lexes (at + size (c ∷ [])) rest tokens
      → Lexes at (c ∷ rest) (spanned Invalid at (at + size (c ∷ [])) ∷ tokens)

-- The tokens of a text in UTF-8.
pub record IsLexed (text : List ℕ) (tokens : List SpannedToken) : Type 0 where
  pub characters : List ℕ
  pub are_scalars : all_scalars characters ≡ true
  pub spell : encode_utf8_all characters ≡ text
  pub lexes : Lexes 0 characters tokens
