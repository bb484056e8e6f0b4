-- What stands at the front of some characters.
use Rattle.std.specs.Prelude.{◌≡◌, ◌≢◌, ℕ, ◌≤◌, ◌<◌, ◌+◌, Bool, true, false, ◌&&◌, ◌||◌, ◌==◌, nat_lt, if◌then◌else◌, ◌++◌, List, [], ◌∷◌, length, take, drop, Option, Some, None, MatchOption, is_none}
use Rattle.std.specs.List.{list_any}
use Rattle.std.specs.Char.{is_ascii_digit, is_ascii_hexdigit}
use Rattle.std.specs.Str.{bytes_eq}
use Rattle.unicode_ident.specs.Ident.{is_xid_start, is_xid_continue}
use Rattle.wgsl_token.specs.declared.token.Token.{Token}
use Rattle.wgsl_token.specs.declared.token.Token.TheVariants.{Invalid, Fixed as fixed_token}
use Rattle.wgsl_token.specs.declared.token.Fixed.{Fixed}
use Rattle.wgsl_token.specs.declared.token.Fixed.TheVariants as f
use Rattle.wgsl_token.specs.Spelling.{spelling}
use Rattle.wgsl_lex.specs.declared.number.Magnitude.{Magnitude}
use Rattle.wgsl_lex.specs.declared.short.ShortWord.{ShortWord}
use Rattle.wgsl_lex.specs.declared.float.Base.{Base}
use Rattle.wgsl_lex.specs.declared.float.Base.TheVariants.{Decimal, Hexadecimal}
use Rattle.wgsl_lex.specs.declared.float.Float.{Float}
use Rattle.wgsl_lex.specs.declared.word.TheConstants.{WORDS}
use Rattle.wgsl_lex.specs.Floats.{one, optional, is_point, is_sign, is_zero, is_mark, is_e, is_p, exponent, float_of, is_float, takes_float_suffix}
use Rattle.wgsl_lex.specs.Tokens.{size, is_blank, fixed_of, is_reserved, magnitude, number_with, form, trivia, token, NoLonger, IsLongest}
use Rattle.wgsl_lex.specs.Runs.{IsRun, IsLongestFront, IsLongestMagnitude, IsValue}

-- So many characters stand first: the longest form, with its token if it has one, or a character with which no form begins.
pub data StandsFirst (cs : List ℕ) (n : ℕ) : Option Token → Type 0 where
  trivia_first : IsLongest (take n cs) (drop n cs) trivia → StandsFirst cs n None
  token_first : {t : Token} → IsLongest (take n cs) (drop n cs) (token t) → StandsFirst cs n (Some t)
  nothing_first : n ≡ 1 → form (take 1 cs) ≡ None → NoLonger (take 1 cs) (drop 1 cs) → StandsFirst cs n (Some Invalid)

-- the first one is of a kind
abbrev pub begins : (ℕ → Bool) → List ℕ → Bool
begins kind [] = false
begins kind (c ∷ cs) = kind c

-- the first one continues a word
abbrev pub begins_with_continue : List ℕ → Bool
begins_with_continue [] = false
begins_with_continue (c ∷ cs) = is_xid_continue c

-- behind `/`: what makes a comment of it
abbrev pub opens_comment : List ℕ → Bool
opens_comment [] = false
opens_comment (c ∷ cs) = (c == 47) || (c == 42)

-- a word begins with this character, of which those stand behind
abbrev pub opens_word : ℕ → List ℕ → Bool
opens_word c behind = is_xid_start c || ((c == 95) && begins_with_continue behind)

-- a number begins with this character: with a digit, or with a point before one
abbrev pub opens_number : ℕ → List ℕ → Bool
opens_number c behind = is_ascii_digit c || (is_point c && begins is_ascii_digit behind)

-- a character and those behind it, if no blankspace, comment, word or number begins there
pub record BeginsNothingElse (c : ℕ) (behind : List ℕ) : Type 0 where
  pub blank : is_blank c ≡ false
  pub comment : ((c == 47) && opens_comment behind) ≡ false
  pub word : opens_word c behind ≡ false
  pub number : opens_number c behind ≡ false

-- a symbol of two characters ends in it
abbrev pub is_second : ℕ → Bool
is_second c = (c == 38) || (c == 43) || (c == 45) || (c == 58) || (c == 60) || (c == 61) || (c == 62) || (c == 124)

-- the symbols of one character with which no comment or word begins, and with which a number does only if it is a point
abbrev pub plain_symbols : List (ℕ × Fixed)
plain_symbols = (40, f.ParenLeft) ∷ (41, f.ParenRight) ∷ (44, f.Comma) ∷ (59, f.Semicolon) ∷ (123, f.BraceLeft) ∷ (125, f.BraceRight) ∷ (91, f.BracketLeft) ∷ (93, f.BracketRight) ∷ (64, f.Attr) ∷ (126, f.Tilde) ∷ (46, f.Period) ∷ (58, f.Colon) ∷ (61, f.Equal) ∷ (42, f.Star) ∷ (43, f.Plus) ∷ (45, f.Minus) ∷ (37, f.Modulo) ∷ (38, f.And) ∷ (124, f.Or) ∷ (33, f.Bang) ∷ (94, f.Xor) ∷ (60, f.LessThan) ∷ (62, f.GreaterThan) ∷ []

-- what stands in a table beside the first number that is this one
abbrev pub beside : List (ℕ × Fixed) → ℕ → Option Fixed
beside [] c = None
beside (entry ∷ entries) c = if c == entry.0 then Some entry.1 else beside entries c

-- of these, those with which no longer symbol begins
abbrev pub is_lone : ℕ → Bool
is_lone c = (c == 40) || (c == 41) || (c == 44) || (c == 59) || (c == 123) || (c == 125) || (c == 91) || (c == 93) || (c == 64) || (c == 126) || (c == 46)

-- the first one may end a symbol of two characters
abbrev pub begins_with_second : List ℕ → Bool
begins_with_second [] = false
begins_with_second (c ∷ cs) = is_second c

-- a symbol of one character in ASCII stands first
pub record IsAlone (c : ℕ) (behind : List ℕ) (fixed : Fixed) : Type 0 where
  pub ascii : c < 128
  pub stands : StandsFirst (c ∷ behind) 1 (Some (fixed_token fixed))

-- behind digits: a float may go on with it, or a hexadecimal number behind `0`
abbrev pub makes_more : ℕ → Bool
makes_more c = (c == 46) || (c == 101) || (c == 69) || (c == 120) || (c == 88) || (c == 102) || (c == 104)

-- a word or a number in ASCII stands first
pub record IsShortWord (c : ℕ) (behind : List ℕ) (word : ShortWord) : Type 0 where
  pub within : word.length ≤ length behind + 1
  pub bytes : size (take word.length (c ∷ behind)) ≡ word.length
  pub angle : ((c == 60) || (c == 62)) ≡ false
  pub stands : StandsFirst (c ∷ behind) word.length (Some word.token)

-- the token that the first two, or three, characters spell
abbrev pub spelled_by_two : ℕ → List ℕ → Option Fixed
spelled_by_two c [] = None
spelled_by_two c (d ∷ ds) = fixed_of (c ∷ d ∷ [])

abbrev pub spelled_by_three : ℕ → List ℕ → Option Fixed
spelled_by_three c [] = None
spelled_by_three c (d ∷ []) = None
spelled_by_three c (d ∷ e ∷ es) = fixed_of (c ∷ d ∷ e ∷ [])

-- how many characters are of a comment, if one stands there
pub data IsCommentAnswer (c : ℕ) (behind : List ℕ) : Option ℕ → Type 0 where
  no_comment : ((c == 47) && opens_comment behind) ≡ false → IsCommentAnswer c behind None
  comment : {n : ℕ} → n ≤ length behind + 1 → StandsFirst (c ∷ behind) n None → IsCommentAnswer c behind (Some n)

-- so many characters behind the first are of the longest number without suffix, and its value is this
pub record HasMagnitude (c : ℕ) (behind : List ℕ) (n : ℕ) (word : Option ℕ) : Type 0 where
  pub value : ℕ
  pub longest : IsLongestMagnitude (c ∷ take n behind) (drop n behind) value
  pub is_value : IsValue word value

-- a hexadecimal number goes on behind `0`
abbrev pub goes_on : List ℕ → Bool
goes_on [] = false
goes_on (c ∷ []) = false
goes_on (c ∷ d ∷ cs) = is_mark c && is_ascii_hexdigit d

abbrev pub IsHexadecimalAnswer : List ℕ → Option Magnitude → Type 0
IsHexadecimalAnswer behind answer = MatchOption answer (goes_on behind ≡ false) (λ m. (m.length ≤ length behind) × HasMagnitude 48 behind m.length m.value)

-- Floats

abbrev pub digit_in : Base → ℕ → Bool
digit_in Decimal = is_ascii_digit
digit_in Hexadecimal = is_ascii_hexdigit

abbrev pub mark_in : Base → ℕ → Bool
mark_in Decimal = is_e
mark_in Hexadecimal = is_p

abbrev pub sign_length : List ℕ → ℕ
sign_length [] = 0
sign_length (c ∷ cs) = if is_sign c then 1 else 0

-- `0x` or `0X` stands first
abbrev pub is_marked : List ℕ → Bool
is_marked cs = one is_zero (begins is_mark) cs

-- and this behind it
pub record IsMarked (cs digits : List ℕ) : Type 0 where
  pub mark : ℕ
  pub is_mark : is_mark mark ≡ true
  pub is : cs ≡ 48 ∷ mark ∷ digits

-- a point and so many digits behind it, if it stands first
pub data IsFractionAnswer (base : Base) (cs : List ℕ) : ℕ → Type 0 where
  fraction : {behind : List ℕ} {n : ℕ} → cs ≡ 46 ∷ behind → IsRun (digit_in base) behind n → IsFractionAnswer base cs (1 + n)
  no_fraction : begins is_point cs ≡ false → IsFractionAnswer base cs 0

-- parts of these lengths make a float: digits before a point or behind it, and a point or an exponent
abbrev pub makes_float : ℕ → ℕ → ℕ → Bool
makes_float whole point power = (nat_lt 0 whole || nat_lt 1 point) && (nat_lt 0 point || nat_lt 0 power)

-- the longest float of such digits at the front, and whether it has an exponent
pub record IsFloatOf (base : Base) (cs : List ℕ) (float : Float) : Type 0 where
  pub longest : IsLongestFront (float_of (digit_in base) (optional (exponent (mark_in base))) (exponent (mark_in base))) cs float.length
  pub exponent_is : float.takes_suffix ≡ float_of (digit_in base) (exponent (mark_in base)) (exponent (mark_in base)) (take float.length cs)

-- the longest float at the front, and whether it takes a suffix
pub record IsFloatFront (cs : List ℕ) (float : Float) : Type 0 where
  pub longest : IsLongestFront is_float cs float.length
  pub takes : 0 < float.length → float.takes_suffix ≡ takes_float_suffix (take float.length cs)

-- These characters are the longest number without suffix.
pub record IsLongestStem (cs rest : List ℕ) : Type 0 where
  pub no_whole : (more behind : List ℕ) → more ≢ [] → rest ≡ more ++ behind → magnitude (cs ++ more) ≡ None
  pub no_float : (more behind : List ℕ) → more ≢ [] → rest ≡ more ++ behind → is_float (cs ++ more) ≡ false

pub record IsWholeStem (c : ℕ) (front rest : List ℕ) (word : Option ℕ) : Type 0 where
  pub digit : is_ascii_digit c ≡ true
  pub value : ℕ
  pub is : magnitude (c ∷ front) ≡ Some value
  pub is_value : IsValue word value
  pub longest : IsLongestStem (c ∷ front) rest

pub record IsFloatStem (c : ℕ) (front rest : List ℕ) (takes_suffix : Bool) : Type 0 where
  pub no_whole : magnitude (c ∷ front) ≡ None
  pub is : is_float (c ∷ front) ≡ true
  pub takes : takes_suffix ≡ takes_float_suffix (c ∷ front)
  pub longest : IsLongestStem (c ∷ front) rest

-- the token of these characters with the suffix of a float, if that stands behind them and they take one
pub data IsSuffixAnswer (cs rest : List ℕ) : Option Token → Type 0 where
  suffix : {s : ℕ} {behind : List ℕ} {t : Token} → rest ≡ s ∷ behind → number_with s cs ≡ Some t → IsSuffixAnswer cs rest (Some t)
  no_suffix : ((s : ℕ) (behind : List ℕ) → rest ≡ s ∷ behind → (((s == 102) || (s == 104)) && takes_float_suffix cs) ≡ false) → IsSuffixAnswer cs rest None

-- a word that is fixed, with its token, or that is reserved, with none
abbrev pub is_meaning : List ℕ → Option Fixed → Bool
is_meaning word (Some fixed) = bytes_eq (spelling fixed) word
is_meaning word None = is_reserved word && is_none (fixed_of word)

-- from two to sixteen bytes
abbrev pub is_listable : List ℕ → Bool
is_listable word = nat_lt 1 (length word) && nat_lt (length word) 17

-- what the table has of a word: its meaning, or no row
pub data IsListed (word : List ℕ) : Option (Option Fixed) → Type 0 where
  listed : {fixed : Option Fixed} → is_meaning word fixed ≡ true → IsListed word (Some fixed)
  unlisted : list_any (λ entry. bytes_eq entry.0.now word) WORDS ≡ false → IsListed word None
