-- Floats without their suffix (WGSL, "Floating Point Literals"). Some characters pass a pattern; a pattern that begins with
-- characters of a kind says what passes behind them.
use Rattle.std.specs.Prelude.{ℕ, Bool, true, false, not, ◌&&◌, ◌||◌, ◌==◌, List, [], ◌∷◌}
use Rattle.std.specs.Char.{is_ascii_digit, is_ascii_hexdigit}

-- no character at all
abbrev pub empty : List ℕ → Bool
empty [] = true
empty (c ∷ cs) = false

-- one character of a kind, then what passes
abbrev pub one : (ℕ → Bool) → (List ℕ → Bool) → List ℕ → Bool
one kind behind [] = false
one kind behind (c ∷ cs) = kind c && behind cs

-- any number of them, then what passes
abbrev pub many : (ℕ → Bool) → (List ℕ → Bool) → List ℕ → Bool
many kind behind [] = behind []
many kind behind (c ∷ cs) = behind (c ∷ cs) || (kind c && many kind behind cs)

-- one of them at least, then what passes
abbrev pub some : (ℕ → Bool) → (List ℕ → Bool) → List ℕ → Bool
some kind behind cs = one kind (many kind behind) cs

abbrev pub optional : (List ℕ → Bool) → List ℕ → Bool
optional pattern cs = empty cs || pattern cs

abbrev pub is_point : ℕ → Bool
is_point c = c == 46

abbrev pub is_sign : ℕ → Bool
is_sign c = (c == 43) || (c == 45)

abbrev pub is_zero : ℕ → Bool
is_zero c = c == 48

-- `x` or `X`, behind the `0` of a hexadecimal number
abbrev pub is_mark : ℕ → Bool
is_mark c = (c == 120) || (c == 88)

abbrev pub is_e : ℕ → Bool
is_e c = (c == 101) || (c == 69)

abbrev pub is_p : ℕ → Bool
is_p c = (c == 112) || (c == 80)

-- a mark, a sign or none, and decimal digits
abbrev pub exponent : (ℕ → Bool) → List ℕ → Bool
exponent mark cs = one mark (some is_ascii_digit empty) cs || one mark (one is_sign (some is_ascii_digit empty)) cs

-- `X`: an exponent with `e` or `E`, and `P`: one with `p` or `P`
abbrev pub decimal_exponent : List ℕ → Bool
decimal_exponent cs = exponent is_e cs

abbrev pub binary_exponent : List ℕ → Bool
binary_exponent cs = exponent is_p cs

-- with D for digits of a kind: `[D].D` or `D.[D]` and what passes behind a point, or `D` and what passes without one
abbrev pub float_of : (ℕ → Bool) → (List ℕ → Bool) → (List ℕ → Bool) → List ℕ → Bool
float_of digit pointed plain cs =
    many digit (one is_point (some digit pointed)) cs || (some digit (one is_point (many digit pointed)) cs || some digit plain cs)

-- behind `0x` or `0X`
abbrev pub hexadecimal : (List ℕ → Bool) → List ℕ → Bool
hexadecimal pattern cs = one is_zero (one is_mark pattern) cs

-- `[D].D[X]`, `D.[D][X]` and `DX`, of decimal digits D
abbrev pub is_decimal_float : List ℕ → Bool
is_decimal_float cs = float_of is_ascii_digit (optional decimal_exponent) decimal_exponent cs

-- `0x[H].H[P]`, `0xH.[H][P]` and `0xHP`, of hexadecimal digits H
abbrev pub is_hexadecimal_float : List ℕ → Bool
is_hexadecimal_float cs = hexadecimal (float_of is_ascii_hexdigit (optional binary_exponent) binary_exponent) cs

unfoldable pub is_float : List ℕ → Bool
is_float cs = is_decimal_float cs || is_hexadecimal_float cs

-- `0`, or a digit other than `0` and digits
abbrev pub is_decimal : List ℕ → Bool
is_decimal cs = one is_zero empty cs || one (λ c. is_ascii_digit c && not (is_zero c)) (many is_ascii_digit empty) cs

-- What may have the suffix `f` or `h`: a whole number in decimal, a decimal float, and a hexadecimal float with `P`
unfoldable pub takes_float_suffix : List ℕ → Bool
takes_float_suffix cs = is_decimal cs || (is_decimal_float cs || hexadecimal (float_of is_ascii_hexdigit binary_exponent binary_exponent) cs)
