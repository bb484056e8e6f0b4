-- Signs as they are printed: each by what may stand behind it.
use Rattle.std.proofs.Common.{◌≡◌, refl, subst, ℕ, Bool, true, false, not, ◌&&◌, ◌||◌, ◌==◌, List, [], ◌∷◌, codes, Some}
use Rattle.std.specs.List.{list_all, list_any}
use Rattle.std.proofs.lemmas.Bool.{eq-eqb}
use Rattle.unicode_ident.proofs.Computing.{unicode_ident}
use Rattle.wgsl_token.specs.declared.token.Token.TheVariants as t
use Rattle.wgsl_token.specs.declared.token.Fixed.{Fixed}
use Rattle.wgsl_token.specs.declared.token.Fixed.TheVariants as f
use Rattle.wgsl_token.specs.Spelling.{spelling}
use Rattle.wgsl_lex.specs.Tokens.{is_trivia, all_fixed, form, token, NoLonger}
use Rattle.wgsl_lex.proofs.Tables.{no_fixed, begins_word, fixed_of-spelling}
use Rattle.wgsl_lex.proofs.Forms.{begins_number, opens_none, no_form, no_trivia, no_word, trivia_form, fixed_form}
use Rattle.wgsl_print_laws.proofs.Marks.{no_longer, spaced, spaced_no_longer}
use Rattle.wgsl_templates.specs.declared.meaning.token.TemplateToken.TheVariants.{TemplateArgsStart}
use Rattle.wgsl_print_laws.specs.Tokens.{mark}
use Rattle.wgsl_print_laws.proofs.Lays.{Lays, lays_token, lays_trivia, lays_start}

-- the first one is none of these
abbrev pub begins_with_none : List ℕ → List ℕ → Bool
begins_with_none ds [] = true
begins_with_none ds (c ∷ cs) = not (list_any (λ d. c == d) ds)

-- a longer spelling that begins with this character goes on with one of these
abbrev goes_on : ℕ → List ℕ → List ℕ → Bool
goes_on c ds [] = true
goes_on c ds (x ∷ []) = true
goes_on c ds (x ∷ y ∷ xs) = not (x == c) || list_any (λ d. y == d) ds

abbrev goes_on_behind : ℕ → ℕ → List ℕ → List ℕ → Bool
goes_on_behind c d ds [] = true
goes_on_behind c d ds (x ∷ []) = true
goes_on_behind c d ds (x ∷ y ∷ []) = true
goes_on_behind c d ds (x ∷ y ∷ z ∷ xs) = not ((x == c) && (y == d)) || list_any (λ e. z == e) ds

none_on : (b : Bool) (c : ℕ) → not b ≡ true → (not (c == c) || b) ≡ false
none_on true c h = absurd cc
none_on false c h = let same : (c == c) ≡ true = eq-eqb c c refl in rw same refl

none_on_pair : (b : Bool) (c d : ℕ) → not b ≡ true → (not ((c == c) && (d == d)) || b) ≡ false
none_on_pair true c d h = absurd cc
none_on_pair false c d h = let one : (c == c) ≡ true = eq-eqb c c refl in let two : (d == d) ≡ true = eq-eqb d d refl in rw (one, two) refl

sign_ends : (c : ℕ) (ds rest : List ℕ) → (c == 47) ≡ false → list_all (λ g. goes_on c ds (spelling g)) all_fixed ≡ true → begins_word c ≡ false → begins_number c ≡ false
    → begins_with_none ds rest ≡ true → NoLonger (c ∷ []) rest
sign_ends c ds rest slash table letter number ok = no_longer (begins_with_none ds) (c ∷ []) rest ok (λ d more behind h.
    no_form c (d ∷ more) (no_trivia c d more slash) (no_fixed (goes_on c ds) table (c ∷ d ∷ more) (none_on (list_any (λ e. d == e) ds) c h)) (no_word c (d ∷ more) letter) (opens_none c (d ∷ more) number))

pair_ends : (c d : ℕ) (ds rest : List ℕ) → (c == 47) ≡ false → list_all (λ g. goes_on_behind c d ds (spelling g)) all_fixed ≡ true → begins_word c ≡ false → begins_number c ≡ false
    → begins_with_none ds rest ≡ true → NoLonger (c ∷ d ∷ []) rest
pair_ends c d ds rest slash table letter number ok = no_longer (begins_with_none ds) (c ∷ d ∷ []) rest ok (λ x more behind h.
    no_form c (d ∷ x ∷ more) (no_trivia c d (x ∷ more) slash) (no_fixed (goes_on_behind c d ds) table (c ∷ d ∷ x ∷ more) (none_on_pair (list_any (λ e. x == e) ds) c d h))
    (no_word c (d ∷ x ∷ more) letter) (opens_none c (d ∷ x ∷ more) number))

-- a sign of one character, and one of two
module _ (g : Fixed) (c : ℕ) (is : spelling g ≡ c ∷ []) where
  pub lays_sign : (ds : List ℕ) → is_trivia (c ∷ []) ≡ false → (c == 47) ≡ false → list_all (λ h. goes_on c ds (spelling h)) all_fixed ≡ true → begins_word c ≡ false → begins_number c ≡ false
      → Lays (begins_with_none ds) (c ∷ []) (mark g ∷ [])
  lays_sign ds plain slash table letter number =
      let of : form (c ∷ []) ≡ Some (token (t.Fixed g)) = let P : List ℕ → Type 0 = λ cs. is_trivia cs ≡ false → form cs ≡ Some (token (t.Fixed g)) in subst P is (λ h. fixed_form (spelling g) g h (fixed_of-spelling g)) plain in
      lays_token (λ e. cc) of (λ rest ok. sign_ends c ds rest slash table letter number ok)

module _ (g : Fixed) (c d : ℕ) (is : spelling g ≡ c ∷ d ∷ []) where
  pub lays_pair : (ds : List ℕ) → is_trivia (c ∷ d ∷ []) ≡ false → (c == 47) ≡ false → list_all (λ h. goes_on_behind c d ds (spelling h)) all_fixed ≡ true → begins_word c ≡ false → begins_number c ≡ false
      → Lays (begins_with_none ds) (c ∷ d ∷ []) (mark g ∷ [])
  lays_pair ds plain slash table letter number =
      let of : form (c ∷ d ∷ []) ≡ Some (token (t.Fixed g)) = let P : List ℕ → Type 0 = λ cs. is_trivia cs ≡ false → form cs ≡ Some (token (t.Fixed g)) in subst P is (λ h. fixed_form (spelling g) g h (fixed_of-spelling g)) plain in
      lays_token (λ e. cc) of (λ rest ok. pair_ends c d ds rest slash table letter number ok)

-- ---- each sign

pub lays_paren_left : Lays (begins_with_none []) (codes "(") (mark f.ParenLeft ∷ [])
unfolding unicode_ident
lays_paren_left = lays_sign f.ParenLeft 40 refl [] refl refl refl refl refl

pub lays_paren_right : Lays (begins_with_none []) (codes ")") (mark f.ParenRight ∷ [])
unfolding unicode_ident
lays_paren_right = lays_sign f.ParenRight 41 refl [] refl refl refl refl refl

pub lays_bracket_left : Lays (begins_with_none []) (codes "[") (mark f.BracketLeft ∷ [])
unfolding unicode_ident
lays_bracket_left = lays_sign f.BracketLeft 91 refl [] refl refl refl refl refl

pub lays_bracket_right : Lays (begins_with_none []) (codes "]") (mark f.BracketRight ∷ [])
unfolding unicode_ident
lays_bracket_right = lays_sign f.BracketRight 93 refl [] refl refl refl refl refl

pub lays_comma : Lays (begins_with_none []) (codes ",") (mark f.Comma ∷ [])
unfolding unicode_ident
lays_comma = lays_sign f.Comma 44 refl [] refl refl refl refl refl

pub lays_tilde : Lays (begins_with_none []) (codes "~") (mark f.Tilde ∷ [])
unfolding unicode_ident
lays_tilde = lays_sign f.Tilde 126 refl [] refl refl refl refl refl

pub lays_bang : Lays (begins_with_none (61 ∷ [])) (codes "!") (mark f.Bang ∷ [])
unfolding unicode_ident
lays_bang = lays_sign f.Bang 33 refl (61 ∷ []) refl refl refl refl refl

pub lays_minus : Lays (begins_with_none (45 ∷ 61 ∷ 62 ∷ [])) (codes "-") (mark f.Minus ∷ [])
unfolding unicode_ident
lays_minus = lays_sign f.Minus 45 refl (45 ∷ 61 ∷ 62 ∷ []) refl refl refl refl refl

pub lays_and : Lays (begins_with_none (38 ∷ 61 ∷ [])) (codes "&") (mark f.And ∷ [])
unfolding unicode_ident
lays_and = lays_sign f.And 38 refl (38 ∷ 61 ∷ []) refl refl refl refl refl

pub lays_star : Lays (begins_with_none (61 ∷ [])) (codes "*") (mark f.Star ∷ [])
unfolding unicode_ident
lays_star = lays_sign f.Star 42 refl (61 ∷ []) refl refl refl refl refl

pub lays_plus : Lays (begins_with_none (43 ∷ 61 ∷ [])) (codes "+") (mark f.Plus ∷ [])
unfolding unicode_ident
lays_plus = lays_sign f.Plus 43 refl (43 ∷ 61 ∷ []) refl refl refl refl refl

pub lays_modulo : Lays (begins_with_none (61 ∷ [])) (codes "%") (mark f.Modulo ∷ [])
unfolding unicode_ident
lays_modulo = lays_sign f.Modulo 37 refl (61 ∷ []) refl refl refl refl refl

pub lays_or : Lays (begins_with_none (61 ∷ 124 ∷ [])) (codes "|") (mark f.Or ∷ [])
unfolding unicode_ident
lays_or = lays_sign f.Or 124 refl (61 ∷ 124 ∷ []) refl refl refl refl refl

pub lays_xor : Lays (begins_with_none (61 ∷ [])) (codes "^") (mark f.Xor ∷ [])
unfolding unicode_ident
lays_xor = lays_sign f.Xor 94 refl (61 ∷ []) refl refl refl refl refl

pub lays_less : Lays (begins_with_none (60 ∷ 61 ∷ [])) (codes "<") (mark f.LessThan ∷ [])
unfolding unicode_ident
lays_less = lays_sign f.LessThan 60 refl (60 ∷ 61 ∷ []) refl refl refl refl refl

pub lays_greater : Lays (begins_with_none (61 ∷ 62 ∷ [])) (codes ">") (mark f.GreaterThan ∷ [])
unfolding unicode_ident
lays_greater = lays_sign f.GreaterThan 62 refl (61 ∷ 62 ∷ []) refl refl refl refl refl

pub lays_separator : Lays (begins_with_none []) (codes "::") (mark f.PathSeparator ∷ [])
unfolding unicode_ident
lays_separator = lays_pair f.PathSeparator 58 58 refl [] refl refl refl refl refl

pub lays_or_or : Lays (begins_with_none []) (codes "||") (mark f.OrOr ∷ [])
unfolding unicode_ident
lays_or_or = lays_pair f.OrOr 124 124 refl [] refl refl refl refl refl

pub lays_and_and : Lays (begins_with_none []) (codes "&&") (mark f.AndAnd ∷ [])
unfolding unicode_ident
lays_and_and = lays_pair f.AndAnd 38 38 refl [] refl refl refl refl refl

pub lays_equal_equal : Lays (begins_with_none []) (codes "==") (mark f.EqualEqual ∷ [])
unfolding unicode_ident
lays_equal_equal = lays_pair f.EqualEqual 61 61 refl [] refl refl refl refl refl

pub lays_not_equal : Lays (begins_with_none []) (codes "!=") (mark f.NotEqual ∷ [])
unfolding unicode_ident
lays_not_equal = lays_pair f.NotEqual 33 61 refl [] refl refl refl refl refl

pub lays_less_equal : Lays (begins_with_none []) (codes "<=") (mark f.LessThanEqual ∷ [])
unfolding unicode_ident
lays_less_equal = lays_pair f.LessThanEqual 60 61 refl [] refl refl refl refl refl

pub lays_greater_equal : Lays (begins_with_none []) (codes ">=") (mark f.GreaterThanEqual ∷ [])
unfolding unicode_ident
lays_greater_equal = lays_pair f.GreaterThanEqual 62 61 refl [] refl refl refl refl refl

pub lays_shift_left : Lays (begins_with_none (61 ∷ [])) (codes "<<") (mark f.ShiftLeft ∷ [])
unfolding unicode_ident
lays_shift_left = lays_pair f.ShiftLeft 60 60 refl (61 ∷ []) refl refl refl refl refl

pub lays_shift_right : Lays (begins_with_none (61 ∷ [])) (codes ">>") (mark f.ShiftRight ∷ [])
unfolding unicode_ident
lays_shift_right = lays_pair f.ShiftRight 62 62 refl (61 ∷ []) refl refl refl refl refl

-- `/`, which could begin a comment
pub lays_slash : Lays spaced (codes "/") (mark f.ForwardSlash ∷ [])
unfolding unicode_ident
lays_slash = lays_token (λ e. cc) (fixed_form (codes "/") f.ForwardSlash refl (fixed_of-spelling f.ForwardSlash)) (λ rest ok. spaced_no_longer 47 rest refl refl ok)

-- a digit or a point alone behind a point would begin a number
pub lays_list_start : Lays (begins_with_none (60 ∷ 61 ∷ [])) (codes "<") (TemplateArgsStart ∷ [])
unfolding unicode_ident
lays_list_start = lays_start (λ e. cc) refl (fixed_form (codes "<") f.LessThan refl (fixed_of-spelling f.LessThan)) (λ rest ok. sign_ends 60 (60 ∷ 61 ∷ []) rest refl refl refl refl ok)

pub lays_space : Lays (begins_with_none []) (codes " ") []
unfolding unicode_ident
lays_space = lays_trivia (λ e. cc) (trivia_form (codes " ") refl) (λ rest ok. sign_ends 32 [] rest refl refl refl refl ok)

-- the end of a line
pub lays_blank : Lays (begins_with_none []) (codes "\n") []
unfolding unicode_ident
lays_blank = lays_trivia (λ e. cc) (trivia_form (codes "\n") refl) (λ rest ok. sign_ends 10 [] rest refl refl refl refl ok)
