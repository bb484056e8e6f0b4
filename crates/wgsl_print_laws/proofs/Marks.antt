-- What stands behind a token that has been printed makes no longer form with it.
use Rattle.std.proofs.Common.{◌≡◌, refl, sym, ap, ◌∙◌, subst, ℕ, Bool, true, false, not, ◌&&◌, ◌||◌, ◌==◌, List, [], ◌∷◌, ◌++◌, codes, None, inl, inr}
use Rattle.std.specs.List.{list_all}
use Rattle.std.proofs.lemmas.Bool.{eqb-true, eq-eqb, or_cases}
use Rattle.unicode_ident.specs.Ident.{is_xid_continue}
use Rattle.unicode_ident.proofs.Computing.{unicode_ident}
use Rattle.wgsl_lex.specs.Spelling.{spelling}
use Rattle.wgsl_lex.specs.Tokens.{all_fixed, form, NoLonger}
use Rattle.wgsl_lex.proofs.Tables.{no_fixed, begins_word, stays_word, spellings_stay_words}
use Rattle.wgsl_lex.proofs.Classes.{word_no_slash, word_no_number}
use Rattle.wgsl_lex.proofs.Forms.{begins_number, opens_none, no_form, no_trivia, no_word}

-- what may stand behind a word or a number: a space or `(` `)` `,` `:` `;`
abbrev pub is_stop : ℕ → Bool
is_stop c = (c == 32) || ((c == 40) || ((c == 41) || ((c == 44) || ((c == 58) || (c == 59)))))

abbrev pub stops : List ℕ → Bool
stops [] = false
stops (c ∷ cs) = is_stop c

-- what may stand behind the sign of an operator
abbrev pub spaced : List ℕ → Bool
spaced [] = false
spaced (c ∷ cs) = c == 32

-- what makes no other sign with `-`
abbrev pub no_sign : List ℕ → Bool
no_sign [] = false
no_sign (c ∷ cs) = not (c == 45) && (not (c == 61) && not (c == 62))

-- It is enough to look at each character that may come next.
pub no_longer : (may : List ℕ → Bool) (cs rest : List ℕ) → may rest ≡ true
    → ((d : ℕ) (more behind : List ℕ) → may (d ∷ more ++ behind) ≡ true → form (cs ++ d ∷ more) ≡ None) → NoLonger cs rest
no_longer may cs rest ok h [] behind filled e = absurd (filled refl)
no_longer may cs rest ok h (d ∷ more) behind filled e = h d more behind (ap may (sym e) ∙ ok)

-- Marks behind which anything may stand

-- no longer spelling begins so
abbrev alone : ℕ → List ℕ → Bool
alone c [] = true
alone c (x ∷ []) = true
alone c (x ∷ y ∷ xs) = not (x == c)

abbrev alone_pair : ℕ → ℕ → List ℕ → Bool
alone_pair c d [] = true
alone_pair c d (x ∷ []) = true
alone_pair c d (x ∷ y ∷ []) = true
alone_pair c d (x ∷ y ∷ z ∷ xs) = not ((x == c) && (y == d))

pub alone_no_longer : (c : ℕ) (rest : List ℕ) → (c == 47) ≡ false → list_all (λ g. alone c (spelling g)) all_fixed ≡ true → begins_word c ≡ false → begins_number c ≡ false
    → NoLonger (c ∷ []) rest
alone_no_longer c rest slash table letter number [] behind filled e = absurd (filled refl)
alone_no_longer c rest slash table letter number (d ∷ more) behind filled e =
    let same : (c == c) ≡ true = eq-eqb c c refl in
    no_form c (d ∷ more) (no_trivia c d more slash) (no_fixed (alone c) table (c ∷ d ∷ more) (ap not same)) (no_word c (d ∷ more) letter) (opens_none c (d ∷ more) number)

pub pair_no_longer : (c d : ℕ) (rest : List ℕ) → (c == 47) ≡ false → list_all (λ g. alone_pair c d (spelling g)) all_fixed ≡ true → begins_word c ≡ false → begins_number c ≡ false
    → NoLonger (c ∷ d ∷ []) rest
pair_no_longer c d rest slash table letter number [] behind filled e = absurd (filled refl)
pair_no_longer c d rest slash table letter number (x ∷ more) behind filled e =
    let same : (c == c) ≡ true = eq-eqb c c refl in
    let same' : (d == d) ≡ true = eq-eqb d d refl in
    let both : not ((c == c) && (d == d)) ≡ false = rw (same, same') in
    no_form c (d ∷ x ∷ more) (no_trivia c d (x ∷ more) slash) (no_fixed (alone_pair c d) table (c ∷ d ∷ x ∷ more) both) (no_word c (d ∷ x ∷ more) letter) (opens_none c (d ∷ x ∷ more) number)

-- Marks behind which a space stands

abbrev unspaced : List ℕ → Bool
unspaced [] = true
unspaced (x ∷ []) = true
unspaced (x ∷ y ∷ xs) = not (y == 32)

pub spaced_no_longer : (c : ℕ) (rest : List ℕ) → begins_word c ≡ false → begins_number c ≡ false → spaced rest ≡ true → NoLonger (c ∷ []) rest
spaced_no_longer c rest letter number ok = no_longer spaced (c ∷ []) rest ok next
  where
    at_space : (more : List ℕ) → form (c ∷ 32 ∷ more) ≡ None
    at_space more = no_form c (32 ∷ more) (no_comment (c == 47)) (no_fixed unspaced refl (c ∷ 32 ∷ more) refl) (no_word c (32 ∷ more) letter) (opens_none c (32 ∷ more) number)
      where
        no_comment : (b : Bool) → (b && false) ≡ false
        no_comment true = refl
        no_comment false = refl

    next : (d : ℕ) (more behind : List ℕ) → (d == 32) ≡ true → form (c ∷ d ∷ more) ≡ None
    next d more behind h = subst (λ x. form (c ∷ x ∷ more) ≡ None) (sym (eqb-true d 32 h)) (at_space more)

-- `-`

abbrev after_minus : List ℕ → Bool
after_minus [] = true
after_minus (x ∷ []) = true
after_minus (x ∷ y ∷ xs) = not (x == 45) || ((y == 45) || ((y == 61) || (y == 62)))

none_of : (a b c : Bool) → (not a && (not b && not c)) ≡ true → (a || (b || c)) ≡ false
none_of true b c h = absurd cc
none_of false true c h = absurd cc
none_of false false true h = absurd cc
none_of false false false h = refl

minus_begins_no_word : begins_word 45 ≡ false
unfolding unicode_ident
minus_begins_no_word = refl

pub minus_no_longer : (rest : List ℕ) → no_sign rest ≡ true → NoLonger (codes "-") rest
minus_no_longer rest ok = no_longer no_sign (codes "-") rest ok next
  where
    next : (d : ℕ) (more behind : List ℕ) → (not (d == 45) && (not (d == 61) && not (d == 62))) ≡ true → form (45 ∷ d ∷ more) ≡ None
    next d more behind h =
        no_form 45 (d ∷ more) refl (no_fixed after_minus refl (45 ∷ d ∷ more) (none_of (d == 45) (d == 61) (d == 62) h)) (no_word 45 (d ∷ more) minus_begins_no_word) refl

-- Words

pub at_stop : (p : ℕ → Bool) → p 32 ≡ false → p 40 ≡ false → p 41 ≡ false → p 44 ≡ false → p 58 ≡ false → p 59 ≡ false → (d : ℕ) → is_stop d ≡ true → p d ≡ false
at_stop p a b c e g h d ok = elim (or_cases _ _ ok) [
  | inl x ↦ ap p (eqb-true d 32 x) ∙ a
  | inr ok1 ↦ elim (or_cases _ _ ok1) [
    | inl x ↦ ap p (eqb-true d 40 x) ∙ b
    | inr ok2 ↦ elim (or_cases _ _ ok2) [
      | inl x ↦ ap p (eqb-true d 41 x) ∙ c
      | inr ok3 ↦ elim (or_cases _ _ ok3) [
        | inl x ↦ ap p (eqb-true d 44 x) ∙ e
        | inr ok4 ↦ elim (or_cases _ _ ok4) [ inl x ↦ ap p (eqb-true d 58 x) ∙ g | inr x ↦ ap p (eqb-true d 59 x) ∙ h ]
      ]
    ]
  ]
]

pub stop_ends_word : (d : ℕ) → is_stop d ≡ true → is_xid_continue d ≡ false
unfolding unicode_ident
stop_ends_word d ok = at_stop is_xid_continue refl refl refl refl refl refl d ok

-- one that fails
pub all_fails : (p : ℕ → Bool) (cs : List ℕ) (d : ℕ) (more : List ℕ) → p d ≡ false → list_all p (cs ++ d ∷ more) ≡ false
all_fails p [] d more h = ap (λ b. b && list_all p more) h
all_fails p (c ∷ cs) d more h = ap (λ b. p c && b) (all_fails p cs d more h) ∙ and_no (p c)
  where
    and_no : (b : Bool) → (b && false) ≡ false
    and_no true = refl
    and_no false = refl

pub word_no_form : (c : ℕ) (es : List ℕ) → begins_word c ≡ true → list_all is_xid_continue es ≡ false → form (c ∷ es) ≡ None
word_no_form c [] w e = absurd cc
word_no_form c (d ∷ es) w e =
    no_form c (d ∷ es) (no_trivia c d es (word_no_slash c w)) (no_fixed stays_word spellings_stay_words (c ∷ d ∷ es) (rw (w, e))) (rw (w, e)) (opens_none c (d ∷ es) (word_no_number c w))

pub word_no_longer : (c : ℕ) (cs rest : List ℕ) → begins_word c ≡ true → stops rest ≡ true → NoLonger (c ∷ cs) rest
word_no_longer c cs rest w ok = no_longer stops (c ∷ cs) rest ok (λ d more behind h. word_no_form c (cs ++ d ∷ more) w (all_fails is_xid_continue cs d more (stop_ends_word d h)))
