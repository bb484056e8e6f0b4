-- The signs of assignments, a space behind each.
use Rattle.std.proofs.Common.{◌≡◌, refl, ℕ, Bool, true, not, nat_lt, ◌&&◌, ◌==◌, List, [], ◌∷◌, ◌++◌, codes}
use Rattle.std.specs.List.{list_all}
use Rattle.unicode_ident.proofs.Computing.{unicode_ident}
use Rattle.wgsl_token.specs.declared.token.Fixed.{Fixed}
use Rattle.wgsl_token.specs.declared.token.Fixed.TheVariants as f
use Rattle.wgsl_lex.proofs.Tables.{no_fixed, fixed_of-spelling}
use Rattle.wgsl_lex.proofs.Forms.{opens_none, no_form, no_word, fixed_form}
use Rattle.wgsl_print_laws.proofs.Marks.{no_longer}
use Rattle.wgsl_words.specs.declared.enumerations.words.AssignmentOperator.{AssignmentOperator}
use Rattle.wgsl_words.specs.declared.enumerations.words.AssignmentOperator.TheVariants as a
use Rattle.wgsl_words.specs.Texts.{assignment_operator_text}
use Rattle.wgsl_print_laws.specs.Tokens.{mark}
use Rattle.wgsl_print_laws.proofs.Lays.{Lays, lays_token}
use Rattle.wgsl_print_laws.proofs.Signs.{begins_with_none, lays_sign, lays_pair, lays_space}
use Rattle.wgsl_print_laws.proofs.Expressions.{Run, run_then, sign_run}
use Rattle.wgsl_print_laws.specs.Simple.{assignment_sign}
use Rattle.wgsl_print_laws.proofs.Runs.{any_rest}

pub lays_equal : Lays (begins_with_none (61 ∷ [])) (codes "=") (mark f.Equal ∷ [])
unfolding unicode_ident
lays_equal = lays_sign f.Equal 61 refl (61 ∷ []) refl refl refl refl refl

lays_plus_equal : Lays any_rest (codes "+=") (mark f.PlusEqual ∷ [])
unfolding unicode_ident
lays_plus_equal = lays_pair f.PlusEqual 43 61 refl [] refl refl refl refl refl

lays_minus_equal : Lays any_rest (codes "-=") (mark f.MinusEqual ∷ [])
unfolding unicode_ident
lays_minus_equal = lays_pair f.MinusEqual 45 61 refl [] refl refl refl refl refl

lays_times_equal : Lays any_rest (codes "*=") (mark f.TimesEqual ∷ [])
unfolding unicode_ident
lays_times_equal = lays_pair f.TimesEqual 42 61 refl [] refl refl refl refl refl

lays_modulo_equal : Lays any_rest (codes "%=") (mark f.ModuloEqual ∷ [])
unfolding unicode_ident
lays_modulo_equal = lays_pair f.ModuloEqual 37 61 refl [] refl refl refl refl refl

lays_and_equal : Lays any_rest (codes "&=") (mark f.AndEqual ∷ [])
unfolding unicode_ident
lays_and_equal = lays_pair f.AndEqual 38 61 refl [] refl refl refl refl refl

lays_or_equal : Lays any_rest (codes "|=") (mark f.OrEqual ∷ [])
unfolding unicode_ident
lays_or_equal = lays_pair f.OrEqual 124 61 refl [] refl refl refl refl refl

lays_xor_equal : Lays any_rest (codes "^=") (mark f.XorEqual ∷ [])
unfolding unicode_ident
lays_xor_equal = lays_pair f.XorEqual 94 61 refl [] refl refl refl refl refl

-- `/=`, which begins as a comment does

abbrev alone_slash : List ℕ → Bool
alone_slash [] = true
alone_slash (x ∷ []) = true
alone_slash (x ∷ y ∷ []) = true
alone_slash (x ∷ y ∷ z ∷ xs) = not ((x == 47) && (y == 61))

lays_division_equal : Lays any_rest (codes "/=") (mark f.DivisionEqual ∷ [])
unfolding unicode_ident
lays_division_equal = lays_token (λ e. cc) (fixed_form (codes "/=") f.DivisionEqual refl (fixed_of-spelling f.DivisionEqual)) (λ rest ok. no_longer any_rest (codes "/=") rest ok (λ x more behind h.
    no_form 47 (61 ∷ x ∷ more) refl (no_fixed alone_slash refl (47 ∷ 61 ∷ x ∷ more) refl) (no_word 47 (61 ∷ x ∷ more) refl) (opens_none 47 (61 ∷ x ∷ more) refl)))

-- signs of three characters

abbrev alone_triple : ℕ → ℕ → ℕ → List ℕ → Bool
alone_triple c d e [] = true
alone_triple c d e (x ∷ []) = true
alone_triple c d e (x ∷ y ∷ []) = true
alone_triple c d e (x ∷ y ∷ z ∷ []) = true
alone_triple c d e (x ∷ y ∷ z ∷ w ∷ xs) = not ((x == c) && ((y == d) && (z == e)))

lays_shift_left_equal : Lays any_rest (codes "<<=") (mark f.ShiftLeftAssign ∷ [])
unfolding unicode_ident
lays_shift_left_equal = lays_token (λ e. cc) (fixed_form (codes "<<=") f.ShiftLeftAssign refl (fixed_of-spelling f.ShiftLeftAssign)) (λ rest ok. no_longer any_rest (codes "<<=") rest ok (λ x more behind h.
    no_form 60 (60 ∷ 61 ∷ x ∷ more) refl (no_fixed (alone_triple 60 60 61) refl (60 ∷ 60 ∷ 61 ∷ x ∷ more) refl) (no_word 60 (60 ∷ 61 ∷ x ∷ more) refl) (opens_none 60 (60 ∷ 61 ∷ x ∷ more) refl)))

lays_shift_right_equal : Lays any_rest (codes ">>=") (mark f.ShiftRightAssign ∷ [])
unfolding unicode_ident
lays_shift_right_equal = lays_token (λ e. cc) (fixed_form (codes ">>=") f.ShiftRightAssign refl (fixed_of-spelling f.ShiftRightAssign)) (λ rest ok. no_longer any_rest (codes ">>=") rest ok (λ x more behind h.
    no_form 62 (62 ∷ 61 ∷ x ∷ more) refl (no_fixed (alone_triple 62 62 61) refl (62 ∷ 62 ∷ 61 ∷ x ∷ more) refl) (no_word 62 (62 ∷ 61 ∷ x ∷ more) refl) (opens_none 62 (62 ∷ 61 ∷ x ∷ more) refl)))

-- ---- a space behind each

abbrev spaced_sign : {may : List ℕ → Bool} {cs : List ℕ} {g : Fixed} → Lays may cs (mark g ∷ []) → list_all (λ c. nat_lt c 128) cs ≡ true → ((rest : List ℕ) → may (32 ∷ rest) ≡ true) → Run any_rest (mark g ∷ []) (cs ++ codes " ")
spaced_sign l ascii at = run_then (sign_run l ascii) (sign_run lays_space refl) (λ rest ok. at rest)

pub operator_run : (o : AssignmentOperator) → Run any_rest (mark (assignment_sign o) ∷ []) (assignment_operator_text o ++ codes " ")
operator_run a.Equal = spaced_sign lays_equal refl (λ rest. refl)
operator_run a.PlusEqual = spaced_sign lays_plus_equal refl (λ rest. refl)
operator_run a.MinusEqual = spaced_sign lays_minus_equal refl (λ rest. refl)
operator_run a.TimesEqual = spaced_sign lays_times_equal refl (λ rest. refl)
operator_run a.DivisionEqual = spaced_sign lays_division_equal refl (λ rest. refl)
operator_run a.ModuloEqual = spaced_sign lays_modulo_equal refl (λ rest. refl)
operator_run a.AndEqual = spaced_sign lays_and_equal refl (λ rest. refl)
operator_run a.OrEqual = spaced_sign lays_or_equal refl (λ rest. refl)
operator_run a.XorEqual = spaced_sign lays_xor_equal refl (λ rest. refl)
operator_run a.ShiftRightAssign = spaced_sign lays_shift_right_equal refl (λ rest. refl)
operator_run a.ShiftLeftAssign = spaced_sign lays_shift_left_equal refl (λ rest. refl)
