-- Symbols that stand alone.
use Rattle.std.specs.Prelude.{Some, None, nat_lt}
use Rattle.std.proofs.Common.{◌≡◌, ℕ, Bool, true, false, cond, not, ◌==◌, ◌⊎◌, inl, inr, List, [], ◌∷◌, refl, sym, ◌∙◌, ap}
use Rattle.std.specs.List.{list_all}
use Rattle.std.specs.Str.{bytes_eq}
use Rattle.std.proofs.lemmas.Bool.{ltb-true}
use Rattle.std.proofs.lemmas.Slice.Eq.{bytes_eq-Decides}
use Rattle.unicode_ident.specs.Ident.{is_xid_start}
use Rattle.unicode_ident.proofs.Computing.{unicode_ident}
use Rattle.wgsl_token.specs.declared.token.Fixed.{Fixed}
use Rattle.wgsl_token.specs.Spelling.{spelling}
use Rattle.wgsl_lex.specs.Tokens.{all_fixed, fixed_of, is_blank}
use Rattle.wgsl_lex.specs.Pieces.{opens_number, BeginsNothingElse, IsAlone, plain_symbols, beside, is_lone, begins_with_second, spelled_by_two, spelled_by_three}
use Rattle.wgsl_lex.proofs.Bools.{neither, is_number}
use Rattle.wgsl_lex.proofs.Classes.{not_true}
use Rattle.wgsl_lex.proofs.Tables.{begins_word, no_fixed, fixed_of-spelling}
use Rattle.wgsl_lex.proofs.Symbols.{two_is, three_is, not_second, not_second_of_three}
use Rattle.wgsl_lex.proofs.First.{one_first}
use Rattle.wgsl_base.proofs.Bools.{and_both as both}

-- whatever each entry passes, what is found passes
beside_passes : (q : ℕ → Fixed → Bool) (table : List (ℕ × Fixed)) (c : ℕ) (g : Fixed) → list_all (λ x. q x.0 x.1) table ≡ true → beside table c ≡ Some g → q c g ≡ true
beside_passes q [] c g all e = cc
beside_passes q (x ∷ xs) c g all e =
    let parts = both (q x.0 x.1) (list_all (λ y. q y.0 y.1) xs) all in
    elim (c == x.0) as (λ b. (c == x.0) ≡ b → cond b (Some x.1) (beside xs c) ≡ Some g → q c g ≡ true) [
      | true ↦ λ same found.
          let h : c ≡ x.0 = is_number c x.0 same in
          let k : g ≡ x.1 = cc in
          (λ i. q (h i) (k i)) ∙ parts.0
      | false ↦ λ _ found. beside_passes q xs c g parts.1 found
    ] refl e

-- no longer spelling begins with a lone symbol
abbrev is_no_longer : List ℕ → Bool
is_no_longer [] = true
is_no_longer (c ∷ []) = true
is_no_longer (c ∷ d ∷ ds) = not (is_lone c)

spellings_are_no_longer : list_all (λ g. is_no_longer (spelling g)) all_fixed ≡ true
spellings_are_no_longer = refl

lone_ends : (c d : ℕ) (ds : List ℕ) → is_lone c ≡ true → fixed_of (c ∷ d ∷ ds) ≡ None
lone_ends c d ds lone = no_fixed is_no_longer spellings_are_no_longer (c ∷ d ∷ ds) (rw lone)

no_two : (c : ℕ) (behind : List ℕ) → is_xid_start c ≡ false → ((is_lone c ≡ true) ⊎ (begins_with_second behind ≡ false)) → spelled_by_two c behind ≡ None
no_two c [] starts why = refl
no_two c (d ∷ ds) starts (inl lone) = lone_ends c d [] lone
no_two c (d ∷ ds) starts (inr other) = sym (two_is c d starts) ∙ not_second c d other

no_three : (c : ℕ) (behind : List ℕ) → is_xid_start c ≡ false → ((is_lone c ≡ true) ⊎ (begins_with_second behind ≡ false)) → spelled_by_three c behind ≡ None
no_three c [] starts why = refl
no_three c (d ∷ []) starts why = refl
no_three c (d ∷ e ∷ es) starts (inl lone) = lone_ends c d (e ∷ []) lone
no_three c (d ∷ e ∷ es) starts (inr other) = sym (three_is c d e starts) ∙ not_second_of_three c d e other

module _ (c : ℕ) (fixed : Fixed) (found : beside plain_symbols c ≡ Some fixed) where
  no_word : begins_word c ≡ false
  unfolding unicode_ident
  no_word = not_true _ (beside_passes (λ x g. not (begins_word x)) plain_symbols c fixed refl found)

  no_slash : (c == 47) ≡ false
  no_slash = not_true _ (beside_passes (λ x g. not (x == 47)) plain_symbols c fixed refl found)

  spelled : fixed_of (c ∷ []) ≡ Some fixed
  spelled = ap fixed_of (sym ((bytes_eq-Decides (spelling fixed) (c ∷ [])).0 (beside_passes (λ x g. bytes_eq (spelling g) (x ∷ [])) plain_symbols c fixed refl found))) ∙ fixed_of-spelling fixed

  nothing_else : (behind : List ℕ) → opens_number c behind ≡ false → BeginsNothingElse c behind
  nothing_else behind number =
      let letters = neither (is_xid_start c) (c == 95) no_word in
      record {
        blank = not_true _ (beside_passes (λ x g. not (is_blank x)) plain_symbols c fixed refl found);
        comment = rw no_slash;
        word = rw (letters.0, letters.1);
        number = number;
      }

  pub stands_alone : (behind : List ℕ) → opens_number c behind ≡ false → ((is_lone c ≡ true) ⊎ (begins_with_second behind ≡ false)) → IsAlone c behind fixed
  stands_alone behind number why =
      let starts = (neither (is_xid_start c) (c == 95) no_word).0 in
      record {
        ascii = ltb-true c 128 (beside_passes (λ x g. nat_lt x 128) plain_symbols c fixed refl found);
        stands = one_first c behind (nothing_else behind number) fixed (no_three c behind starts why) (no_two c behind starts why) spelled;
      }
