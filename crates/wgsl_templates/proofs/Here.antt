-- What stands at a place.
use Rattle.std.specs.Prelude.{Option, Some, None, is_some, slice_index_or}
use Rattle.std.proofs.Common.{◌≡◌, ℕ, zero, suc, ◌+◌, ◌<◌, ◌≤◌, Bool, true, false, ◌&&◌, ◌==◌, List, [], ◌∷◌, length, take, drop, refl, sym, ◌∙◌, ap, subst, arith}
use Rattle.wgsl_token.specs.declared.token.Token.{Token}
use Rattle.wgsl_base.proofs.Bools.{and_both, false_if}
use Rattle.wgsl_lex.specs.declared.short.ShortWord.{ShortWord}
use Rattle.wgsl_lex.specs.Pieces.{StandsFirst, IsShortWord}
use Rattle.wgsl_lex.proofs.Bools.{is_number, and_false, neither}
use Rattle.wgsl_templates.specs.declared.meaning.token.TemplateToken.{TemplateToken}
use Rattle.wgsl_templates.specs.declared.meaning.token.TemplateToken.TheVariants.{Plain, TemplateArgsEnd}
use Rattle.wgsl_templates.specs.Tokens.{is_less, is_in_list, less_or_start, State, IsFirst, closing, asked, plain, Opens}
use Rattle.wgsl_templates.proofs.Once.{first_takes}
use Rattle.wgsl_templates.specs.declared.entry.Entry.{Entry}
use Rattle.wgsl_templates.specs.Levels.{none, IsTable}
use Rattle.wgsl_templates.specs.Steps.{StandsHere, trivia_here, token_here}
use Rattle.wgsl_templates.proofs.Levels.{opens_where}

pub is_first : (c : ℕ) (cs : List ℕ) (n : ℕ) (o : Option Token) → StandsFirst (c ∷ cs) n o → IsFirst (c ∷ cs) n o
is_first c cs n o h = record { some = λ e. cc; stands = h }

pub here_trivia : (s : State) (c : ℕ) (cs : List ℕ) (n : ℕ) (o : Option Token) → StandsFirst (c ∷ cs) n o → o ≡ None → StandsHere s (c ∷ cs) n None
here_trivia s c cs n o h e = let P : Option Token → Type 0 = λ x. StandsFirst (c ∷ cs) n x in trivia_here (is_first c cs n None (subst P e h))

-- `<` alone, by its first character and how many there are
pub less_is : (c : ℕ) (cs : List ℕ) (n : ℕ) → 0 < n → n ≤ length cs + 1 → is_less (take n (c ∷ cs)) ≡ ((c == 60) && (n == 1))
less_is c cs zero some within = absurd (omega arith)
less_is c cs (suc zero) some within = sym (and_true (c == 60))
  where
    and_true : (b : Bool) → (b && true) ≡ b
    and_true true = refl
    and_true false = refl
less_is c [] (suc (suc n)) some within = absurd (omega arith)
less_is c (d ∷ cs) (suc (suc n)) some within =
    let other : (suc (suc n) == 1) ≡ false = false_if (suc (suc n) == 1) (λ e. let h : suc (suc n) ≡ 1 = is_number (suc (suc n)) 1 e in absurd (omega arith)) in
    sym (rw other (and_false (c == 60)))

module _ (s : State) (c : ℕ) (cs : List ℕ) (n : ℕ) (t : Token) (within : n ≤ length cs + 1) (stands : StandsFirst (c ∷ cs) n (Some t)) where
  first : IsFirst (c ∷ cs) n (Some t)
  first = is_first c cs n (Some t) stands

  asks : (s.after_word && is_less (take n (c ∷ cs))) ≡ (s.after_word && ((c == 60) && (n == 1)))
  asks = ap (λ x. s.after_word && x) (less_is c cs n (first_takes (c ∷ cs) n (Some t) first) within)

  pub here_closing : (is_in_list s.opened && (c == 62)) ≡ true → StandsHere s (c ∷ cs) 1 (Some TemplateArgsEnd)
  here_closing e = token_here (closing n t first e)

  pub here_plain : (is_in_list s.opened && (c == 62)) ≡ false → (s.after_word && ((c == 60) && (n == 1))) ≡ false → StandsHere s (c ∷ cs) n (Some (Plain t))
  here_plain e f = token_here (plain n t first e (asks ∙ f))

  pub here_asked : (table : List Entry) (u : TemplateToken) (opens : Bool) → (s.after_word && ((c == 60) && (n == 1))) ≡ true → IsTable (c ∷ cs) table → length cs < length table → opens ≡ is_some (slice_index_or table (length cs) none).end
      → u ≡ less_or_start opens t → StandsHere s (c ∷ cs) n (Some u)
  here_asked table u opens e has covered entry made =
      let signs = and_both (c == 60) (n == 1) (and_both s.after_word ((c == 60) && (n == 1)) e).1 in
      let less : c ≡ 60 = is_number c 60 signs.0 in
      let single : n ≡ 1 = is_number n 1 signs.1 in
      let P : Bool → Type 0 = Opens cs in
      let found : Opens cs opens = subst P (sym entry) (opens_where cs _ ((has [] 60 cs (ap (λ x. x ∷ cs) less) covered).list refl)) in
      let Q : TemplateToken → Type 0 = λ x. StandsHere s (c ∷ cs) n (Some x) in
      let R : ℕ → Type 0 = λ k. Opens (drop k (c ∷ cs)) opens in
      subst Q (sym made) (token_here (asked n t first (asks ∙ e) (subst R (sym single) found)))

-- a short word is told as it is
pub here_word : (s : State) (c : ℕ) (cs : List ℕ) (found : ShortWord) → IsShortWord c cs found → StandsHere s (c ∷ cs) found.length (Some (Plain found.token))
here_word s c cs found short =
    let other = neither (c == 60) (c == 62) short.angle in
    here_plain s c cs found.length found.token short.within short.stands (rw other.1 (and_false (is_in_list s.opened))) (rw other.0 (and_false s.after_word))
