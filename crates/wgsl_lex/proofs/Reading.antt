-- Reading a text, one step after another.
use Rattle.std.specs.Prelude.{Option, Some, None}
use Rattle.std.proofs.Common.{◌≡◌, ℕ, ◌+◌, List, [], ◌∷◌, ◌++◌, length, take, drop, sym, ◌∙◌, ap, subst, arith, append_assoc, append-nil}
use Rattle.std.specs.Str.{chars, IsUtf8}
use Rattle.std.proofs.lemmas.Str.{encodes-chars, scalars-chars}
use Rattle.wgsl_token.specs.declared.token.SpannedToken.{SpannedToken}
use Rattle.wgsl_token.specs.declared.token.Token.{Token}
use Rattle.wgsl_lex.specs.Tokens.{size, spanned, Lexes, at_the_end, IsLexed}
use Rattle.wgsl_lex.specs.Pieces.{StandsFirst}
use Rattle.wgsl_lex.proofs.Sizes.{size_parts}
use Rattle.wgsl_lex.proofs.Once.{steps_trivia, steps_token}

-- what is read from here on completes what was read of the text
pub record IsReadTo (text : List ℕ) (start : ℕ) (rest : List ℕ) (done : List SpannedToken) : Type 0 where
  pub ends : start + size rest ≡ length text
  pub goes_on : (later : List SpannedToken) → Lexes start rest later → Lexes 0 (chars text) (done ++ later)

pub read_start : (text rest : List ℕ) (done : List SpannedToken) → IsUtf8 text → rest ≡ chars text → done ≡ [] → IsReadTo text 0 rest done
read_start text rest done utf8 spelled none =
    let whole : size rest ≡ length text = ap size spelled ∙ ap length (encodes-chars text utf8) in
    let P : List ℕ → Type 0 = λ cs. (later : List SpannedToken) → Lexes 0 cs later → Lexes 0 (chars text) later in
    let Q : List SpannedToken → Type 0 = λ xs. (later : List SpannedToken) → Lexes 0 rest later → Lexes 0 (chars text) (xs ++ later) in
    record { ends = omega arith; goes_on = subst Q (sym none) (subst P (sym spelled) (λ later l. l)) }

module _ (text rest : List ℕ) (start : ℕ) (done : List SpannedToken) (still : IsReadTo text start rest done) (c : ℕ) (behind : List ℕ) (is : rest ≡ c ∷ behind) where
  module _ (n bytes : ℕ) (front back : List ℕ) (f : front ≡ take n rest) (b : back ≡ drop n rest) (s : bytes ≡ size front) (o : Option Token) (stands : StandsFirst (c ∷ behind) n o) where
    next_ends : start + bytes + size back ≡ length text
    next_ends = omega (arith, size_parts rest front back n f b, still.ends)

    step_trivia : o ≡ None → (later : List SpannedToken) → Lexes (start + bytes) back later → Lexes start rest later
    step_trivia none later l =
        let P : Option Token → Type 0 = λ x. StandsFirst (c ∷ behind) n x in
        let Q : List ℕ → Type 0 = λ cs. Lexes start cs later in
        let R : ℕ → Type 0 = λ k. Lexes (start + k) back later in
        subst Q (sym is) (steps_trivia (c ∷ behind) front back n start later (subst P none stands) (f ∙ ap (take n) is) (b ∙ ap (drop n) is) (subst R s l))

    step_token : (t : Token) → o ≡ Some t → (later : List SpannedToken) → Lexes (start + bytes) back later → Lexes start rest (spanned t start (start + bytes) ∷ later)
    step_token t some later l =
        let P : Option Token → Type 0 = λ x. StandsFirst (c ∷ behind) n x in
        let Q : List ℕ → Type 0 = λ cs. Lexes start cs (spanned t start (start + bytes) ∷ later) in
        let R : ℕ → Type 0 = λ k. Lexes (start + k) back later in
        let S : ℕ → Type 0 = λ k. Lexes start (c ∷ behind) (spanned t start (start + k) ∷ later) in
        subst Q (sym is) (subst S (sym s) (steps_token c behind front back n start t later (subst P some stands) (f ∙ ap (take n) is) (b ∙ ap (drop n) is) (subst R s l)))

    pub read_trivia : o ≡ None → IsReadTo text (start + bytes) back done
    read_trivia none = record { ends = next_ends; goes_on = λ later l. still.goes_on later (step_trivia none later l) }

    pub read_token : (t : Token) (more : List SpannedToken) → o ≡ Some t → more ≡ done ++ spanned t start (start + bytes) ∷ [] → IsReadTo text (start + bytes) back more
    read_token t more some pushed = record {
      ends = next_ends;
      goes_on = λ later l.
          let P : List SpannedToken → Type 0 = λ xs. Lexes 0 (chars text) xs in
          let seam : done ++ (spanned t start (start + bytes) ∷ later) ≡ more ++ later = sym (append_assoc done (spanned t start (start + bytes) ∷ []) later) ∙ ap (λ xs. xs ++ later) (sym pushed) in
          subst P seam (still.goes_on (spanned t start (start + bytes) ∷ later) (step_token t some later l));
    }

pub read_all : (text rest : List ℕ) (start : ℕ) (done : List SpannedToken) → IsReadTo text start rest done → IsUtf8 text → length rest ≡ 0 → IsLexed text done
read_all text [] start done still utf8 none =
    let P : List SpannedToken → Type 0 = λ xs. Lexes 0 (chars text) xs in
    record { characters = chars text; are_scalars = scalars-chars text utf8; spell = encodes-chars text utf8; lexes = subst P (append-nil done) (still.goes_on [] at_the_end) }
read_all text (c ∷ cs) start done still utf8 none = absurd (omega arith)
