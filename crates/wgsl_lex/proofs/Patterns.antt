-- What passes the patterns of floats.
use Rattle.std.proofs.Common.{◌≡◌, ℕ, zero, suc, Bool, true, false, ◌&&◌, ◌||◌, ◌==◌, List, [], ◌∷◌, ◌++◌, take, refl, sym, ◌∙◌, ap}
use Rattle.std.specs.List.{list_all}
use Rattle.std.specs.Char.{is_ascii_digit}
use Rattle.wgsl_lex.specs.Floats.{empty, one, many, some, is_point, is_sign, exponent, float_of}
use Rattle.wgsl_lex.specs.Pieces.{begins}
use Rattle.wgsl_lex.proofs.Bools.{is_number}
use Rattle.wgsl_base.proofs.Bools.{and_both as both}

pub or_false : (b : Bool) → (b || false) ≡ b
or_false true = refl
or_false false = refl

or_same : (b : Bool) → (b || (b || false)) ≡ b
or_same true = refl
or_same false = refl

pub begins_take : (kind : ℕ → Bool) (cs : List ℕ) (n : ℕ) → begins kind cs ≡ false → begins kind (take n cs) ≡ false
begins_take kind cs zero e = refl
begins_take kind [] (suc n) e = refl
begins_take kind (c ∷ cs) (suc n) e = e

-- A pattern before which no digit is left over
abbrev pub Stays : (ℕ → Bool) → (List ℕ → Bool) → Type 0
Stays digit behind = (c : ℕ) (cs : List ℕ) → digit c ≡ true → behind (c ∷ cs) ≡ false

pub one_begins : (kind : ℕ → Bool) (behind : List ℕ → Bool) (cs : List ℕ) → begins kind cs ≡ false → one kind behind cs ≡ false
one_begins kind behind [] e = refl
one_begins kind behind (c ∷ cs) e = rw e

pub many_over : (digit : ℕ → Bool) (behind : List ℕ → Bool) → Stays digit behind → (ds cs : List ℕ) → list_all digit ds ≡ true → many digit behind (ds ++ cs) ≡ many digit behind cs
many_over digit behind stays [] cs all = refl
many_over digit behind stays (d ∷ ds) cs all =
    let h = both (digit d) (list_all digit ds) all in
    rw (stays d (ds ++ cs) h.0, h.0) (many_over digit behind stays ds cs h.1)

pub many_here : (digit : ℕ → Bool) (behind : List ℕ → Bool) (cs : List ℕ) → begins digit cs ≡ false → many digit behind cs ≡ behind cs
many_here digit behind [] e = refl
many_here digit behind (c ∷ cs) e = rw e (or_false (behind (c ∷ cs)))

-- digits, and what no digit begins
pub many_past : (digit : ℕ → Bool) (behind : List ℕ → Bool) → Stays digit behind → (ds cs : List ℕ) → list_all digit ds ≡ true → begins digit cs ≡ false → many digit behind (ds ++ cs) ≡ behind cs
many_past digit behind stays ds cs all e = many_over digit behind stays ds cs all ∙ many_here digit behind cs e

pub some_past : (digit : ℕ → Bool) (behind : List ℕ → Bool) → Stays digit behind → (d : ℕ) (ds cs : List ℕ) → list_all digit (d ∷ ds) ≡ true → begins digit cs ≡ false
    → some digit behind (d ∷ (ds ++ cs)) ≡ behind cs
some_past digit behind stays d ds cs all e =
    let h = both (digit d) (list_all digit ds) all in
    rw h.0 (many_past digit behind stays ds cs h.1 e)

pub many_empty : (kind : ℕ → Bool) (cs : List ℕ) → many kind empty cs ≡ list_all kind cs
many_empty kind [] = refl
many_empty kind (c ∷ cs) = ap (λ b. kind c && b) (many_empty kind cs)

-- A float of digits of a kind, by its parts
module _ (digit : ℕ → Bool) (pointed plain : List ℕ → Bool) (no_point : digit 46 ≡ false) (stays : Stays digit pointed) (plainly : Stays digit plain)
    (unpointed : (cs : List ℕ) → plain (46 ∷ cs) ≡ false) where
  point_stays : (behind : List ℕ → Bool) → Stays digit (one is_point behind)
  point_stays behind c cs h = one_begins is_point behind (c ∷ cs) (other (c == 46) refl)
    where
      other : (b : Bool) → (c == 46) ≡ b → (c == 46) ≡ false
      other false e = e
      other true e = let same : c ≡ 46 = is_number c 46 e in let wrong : true ≡ false = sym h ∙ ap digit same ∙ no_point in absurd cc

  -- without a point
  pub plain_value : (d : ℕ) (ds cs : List ℕ) → list_all digit (d ∷ ds) ≡ true → begins digit cs ≡ false → begins is_point cs ≡ false → float_of digit pointed plain (d ∷ (ds ++ cs)) ≡ plain cs
  plain_value d ds cs all e p =
      let a : many digit (one is_point (some digit pointed)) (d ∷ (ds ++ cs)) ≡ false =
      many_past digit (one is_point (some digit pointed)) (point_stays _) (d ∷ ds) cs all e ∙ one_begins is_point (some digit pointed) cs p
      in
      let b : some digit (one is_point (many digit pointed)) (d ∷ (ds ++ cs)) ≡ false =
      some_past digit (one is_point (many digit pointed)) (point_stays _) d ds cs all e ∙ one_begins is_point (many digit pointed) cs p
      in
      let k : some digit plain (d ∷ (ds ++ cs)) ≡ plain cs = some_past digit plain plainly d ds cs all e in
      (λ i. a i || (b i || k i))

  -- with one, and digits before it
  pub pointed_value : (d : ℕ) (ds es cs : List ℕ) → list_all digit (d ∷ ds) ≡ true → list_all digit es ≡ true → begins digit cs ≡ false → float_of digit pointed plain (d ∷ (ds ++ 46 ∷ (es ++ cs))) ≡ pointed cs
  pointed_value d ds es cs all more e =
      let tail : List ℕ = 46 ∷ (es ++ cs) in
      let a : many digit (one is_point (some digit pointed)) (d ∷ (ds ++ tail)) ≡ some digit pointed (es ++ cs) =
      many_past digit (one is_point (some digit pointed)) (point_stays _) (d ∷ ds) tail all no_point
      in
      let b : some digit (one is_point (many digit pointed)) (d ∷ (ds ++ tail)) ≡ many digit pointed (es ++ cs) =
      some_past digit (one is_point (many digit pointed)) (point_stays _) d ds tail all no_point
      in
      let k : some digit plain (d ∷ (ds ++ tail)) ≡ false = some_past digit plain plainly d ds tail all no_point ∙ unpointed (es ++ cs) in
      (λ i. a i || (b i || k i)) ∙ fraction es more
    where
      fraction : (es : List ℕ) → list_all digit es ≡ true → (some digit pointed (es ++ cs) || (many digit pointed (es ++ cs) || false)) ≡ pointed cs
      fraction [] h = (λ i. one_begins digit (many digit pointed) cs e i || (many_here digit pointed cs e i || false)) ∙ or_false (pointed cs)
      fraction (x ∷ es) h = (λ i. some_past digit pointed stays x es cs h e i || (many_past digit pointed stays (x ∷ es) cs h e i || false)) ∙ or_same (pointed cs)

  -- with digits behind it only
  pub led_value : (x : ℕ) (es cs : List ℕ) → list_all digit (x ∷ es) ≡ true → begins digit cs ≡ false → float_of digit pointed plain (46 ∷ x ∷ (es ++ cs)) ≡ pointed cs
  led_value x es cs more e =
      let tail : List ℕ = 46 ∷ x ∷ (es ++ cs) in
      let a : many digit (one is_point (some digit pointed)) tail ≡ pointed cs =
      many_here digit (one is_point (some digit pointed)) tail no_point ∙ some_past digit pointed stays x es cs more e
      in
      let b : some digit (one is_point (many digit pointed)) tail ≡ false = one_begins digit (many digit (one is_point (many digit pointed))) tail no_point in
      let k : some digit plain tail ≡ false = one_begins digit (many digit plain) tail no_point in
      (λ i. a i || (b i || k i)) ∙ or_false (pointed cs)

  -- a point alone, and empty of the kind, are none
  pub point_alone : (cs : List ℕ) → begins digit cs ≡ false → float_of digit pointed plain (46 ∷ cs) ≡ false
  point_alone cs e =
      let a : many digit (one is_point (some digit pointed)) (46 ∷ cs) ≡ false =
      many_here digit (one is_point (some digit pointed)) (46 ∷ cs) no_point ∙ one_begins digit (many digit pointed) cs e
      in
      let b : some digit (one is_point (many digit pointed)) (46 ∷ cs) ≡ false = one_begins digit (many digit (one is_point (many digit pointed))) (46 ∷ cs) no_point in
      let k : some digit plain (46 ∷ cs) ≡ false = one_begins digit (many digit plain) (46 ∷ cs) no_point in
      (λ i. a i || (b i || k i))

  pub no_digit : (cs : List ℕ) → begins digit cs ≡ false → begins is_point cs ≡ false → float_of digit pointed plain cs ≡ false
  no_digit cs e p =
      let a : many digit (one is_point (some digit pointed)) cs ≡ false =
      many_here digit (one is_point (some digit pointed)) cs e ∙ one_begins is_point (some digit pointed) cs p
      in
      let b : some digit (one is_point (many digit pointed)) cs ≡ false = one_begins digit (many digit (one is_point (many digit pointed))) cs e in
      let k : some digit plain cs ≡ false = one_begins digit (many digit plain) cs e in
      (λ i. a i || (b i || k i))

-- Exponents

module _ (mark : ℕ → Bool) where
  pub no_exponent : (cs : List ℕ) → begins mark cs ≡ false → exponent mark cs ≡ false
  no_exponent cs e = (λ i. one_begins mark (some is_ascii_digit empty) cs e i || one_begins mark (one is_sign (some is_ascii_digit empty)) cs e i)

  pub unsigned_value : (m : ℕ) (cs : List ℕ) → mark m ≡ true → begins is_sign cs ≡ false → exponent mark (m ∷ cs) ≡ some is_ascii_digit empty cs
  unsigned_value m cs h e = rw (h, one_begins is_sign (some is_ascii_digit empty) cs e) (or_false (some is_ascii_digit empty cs))

  pub signed_value : (m s : ℕ) (cs : List ℕ) → mark m ≡ true → is_sign s ≡ true → is_ascii_digit s ≡ false → exponent mark (m ∷ s ∷ cs) ≡ some is_ascii_digit empty cs
  signed_value m s cs h sign other = rw (h, sign, other)

-- What is narrower passes what is wider.

abbrev pub Within : (List ℕ → Bool) → (List ℕ → Bool) → Type 0
Within p q = (cs : List ℕ) → p cs ≡ true → q cs ≡ true

or_within : (a b c d : Bool) → (a ≡ true → c ≡ true) → (b ≡ true → d ≡ true) → (a || b) ≡ true → (c || d) ≡ true
or_within true b true d f g h = refl
or_within true b false d f g h = let wrong : false ≡ true = f refl in absurd cc
or_within false true true d f g h = refl
or_within false true false d f g h = g refl
or_within false false c d f g h = absurd cc

pub one_within : (kind : ℕ → Bool) (p q : List ℕ → Bool) → Within p q → Within (one kind p) (one kind q)
one_within kind p q h [] e = absurd cc
one_within kind p q h (c ∷ cs) e = let parts = both (kind c) (p cs) e in rw parts.0 (h cs parts.1)

pub many_within : (kind : ℕ → Bool) (p q : List ℕ → Bool) → Within p q → Within (many kind p) (many kind q)
many_within kind p q h [] e = h [] e
many_within kind p q h (c ∷ cs) e =
    or_within (p (c ∷ cs)) (kind c && many kind p cs) (q (c ∷ cs)) (kind c && many kind q cs) (h (c ∷ cs))
    (λ e'. let parts = both (kind c) (many kind p cs) e' in rw parts.0 (many_within kind p q h cs parts.1)) e

pub float_within : (digit : ℕ → Bool) (p q plain : List ℕ → Bool) → Within p q → Within (float_of digit p plain) (float_of digit q plain)
float_within digit p q plain h cs e =
    or_within _ _ _ _ (many_within digit _ _ (one_within is_point _ _ (one_within digit _ _ (many_within digit _ _ h))) cs)
    (or_within _ _ _ _ (one_within digit _ _ (many_within digit _ _ (one_within is_point _ _ (many_within digit _ _ h))) cs) (λ k. k)) e
