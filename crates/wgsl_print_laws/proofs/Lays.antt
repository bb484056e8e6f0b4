-- Characters that are laid out as some tokens wherever they stand before what may follow.
use Rattle.std.proofs.Common.{◌≡◌, refl, sym, ap, ◌∙◌, subst, ℕ, Bool, true, List, [], ◌∷◌, ◌++◌, append_assoc, length, take, drop, Some, None}
use Rattle.std.proofs.Math.Seq.{take-append_seam, drop-append_seam}
use Rattle.std.specs.Prelude.{◌≢◌}
use Rattle.wgsl_token.specs.declared.token.Token.{Token}
use Rattle.wgsl_lex.specs.Tokens.{form, trivia, token, NoLonger, IsLongest}
use Rattle.wgsl_lex.specs.Pieces.{trivia_first, token_first}
use Rattle.wgsl_templates.specs.declared.meaning.token.TemplateToken.{TemplateToken}
use Rattle.wgsl_templates.specs.declared.meaning.token.TemplateToken.TheVariants.{Plain, TemplateArgsStart}
use Rattle.wgsl_templates.specs.Tokens.{is_less, IsFirst}
use Rattle.wgsl_print_laws.specs.Layout.{list_start, a_token, IsLaidOut, a_piece, behind_trivia}

-- any rest may follow
abbrev pub anything : List ℕ → Bool
anything rest = true

pub record Lays (may : List ℕ → Bool) (cs : List ℕ) (ts : List TemplateToken) : Type 0 where
  pub lays : (rest : List ℕ) (us : List TemplateToken) → may rest ≡ true → IsLaidOut rest us → IsLaidOut (cs ++ rest) (ts ++ us)

pub lays_then : {may may' : List ℕ → Bool} {cs ds : List ℕ} {ts us : List TemplateToken} → Lays may cs ts → Lays may' ds us → ((rest : List ℕ) → may' rest ≡ true → may (ds ++ rest) ≡ true)
    → Lays may' (cs ++ ds) (ts ++ us)
lays_then {cs = cs} {ds = ds} {ts = ts} {us = us} p q follows = record {
  lays = λ rest vs ok l.
      let P : List ℕ × List TemplateToken → Type 0 = λ x. IsLaidOut x.0 x.1 in
      subst P (λ i. (sym (append_assoc cs ds rest) i, sym (append_assoc ts us vs) i)) (p.lays (ds ++ rest) (us ++ vs) (follows rest ok) (q.lays rest vs ok l));
}

pub lays_where : {may may' : List ℕ → Bool} {cs : List ℕ} {ts : List TemplateToken} → ((rest : List ℕ) → may' rest ≡ true → may rest ≡ true) → Lays may cs ts → Lays may' cs ts
lays_where h p = record { lays = λ rest us ok l. p.lays rest us (h rest ok) l }

pub lays_as : {may : List ℕ → Bool} {cs ds : List ℕ} {ts us : List TemplateToken} → cs ≡ ds → ts ≡ us → Lays may cs ts → Lays may ds us
lays_as {may = may} e f p = let P : List ℕ × List TemplateToken → Type 0 = λ x. Lays may x.0 x.1 in subst P (λ i. (e i, f i)) p

pub lays_nothing : {may : List ℕ → Bool} → Lays may [] []
lays_nothing = record { lays = λ rest us ok l. l }

-- one form, where nothing longer is one

some_first : (cs rest : List ℕ) → cs ≢ [] → cs ++ rest ≢ []
some_first [] rest h e = h refl
some_first (c ∷ cs) rest h e = cc

longest_at : (cs rest : List ℕ) (k : Token) → form cs ≡ Some (token k) → NoLonger cs rest → IsLongest (take (length cs) (cs ++ rest)) (drop (length cs) (cs ++ rest)) (token k)
longest_at cs rest k f n =
    let P : List ℕ × List ℕ → Type 0 = λ x. IsLongest x.0 x.1 (token k) in
    subst P (λ i. (sym (take-append_seam cs rest) i, sym (drop-append_seam cs rest) i)) (record { is = f; longest = n })

pub token_stands : (cs rest : List ℕ) (k : Token) → cs ≢ [] → form cs ≡ Some (token k) → NoLonger cs rest → IsFirst (cs ++ rest) (length cs) (Some k)
token_stands cs rest k some f n = record { some = some_first cs rest some; stands = token_first (longest_at cs rest k f n) }

trivia_stands : (cs rest : List ℕ) → cs ≢ [] → form cs ≡ Some trivia → NoLonger cs rest → IsFirst (cs ++ rest) (length cs) None
trivia_stands cs rest some f n =
    let P : List ℕ × List ℕ → Type 0 = λ x. IsLongest x.0 x.1 trivia in
    record { some = some_first cs rest some; stands = trivia_first (subst P (λ i. (sym (take-append_seam cs rest) i, sym (drop-append_seam cs rest) i)) (record { is = f; longest = n })) }

laid_behind : (cs rest : List ℕ) (us : List TemplateToken) → IsLaidOut rest us → IsLaidOut (drop (length cs) (cs ++ rest)) us
laid_behind cs rest us l = let P : List ℕ → Type 0 = λ x. IsLaidOut x us in subst P (sym (drop-append_seam cs rest)) l

pub lays_token : {may : List ℕ → Bool} {cs : List ℕ} {k : Token} → cs ≢ [] → form cs ≡ Some (token k) → ((rest : List ℕ) → may rest ≡ true → NoLonger cs rest) → Lays may cs (Plain k ∷ [])
lays_token {cs = cs} {k = k} some f longest = record {
  lays = λ rest us ok l. a_piece (length cs) (Plain k) (a_token (token_stands cs rest k some f (longest rest ok))) (laid_behind cs rest us l);
}

pub lays_trivia : {may : List ℕ → Bool} {cs : List ℕ} → cs ≢ [] → form cs ≡ Some trivia → ((rest : List ℕ) → may rest ≡ true → NoLonger cs rest) → Lays may cs []
lays_trivia {cs = cs} some f longest = record {
  lays = λ rest us ok l. behind_trivia (length cs) (trivia_stands cs rest some f (longest rest ok)) (laid_behind cs rest us l);
}

-- a sign that stands for the start of a template list
pub lays_start : {may : List ℕ → Bool} {cs : List ℕ} {k : Token} → cs ≢ [] → is_less cs ≡ true → form cs ≡ Some (token k) → ((rest : List ℕ) → may rest ≡ true → NoLonger cs rest) → Lays may cs (TemplateArgsStart ∷ [])
lays_start {cs = cs} {k = k} some less f longest = record {
  lays = λ rest us ok l. a_piece (length cs) TemplateArgsStart (list_start (token_stands cs rest k some f (longest rest ok)) (ap is_less (take-append_seam cs rest) ∙ less)) (laid_behind cs rest us l);
}
