-- The characters of a float are its text with its suffix.
use Rattle.std.proofs.Common.{◌≡◌, refl, sym, ap, ◌∙◌, ℕ, Bool, true, false, ◌&&◌, ◌==◌, List, [], ◌∷◌, ◌++◌, Option, Some, None}
use Rattle.std.specs.Prelude.{nat_le, if◌then◌else◌, pos}
use Rattle.std.specs.Option.{option_map, option_or}
use Rattle.std.specs.Str.{encode_utf8_all}
use Rattle.std.proofs.lemmas.Bool.{eqb-true, and_parts}
use Rattle.std.proofs.lemmas.Str.{encodes-append}
use Rattle.wgsl_token.specs.declared.token.Token.{Token}
use Rattle.wgsl_token.specs.declared.token.Token.TheVariants as t
use Rattle.wgsl_lex.specs.Floats.{is_float, takes_float_suffix}
use Rattle.wgsl_lex.specs.Tokens.{magnitude, abstract_token, signed_token, unsigned_token, plain_number, number_with, number_token}
use Rattle.wgsl_print_laws.proofs.Spells.{spells_ascii}
use Rattle.wgsl_lex.proofs.Forms.{nothing, last, ends, number_token-append}

-- the text of a float, with its suffix
abbrev pub float_text : Token → Option (List ℕ)
float_text (t.AbstractFloat spelled) = Some spelled
float_text (t.F32 spelled) = Some (spelled ++ 102 ∷ [])
float_text (t.F16 spelled) = Some (spelled ++ 104 ∷ [])
float_text _ = None

-- what is a float, if it is one, has these characters
abbrev Spells : List ℕ → Option Token → Type 0
Spells cs o = (k : Token) (x : List ℕ) → o ≡ Some k → float_text k ≡ Some x → encode_utf8_all cs ≡ x

of_some : {A : Type 0} {x y : A} → Some x ≡ Some y → x ≡ y
of_some e = cc

spells_none : (cs : List ℕ) → Spells cs None
spells_none cs k x e f = absurd cc

spells_one : (cs : List ℕ) (t : Token) → ((x : List ℕ) → float_text t ≡ Some x → encode_utf8_all cs ≡ x) → Spells cs (Some t)
spells_one cs t h k x e f = h x (ap float_text (of_some e) ∙ f)

spells_or : (cs : List ℕ) (o p : Option Token) → Spells cs o → Spells cs p → Spells cs (option_or o p)
spells_or cs None p h g = g
spells_or cs (Some t) p h g = h

spells_if : (cs : List ℕ) (b : Bool) (o p : Option Token) → (b ≡ true → Spells cs o) → Spells cs p → Spells cs (if b then o else p)
spells_if cs true o p h g = h refl
spells_if cs false o p h g = g

-- a whole number is no float
spells_whole : (cs : List ℕ) (f : ℕ → Token) → ((n : ℕ) → float_text (f n) ≡ None) → (o : Option ℕ) → Spells cs (option_map f o)
spells_whole cs f h None = spells_none cs
spells_whole cs f h (Some n) = spells_one cs (f n) (λ x e. let wrong = sym (h n) ∙ e in absurd cc)

no_float : (b : Bool) (t u : Token) → float_text t ≡ None → float_text u ≡ None → float_text (if b then t else u) ≡ None
no_float true t u h g = h
no_float false t u h g = g

plain_spells : (cs : List ℕ) → Spells cs (plain_number cs)
plain_spells cs =
    let float : Option Token = if is_float cs then Some (t.AbstractFloat (encode_utf8_all cs)) else None in
    spells_or cs (option_map abstract_token (magnitude cs)) float
    (spells_whole cs abstract_token (λ n. no_float (nat_le n 9223372036854775807) (t.AbstractInt (pos n)) t.Invalid refl refl) (magnitude cs))
    (spells_if cs (is_float cs) (Some (t.AbstractFloat (encode_utf8_all cs))) None (λ h. spells_one cs (t.AbstractFloat (encode_utf8_all cs)) (λ x e. of_some e)) (spells_none cs))

with_suffix : (ds : List ℕ) (c s : ℕ) → (c == s) ≡ true → encode_utf8_all (s ∷ []) ≡ s ∷ [] → encode_utf8_all (ds ++ c ∷ []) ≡ encode_utf8_all ds ++ s ∷ []
with_suffix ds c s e ascii = encodes-append ds (c ∷ []) ∙ ap (λ x. encode_utf8_all ds ++ encode_utf8_all (x ∷ [])) (eqb-true c s e) ∙ ap (λ y. encode_utf8_all ds ++ y) ascii

suffix_spells : (ds : List ℕ) (c : ℕ) → Spells (ds ++ c ∷ []) (number_with c ds)
suffix_spells ds c =
    let cs : List ℕ = ds ++ c ∷ [] in
    let half : Option Token = if (c == 104) && takes_float_suffix ds then Some (t.F16 (encode_utf8_all ds)) else None in
    let single : Option Token = if (c == 102) && takes_float_suffix ds then Some (t.F32 (encode_utf8_all ds)) else half in
    let whole : Option Token = if c == 117 then option_map unsigned_token (magnitude ds) else single in
    spells_if cs (c == 105) (option_map signed_token (magnitude ds)) whole (λ h. spells_whole cs signed_token (λ n. no_float (nat_le n 2147483647) (t.I32 (pos n)) t.Invalid refl refl) (magnitude ds))
    (spells_if cs (c == 117) (option_map unsigned_token (magnitude ds)) single (λ h. spells_whole cs unsigned_token (λ n. no_float (nat_le n 4294967295) (t.U32 n) t.Invalid refl refl) (magnitude ds))
    (spells_if cs ((c == 102) && takes_float_suffix ds) (Some (t.F32 (encode_utf8_all ds))) half
    (λ h. spells_one cs (t.F32 (encode_utf8_all ds)) (λ x e. with_suffix ds c 102 (and_parts (c == 102) (takes_float_suffix ds) h).0 (spells_ascii (102 ∷ []) refl).encodes ∙ of_some e))
    (spells_if cs ((c == 104) && takes_float_suffix ds) (Some (t.F16 (encode_utf8_all ds))) None
    (λ h. spells_one cs (t.F16 (encode_utf8_all ds)) (λ x e. with_suffix ds c 104 (and_parts (c == 104) (takes_float_suffix ds) h).0 (spells_ascii (104 ∷ []) refl).encodes ∙ of_some e)) (spells_none cs))))

pub float_spelled : (cs : List ℕ) → Spells cs (number_token cs)
float_spelled cs = elim (ends cs) as (λ ds x. Spells ds (number_token ds)) [
  | nothing ↦ λ k x e f. plain_spells [] k x (of_either (plain_number []) k e) f
  | last ds c ↦ λ k x e f. spells_or (ds ++ c ∷ []) (plain_number (ds ++ c ∷ [])) (number_with c ds) (plain_spells (ds ++ c ∷ [])) (suffix_spells ds c) k x (sym (number_token-append ds c) ∙ e) f
]
  where
    of_either : (o : Option Token) (k : Token) → option_or o None ≡ Some k → o ≡ Some k
    of_either None k h = h
    of_either (Some x) k h = h
