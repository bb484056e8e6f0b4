-- Tokens up to the first invalid one.
use Rattle.std.proofs.Common.{◌≡◌, sym, ap, ◌∙◌, ℕ, ◌+◌, ◌<◌, true, false, List, [], ◌∷◌, ◌++◌, length, take, drop, get_or, append_assoc}
use Rattle.std.specs.Prelude.{if◌then◌else◌}
use Rattle.std.proofs.lemmas.List.{drop_more, take_more}
use Rattle.wgsl_templates.specs.declared.meaning.token.SpannedTemplateToken.{SpannedTemplateToken}
use Rattle.wgsl_templates.specs.Lexing.{is_fault, ends_at_fault}

-- these went before, and none of them is invalid
abbrev pub IsSearched : List SpannedTemplateToken → ℕ → Type 0
IsSearched ts i = take i ts ++ ends_at_fault (drop i ts) ≡ ends_at_fault ts

next : (ts : List SpannedTemplateToken) (i : ℕ) (t : SpannedTemplateToken) → i < length ts → t ≡ get_or ts i t → ends_at_fault (drop i ts) ≡ ends_at_fault (t ∷ drop (i + 1) ts)
next ts i t lt is = ap ends_at_fault (drop_more ts i t lt ∙ ap (λ y. y ∷ drop (i + 1) ts) (sym is))

one_more : (ts : List SpannedTemplateToken) (i : ℕ) (t : SpannedTemplateToken) → i < length ts → t ≡ get_or ts i t → take (i + 1) ts ≡ take i ts ++ t ∷ []
one_more ts i t lt is = take_more ts i t lt ∙ ap (λ y. take i ts ++ y ∷ []) (sym is)

pub found : (ts : List SpannedTemplateToken) (i : ℕ) (t : SpannedTemplateToken) → i < length ts → t ≡ get_or ts i t → is_fault t ≡ true → IsSearched ts i → ends_at_fault ts ≡ take (i + 1) ts
found ts i t lt is bad h =
    sym h ∙ ap (λ l. take i ts ++ l) (next ts i t lt is ∙ ap (λ b. if b then t ∷ [] else t ∷ ends_at_fault (drop (i + 1) ts)) bad) ∙ sym (one_more ts i t lt is)

pub searched_more : (ts : List SpannedTemplateToken) (i : ℕ) (t : SpannedTemplateToken) → i < length ts → t ≡ get_or ts i t → is_fault t ≡ false → IsSearched ts i → IsSearched ts (i + 1)
searched_more ts i t lt is good h =
    ap (λ l. l ++ ends_at_fault (drop (i + 1) ts)) (one_more ts i t lt is)
    ∙ append_assoc (take i ts) (t ∷ []) (ends_at_fault (drop (i + 1) ts))
    ∙ ap (λ l. take i ts ++ l) (sym (next ts i t lt is ∙ ap (λ b. if b then t ∷ [] else t ∷ ends_at_fault (drop (i + 1) ts)) good))
    ∙ h
