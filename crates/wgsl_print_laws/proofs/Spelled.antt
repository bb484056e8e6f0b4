-- The tokens of a text are spelled.
use Rattle.std.proofs.Common.{◌≡◌, refl, subst, ℕ, zero, suc, true, false, List, [], ◌∷◌, take, drop, codes, Option, Some}
use Rattle.std.specs.Str.{all_scalars}
use Rattle.std.proofs.Math.Utf8.{scalar}
use Rattle.std.proofs.lemmas.Bool.{and_parts, and_from}
use Rattle.unicode_ident.proofs.Computing.{unicode_ident}
use Rattle.wgsl_token.specs.declared.token.Token.{Token}
use Rattle.wgsl_token.specs.declared.token.Token.TheVariants.{Invalid}
use Rattle.wgsl_lex.specs.Tokens.{fixed_of}
use Rattle.wgsl_lex.specs.Pieces.{StandsFirst, trivia_first, token_first, nothing_first}
use Rattle.wgsl_lex.proofs.Forms.{word_form}
use Rattle.wgsl_templates.specs.declared.meaning.token.TemplateToken.{TemplateToken}
use Rattle.wgsl_templates.specs.declared.meaning.token.SpannedTemplateToken.{SpannedTemplateToken}
use Rattle.wgsl_templates.specs.Tokens.{State, past, after, Reads, nothing, behind_trivia, a_token, Stands, closing, asked, plain}
use Rattle.wgsl_print_laws.specs.Laws.{without_places}
use Rattle.wgsl_print_laws.specs.Printable.{IsSpelled, AreSpelled}

scalars_take : (n : ℕ) (cs : List ℕ) → all_scalars cs ≡ true → all_scalars (take n cs) ≡ true
scalars_take zero [] h = refl
scalars_take zero (c ∷ cs) h = refl
scalars_take (suc n) [] h = refl
scalars_take (suc n) (c ∷ cs) h = let b = and_parts (scalar c) (all_scalars cs) h in and_from (scalar c) (all_scalars (take n cs)) b.0 (scalars_take n cs b.1)

scalars_drop : (n : ℕ) (cs : List ℕ) → all_scalars cs ≡ true → all_scalars (drop n cs) ≡ true
scalars_drop zero cs h = h
scalars_drop (suc n) [] h = refl
scalars_drop (suc n) (c ∷ cs) h = scalars_drop n cs (and_parts (scalar c) (all_scalars cs) h).1

-- a word with two underscores in front is no token
invalid_spelled : IsSpelled Invalid
unfolding unicode_ident fixed_of
invalid_spelled = record { characters = codes "__"; scalars = refl; forms = word_form (codes "__") refl refl refl }

first_spelled : (text : List ℕ) (n : ℕ) (o : Option Token) → all_scalars text ≡ true → StandsFirst text n o → (k : Token) → o ≡ Some k → IsSpelled k
first_spelled text n _ s (trivia_first h) k e = absurd cc
first_spelled text n _ s (token_first {t = u} h) k e = let same : u ≡ k = cc in subst IsSpelled same (record { characters = take n text; scalars = scalars_take n text s; forms = h.is })
first_spelled text n _ s (nothing_first one is longest) k e = let same : Invalid ≡ k = cc in subst IsSpelled same invalid_spelled

pub read_spelled : (s : State) (xs : List ℕ) (tokens : List SpannedTemplateToken) (last : State) (left : List ℕ) → Reads s xs tokens last left → all_scalars xs ≡ true → AreSpelled (without_places tokens)
read_spelled s xs _ _ _ (nothing) h = tt
read_spelled s xs tokens last left (behind_trivia n i l) h = read_spelled (past s (take n xs)) (drop n xs) tokens last left l (scalars_drop n xs h)
read_spelled s xs _ last left (a_token {tokens = tokens} n t i l) h = go n t i (read_spelled (after s (take n xs) t) (drop n xs) tokens last left l (scalars_drop n xs h))
  where
    go : (n : ℕ) (t : TemplateToken) → Stands s xs n t → AreSpelled (without_places tokens) → AreSpelled (t ∷ without_places tokens)
    go _ _ (closing n k i g) r = r
    go _ _ (asked {opens = true} n k i q o) r = r
    go _ _ (asked {opens = false} n k i q o) r = (first_spelled xs n (Some k) h i.stands k refl, r)
    go _ _ (plain n k i g q) r = (first_spelled xs n (Some k) h i.stands k refl, r)
