-- A text has one module.
use Rattle.std.proofs.Common.{◌≡◌, refl, sym, ap, ◌∙◌, subst, ℕ, List, [], ◌∷◌, ◌++◌, inl, inr, Some}
use Rattle.wgsl_templates.specs.declared.meaning.token.SpannedTemplateToken.{SpannedTemplateToken}
use Rattle.wgsl_templates.proofs.Once.{lexed_once}
use Rattle.wgsl_grammar_tables.specs.Grammars.{Symbol, phrase, Rule, Derives, a_token, a_phrase, Row, done, next}
use Rattle.wgsl_semantic_values.specs.declared.part.Part.{Part}
use Rattle.wgsl_semantic_values.specs.declared.part.Part.TheVariants as part
use Rattle.wgsl_parser.specs.Phrase.{Phrase}
use Rattle.wgsl_grammar_tables.proofs.Fits.{tables_fit}
use Rattle.wgsl_parser.specs.Phrases.{grammar}
use Rattle.wgsl_parser.specs.Start.TheVariants.{Module}
use Rattle.wgsl_parser.specs.Readings.{goal_of}
use Rattle.wgsl_parser.specs.Texts.{IsParsed, IsBlank}
use Rattle.wgsl_read_back.specs.Laws.{TextsHaveOneModule}
use Rattle.wgsl_read_back.proofs.Returned.{token_of}

-- ---- no phrase is without tokens

no_rule_empty : (p : ℕ) (r : Rule) → grammar.rule p ≡ Some r → r.right ≡ [] → ⊥
no_rule_empty = (tables_fit grammar (λ p. refl) token_of 0 refl).nonempty

no_front : {A : Type 0} (u v : List A) → u ++ v ≡ [] → u ≡ []
no_front [] v e = refl
no_front (x ∷ u) v e = absurd cc

mutual
  some_tokens : (s : Symbol) (w : List SpannedTemplateToken) (x : Phrase Part) → Derives grammar s w x → w ≡ [] → ⊥
  some_tokens _ _ _ (a_token k) e = cc
  some_tokens _ w _ (a_phrase p r {xs = xs} is row) e = some_in_row r.right w xs row (no_rule_empty p r is) e

  some_in_row : (ss : List Symbol) (w : List SpannedTemplateToken) (xs : List (Phrase Part)) → Row grammar ss w xs → (ss ≡ [] → ⊥) → w ≡ [] → ⊥
  some_in_row _ _ _ done h e = h refl
  some_in_row _ _ _ (next {s = s} {u = u} {v = v} {x = x} d r) h e = some_tokens s u x d (no_front u v e)

-- ---- one module

parsed_some : (text : List ℕ) (p : Part) → IsParsed Module text p → IsBlank text → ⊥
parsed_some text p h blank = some_tokens (phrase (goal_of Module)) h.tokens h.part.phrase h.part.derived.derives (lexed_once text h.tokens [] h.lexed blank)

parsed_once : (text : List ℕ) (p q : Part) → IsParsed Module text p → IsParsed Module text q → p ≡ q
parsed_once text p q h g =
    let tokens : h.tokens ≡ g.tokens = lexed_once text h.tokens g.tokens h.lexed g.lexed in
    let P : List SpannedTemplateToken → Type 0 = λ ts. Derives grammar (phrase (goal_of Module)) ts h.part.phrase in
    let same = g.part.derived.only h.part.phrase (subst P tokens h.part.derived.derives) in
    h.part.same ∙ ap (λ (z : Phrase Part). z.part) same ∙ sym g.part.same

pub texts_have_one_module : TextsHaveOneModule
texts_have_one_module text a b (inl h) (inl g) = let same : part.Module a ≡ part.Module b = parsed_once text (part.Module a) (part.Module b) h g in cc
texts_have_one_module text a b (inl h) (inr g) = absurd (parsed_some text (part.Module a) h g.0)
texts_have_one_module text a b (inr h) (inl g) = absurd (parsed_some text (part.Module b) g h.0)
texts_have_one_module text a b (inr h) (inr g) = h.1 ∙ sym g.1
