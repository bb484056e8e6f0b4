-- Where brackets close: what the grammar derives closes what it opens.
use Rattle.std.proofs.Common.{◌≡◌, refl, ap, ◌∙◌, ℕ, zero, suc, true, List, [], ◌∷◌, ◌++◌, append_assoc, Option, Some, None}
use Rattle.wgsl_templates.specs.declared.meaning.kind.Kind.{Kind}
use Rattle.wgsl_templates.specs.declared.meaning.kind.Kind.TheVariants as k
use Rattle.wgsl_templates.specs.Grammar.{is_prefix, is_multiplicative, is_additive, is_bitwise, is_logical, IsQualified, id, within, IsRelative, once, again, IsName, qualified, from_package, from_super, IsType, named, templated, IsPrimary, literal, type, call, parenthesized, IsArguments, no_argument, last_argument, more_arguments, IsSingular, primary, member, index, IsUnary, singular, prefixed, IsProduct, unary, times, IsSum, product, plus, IsShift, sum, shifted, IsRelational, shift, compared, IsBitwise, two_unaries, more_unaries, IsLogical, two_relations, more_relations, IsItem, relational, bitwise, IsExpression, item, logical, IsListBody, last_item, last_and_comma, more_items}

-- so many brackets are open behind a token
abbrev pub next : ℕ → Kind → ℕ
next (suc d) k.ParenLeft = suc (suc d)
next (suc d) k.BracketLeft = suc (suc d)
next (suc d) k.TemplateArgsStart = suc (suc d)
next (suc d) k.ParenRight = d
next (suc d) k.BracketRight = d
next (suc d) k.TemplateArgsEnd = d
next d _ = d

-- what stands behind the token that closes the last of so many open brackets
abbrev pub beyond : ℕ → List Kind → Option (List Kind)
beyond zero u = Some u
beyond (suc d) [] = None
beyond (suc d) (x ∷ u) = beyond (next (suc d) x) u

abbrev Passes : List Kind → Type 0
Passes u = (d : ℕ) (w : List Kind) → beyond (suc d) (u ++ w) ≡ beyond (suc d) w

abbrev Closes : List Kind → Type 0
Closes u = (d : ℕ) (w : List Kind) → beyond (suc d) (u ++ w) ≡ beyond d w

-- an operator opens nothing and closes nothing
abbrev Level : Kind → Type 0
Level o = (d : ℕ) → next (suc d) o ≡ suc d

level_prefix : (o : Kind) → is_prefix o ≡ true → Level o
level_prefix k.Minus e d = refl
level_prefix k.Not e d = refl
level_prefix k.Star e d = refl
level_prefix k.And e d = refl
level_prefix _ e d = absurd cc

level_multiplicative : (o : Kind) → is_multiplicative o ≡ true → Level o
level_multiplicative k.Star e d = refl
level_multiplicative k.Division e d = refl
level_multiplicative _ e d = absurd cc

level_additive : (o : Kind) → is_additive o ≡ true → Level o
level_additive k.Plus e d = refl
level_additive k.Minus e d = refl
level_additive _ e d = absurd cc

level_bitwise : (o : Kind) → is_bitwise o ≡ true → Level o
level_bitwise k.And e d = refl
level_bitwise k.Or e d = refl
level_bitwise k.Xor e d = refl
level_bitwise _ e d = absurd cc

level_logical : (o : Kind) → is_logical o ≡ true → Level o
level_logical k.AndAnd e d = refl
level_logical k.OrOr e d = refl
level_logical _ e d = absurd cc

-- Runs behind one another

passes_both : (u v : List Kind) → Passes u → Passes v → Passes (u ++ v)
passes_both u v p q d w = ap (beyond (suc d)) (append_assoc u v w) ∙ p d (v ++ w) ∙ q d w

closes_behind : (u v : List Kind) → Passes u → Closes v → Closes (u ++ v)
closes_behind u v p q d w = ap (beyond (suc d)) (append_assoc u v w) ∙ p d (v ++ w) ∙ q d w

passes_one : (o : Kind) (v : List Kind) → Level o → Passes v → Passes (o ∷ v)
passes_one o v l q d w = ap (λ n. beyond n (v ++ w)) (l d) ∙ q d w

passes_between : (o : Kind) (u v : List Kind) → Level o → Passes u → Passes v → Passes (u ++ (o ∷ v))
passes_between o u v l p q = passes_both u (o ∷ v) p (passes_one o v l q)

passes_level : (o : Kind) → Level o → Passes (o ∷ [])
passes_level o l d w = ap (λ n. beyond n w) (l d)

-- The grammar

qualified_passes : (u : List Kind) → IsQualified u → Passes u
qualified_passes _ (id) d w = refl
qualified_passes _ (within {u = u} h) d w = qualified_passes u h d w

relative_passes : (u : List Kind) → IsRelative u → Passes u
relative_passes _ (once {u = u} h) d w = qualified_passes u h d w
relative_passes _ (again {u = u} h) d w = relative_passes u h d w

name_passes : (u : List Kind) → IsName u → Passes u
name_passes u (qualified h) d w = qualified_passes u h d w
name_passes _ (from_package {u = u} h) d w = qualified_passes u h d w
name_passes u (from_super h) d w = relative_passes u h d w

mutual
  type_passes : (u : List Kind) → IsType u → Passes u
  type_passes u (named h) = name_passes u h
  type_passes _ (templated {u = u} {v = v} h l) = passes_both u (k.TemplateArgsStart ∷ v) (name_passes u h) (λ d w. list_closes v l (suc d) w)

  primary_passes : (u : List Kind) → IsPrimary u → Passes u
  primary_passes _ (literal) d w = refl
  primary_passes u (type h) d w = type_passes u h d w
  primary_passes _ (call {u = u} {v = v} h a) d w = passes_both u (k.ParenLeft ∷ v) (type_passes u h) (λ e x. arguments_close v a (suc e) x) d w
  primary_passes _ (parenthesized {u = u} h) d w = closes_behind u (k.ParenRight ∷ []) (expression_passes u h) (λ e x. refl) (suc d) w

  arguments_close : (u : List Kind) → IsArguments u → Closes u
  arguments_close _ (no_argument) d w = refl
  arguments_close _ (last_argument {u = u} h) d w = closes_behind u (k.ParenRight ∷ []) (expression_passes u h) (λ e x. refl) d w
  arguments_close _ (more_arguments {u = u} {v = v} h a) d w = closes_behind u (k.Comma ∷ v) (expression_passes u h) (λ e x. arguments_close v a e x) d w

  singular_passes : (u : List Kind) → IsSingular u → Passes u
  singular_passes u (primary h) = primary_passes u h
  singular_passes _ (member {u = u} h) = passes_both u (k.Period ∷ k.Word ∷ []) (singular_passes u h) (λ d w. refl)
  singular_passes _ (index {u = u} {v = v} h i) =
      passes_both u (k.BracketLeft ∷ (v ++ (k.BracketRight ∷ []))) (singular_passes u h)
      (λ d w. closes_behind v (k.BracketRight ∷ []) (expression_passes v i) (λ e x. refl) (suc d) w)

  unary_passes : (u : List Kind) → IsUnary u → Passes u
  unary_passes u (singular h) = singular_passes u h
  unary_passes _ (prefixed {u = u} o e h) = passes_one o u (level_prefix o e) (unary_passes u h)

  product_passes : (u : List Kind) → IsProduct u → Passes u
  product_passes u (unary h) = unary_passes u h
  product_passes _ (times {u = u} {v = v} o h e i) = passes_between o u v (level_multiplicative o e) (product_passes u h) (unary_passes v i)

  sum_passes : (u : List Kind) → IsSum u → Passes u
  sum_passes u (product h) = product_passes u h
  sum_passes _ (plus {u = u} {v = v} o h e i) = passes_between o u v (level_additive o e) (sum_passes u h) (product_passes v i)

  shift_passes : (u : List Kind) → IsShift u → Passes u
  shift_passes u (sum h) = sum_passes u h
  shift_passes _ (shifted {u = u} {v = v} h i) = passes_between k.Shift u v (λ d. refl) (unary_passes u h) (unary_passes v i)

  relational_passes : (u : List Kind) → IsRelational u → Passes u
  relational_passes u (shift h) = shift_passes u h
  relational_passes _ (compared {u = u} {v = v} h i) = passes_between k.Comparison u v (λ d. refl) (shift_passes u h) (shift_passes v i)

  bitwise_passes : (o : Kind) (u : List Kind) → is_bitwise o ≡ true → IsBitwise o u → Passes u
  bitwise_passes o _ e (two_unaries {u = u} {v = v} _ h i) = passes_between o u v (level_bitwise o e) (unary_passes u h) (unary_passes v i)
  bitwise_passes o _ e (more_unaries {u = u} {v = v} _ h i) = passes_between o u v (level_bitwise o e) (bitwise_passes o u e h) (unary_passes v i)

  logical_passes : (o : Kind) (u : List Kind) → is_logical o ≡ true → IsLogical o u → Passes u
  logical_passes o _ e (two_relations {u = u} {v = v} _ h i) = passes_between o u v (level_logical o e) (relational_passes u h) (relational_passes v i)
  logical_passes o _ e (more_relations {u = u} {v = v} _ h i) = passes_between o u v (level_logical o e) (logical_passes o u e h) (relational_passes v i)

  item_passes : (u : List Kind) → IsItem u → Passes u
  item_passes u (relational h) = relational_passes u h
  item_passes u (bitwise o e h) = bitwise_passes o u e h

  expression_passes : (u : List Kind) → IsExpression u → Passes u
  expression_passes u (item h) = item_passes u h
  expression_passes u (logical o e h) = logical_passes o u e h

  pub list_closes : (u : List Kind) → IsListBody u → (d : ℕ) (w : List Kind) → beyond (suc d) (u ++ w) ≡ beyond d w
  list_closes _ (last_item {u = u} h) = closes_behind u (k.TemplateArgsEnd ∷ []) (item_passes u h) (λ e x. refl)
  list_closes _ (last_and_comma {u = u} h) = closes_behind u (k.Comma ∷ k.TemplateArgsEnd ∷ []) (item_passes u h) (λ e x. refl)
  list_closes _ (more_items {u = u} {v = v} h l) = closes_behind u (k.Comma ∷ v) (item_passes u h) (λ e x. list_closes v l e x)
