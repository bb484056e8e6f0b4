-- What is printed of statements that hold no other statement is laid out as their tokens.
use Rattle.std.proofs.Common.{◌≡◌, refl, sym, ap, ◌∙◌, ℕ, true, false, List, [], ◌∷◌, ◌++◌, append_assoc, codes, Option, Some, None}
use Rattle.std.specs.List.{flat_map}
use Rattle.std.proofs.lemmas.Bool.{and_parts}
use Rattle.unicode_ident.proofs.Computing.{unicode_ident}
use Rattle.wgsl_token.specs.declared.token.Token.TheVariants as t
use Rattle.wgsl_token.specs.declared.token.Fixed.TheVariants as f
use Rattle.wgsl_print_laws.proofs.Ends.{ends_word}
use Rattle.wgsl_templates.specs.declared.meaning.token.TemplateToken.{TemplateToken}
use Rattle.wgsl_words.specs.Texts.{assignment_operator_text}
use Rattle.wgsl_expressions.specs.Print.{commas, exp_text}
use Rattle.wgsl_expressions.specs.Tree.{Exp, call, Typ}
use Rattle.wgsl_expressions.specs.AttributesPrint.{attrs_text}
use Rattle.wgsl_expressions.specs.AttributesTree.{Attr}
use Rattle.wgsl_simple_statements.specs.declared.declaration.DeclarationKind.{DeclarationKind}
use Rattle.wgsl_simple_statements.specs.Print.{kind_text, annotation_text, initializer_text, value_text, asserted_text, declared_text, simple_text, selector_text, case_head}
use Rattle.wgsl_simple_statements.specs.Tree.{Simple, Selector, default_selector, selected}
use Rattle.wgsl_print_laws.specs.Tokens.{mark, word, exp_tokens}
use Rattle.wgsl_print_laws.specs.Printable.{AreSpelled, ends_in_number, is_apart}
use Rattle.wgsl_print_laws.specs.DeclarationKinds.{kind_tokens}
use Rattle.wgsl_print_laws.proofs.Lays.{lays_then}
use Rattle.wgsl_print_laws.proofs.Signs.{lays_space}
use Rattle.wgsl_print_laws.proofs.Leaves.{Leaf, keyword_leaf}
use Rattle.wgsl_print_laws.proofs.Expressions.{ends, Run, run_then, run_where, sign_run, leaf_run, free, stops, stops_end, exp_phrase}
use Rattle.wgsl_print_laws.proofs.DeclarationKinds.{kind_run}
use Rattle.wgsl_print_laws.proofs.Imports.{nothing_run}
use Rattle.wgsl_print_laws.specs.Simple.{assignment_sign, annotation_tokens, initializer_tokens, declared_tokens, annotation_is_apart, value_is_apart, asserted_tokens, value_tokens, PlaceTokens, phony, place, SimpleTokens, attributed, assigned, incremented, decremented, breaks, continues, returns, discards, called, asserted, declared, selector_tokens, more_selectors_tokens, selectors_tokens, case_tokens, selector_is_apart, selectors_are_apart}
use Rattle.wgsl_print_laws.proofs.Runs.{and_then, Sequel, no_sequel, behind, sequel_then, stopped, run_as_text, Sign, sign_then, space, colon_space, comma_space, lays_plus_plus, lays_minus_minus, at_plus, at_minus, keyword_run, name_run, exp_run, typ_run, word_then, parted, five, six}
use Rattle.wgsl_print_laws.proofs.Operators.{lays_equal, operator_run}

-- ---- declared values

-- `=` between spaces
pub equal : Sign 32 (codes "= ") (mark f.Equal ∷ [])
equal = record { lays = lays_then lays_space (lays_then lays_equal lays_space (λ rest ok. refl)) (λ rest ok. free (61 ∷ 32 ∷ rest)); ascii = refl; stands = space.stands }

annotation_sequel : (o : Option Typ) → AreSpelled (annotation_tokens o) → annotation_is_apart o ≡ true → Sequel stops (annotation_tokens o) (annotation_text o)
annotation_sequel None s h = no_sequel
annotation_sequel (Some t) s h = sign_then colon_space (typ_run t s.1 h)

initializer_sequel : (o : Option Exp) → AreSpelled (initializer_tokens o) → value_is_apart o ≡ true → Sequel stops (initializer_tokens o) (initializer_text o)
initializer_sequel None s h = no_sequel
initializer_sequel (Some x) s h = sign_then equal (exp_run x s.1 h)

pub declared_run : (kind : DeclarationKind) (name : List ℕ) (type : Option Typ) (value : Option Exp) → AreSpelled (declared_tokens kind name type value) → annotation_is_apart type ≡ true → value_is_apart value ≡ true
    → Run stops (declared_tokens kind name type value) (declared_text kind name type value)
declared_run kind name type value s h g =
    let (first, others) = parted (kind_tokens kind) (word name ∷ (annotation_tokens type ++ initializer_tokens value)) s in
    let (typed, set) = parted (annotation_tokens type) (initializer_tokens value) others.1 in
    let named = behind (name_run name others.0) (sequel_then (annotation_sequel type typed h) (initializer_sequel value set g)) in
    run_as_text (sym (five (kind_text kind) (codes " ") name (annotation_text type) (initializer_text value)))
    (behind (run_where (λ rest ok. stops_end false rest ok) (kind_run kind first)) (sign_then space named))

pub asserted_run : (x : Exp) → AreSpelled (asserted_tokens x) → is_apart x ≡ true → Run stops (asserted_tokens x) (asserted_text x)
asserted_run x s h = word_then f.ConstAssert refl (exp_run x s.1 h)

-- ---- statements

value_sequel : (o : Option Exp) → AreSpelled (value_tokens o) → value_is_apart o ≡ true → Sequel stops (value_tokens o) (value_text o)
value_sequel None s h = no_sequel
value_sequel (Some x) s h = sign_then space (exp_run x s h)

underscore_leaf : Leaf ends_word (t.Fixed f.Underscore) (codes "_")
unfolding unicode_ident
underscore_leaf = keyword_leaf f.Underscore 95 [] refl refl refl refl

place_run : (x : Exp) (ts : List TemplateToken) → PlaceTokens x ts → AreSpelled ts → Run stops ts (exp_text x)
place_run _ _ phony s = run_where (λ rest ok. stops_end false rest ok) (leaf_run underscore_leaf)
place_run x _ (place h) s = exp_run x s h

-- behind an expression that ends in no number
at_end : (x : Exp) (rest : List ℕ) → ends_in_number x ≡ false → ends_word rest ≡ true → ends (ends_in_number x) rest ≡ true
at_end x rest e ok = ap (λ b. ends b rest) e ∙ ok

pub simple_run : (x : Simple) (ts : List TemplateToken) → SimpleTokens x ts → AreSpelled ts → Run stops ts (simple_text x)
simple_run _ _ (assigned o {x = x} {y = y} {ts = ts} is apart) s =
    let (first, others) = parted ts (mark (assignment_sign o) ∷ exp_tokens y) s in
    let text = assignment_operator_text o in
    run_as_text (ap (λ z. exp_text x ++ (codes " " ++ z)) (append_assoc text (codes " ") (exp_text y)) ∙ sym (five (exp_text x) (codes " ") text (codes " ") (exp_text y)))
    (behind (place_run x ts is first) (sign_then space (and_then (operator_run o) (exp_run y others.1 apart))))
simple_run _ _ (incremented {x = x} e apart) s =
    let (first, others) = parted (exp_tokens x) (mark f.PlusPlus ∷ []) s in
    run_then (exp_phrase x first apart).run (stopped (sign_run lays_plus_plus refl)) (λ rest ok. at_end x (43 ∷ 43 ∷ rest) e (at_plus (43 ∷ rest)))
simple_run _ _ (decremented {x = x} e apart) s =
    let (first, others) = parted (exp_tokens x) (mark f.MinusMinus ∷ []) s in
    run_then (exp_phrase x first apart).run (stopped (sign_run lays_minus_minus refl)) (λ rest ok. at_end x (45 ∷ 45 ∷ rest) e (at_minus (45 ∷ rest)))
simple_run _ _ breaks s = keyword_run f.Break refl
simple_run _ _ continues s = keyword_run f.Continue refl
simple_run _ _ (returns {value = value} apart) s = behind (keyword_run f.Return refl) (value_sequel value s.1 apart)
simple_run _ _ discards s = keyword_run f.Discard refl
simple_run _ _ (called {t = t} {xs = xs} apart) s = exp_run (call t xs) s apart
simple_run _ _ (asserted {x = x} apart) s = asserted_run x s apart
simple_run _ _ (declared kind name {type = type} {value = value} h g) s = declared_run kind name type value s h g

-- what is printed of a statement with attributes
pub attributed_text : (attributes : List Attr) (x : Simple) (ts : List TemplateToken) → SimpleTokens x ts → attrs_text attributes ++ simple_text x ≡ simple_text (attributed attributes x)
attributed_text attributes _ _ (assigned o {x = x} {y = y} is apart) =
    let text = assignment_operator_text o in
    ap (λ z. attrs_text attributes ++ z) (five (exp_text x) (codes " ") text (codes " ") (exp_text y)) ∙ sym (six (attrs_text attributes) (exp_text x) (codes " ") text (codes " ") (exp_text y))
attributed_text attributes _ _ (incremented {x = x} e apart) = sym (append_assoc (attrs_text attributes) (exp_text x) (codes "++"))
attributed_text attributes _ _ (decremented {x = x} e apart) = sym (append_assoc (attrs_text attributes) (exp_text x) (codes "--"))
attributed_text attributes _ _ breaks = refl
attributed_text attributes _ _ continues = refl
attributed_text attributes _ _ (returns {value = value} apart) = sym (append_assoc (attrs_text attributes) (codes "return") (value_text value))
attributed_text attributes _ _ discards = refl
attributed_text attributes _ _ (called apart) = refl
attributed_text attributes _ _ (asserted apart) = refl
attributed_text attributes _ _ (declared kind name h g) = refl

-- ---- selectors

selector_run : (x : Selector) → AreSpelled (selector_tokens x) → selector_is_apart x ≡ true → Run stops (selector_tokens x) (selector_text x)
selector_run default_selector s h = keyword_run f.Default refl
selector_run (selected x) s h = exp_run x s h

more_selectors : (xs : List Selector) → AreSpelled (more_selectors_tokens xs) → selectors_are_apart xs ≡ true → Sequel stops (more_selectors_tokens xs) (flat_map (λ (y : Selector). codes ", " ++ selector_text y) xs)
more_selectors [] s h = no_sequel
more_selectors (x ∷ xs) s h =
    let (first, others) = parted (selector_tokens x) (more_selectors_tokens xs) s.1 in
    let (one, more) = and_parts (selector_is_apart x) (selectors_are_apart xs) h in
    sign_then comma_space (behind (selector_run x first one) (more_selectors xs others more))

selectors_run : (xs : List Selector) → AreSpelled (selectors_tokens xs) → selectors_are_apart xs ≡ true → Run stops (selectors_tokens xs) (commas selector_text xs)
selectors_run [] s h = stopped nothing_run
selectors_run (x ∷ xs) s h =
    let (first, others) = parted (selector_tokens x) (more_selectors_tokens xs) s in
    let (one, more) = and_parts (selector_is_apart x) (selectors_are_apart xs) h in
    behind (selector_run x first one) (more_selectors xs others more)

-- `case` and selectors
cases_run : (xs : List Selector) → AreSpelled (mark f.Case ∷ selectors_tokens xs) → selectors_are_apart xs ≡ true → Run stops (mark f.Case ∷ selectors_tokens xs) (codes "case " ++ commas selector_text xs)
cases_run xs s h = word_then f.Case refl (selectors_run xs s.1 h)

pub case_run : (xs : List Selector) → AreSpelled (case_tokens xs) → selectors_are_apart xs ≡ true → Run stops (case_tokens xs) (case_head xs)
case_run [] s h = cases_run [] s h
case_run (default_selector ∷ []) s h = keyword_run f.Default refl
case_run (default_selector ∷ (x ∷ xs)) s h = cases_run (default_selector ∷ x ∷ xs) s h
case_run (selected x ∷ xs) s h = cases_run (selected x ∷ xs) s h
