-- What is printed of what a text derives is read as it again, from any start.
use Rattle.std.proofs.Common.{◌≡◌, refl, sym, ◌∙◌, subst, ℕ, nat_lt, true, List, [], append-nil, None}
use Rattle.wgsl_path.specs.declared.span.Span.{Span}
use Rattle.wgsl_templates.specs.declared.meaning.token.TemplateToken.{TemplateToken}
use Rattle.wgsl_templates.specs.declared.meaning.token.SpannedTemplateToken.{SpannedTemplateToken}
use Rattle.wgsl_templates.specs.Tokens.{IsLexed, start as at_start}
use Rattle.wgsl_print_laws.specs.Layout.{IsTextOf}
use Rattle.wgsl_print_laws.specs.Laws.{without_places}
use Rattle.wgsl_print_laws.specs.OptionalMarks.{outside, AreAlike, none}
use Rattle.wgsl_print_laws.proofs.OptionalMarks.{laid_out_but_for_optional_marks}
use Rattle.wgsl_print_laws.specs.Printable.{AreSpelled}
use Rattle.wgsl_print_laws.proofs.Spelled.{read_spelled}
use Rattle.wgsl_grammar_tables.specs.Grammars.{phrase, Derives}
use Rattle.wgsl_grammar_tables.specs.Laws.{IsRead}
use Rattle.wgsl_grammar_tables.proofs.Whole.{trees_are_unique}
use Rattle.wgsl_grammar_tables.specs.Listed.{account}
use Rattle.wgsl_semantic_values.specs.declared.part.Part.{Part}
use Rattle.wgsl_parser.specs.Phrase.{Phrase}
use Rattle.wgsl_grammar_tables.specs.Decoded.{listed}
use Rattle.wgsl_grammar_tables.specs.Starts.{start}
use Rattle.wgsl_grammar_tables.proofs.Fits.{tables_fit}
use Rattle.wgsl_grammar_tables.proofs.Examples as examples
use Rattle.wgsl_parser.specs.Start.{Start}
use Rattle.wgsl_parser.specs.Phrases.{grammar, number, tables_of}
use Rattle.wgsl_parser.specs.Readings.{goal_of}
use Rattle.wgsl_parser.specs.Texts.{IsParsed}
use Rattle.wgsl_read_back.proofs.Views.{View, view_tokens, Stands}
use Rattle.wgsl_read_back.proofs.Items.{Again, Back}
use Rattle.wgsl_read_back.proofs.Pieces.{Lined}
use Rattle.wgsl_read_back.proofs.Steps.{Good}
use Rattle.wgsl_read_back.proofs.Derived.{derived}

-- ---- one tree

a_place : Span
a_place = record { start = 0; end = 0 }

pub token_of : (c : ℕ) → nat_lt c listed.class_count ≡ true → (k : SpannedTemplateToken) × (grammar.class_of k ≡ c)
token_of c lt = let e = examples.each_class c lt in (record { token = e.0; span = a_place }, e.1)

-- what tokens derive is what is read
is_read : (s : Start) → nat_lt (number s) 7 ≡ true → (tokens : List SpannedTemplateToken) (x : Phrase Part) → Derives grammar (phrase (goal_of s)) tokens x → IsRead grammar (goal_of s) tokens x
is_read s lt tokens x d =
    let b = start (number s) in record {
      derives = d;
      only = λ y e. trees_are_unique grammar (tables_of s) (account listed b) b.from b.rule b.sentence b.goal (tables_fit grammar (λ p. refl) token_of (number s) lt) tokens x y d e;
    }

-- ---- from a text to what is printed

-- what is printed of a phrase has the tokens that it stands for
abbrev pub Printed : View → List ℕ → Type 0
Printed v other = (found : List SpannedTemplateToken) × IsLexed other found × (without_places found ≡ view_tokens v)

pub printed : (text : List ℕ) (ks : List SpannedTemplateToken) → IsLexed text ks → (other : List ℕ) (k : ℕ) (v : View) (x : Phrase Part) → Back k v ks x → (AreSpelled (view_tokens v) → IsTextOf (view_tokens v) other) → Printed v other
printed text ks lexed other k v x b laid =
    let spelled = b.item.spelled (read_spelled at_start lexed.characters ks lexed.lexes.0 [] lexed.lexes.1 lexed.are_scalars) in
    let q = b.item.steps outside [] in
    let P : List TemplateToken × List TemplateToken → Type 0 = λ z. AreAlike outside [] z.0 z.1 in
    let alike = subst P (λ i. (append-nil (without_places ks) i, append-nil (view_tokens v) i)) (q.cont [] [] none) in
    laid_out_but_for_optional_marks text other ks (view_tokens v) lexed alike (laid spelled)

-- the same where it begins and ends as a text does
pub printed_line : (text : List ℕ) (ks : List SpannedTemplateToken) → IsLexed text ks → (other : List ℕ) (k : ℕ) (v : View) (x : Phrase Part) → Lined k v ks x → (AreSpelled (view_tokens v) → IsTextOf (view_tokens v) other) → Printed v other
printed_line text ks lexed other k v x b laid =
    let spelled = b.spelled (read_spelled at_start lexed.characters ks lexed.lexes.0 [] lexed.lexes.1 lexed.are_scalars) in
    let P : List TemplateToken × List TemplateToken → Type 0 = λ z. AreAlike outside [] z.0 z.1 in
    let alike = subst P (λ i. (append-nil (without_places ks) i, append-nil (view_tokens v) i)) (b.cont [] [] [] none) in
    laid_out_but_for_optional_marks text other ks (view_tokens v) lexed alike (laid spelled)

-- a text whose tokens are a phrase, from a start
module _ (s : Start) (lt : nat_lt (number s) 7 ≡ true) (k : ℕ) (goal : goal_of s ≡ k) where
  pub parsed_as : (other : List ℕ) (tokens : List SpannedTemplateToken) → IsLexed other tokens → (value : Phrase Part) → Derives grammar (phrase k) tokens value → value.failure ≡ None → IsParsed s other value.part
  parsed_as other tokens lexed value derives passes =
      let Q : ℕ → Type 0 = λ k. Derives grammar (phrase k) tokens value in
      let read = is_read s lt tokens value (subst Q (sym goal) derives) in
      record { tokens = tokens; lexed = lexed; part = record { phrase = value; derived = read; passed = passes; same = refl } }

-- what a text derives from a start
module _ (s : Start) (lt : nat_lt (number s) 7 ≡ true) (k : ℕ) (goal : goal_of s ≡ k) (text : List ℕ) (p : Part) (h : IsParsed s text p) where
  pub parsed_good : Good (phrase k) h.tokens h.part.phrase
  parsed_good =
      let P : ℕ → Type 0 = λ k. Derives grammar (phrase k) h.tokens h.part.phrase in
      derived (phrase k) h.tokens h.part.phrase (subst P goal h.part.derived.derives) h.part.passed

  -- a text that is laid out as what it stands for
  pub record Returned (other : List ℕ) (v : View) : Type 0 where
    pub made : Part
    pub parsed : IsParsed s other made
    pub stands : Stands made v

  -- tokens that derive what stands for it
  pub found_again : (other : List ℕ) (v : View) (tokens : List SpannedTemplateToken) → IsLexed other tokens → Again (phrase k) v tokens → Returned other v
  found_again other v tokens lexed again = record { made = again.value.part; parsed = parsed_as s lt k goal other tokens lexed again.value again.derives again.passes; stands = again.stands }

  pub returned : (other : List ℕ) (v : View) → Back k v h.tokens h.part.phrase → (AreSpelled (view_tokens v) → IsTextOf (view_tokens v) other) → Returned other v
  returned other v b laid = let found = printed text h.tokens h.lexed other k v h.part.phrase b laid in found_again other v found.0 found.1 (b.item.again found.0 found.2)

  pub returned_line : (other : List ℕ) (v : View) → Lined k v h.tokens h.part.phrase → (AreSpelled (view_tokens v) → IsTextOf (view_tokens v) other) → Returned other v
  returned_line other v b laid = let found = printed_line text h.tokens h.lexed other k v h.part.phrase b laid in found_again other v found.0 found.1 (b.again found.0 found.2)

-- ---- from a tree to a tree

-- Of a start: what its values are as parts, of which trees they are, and how these are printed.
module _ {X T : Type 0} (s : Start) (lt : nat_lt (number s) 7 ≡ true) (k : ℕ) (goal : goal_of s ≡ k) (part : X → Part) (IsOf : X → T → Type 0) (text_of : T → List ℕ) where
  -- What is printed of the tree of a value is read as it: the phrase stands for a tree, which is no other.
  pub read_again : (text : List ℕ) (x : X) (t : T) (p : IsParsed s text (part x)) → ((y : X) → part y ≡ part x → y ≡ x) → ((u : T) → IsOf x u → u ≡ t) → (u : T) (v : View) → ((q : Part) → Stands q v → (y : X) × (q ≡ part y) × IsOf y u)
      → Back k v p.tokens p.part.phrase → (AreSpelled (view_tokens v) → IsTextOf (view_tokens v) (text_of u)) → (y : X) × IsParsed s (text_of t) (part y) × IsOf y t
  read_again text x t p one same u v value_in b laid =
      let y = value_in p.part.phrase.part b.item.stands in
      let P : X → Type 0 = λ z. IsOf z u in
      let is = same u (subst P (one y.0 (sym y.1 ∙ sym p.part.same)) y.2) in
      let r = returned s lt k goal text (part x) p (text_of u) v b laid in
      let z = value_in r.made r.stands in
      let Q : T → Type 0 = λ w. (y : X) × IsParsed s (text_of w) (part y) × IsOf y w in
      subst Q is (z.0, subst (IsParsed s (text_of u)) z.1 r.parsed, z.2)
