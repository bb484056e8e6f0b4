-- The productions of directives.
use Rattle.std.specs.Prelude.{if◌then◌else◌}
use Rattle.std.specs.Str.{bytes_eq}
use Rattle.wgsl_base.proofs.Members.{same_bytes}
use Rattle.std.proofs.Common.{◌≡◌, refl, sym, ap, ◌∙◌, ℕ, Bool, true, false, List, [], ◌∷◌, ◌++◌, append_assoc, append-nil, codes, Option, Some, None}
use Rattle.wgsl_path.specs.Paths.{ident_of}
use Rattle.wgsl_words.specs.declared.enumerations.words.DiagnosticSeverity.{DiagnosticSeverity}
use Rattle.wgsl_words.specs.declared.enumerations.words.DiagnosticSeverity.TheVariants.{Error, Warning, Info, Off}
use Rattle.wgsl_words.specs.Texts.{diagnostic_severity_text}
use Rattle.wgsl_token.specs.declared.token.Fixed.{Fixed}
use Rattle.wgsl_token.specs.declared.token.Fixed.TheVariants as f
use Rattle.wgsl_templates.specs.declared.meaning.token.TemplateToken.{TemplateToken}
use Rattle.wgsl_templates.specs.declared.meaning.token.SpannedTemplateToken.{SpannedTemplateToken}
use Rattle.wgsl_print_laws.specs.Laws.{without_places}
use Rattle.wgsl_print_laws.specs.OptionalMarks.{Before, before, may_end_so, outer, comma, first_has}
use Rattle.wgsl_path.specs.declared.span.Spanned.{Spanned}
use Rattle.wgsl_expressions.specs.declared.attributes.attribute.Attribute.{Attribute}
use Rattle.wgsl_expressions.specs.AttributesTree.{Attr}
use Rattle.wgsl_expressions.specs.AttributesView.{attributes_tree}
use Rattle.wgsl_declarations.specs.declared.imports.directive.GlobalDirective.{GlobalDirective}
use Rattle.wgsl_declarations.specs.declared.imports.directive.GlobalDirective.TheVariants as directive
use Rattle.wgsl_declarations.specs.ImportsTree.{Directive, diagnostic, enabling, requiring}
use Rattle.wgsl_declarations.specs.ImportsView.{directive_tree}
use Rattle.wgsl_parser.specs.Directives.{directive_with}
use Rattle.wgsl_print_laws.specs.Tokens.{mark, word}
use Rattle.wgsl_print_laws.specs.Directives.{IsRule, one_name, two_names, more_names_tokens, names_tokens, setting_tokens, HasTokens, of_diagnostic, of_enable, of_requires}
use Rattle.wgsl_print_laws.specs.Imports.{no_attributes}
use Rattle.wgsl_print_laws.proofs.Expressions.{are_front, are_behind, are_both}
use Rattle.wgsl_attribute_words.specs.Choices.{severity_of}
use Rattle.wgsl_grammar_tables.specs.Grammars.{Symbol, token, phrase}
use Rattle.wgsl_semantic_values.specs.Reading.{attributes_of}
use Rattle.wgsl_semantic_values.specs.declared.part.Part.{Part}
use Rattle.wgsl_semantic_values.specs.declared.part.Part.TheVariants as part
use Rattle.wgsl_semantic_values.specs.declared.label.Label.TheVariants as l
use Rattle.wgsl_semantic_values.specs.declared.label.DirectiveLabel.TheVariants as label
use Rattle.wgsl_parser.specs.Phrase.{Phrase}
use Rattle.wgsl_parser.specs.Imports as make
use Rattle.wgsl_semantic_values.specs.Lists as lists
use Rattle.wgsl_parser.specs.Failures.{part_severity, unknown_severity}
use Rattle.wgsl_grammar_tables.specs.Classes.{fixed_class}
use Rattle.wgsl_read_back.proofs.Views.{View, view_tokens, Stands, a_token, a_text, some_texts, a_directive}
use Rattle.wgsl_read_back.proofs.Views as v
use Rattle.wgsl_read_back.proofs.Pieces.{end, a_mark, a_part, a_list, no_part, Made, made_as, pieces_back, of_two_parts}
use Rattle.wgsl_read_back.proofs.AttributeRows.{AttributesRowed, attributes_are}
use Rattle.wgsl_read_back.proofs.Items.{Item, Back, ListBack, OneToken, cuts, places_append, moved}
use Rattle.wgsl_read_back.proofs.Rows.{concat, nil as no_more, more, RowBack, likewise_row, made_again, Fine, steps_row, spelled_row, stood_back, Stood, stood_pass, Makes, make_of, makes_of, makes_checked, made_severity_passes, Rebuild, back_of, of_one, of_three, of_six, of_seven}
use Rattle.wgsl_read_back.proofs.Places.{mark_of, word_of}
use Rattle.wgsl_read_back.proofs.Families.{token_item, mark_item}
use Rattle.wgsl_read_back.proofs.Operands.{word_item, word_part}
use Rattle.wgsl_read_back.proofs.Lists.{list_without, list_with}

-- ---- what phrases are

abbrev pub Ruled : ℕ → List SpannedTemplateToken → Phrase Part → Type 0
Ruled n u x = (y : List ℕ) × (ts : List TemplateToken) × IsRule y ts × Back n (v.text y ts) u x

abbrev pub Extended : ℕ → List SpannedTemplateToken → Phrase Part → Type 0
Extended n u x = (y : List ℕ) × Back n (v.text y (word y ∷ [])) u x

-- some names with commas between them, and the same where a last comma may stand
abbrev pub Enumerated : ℕ → List SpannedTemplateToken → Phrase Part → Type 0
Enumerated n u x = (y : List ℕ) × (ys : List (List ℕ)) × Back n (v.texts (y ∷ ys)) u x

abbrev pub NamesListed : ℕ → List SpannedTemplateToken → Phrase Part → Type 0
NamesListed n u x = (ys : List (List ℕ)) × ListBack n (v.texts ys) u x

abbrev pub Controlled : ℕ → List SpannedTemplateToken → Phrase Part → Type 0
Controlled n u x = (s : DiagnosticSeverity) × (rule : List ℕ) × (ts : List TemplateToken) × IsRule rule ts × Back n (v.setting (diagnostic [] s rule) (setting_tokens s ts)) u x

abbrev pub Directed : ℕ → List SpannedTemplateToken → Phrase Part → Type 0
Directed n u x = (d : Directive) × (ts : List TemplateToken) × HasTokens d ts × Back n (v.directive d ts) u x

-- ---- names

pub rule_alone : (n : ℕ) → Rebuild n (token 77 ∷ []) (l.Directive label.Rule) (2 ∷ []) → {u : List SpannedTemplateToken} {x : Phrase Part} → OneToken 77 u x → Ruled n (u ++ []) (make_of (l.Directive label.Rule) (2 ∷ []) (x ∷ []))
rule_alone n rebuild {u = u} {x = x} k =
    let y = (word_of k.one.token k.class).0 in (
      y,
      word y ∷ [],
      one_name y,
      back_of n (token 77 ∷ []) (l.Directive label.Rule) (2 ∷ []) rebuild (v.token (word y) ∷ []) (v.text y (word y ∷ [])) refl
          (of_one (λ ys. Makes (v.text y (word y ∷ [])) (make_of (l.Directive label.Rule) (2 ∷ []) ys)) (λ a h.
          makes_of (l.Directive label.Rule) (2 ∷ []) a [] (v.text y (word y ∷ [])) (λ s. part.Text y) (λ s i. make.name (word_part a.part y h.0.0 i ∷ [])) (λ s. a_text refl) (λ ps. refl) (λ s. refl) (stood_pass (a ∷ []) (v.token (word y) ∷ []) h)))
          (more (word_item u x k) no_more) (λ c p. tt) (λ c p. refl) (λ c p. refl),
    )

pub rule_of_two : (n : ℕ) → Rebuild n (token 77 ∷ token (fixed_class f.Period) ∷ token 77 ∷ []) (l.Directive label.RuleOf) (2 ∷ 1 ∷ 2 ∷ []) → {a b c : List SpannedTemplateToken} {x y z : Phrase Part} → OneToken 77 a x → OneToken (fixed_class f.Period) b y → OneToken 77 c z
    → Ruled n (a ++ (b ++ (c ++ []))) (make_of (l.Directive label.RuleOf) (2 ∷ 1 ∷ 2 ∷ []) (x ∷ y ∷ z ∷ []))
rule_of_two n rebuild {a = a} {b = b} {c = c} {x = x} {y = point} {z = z} i j k =
    let one = (word_of i.one.token i.class).0 in
    let two = (word_of k.one.token k.class).0 in
    let ts : List TemplateToken = word one ∷ mark f.Period ∷ word two ∷ [] in
    let y : List ℕ = one ++ codes "." ++ two in (
      y,
      ts,
      two_names one two,
      back_of n (token 77 ∷ token (fixed_class f.Period) ∷ token 77 ∷ []) (l.Directive label.RuleOf) (2 ∷ 1 ∷ 2 ∷ []) rebuild (v.token (word one) ∷ v.token (mark f.Period) ∷ v.token (word two) ∷ []) (v.text y ts) refl
          (of_three (λ ys. Makes (v.text y ts) (make_of (l.Directive label.RuleOf) (2 ∷ 1 ∷ 2 ∷ []) ys)) (λ d e g h.
          makes_of (l.Directive label.RuleOf) (2 ∷ 1 ∷ 2 ∷ []) d (e ∷ g ∷ []) (v.text y ts) (λ s. part.Text y) (λ s i. make.rule_of (word_part d.part one h.0.0 i ∷ word_part g.part two h.1.1.0.0 i ∷ [])) (λ s. a_text refl) (λ ps. refl) (λ s. refl)
          (stood_pass (d ∷ e ∷ g ∷ []) (v.token (word one) ∷ v.token (mark f.Period) ∷ v.token (word two) ∷ []) h)))
          (more (word_item a x i) (more (mark_item f.Period b point j) (more (word_item c z k) no_more))) (λ c p. tt) (λ c p. refl) (λ c p. refl),
    )

pub extension : (n : ℕ) → Rebuild n (token 77 ∷ []) (l.Directive label.Extension) (2 ∷ []) → {u : List SpannedTemplateToken} {x : Phrase Part} → OneToken 77 u x → Extended n (u ++ []) (make_of (l.Directive label.Extension) (2 ∷ []) (x ∷ []))
extension n rebuild {u = u} {x = x} k =
    let y = (word_of k.one.token k.class).0 in (
      y,
      back_of n (token 77 ∷ []) (l.Directive label.Extension) (2 ∷ []) rebuild (v.token (word y) ∷ []) (v.text y (word y ∷ [])) refl
          (of_one (λ ys. Makes (v.text y (word y ∷ [])) (make_of (l.Directive label.Extension) (2 ∷ []) ys)) (λ a h.
          makes_of (l.Directive label.Extension) (2 ∷ []) a [] (v.text y (word y ∷ [])) (λ s. part.Text y) (λ s i. make.name (word_part a.part y h.0.0 i ∷ [])) (λ s. a_text refl) (λ ps. refl) (λ s. refl) (stood_pass (a ∷ []) (v.token (word y) ∷ []) h)))
          (more (word_item u x k) no_more) (λ c p. tt) (λ c p. refl) (λ c p. refl),
    )

-- ---- lists of names

text_part : (p : Part) (y : List ℕ) (ts : List TemplateToken) → Stands p (v.text y ts) → p ≡ part.Text y
text_part p y ts (a_text e) = e

texts_part : (p : Part) (ys : List (List ℕ)) → Stands p (v.texts ys) → p ≡ part.Texts ys
texts_part p ys (some_texts e) = e

pub first_enumerated : (n m : ℕ) → Rebuild n (phrase m ∷ []) l.First (2 ∷ []) → {u : List SpannedTemplateToken} {x : Phrase Part} → Extended m u x → Enumerated n (u ++ []) (make_of l.First (2 ∷ []) (x ∷ []))
first_enumerated n m rebuild g = (
  g.0,
  [],
  back_of n (phrase m ∷ []) l.First (2 ∷ []) rebuild (v.text g.0 (word g.0 ∷ []) ∷ []) (v.texts (g.0 ∷ [])) refl
      (of_one (λ ys. Makes (v.texts (g.0 ∷ [])) (make_of l.First (2 ∷ []) ys)) (λ a h.
      makes_of l.First (2 ∷ []) a [] (v.texts (g.0 ∷ [])) (λ s. part.Texts (g.0 ∷ [])) (λ s i. lists.started (text_part a.part g.0 (word g.0 ∷ []) h.0.0 i)) (λ s. some_texts refl) (λ ps. refl) (λ s. refl)
      (stood_pass (a ∷ []) (v.text g.0 (word g.0 ∷ []) ∷ []) h)))
      (more g.1.item no_more) (λ c p. tt) g.1.level g.1.ended,
)

names_last : (ys : List (List ℕ)) (z : List ℕ) → more_names_tokens (ys ++ (z ∷ [])) ≡ more_names_tokens ys ++ (comma ∷ word z ∷ [])
names_last [] z = refl
names_last (y ∷ ys) z = ap (λ r. comma ∷ word y ∷ r) (names_last ys z)

pub more_enumerated : (n m : ℕ) → Rebuild n (phrase n ∷ token (fixed_class f.Comma) ∷ phrase m ∷ []) l.More (2 ∷ 1 ∷ 2 ∷ []) → {a b c : List SpannedTemplateToken} {x y z : Phrase Part} → Enumerated n a x → OneToken (fixed_class f.Comma) b y → Extended m c z
    → Enumerated n (a ++ (b ++ (c ++ []))) (make_of l.More (2 ∷ 1 ∷ 2 ∷ []) (x ∷ y ∷ z ∷ []))
more_enumerated n m rebuild {b = b} {y = y} g i h = (
  g.0,
  g.1 ++ (h.0 ∷ []),
  back_of n (phrase n ∷ token (fixed_class f.Comma) ∷ phrase m ∷ []) l.More (2 ∷ 1 ∷ 2 ∷ []) rebuild (v.texts (g.0 ∷ g.1) ∷ v.token comma ∷ v.text h.0 (word h.0 ∷ []) ∷ []) (v.texts (g.0 ∷ (g.1 ++ (h.0 ∷ []))))
      (ap (λ r. word g.0 ∷ r) (sym (names_last g.1 h.0)))
      (of_three (λ ys. Makes (v.texts (g.0 ∷ (g.1 ++ (h.0 ∷ [])))) (make_of l.More (2 ∷ 1 ∷ 2 ∷ []) ys)) (λ a b c k.
      makes_of l.More (2 ∷ 1 ∷ 2 ∷ []) a (b ∷ c ∷ []) (v.texts (g.0 ∷ (g.1 ++ (h.0 ∷ [])))) (λ s. part.Texts (g.0 ∷ (g.1 ++ (h.0 ∷ []))))
      (λ s i. lists.joined (texts_part a.part (g.0 ∷ g.1) k.0.0 i) (text_part c.part h.0 (word h.0 ∷ []) k.1.1.0.0 i)) (λ s. some_texts refl) (λ ps. refl) (λ s. refl)
      (stood_pass (a ∷ b ∷ c ∷ []) (v.texts (g.0 ∷ g.1) ∷ v.token comma ∷ v.text h.0 (word h.0 ∷ []) ∷ []) k)))
      (more g.2.item (more (mark_item f.Comma b y i) (more h.1.item no_more))) (λ d p. tt) (λ d p. h.1.level _ _ ∙ g.2.level d p) (λ d p. h.1.ended _ _),
)

pub names_without : (n m : ℕ) → Rebuild n (phrase m ∷ []) l.Pass (2 ∷ []) → {u : List SpannedTemplateToken} {x : Phrase Part} → Enumerated m u x → NamesListed n (u ++ []) (make_of l.Pass (2 ∷ []) (x ∷ []))
names_without n m rebuild g = (g.0 ∷ g.1, list_without n m (v.texts (g.0 ∷ g.1)) rebuild g.2)

pub names_with : (n m : ℕ) → Rebuild n (phrase m ∷ token (fixed_class f.Comma) ∷ []) l.Pass (2 ∷ 1 ∷ []) → Rebuild n (phrase m ∷ []) l.Pass (2 ∷ []) → {a b : List SpannedTemplateToken} {x y : Phrase Part} → Enumerated m a x → OneToken (fixed_class f.Comma) b y
    → NamesListed n (a ++ (b ++ [])) (make_of l.Pass (2 ∷ 1 ∷ []) (x ∷ y ∷ []))
names_with n m read rebuild g k = (g.0 ∷ g.1, list_with n m (v.texts (g.0 ∷ g.1)) read rebuild g.2 k)

-- ---- settings of diagnostics

text_of_severity : (y : List ℕ) (s : DiagnosticSeverity) → severity_of y ≡ Some s → diagnostic_severity_text s ≡ y
text_of_severity y s e = go (bytes_eq (codes "error") y) (bytes_eq (codes "warning") y) (bytes_eq (codes "info") y) (bytes_eq (codes "off") y) refl refl refl refl e
  where
    go : (a b c d : Bool) → bytes_eq (codes "error") y ≡ a → bytes_eq (codes "warning") y ≡ b → bytes_eq (codes "info") y ≡ c → bytes_eq (codes "off") y ≡ d
        → (if a then Some Error else if b then Some Warning else if c then Some Info else if d then Some Off else None) ≡ Some s → diagnostic_severity_text s ≡ y
    go true b c d h i j k e = let is : Error ≡ s = cc in ap diagnostic_severity_text (sym is) ∙ same_bytes (codes "error") y h
    go false true c d h i j k e = let is : Warning ≡ s = cc in ap diagnostic_severity_text (sym is) ∙ same_bytes (codes "warning") y i
    go false false true d h i j k e = let is : Info ≡ s = cc in ap diagnostic_severity_text (sym is) ∙ same_bytes (codes "info") y j
    go false false false true h i j k e = let is : Off ≡ s = cc in ap diagnostic_severity_text (sym is) ∙ same_bytes (codes "off") y k
    go false false false false h i j k e = absurd cc

severity_is : (s : DiagnosticSeverity) → severity_of (diagnostic_severity_text s) ≡ Some s
severity_is Error = refl
severity_is Warning = refl
severity_is Info = refl
severity_is Off = refl

known_severity : (o : Option DiagnosticSeverity) → unknown_severity o ≡ None → (s : DiagnosticSeverity) × (o ≡ Some s)
known_severity None e = absurd cc
known_severity (Some s) e = (s, refl)

abbrev setting : DiagnosticSeverity → List ℕ → Part
setting s rule = part.Directive (directive.Diagnostic (record { attributes = []; severity = s; rule_name = rule }))

-- what is made of a word that names a severity, and of a rule
module _ (s : DiagnosticSeverity) (rule : List ℕ) (p q : Part) (e : p ≡ part.Ident (ident_of (diagnostic_severity_text s))) (h : q ≡ part.Text rule) where
  setting_is : make.diagnostic (p ∷ q ∷ []) ≡ setting s rule
  setting_is = (λ i. make.diagnostic (e i ∷ h i ∷ [])) ∙ ap (λ o. setting (make.or_off o) rule) (severity_is s)

  setting_passes : part_severity (Some p) ≡ None
  setting_passes = ap (λ z. part_severity (Some z)) e ∙ ap unknown_severity (severity_is s)

-- the severity of one in which no check fails
found_severity : (y : List ℕ) (p : Part) → p ≡ part.Ident (ident_of y) → part_severity (Some p) ≡ None → (s : DiagnosticSeverity) × (diagnostic_severity_text s ≡ y)
found_severity y p e h =
    let k = known_severity (severity_of y) (ap (λ z. part_severity (Some z)) (sym e) ∙ h) in
    (k.0, text_of_severity y k.0 k.1)

abbrev pub bare_pattern : List ℕ
bare_pattern = 1 ∷ 1 ∷ 2 ∷ 1 ∷ 2 ∷ 1 ∷ []

abbrev pub comma_pattern : List ℕ
comma_pattern = 1 ∷ 1 ∷ 2 ∷ 1 ∷ 2 ∷ 1 ∷ 1 ∷ []

abbrev pub bare_row : ℕ → List Symbol
bare_row m = token (fixed_class f.Diagnostic) ∷ token (fixed_class f.ParenLeft) ∷ token 77 ∷ token (fixed_class f.Comma) ∷ phrase m ∷ token (fixed_class f.ParenRight) ∷ []

abbrev pub comma_row : ℕ → List Symbol
comma_row m = token (fixed_class f.Diagnostic) ∷ token (fixed_class f.ParenLeft) ∷ token 77 ∷ token (fixed_class f.Comma) ∷ phrase m ∷ token (fixed_class f.Comma) ∷ token (fixed_class f.ParenRight) ∷ []

abbrev bare_views : DiagnosticSeverity → List ℕ → List TemplateToken → List View
bare_views s rule ts = v.token (mark f.Diagnostic) ∷ v.token (mark f.ParenLeft) ∷ v.token (word (diagnostic_severity_text s)) ∷ v.token comma ∷ v.text rule ts ∷ v.token (mark f.ParenRight) ∷ []

-- the word that names the severity
abbrev severity_item : (u : List SpannedTemplateToken) (x : Phrase Part) → (k : OneToken 77 u x) → (s : DiagnosticSeverity) → diagnostic_severity_text s ≡ (word_of k.one.token k.class).0 → Item (token 77) (v.token (word (diagnostic_severity_text s))) u x
severity_item u x k s e = token_item 77 (word (diagnostic_severity_text s)) u x k ((word_of k.one.token k.class).1 ∙ ap word (sym e)) refl

severity_in_row : (m : ℕ) {c : List SpannedTemplateToken} {z : Phrase Part} (k : OneToken 77 c z) → part_severity (Some z.part) ≡ None → (s : DiagnosticSeverity) × (diagnostic_severity_text s ≡ (word_of k.one.token k.class).0)
severity_in_row m {c = c} {z = z} k h = found_severity (word_of k.one.token k.class).0 z.part (word_part z.part (word_of k.one.token k.class).0 (word_item c z k).stands) h

module _ (n m : ℕ) (rebuild : Rebuild n (bare_row m) (l.Directive label.Diagnostic) bare_pattern) (s : DiagnosticSeverity) (rule : List ℕ) (ts : List TemplateToken) where
  bare_makes : (a b c d e g : Phrase Part) → Stood (a ∷ b ∷ c ∷ d ∷ e ∷ g ∷ []) (bare_views s rule ts) → Makes (v.setting (diagnostic [] s rule) (setting_tokens s ts)) (make_of (l.Directive label.Diagnostic) bare_pattern (a ∷ b ∷ c ∷ d ∷ e ∷ g ∷ []))
  bare_makes a b c d e g h =
      let is = word_part c.part (diagnostic_severity_text s) h.1.1.0.0 in
      let at = text_part e.part rule ts h.1.1.1.1.0.0 in
      makes_checked (l.Directive label.Diagnostic) bare_pattern a (b ∷ c ∷ d ∷ e ∷ g ∷ []) (v.setting (diagnostic [] s rule) (setting_tokens s ts)) (λ z. setting s rule) (λ z. setting_is s rule c.part e.part is at) (λ z. v.a_setting _ refl refl)
      (setting_passes s rule c.part e.part is at) (λ z. refl) (stood_pass (a ∷ b ∷ c ∷ d ∷ e ∷ g ∷ []) (bare_views s rule ts) h)

  bare_back : {u : List SpannedTemplateToken} {xs : List (Phrase Part)} → (r : RowBack (bare_row m) (bare_views s rule ts) u xs) → (fine : (b : Before) (o : List Bool) → Fine r b o) → ((b : Before) (o : List Bool) → (steps_row r b o (fine b o)).opened ≡ o)
      → Back n (v.setting (diagnostic [] s rule) (setting_tokens s ts)) u (make_of (l.Directive label.Diagnostic) bare_pattern xs)
  bare_back r fine level =
      back_of n (bare_row m) (l.Directive label.Diagnostic) bare_pattern rebuild (bare_views s rule ts) (v.setting (diagnostic [] s rule) (setting_tokens s ts)) refl
      (of_six (λ ys. Makes (v.setting (diagnostic [] s rule) (setting_tokens s ts)) (make_of (l.Directive label.Diagnostic) bare_pattern ys)) bare_makes) r fine level (λ b o. tt)

pub setting_without : (n m : ℕ) → Rebuild n (bare_row m) (l.Directive label.Diagnostic) bare_pattern → {a b c d e g : List SpannedTemplateToken} {x1 x2 x3 x4 x5 x6 : Phrase Part}
    → OneToken (fixed_class f.Diagnostic) a x1 → OneToken (fixed_class f.ParenLeft) b x2 → OneToken 77 c x3 → OneToken (fixed_class f.Comma) d x4 → Ruled m e x5 → OneToken (fixed_class f.ParenRight) g x6
    → (make_of (l.Directive label.Diagnostic) bare_pattern (x1 ∷ x2 ∷ x3 ∷ x4 ∷ x5 ∷ x6 ∷ [])).failure ≡ None
    → Controlled n (a ++ (b ++ (c ++ (d ++ (e ++ (g ++ [])))))) (make_of (l.Directive label.Diagnostic) bare_pattern (x1 ∷ x2 ∷ x3 ∷ x4 ∷ x5 ∷ x6 ∷ []))
setting_without n m rebuild {a = a} {b = b} {c = c} {d = d} {g = g} {x1 = x1} {x2 = x2} {x3 = x3} {x4 = x4} {x5 = x5} {x6 = x6} i j k o r p pass =
    let s = severity_in_row m k (made_severity_passes (l.Directive label.Diagnostic) bare_pattern x1 (x2 ∷ x3 ∷ x4 ∷ x5 ∷ x6 ∷ []) pass) in (
      s.0,
      r.0,
      r.1,
      r.2,
      bare_back n m rebuild s.0 r.0 r.1
          (more (mark_item f.Diagnostic a x1 i) (more (mark_item f.ParenLeft b x2 j) (more (severity_item c x3 k s.0 s.1) (more (mark_item f.Comma d x4 o) (more r.3.item (more (mark_item f.ParenRight g x6 p) no_more))))))
          (λ b o. tt) (λ b o. ap outer (r.3.level (before comma) (true ∷ o))),
    )

-- the same with a last comma, which is not printed
abbrev comma_views : DiagnosticSeverity → List ℕ → List TemplateToken → List View
comma_views s rule ts = v.token (mark f.Diagnostic) ∷ v.token (mark f.ParenLeft) ∷ v.token (word (diagnostic_severity_text s)) ∷ v.token comma ∷ v.text rule ts ∷ v.token comma ∷ v.token (mark f.ParenRight) ∷ []

comma_makes : (s : DiagnosticSeverity) (rule : List ℕ) (ts : List TemplateToken) (a b c d e k g : Phrase Part) → Stood (a ∷ b ∷ c ∷ d ∷ e ∷ k ∷ g ∷ []) (comma_views s rule ts)
    → Makes (v.setting (diagnostic [] s rule) (setting_tokens s ts)) (make_of (l.Directive label.Diagnostic) comma_pattern (a ∷ b ∷ c ∷ d ∷ e ∷ k ∷ g ∷ []))
comma_makes s rule ts a b c d e k g h =
    let is = word_part c.part (diagnostic_severity_text s) h.1.1.0.0 in
    let at = text_part e.part rule ts h.1.1.1.1.0.0 in
    makes_checked (l.Directive label.Diagnostic) comma_pattern a (b ∷ c ∷ d ∷ e ∷ k ∷ g ∷ []) (v.setting (diagnostic [] s rule) (setting_tokens s ts)) (λ z. setting s rule) (λ z. setting_is s rule c.part e.part is at) (λ z. v.a_setting _ refl refl)
    (setting_passes s rule c.part e.part is at) (λ z. refl) (stood_pass (a ∷ b ∷ c ∷ d ∷ e ∷ k ∷ g ∷ []) (comma_views s rule ts) h)

joined : {A : Type 0} (a b c d e w : List A) → (a ++ (b ++ (c ++ (d ++ (e ++ []))))) ++ w ≡ a ++ (b ++ (c ++ (d ++ (e ++ w))))
joined a b c d e w =
    append_assoc a (b ++ (c ++ (d ++ (e ++ [])))) w
    ∙ ap (λ z. a ++ z) (append_assoc b (c ++ (d ++ (e ++ []))) w ∙ ap (λ z. b ++ z) (append_assoc c (d ++ (e ++ [])) w ∙ ap (λ z. c ++ z) (append_assoc d (e ++ []) w ∙ ap (λ z. d ++ z) (append_assoc e [] w))))

pub setting_with : (n m : ℕ) → Rebuild n (comma_row m) (l.Directive label.Diagnostic) comma_pattern → Rebuild n (bare_row m) (l.Directive label.Diagnostic) bare_pattern → {a b c d e k g : List SpannedTemplateToken} {x1 x2 x3 x4 x5 x6 x7 : Phrase Part}
    → OneToken (fixed_class f.Diagnostic) a x1 → OneToken (fixed_class f.ParenLeft) b x2 → OneToken 77 c x3 → OneToken (fixed_class f.Comma) d x4 → Ruled m e x5 → OneToken (fixed_class f.Comma) k x6 → OneToken (fixed_class f.ParenRight) g x7
    → (make_of (l.Directive label.Diagnostic) comma_pattern (x1 ∷ x2 ∷ x3 ∷ x4 ∷ x5 ∷ x6 ∷ x7 ∷ [])).failure ≡ None
    → Controlled n (a ++ (b ++ (c ++ (d ++ (e ++ (k ++ (g ++ []))))))) (make_of (l.Directive label.Diagnostic) comma_pattern (x1 ∷ x2 ∷ x3 ∷ x4 ∷ x5 ∷ x6 ∷ x7 ∷ []))
setting_with n m read rebuild {a = a} {b = b} {c = c} {d = d} {e = e} {k = k} {g = g} {x1 = x1} {x2 = x2} {x3 = x3} {x4 = x4} {x5 = x5} {x6 = x6} {x7 = x7} i1 i2 i3 i4 r i6 i7 pass = (
  s.0,
  r.0,
  r.1,
  r.2,
  record {
    item = record {
      stands = made.stands;
      passes = made.passes;
      again = bare.item.again;
      likewise = λ w h.
          made_again n (comma_row m) (l.Directive label.Diagnostic) comma_pattern read (comma_views s.0 r.0 r.1) (v.setting (diagnostic [] s.0 r.0) (setting_tokens s.0 r.1))
          (of_seven (λ ys. Makes (v.setting (diagnostic [] s.0 r.0) (setting_tokens s.0 r.1)) (make_of (l.Directive label.Diagnostic) comma_pattern ys)) (comma_makes s.0 r.0 r.1)) w (likewise_row whole w h);
      spelled = λ h. let z = spelled_row whole h in
          (z.0, (z.1.0, (z.1.1.0, (z.1.1.1.0, are_both r.1 (mark f.ParenRight ∷ []) (are_front r.1 (comma ∷ mark f.ParenRight ∷ []) z.1.1.1.1) (are_behind r.1 (comma ∷ mark f.ParenRight ∷ []) z.1.1.1.1).1))));
      steps = λ o p. let q = steps_row front o p tt in record {
        last = before (mark f.ParenRight);
        opened = outer q.opened;
        cont = λ ts us h. moved (source ts) (printed us)
            (q.cont (comma ∷ mark f.ParenRight ∷ ts) (mark f.ParenRight ∷ us) (first_has (mark f.ParenRight) (r.3.ended (before comma) (true ∷ p)) (ap may_end_so (r.3.level (before comma) (true ∷ p))) refl h));
      };
    };
    level = λ o p. ap outer (r.3.level (before comma) (true ∷ p));
    ended = λ o p. tt;
  },
)
  where
    s : (s : DiagnosticSeverity) × (diagnostic_severity_text s ≡ (word_of i3.one.token i3.class).0)
    s = severity_in_row m i3 (made_severity_passes (l.Directive label.Diagnostic) comma_pattern x1 (x2 ∷ x3 ∷ x4 ∷ x5 ∷ x6 ∷ x7 ∷ []) pass)

    front : RowBack (token (fixed_class f.Diagnostic) ∷ token (fixed_class f.ParenLeft) ∷ token 77 ∷ token (fixed_class f.Comma) ∷ phrase m ∷ []) (v.token (mark f.Diagnostic) ∷ v.token (mark f.ParenLeft) ∷ v.token (word (diagnostic_severity_text s.0)) ∷ v.token comma ∷ v.text r.0 r.1 ∷ []) (a ++ (b ++ (c ++ (d ++ (e ++ []))))) (x1 ∷ x2 ∷ x3 ∷ x4 ∷ x5 ∷ [])
    front = more (mark_item f.Diagnostic a x1 i1) (more (mark_item f.ParenLeft b x2 i2) (more (severity_item c x3 i3 s.0 s.1) (more (mark_item f.Comma d x4 i4) (more r.3.item no_more))))

    whole : RowBack (comma_row m) (comma_views s.0 r.0 r.1) (a ++ (b ++ (c ++ (d ++ (e ++ (k ++ (g ++ []))))))) (x1 ∷ x2 ∷ x3 ∷ x4 ∷ x5 ∷ x6 ∷ x7 ∷ [])
    whole = more (mark_item f.Diagnostic a x1 i1) (more (mark_item f.ParenLeft b x2 i2) (more (severity_item c x3 i3 s.0 s.1) (more (mark_item f.Comma d x4 i4) (more r.3.item (more (mark_item f.Comma k x6 i6) (more (mark_item f.ParenRight g x7 i7) no_more))))))

    made : Makes (v.setting (diagnostic [] s.0 r.0) (setting_tokens s.0 r.1)) (make_of (l.Directive label.Diagnostic) comma_pattern (x1 ∷ x2 ∷ x3 ∷ x4 ∷ x5 ∷ x6 ∷ x7 ∷ []))
    made = comma_makes s.0 r.0 r.1 x1 x2 x3 x4 x5 x6 x7 (stood_back whole)

    bare : Back n (v.setting (diagnostic [] s.0 r.0) (setting_tokens s.0 r.1)) (a ++ (b ++ (c ++ (d ++ (e ++ (g ++ [])))))) (make_of (l.Directive label.Diagnostic) bare_pattern (x1 ∷ x2 ∷ x3 ∷ x4 ∷ x5 ∷ x7 ∷ []))
    bare =
        bare_back n m rebuild s.0 r.0 r.1
        (more (mark_item f.Diagnostic a x1 i1) (more (mark_item f.ParenLeft b x2 i2) (more (severity_item c x3 i3 s.0 s.1) (more (mark_item f.Comma d x4 i4) (more r.3.item (more (mark_item f.ParenRight g x7 i7) no_more))))))
        (λ b o. tt) (λ b o. ap outer (r.3.level (before comma) (true ∷ o)))

    last_tokens : without_places (k ++ (g ++ [])) ≡ comma ∷ mark f.ParenRight ∷ []
    last_tokens =
        places_append k (g ++ []) ∙ (λ i. (ap without_places (sym i6.whole) ∙ ap (λ z. z ∷ []) (mark_of i6.one.token f.Comma i6.class)) i ++ (places_append g [] ∙ append-nil (without_places g) ∙ ap without_places (sym i7.whole) ∙ ap (λ z. z ∷ []) (mark_of i7.one.token f.ParenRight i7.class)) i)

    all_tokens : without_places (a ++ (b ++ (c ++ (d ++ (e ++ (k ++ (g ++ []))))))) ≡ without_places (a ++ (b ++ (c ++ (d ++ (e ++ []))))) ++ (comma ∷ mark f.ParenRight ∷ [])
    all_tokens =
        ap without_places (sym (joined a b c d e (k ++ (g ++ [])))) ∙ places_append (a ++ (b ++ (c ++ (d ++ (e ++ []))))) (k ++ (g ++ [])) ∙ ap (λ z. without_places (a ++ (b ++ (c ++ (d ++ (e ++ []))))) ++ z) last_tokens

    source : (ts : List TemplateToken) → without_places (a ++ (b ++ (c ++ (d ++ (e ++ []))))) ++ (comma ∷ mark f.ParenRight ∷ ts) ≡ without_places (a ++ (b ++ (c ++ (d ++ (e ++ (k ++ (g ++ []))))))) ++ ts
    source ts = sym (ap (λ z. z ++ ts) all_tokens ∙ append_assoc (without_places (a ++ (b ++ (c ++ (d ++ (e ++ [])))))) (comma ∷ mark f.ParenRight ∷ []) ts)

    printed : (us : List TemplateToken) → concat (v.token (mark f.Diagnostic) ∷ v.token (mark f.ParenLeft) ∷ v.token (word (diagnostic_severity_text s.0)) ∷ v.token comma ∷ v.text r.0 r.1 ∷ []) ++ (mark f.ParenRight ∷ us) ≡ setting_tokens s.0 r.1 ++ us
    printed us = ap (λ z. mark f.Diagnostic ∷ mark f.ParenLeft ∷ word (diagnostic_severity_text s.0) ∷ comma ∷ z) (append_assoc r.1 [] (mark f.ParenRight ∷ us) ∙ sym (append_assoc r.1 (mark f.ParenRight ∷ []) us))

-- ---- directives

abbrev pub control_row : ℕ → List Symbol
control_row m = phrase m ∷ token (fixed_class f.Semicolon) ∷ []

abbrev pub attributes_control_row : ℕ → ℕ → List Symbol
attributes_control_row r m = phrase r ∷ control_row m

-- a setting with other attributes
with_setting : (y : GlobalDirective) (s : DiagnosticSeverity) (rule : List ℕ) → directive_tree y ≡ diagnostic [] s rule → (zs : List (Spanned Attribute)) → directive_tree (directive_with y zs) ≡ diagnostic (attributes_tree zs) s rule
with_setting (directive.Diagnostic x) s rule e zs =
    let same : diagnostic (attributes_tree x.attributes) x.severity x.rule_name ≡ diagnostic [] s rule = e in
    let one : x.severity ≡ s = cc in
    let two : x.rule_name ≡ rule = cc in
    (λ i. diagnostic (attributes_tree zs) (one i) (two i))
with_setting (directive.Enable x) s rule e zs = absurd (let other : enabling (attributes_tree x.attributes) x.extensions ≡ diagnostic [] s rule = e in cc)
with_setting (directive.Requires x) s rule e zs = absurd (let other : requiring (attributes_tree x.attributes) x.extensions ≡ diagnostic [] s rule = e in cc)

control_makes : (xs : List Attr) (ts : List TemplateToken) (s : DiagnosticSeverity) (rule : List ℕ) (us ws : List TemplateToken) (p q : Part) → Stands p (v.attributes xs ts) → Stands q (v.setting (diagnostic [] s rule) us)
    → Made (l.Directive label.Control) (p ∷ q ∷ []) (v.directive (diagnostic xs s rule) ws)
control_makes xs ts s rule us ws p q h (v.a_setting y is e) =
    made_as (l.Directive label.Control) (p ∷ q ∷ []) (v.directive (diagnostic xs s rule) ws) (λ z. part.Directive (directive_with y (attributes_of p))) (λ z i. make.control (p ∷ is i ∷ []))
    (λ z. a_directive _ refl (with_setting y s rule e (attributes_of p) ∙ ap (λ zs. diagnostic zs s rule) (attributes_are p xs ts h))) (λ z. refl) refl

pub control_bare : (n m : ℕ) → Rebuild n (control_row m) (l.Directive label.Control) (0 ∷ 2 ∷ 1 ∷ []) → {a b : List SpannedTemplateToken} {x y : Phrase Part} → Controlled m a x → OneToken (fixed_class f.Semicolon) b y
    → Directed n (a ++ (b ++ [])) (make_of (l.Directive label.Control) (0 ∷ 2 ∷ 1 ∷ []) (x ∷ y ∷ []))
control_bare n m rebuild {b = b} {y = y} g k =
    let d : Directive = diagnostic [] g.0 g.1 in
    let ts : List TemplateToken = setting_tokens g.0 g.2 ++ (mark f.Semicolon ∷ []) in (
      d,
      ts,
      of_diagnostic no_attributes g.0 g.3,
      pieces_back n (control_row m) (0 ∷ 2 ∷ 1 ∷ []) (phrase m) (token (fixed_class f.Semicolon) ∷ []) (0 ∷ 2 ∷ 1 ∷ []) (l.Directive label.Control) rebuild rebuild (v.directive d ts)
          (no_part (v.attributes [] []) (v.no_attributes refl) (a_part g.4 (a_mark (mark_item f.Semicolon b y k) end))) refl
          (of_two_parts (λ qs. Made (l.Directive label.Control) qs (v.directive d ts)) (control_makes [] [] g.0 g.1 (setting_tokens g.0 g.2) ts)) (λ c o. tt) (λ c o. refl) (λ c o. refl),
    )

pub control_attributed : (n r m : ℕ) → Rebuild n (attributes_control_row r m) (l.Directive label.Control) (2 ∷ 2 ∷ 1 ∷ []) → {e a b : List SpannedTemplateToken} {w x y : Phrase Part} → AttributesRowed r e w → Controlled m a x → OneToken (fixed_class f.Semicolon) b y
    → Directed n (e ++ (a ++ (b ++ []))) (make_of (l.Directive label.Control) (2 ∷ 2 ∷ 1 ∷ []) (w ∷ x ∷ y ∷ []))
control_attributed n r m rebuild {b = b} {y = y} h g k =
    let d : Directive = diagnostic (h.0 ∷ h.1) g.0 g.1 in
    let ts : List TemplateToken = h.2 ++ (setting_tokens g.0 g.2 ++ (mark f.Semicolon ∷ [])) in (
      d,
      ts,
      of_diagnostic h.3 g.0 g.3,
      pieces_back n (attributes_control_row r m) (2 ∷ 2 ∷ 1 ∷ []) (phrase r) (control_row m) (2 ∷ 2 ∷ 1 ∷ []) (l.Directive label.Control) rebuild rebuild (v.directive d ts)
          (a_part h.4 (a_part g.4 (a_mark (mark_item f.Semicolon b y k) end))) refl
          (of_two_parts (λ qs. Made (l.Directive label.Control) qs (v.directive d ts)) (control_makes (h.0 ∷ h.1) h.2 g.0 g.1 (setting_tokens g.0 g.2) ts)) (λ c o. tt) (λ c o. refl) (λ c o. refl),
    )

abbrev pub names_row : Fixed → ℕ → List Symbol
names_row g m = token (fixed_class g) ∷ phrase m ∷ token (fixed_class f.Semicolon) ∷ []

abbrev pub attributes_names_row : Fixed → ℕ → ℕ → List Symbol
attributes_names_row g r m = phrase r ∷ names_row g m

semicolon_tokens : {b : List SpannedTemplateToken} {y : Phrase Part} → (k : OneToken (fixed_class f.Semicolon) b y) → without_places b ≡ mark f.Semicolon ∷ []
semicolon_tokens k = ap without_places (sym k.whole) ∙ ap (λ z. z ∷ []) (mark_of k.one.token f.Semicolon k.class)

enable_makes : (xs : List Attr) (ts : List TemplateToken) (ys : List (List ℕ)) (ws : List TemplateToken) (p q : Part) → Stands p (v.attributes xs ts) → Stands q (v.texts ys) → Made (l.Directive label.Enable) (p ∷ q ∷ []) (v.directive (enabling xs ys) ws)
enable_makes xs ts ys ws p q h g =
    made_as (l.Directive label.Enable) (p ∷ q ∷ []) (v.directive (enabling xs ys) ws) (λ s. part.Directive (directive.Enable (record { attributes = attributes_of p; extensions = ys }))) (λ s i. make.enable (p ∷ texts_part q ys g i ∷ []))
    (λ s. a_directive _ refl (λ i. enabling (attributes_are p xs ts h i) ys)) (λ s. refl) refl

pub enabled_bare : (n m : ℕ) → Rebuild n (names_row f.Enable m) (l.Directive label.Enable) (0 ∷ 1 ∷ 2 ∷ 1 ∷ []) → {a b c : List SpannedTemplateToken} {x y z : Phrase Part} → OneToken (fixed_class f.Enable) a x → NamesListed m b y → OneToken (fixed_class f.Semicolon) c z
    → Directed n (a ++ (b ++ (c ++ []))) (make_of (l.Directive label.Enable) (0 ∷ 1 ∷ 2 ∷ 1 ∷ []) (x ∷ y ∷ z ∷ []))
enabled_bare n m rebuild {a = a} {c = c} {x = x} {z = z} i g k =
    let ts : List TemplateToken = mark f.Enable ∷ (names_tokens g.0 ++ (mark f.Semicolon ∷ [])) in (
      enabling [] g.0,
      ts,
      of_enable no_attributes g.0,
      pieces_back n (names_row f.Enable m) (0 ∷ 1 ∷ 2 ∷ 1 ∷ []) (token (fixed_class f.Enable)) (phrase m ∷ token (fixed_class f.Semicolon) ∷ []) (0 ∷ 1 ∷ 2 ∷ 1 ∷ []) (l.Directive label.Enable) rebuild rebuild (v.directive (enabling [] g.0) ts)
          (no_part (v.attributes [] []) (v.no_attributes refl) (a_mark (mark_item f.Enable a x i) (a_list g.1 (mark_item f.Semicolon c z k) (semicolon_tokens k) (cuts (λ xs. refl)) end))) refl
          (of_two_parts (λ qs. Made (l.Directive label.Enable) qs (v.directive (enabling [] g.0) ts)) (enable_makes [] [] g.0 ts)) (λ c o. (tt, tt)) (λ c o. refl) (λ c o. refl),
    )

pub enabled_attributed : (n r m : ℕ) → Rebuild n (attributes_names_row f.Enable r m) (l.Directive label.Enable) (2 ∷ 1 ∷ 2 ∷ 1 ∷ []) → {e a b c : List SpannedTemplateToken} {w x y z : Phrase Part} → AttributesRowed r e w → OneToken (fixed_class f.Enable) a x → NamesListed m b y → OneToken (fixed_class f.Semicolon) c z
    → Directed n (e ++ (a ++ (b ++ (c ++ [])))) (make_of (l.Directive label.Enable) (2 ∷ 1 ∷ 2 ∷ 1 ∷ []) (w ∷ x ∷ y ∷ z ∷ []))
enabled_attributed n r m rebuild {a = a} {c = c} {x = x} {z = z} h i g k =
    let d : Directive = enabling (h.0 ∷ h.1) g.0 in
    let ts : List TemplateToken = h.2 ++ (mark f.Enable ∷ (names_tokens g.0 ++ (mark f.Semicolon ∷ []))) in (
      d,
      ts,
      of_enable h.3 g.0,
      pieces_back n (attributes_names_row f.Enable r m) (2 ∷ 1 ∷ 2 ∷ 1 ∷ []) (phrase r) (names_row f.Enable m) (2 ∷ 1 ∷ 2 ∷ 1 ∷ []) (l.Directive label.Enable) rebuild rebuild (v.directive d ts)
          (a_part h.4 (a_mark (mark_item f.Enable a x i) (a_list g.1 (mark_item f.Semicolon c z k) (semicolon_tokens k) (cuts (λ xs. refl)) end))) refl
          (of_two_parts (λ qs. Made (l.Directive label.Enable) qs (v.directive d ts)) (enable_makes (h.0 ∷ h.1) h.2 g.0 ts)) (λ c o. (tt, tt)) (λ c o. refl) (λ c o. refl),
    )

requires_makes : (xs : List Attr) (ts : List TemplateToken) (ys : List (List ℕ)) (ws : List TemplateToken) (p q : Part) → Stands p (v.attributes xs ts) → Stands q (v.texts ys) → Made (l.Directive label.Requires) (p ∷ q ∷ []) (v.directive (requiring xs ys) ws)
requires_makes xs ts ys ws p q h g =
    made_as (l.Directive label.Requires) (p ∷ q ∷ []) (v.directive (requiring xs ys) ws) (λ s. part.Directive (directive.Requires (record { attributes = attributes_of p; extensions = ys }))) (λ s i. make.requires_extensions (p ∷ texts_part q ys g i ∷ []))
    (λ s. a_directive _ refl (λ i. requiring (attributes_are p xs ts h i) ys)) (λ s. refl) refl

pub required_bare : (n m : ℕ) → Rebuild n (names_row f.Requires m) (l.Directive label.Requires) (0 ∷ 1 ∷ 2 ∷ 1 ∷ []) → {a b c : List SpannedTemplateToken} {x y z : Phrase Part} → OneToken (fixed_class f.Requires) a x → NamesListed m b y → OneToken (fixed_class f.Semicolon) c z
    → Directed n (a ++ (b ++ (c ++ []))) (make_of (l.Directive label.Requires) (0 ∷ 1 ∷ 2 ∷ 1 ∷ []) (x ∷ y ∷ z ∷ []))
required_bare n m rebuild {a = a} {c = c} {x = x} {z = z} i g k =
    let ts : List TemplateToken = mark f.Requires ∷ (names_tokens g.0 ++ (mark f.Semicolon ∷ [])) in (
      requiring [] g.0,
      ts,
      of_requires no_attributes g.0,
      pieces_back n (names_row f.Requires m) (0 ∷ 1 ∷ 2 ∷ 1 ∷ []) (token (fixed_class f.Requires)) (phrase m ∷ token (fixed_class f.Semicolon) ∷ []) (0 ∷ 1 ∷ 2 ∷ 1 ∷ []) (l.Directive label.Requires) rebuild rebuild (v.directive (requiring [] g.0) ts)
          (no_part (v.attributes [] []) (v.no_attributes refl) (a_mark (mark_item f.Requires a x i) (a_list g.1 (mark_item f.Semicolon c z k) (semicolon_tokens k) (cuts (λ xs. refl)) end))) refl
          (of_two_parts (λ qs. Made (l.Directive label.Requires) qs (v.directive (requiring [] g.0) ts)) (requires_makes [] [] g.0 ts)) (λ c o. (tt, tt)) (λ c o. refl) (λ c o. refl),
    )

pub required_attributed : (n r m : ℕ) → Rebuild n (attributes_names_row f.Requires r m) (l.Directive label.Requires) (2 ∷ 1 ∷ 2 ∷ 1 ∷ []) → {e a b c : List SpannedTemplateToken} {w x y z : Phrase Part} → AttributesRowed r e w → OneToken (fixed_class f.Requires) a x → NamesListed m b y → OneToken (fixed_class f.Semicolon) c z
    → Directed n (e ++ (a ++ (b ++ (c ++ [])))) (make_of (l.Directive label.Requires) (2 ∷ 1 ∷ 2 ∷ 1 ∷ []) (w ∷ x ∷ y ∷ z ∷ []))
required_attributed n r m rebuild {a = a} {c = c} {x = x} {z = z} h i g k =
    let d : Directive = requiring (h.0 ∷ h.1) g.0 in
    let ts : List TemplateToken = h.2 ++ (mark f.Requires ∷ (names_tokens g.0 ++ (mark f.Semicolon ∷ []))) in (
      d,
      ts,
      of_requires h.3 g.0,
      pieces_back n (attributes_names_row f.Requires r m) (2 ∷ 1 ∷ 2 ∷ 1 ∷ []) (phrase r) (names_row f.Requires m) (2 ∷ 1 ∷ 2 ∷ 1 ∷ []) (l.Directive label.Requires) rebuild rebuild (v.directive d ts)
          (a_part h.4 (a_mark (mark_item f.Requires a x i) (a_list g.1 (mark_item f.Semicolon c z k) (semicolon_tokens k) (cuts (λ xs. refl)) end))) refl
          (of_two_parts (λ qs. Made (l.Directive label.Requires) qs (v.directive d ts)) (requires_makes (h.0 ∷ h.1) h.2 g.0 ts)) (λ c o. (tt, tt)) (λ c o. refl) (λ c o. refl),
    )
