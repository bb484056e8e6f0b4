-- The productions of members of structures, and of lists of them: in the printed text a comma stands behind each.
use Rattle.std.proofs.Common.{◌≡◌, refl, sym, ap, ◌∙◌, subst, ℕ, Bool, true, List, [], ◌∷◌, ◌++◌, append_assoc, append-nil, codes, None}
use Rattle.std.proofs.lemmas.List.{map-append}
use Rattle.wgsl_path.specs.Paths.{ident_of}
use Rattle.wgsl_token.specs.declared.token.Token.TheVariants as t
use Rattle.wgsl_token.specs.declared.token.Fixed.TheVariants as f
use Rattle.wgsl_lex.proofs.Tables.{fixed_of-spelling}
use Rattle.wgsl_lex.proofs.Forms.{fixed_form}
use Rattle.wgsl_templates.specs.declared.meaning.token.TemplateToken.{TemplateToken}
use Rattle.wgsl_templates.specs.declared.meaning.token.SpannedTemplateToken.{SpannedTemplateToken}
use Rattle.wgsl_print_laws.specs.Laws.{without_places}
use Rattle.wgsl_print_laws.specs.OptionalMarks.{Before, AreAlike, second_extra}
use Rattle.wgsl_expressions.specs.Tree.{Typ}
use Rattle.wgsl_expressions.specs.AttributesTree.{Attr}
use Rattle.wgsl_declarations.specs.Tree.{Member}
use Rattle.wgsl_declarations.specs.View.{member_tree}
use Rattle.wgsl_print_laws.specs.Tokens.{mark, word}
use Rattle.wgsl_print_laws.specs.Printable.{IsSpelled, AreSpelled, type_is_apart}
use Rattle.wgsl_print_laws.specs.Imports.{AttributesTokens}
use Rattle.wgsl_print_laws.proofs.Expressions.{are_both}
use Rattle.wgsl_print_laws.specs.Declarations.{typed_tokens, MembersTokens, no_members, members_and}
use Rattle.wgsl_grammar_tables.specs.Grammars.{Symbol, token, phrase, Row, done, next}
use Rattle.wgsl_semantic_values.specs.Reading.{attributes_of}
use Rattle.wgsl_semantic_values.specs.declared.part.Part.{Part}
use Rattle.wgsl_semantic_values.specs.declared.part.Part.TheVariants as part
use Rattle.wgsl_semantic_values.specs.declared.label.Label.TheVariants as l
use Rattle.wgsl_semantic_values.specs.declared.label.DeclarationLabel.TheVariants as label
use Rattle.wgsl_parser.specs.Phrase.{Phrase}
use Rattle.wgsl_parser.specs.Declarations as make
use Rattle.wgsl_semantic_values.specs.Lists as lists
use Rattle.wgsl_parser.specs.Failures.{made_failed}
use Rattle.wgsl_parser.specs.Phrases.{grammar}
use Rattle.wgsl_grammar_tables.specs.Classes.{fixed_class}
use Rattle.wgsl_read_back.proofs.Views.{View, Stands, a_type, a_member, some_members}
use Rattle.wgsl_read_back.proofs.Views as v
use Rattle.wgsl_read_back.proofs.Items.{places_append, split, moved, Again, Back, CutList, OneToken, token_again}
use Rattle.wgsl_read_back.proofs.Rows.{make_of, makes_of, Rebuild}
use Rattle.wgsl_read_back.proofs.Pieces.{end, a_mark, a_part, Made, made_as, made_of_parts, likewise_of, pieces_back, of_one_part, phrase_back}
use Rattle.wgsl_read_back.proofs.Families.{mark_item}
use Rattle.wgsl_read_back.proofs.Operands.{word_part}
use Rattle.wgsl_read_back.proofs.AttributeRows.{attributes_are}
use Rattle.wgsl_read_back.proofs.Lists.{separated_back}
use Rattle.wgsl_read_back.proofs.Parameters.{NameAndType}

-- ---- what phrases are

abbrev pub member : List Attr → List ℕ → Typ → Member
member xs y t = record { attributes = xs; name = y; type = t }

abbrev pub member_view : List Attr → List ℕ → Typ → List TemplateToken → View
member_view xs y t us = v.member (member xs y t) us

abbrev pub Membered : ℕ → List SpannedTemplateToken → Phrase Part → Type 0
Membered = NameAndType member_view

abbrev a_comma : List TemplateToken
a_comma = mark f.Comma ∷ []

-- some of them with commas between them, which are their tokens with a comma behind
abbrev pub MembersSeparated : ℕ → List SpannedTemplateToken → Phrase Part → Type 0
MembersSeparated n u x = (ms : List Member) × (ts : List TemplateToken) × MembersTokens ms (ts ++ a_comma) × Back n (v.members ms ts) u x

-- the same where a last comma may stand, which is printed
abbrev pub MembersListed : ℕ → List SpannedTemplateToken → Phrase Part → Type 0
MembersListed n u x = (ms : List Member) × (ts : List TemplateToken) × MembersTokens ms ts × CutList n (v.members ms ts) u x

-- ---- members

pub member_makes : (xs : List Attr) (ts : List TemplateToken) (y : List ℕ) (t : Typ) (us : List TemplateToken) (p q r : Part) → Stands p (v.attributes xs ts) → Stands q (v.token (word y)) → Stands r (v.type t)
    → Made (l.Declaration label.Member) (p ∷ q ∷ r ∷ []) (v.member (member xs y t) us)
member_makes xs ts y t us p q r h g (a_type z is e) =
    made_as (l.Declaration label.Member) (p ∷ q ∷ r ∷ []) (v.member (member xs y t) us) (λ s. part.Member (record { node = record { attributes = attributes_of p; ident = ident_of y; ty = z }; span = s }))
    (λ s i. make.member s (p ∷ word_part q y g i ∷ is i ∷ [])) (λ s. a_member _ refl (λ i. member (attributes_are p xs ts h i) y (e i))) (λ s. refl) refl

-- ---- lists of members

-- a member's tokens and a comma
one_member : (ts : List TemplateToken) (y : List ℕ) (t : Typ) → ts ++ (typed_tokens y t ++ a_comma) ≡ ((ts ++ typed_tokens y t) ++ []) ++ a_comma
one_member ts y t = sym (append_assoc ts (typed_tokens y t) a_comma) ∙ ap (λ z. z ++ a_comma) (sym (append-nil (ts ++ typed_tokens y t)))

members_last : {ms : List Member} {ts : List TemplateToken} (xs : List Attr) (y : List ℕ) (t : Typ) (us : List TemplateToken) → MembersTokens ms ts → AttributesTokens xs us → type_is_apart t ≡ true
    → MembersTokens (ms ++ (member xs y t ∷ [])) (ts ++ (us ++ (typed_tokens y t ++ a_comma)))
members_last xs y t us no_members h apart = members_and h apart no_members
members_last xs y t us (members_and {m = m} {ms = ms} {ts = ts} {us = vs} g k gs) h apart =
    let ws : List TemplateToken = us ++ (typed_tokens y t ++ a_comma) in
    subst (MembersTokens (m ∷ (ms ++ (member xs y t ∷ []))))
    (sym (append_assoc ts (typed_tokens m.name m.type ++ (mark f.Comma ∷ vs)) ws ∙ ap (λ z. ts ++ z) (append_assoc (typed_tokens m.name m.type) (mark f.Comma ∷ vs) ws))) (members_and g k (members_last xs y t us gs h apart))

more_members_tokens : (vs us : List TemplateToken) (y : List ℕ) (t : Typ) → (vs ++ a_comma) ++ (us ++ (typed_tokens y t ++ a_comma)) ≡ (vs ++ (mark f.Comma ∷ ((us ++ typed_tokens y t) ++ []))) ++ a_comma
more_members_tokens vs us y t =
    append_assoc vs a_comma (us ++ (typed_tokens y t ++ a_comma)) ∙ ap (λ z. vs ++ (mark f.Comma ∷ z)) (one_member us y t) ∙ sym (append_assoc vs (mark f.Comma ∷ ((us ++ typed_tokens y t) ++ [])) a_comma)

pub first_member : (n m : ℕ) → Rebuild n (phrase m ∷ []) l.First (2 ∷ []) → {u : List SpannedTemplateToken} {x : Phrase Part} → Membered m u x → MembersSeparated n (u ++ []) (make_of l.First (2 ∷ []) (x ∷ []))
first_member n m rebuild g =
    let p = member g.attributes g.name g.type in
    let ts = (g.tokens ++ typed_tokens g.name g.type) ++ [] in (
      p ∷ [],
      ts,
      subst (MembersTokens (p ∷ [])) (one_member g.tokens g.name g.type) (members_and g.has g.apart no_members),
      phrase_back n m l.First rebuild (v.members (p ∷ []) ts) g.back refl (makes p (g.tokens ++ typed_tokens g.name g.type) ts) (λ d o. tt),
    )
  where
    makes : (p : Member) (us ts : List TemplateToken) (q : Part) → Stands q (v.member p us) → Made l.First (q ∷ []) (v.members (p ∷ []) ts)
    makes p us ts q (a_member y is e) = made_as l.First (q ∷ []) (v.members (p ∷ []) ts) (λ s. part.Members (y ∷ [])) (λ s i. lists.started (is i)) (λ s. some_members _ refl (λ i. e i ∷ [])) (λ s. refl) refl

pub more_members : (n m : ℕ) → Rebuild n (phrase n ∷ token (fixed_class f.Comma) ∷ phrase m ∷ []) l.More (2 ∷ 1 ∷ 2 ∷ []) → {a b c : List SpannedTemplateToken} {x y z : Phrase Part}
    → MembersSeparated n a x → OneToken (fixed_class f.Comma) b y → Membered m c z → MembersSeparated n (a ++ (b ++ (c ++ []))) (make_of l.More (2 ∷ 1 ∷ 2 ∷ []) (x ∷ y ∷ z ∷ []))
more_members n m rebuild h i g =
    let p = member g.attributes g.name g.type in
    let ts = h.1 ++ (mark f.Comma ∷ ((g.tokens ++ typed_tokens g.name g.type) ++ [])) in (
      h.0 ++ (p ∷ []),
      ts,
      subst (MembersTokens (h.0 ++ (p ∷ []))) (more_members_tokens h.1 g.tokens g.name g.type) (members_last g.attributes g.name g.type g.tokens h.2 g.has g.apart),
      separated_back n m rebuild (v.members (h.0 ++ (p ∷ [])) ts) h.3 i g.back refl (makes h.0 h.1 p (g.tokens ++ typed_tokens g.name g.type) ts) (λ d o. tt),
    )
  where
    makes : (ms : List Member) (us : List TemplateToken) (r : Member) (vs ts : List TemplateToken) (q k : Part) → Stands q (v.members ms us) → Stands k (v.member r vs) → Made l.More (q ∷ k ∷ []) (v.members (ms ++ (r ∷ [])) ts)
    makes ms us r vs ts q k (some_members ys is e) (a_member y at h) =
        made_as l.More (q ∷ k ∷ []) (v.members (ms ++ (r ∷ [])) ts) (λ s. part.Members (ys ++ (y ∷ []))) (λ s i. lists.joined (is i) (at i))
        (λ s. some_members _ refl (map-append (λ n. member_tree n.node) ys (y ∷ []) ∙ (λ i. e i ++ (h i ∷ [])))) (λ s. refl) refl

-- ---- a last comma

abbrev pub comma_row : ℕ → List Symbol
comma_row m = phrase m ∷ token (fixed_class f.Comma) ∷ []

-- whatever its tokens
members_stand : (p : Part) (ms : List Member) (ts us : List TemplateToken) → Stands p (v.members ms ts) → Stands p (v.members ms us)
members_stand p ms ts us (some_members ys is e) = some_members ys is e

comma_makes : (ms : List Member) (ts us : List TemplateToken) (q : Part) → Stands q (v.members ms ts) → Made l.Pass (q ∷ []) (v.members ms us)
comma_makes ms ts us q (some_members ys is e) = made_as l.Pass (q ∷ []) (v.members ms us) (λ s. part.Members ys) (λ s. is) (λ s. some_members ys refl e) (λ s. refl) refl

comma_spelled : IsSpelled (t.Fixed f.Comma)
comma_spelled = record { characters = codes ","; scalars = refl; forms = fixed_form (codes ",") f.Comma refl (fixed_of-spelling f.Comma) }

-- what is printed has it
members_again : (n m : ℕ) → Rebuild n (comma_row m) l.Pass (2 ∷ 1 ∷ []) → (ms : List Member) (ts : List TemplateToken) {u : List SpannedTemplateToken} {x : Phrase Part} → Back m (v.members ms ts) u x → (w : List SpannedTemplateToken) → without_places w ≡ ts ++ a_comma
    → Again (phrase n) (v.members ms (ts ++ a_comma)) w
members_again n m rebuild ms ts g w e =
    let p = split w ts a_comma e in
    let a = g.item.again p.front p.front_is in
    let c = token_again (fixed_class f.Comma) (mark f.Comma) refl p.rest p.rest_is in
    let row : Row grammar (comma_row m) (p.front ++ (p.rest ++ [])) (a.value ∷ c.value ∷ []) = next a.derives (next c.derives done) in
    let stands = members_stand a.value.part ms ts (ts ++ a_comma) a.stands in
    let made = makes_of l.Pass (2 ∷ 1 ∷ []) a.value (c.value ∷ []) (v.members ms (ts ++ a_comma)) (λ s. a.value.part) (λ s. refl) (λ s. stands) (λ ps. refl) (λ s. pass a.value.part ms ts a.stands) (a.passes, (c.passes, tt)) in
    let P : List SpannedTemplateToken → Type 0 = λ z. Again (phrase n) (v.members ms (ts ++ a_comma)) z in
    subst P (ap (λ z. p.front ++ z) (append-nil p.rest) ∙ p.whole)
    (record { value = make_of l.Pass (2 ∷ 1 ∷ []) (a.value ∷ c.value ∷ []); derives = rebuild (p.front ++ (p.rest ++ [])) (a.value ∷ c.value ∷ []) row; stands = made.stands; passes = made.passes })
  where
    pass : (p : Part) (ms : List Member) (ts : List TemplateToken) → Stands p (v.members ms ts) → made_failed l.Pass p ≡ None
    pass p ms ts (some_members ys is e) = ap (made_failed l.Pass) is

abbrev level_cont : {n : ℕ} {ms : List Member} {ts : List TemplateToken} {u : List SpannedTemplateToken} {x : Phrase Part} (h : Back n (v.members ms ts) u x) (b : Before) (o : List Bool) (xs us : List TemplateToken) → AreAlike (h.item.steps b o).last o xs us
    → AreAlike b o (without_places u ++ xs) (ts ++ us)
level_cont h b o xs us a = let P : List Bool → Type 0 = λ z. AreAlike (h.item.steps b o).last z xs us in (h.item.steps b o).cont xs us (subst P (sym (h.level b o)) a)

pub members_without : (n m : ℕ) → Rebuild n (phrase m ∷ []) l.Pass (2 ∷ []) → Rebuild n (comma_row m) l.Pass (2 ∷ 1 ∷ []) → {u : List SpannedTemplateToken} {x : Phrase Part} → MembersSeparated m u x → MembersListed n (u ++ []) (make_of l.Pass (2 ∷ []) (x ∷ []))
members_without n m read rebuild {u = u} {x = x} g =
    let made = made_of_parts l.Pass (2 ∷ []) x [] (v.members g.0 (g.1 ++ a_comma)) (comma_makes g.0 g.1 (g.1 ++ a_comma) x.part g.3.item.stands) (g.3.item.passes, tt) in
    let same : without_places (u ++ []) ≡ without_places u = places_append u [] ∙ append-nil (without_places u) in (
      g.0,
      g.1 ++ a_comma,
      g.2,
      record {
        stands = made.stands;
        passes = made.passes;
        again = members_again n m rebuild g.0 g.1 g.3;
        likewise = likewise_of n (phrase m ∷ []) (2 ∷ []) l.Pass read (v.members g.0 (g.1 ++ a_comma)) (a_part g.3 end) (of_one_part (λ qs. Made l.Pass qs (v.members g.0 (g.1 ++ a_comma))) (comma_makes g.0 g.1 (g.1 ++ a_comma)));
        spelled = λ h. are_both g.1 a_comma (g.3.item.spelled (subst AreSpelled same h)) (comma_spelled, tt);
        last = λ b o. (g.3.item.steps b o).last;
        cont = λ b o ts us e h a. moved (ap (λ z. z ++ ts) (sym same)) (sym (append_assoc g.1 a_comma us)) (level_cont g.3 b o ts (mark f.Comma ∷ us) (second_extra (mark f.Comma) refl e a));
      },
    )

pub members_with : (n m : ℕ) → Rebuild n (comma_row m) l.Pass (2 ∷ 1 ∷ []) → {a b : List SpannedTemplateToken} {x y : Phrase Part} → MembersSeparated m a x → OneToken (fixed_class f.Comma) b y
    → MembersListed n (a ++ (b ++ [])) (make_of l.Pass (2 ∷ 1 ∷ []) (x ∷ y ∷ []))
members_with n m rebuild {a = a} {b = b} {x = x} {y = y} g k = (g.0, g.1 ++ a_comma, g.2, record { stands = whole.item.stands; passes = whole.item.passes; again = whole.item.again; likewise = whole.item.likewise; spelled = whole.item.spelled; last = λ d o. (whole.item.steps d o).last; cont = λ d o ts us e h z. level_cont whole d o ts us z })
  where
    whole : Back n (v.members g.0 (g.1 ++ a_comma)) (a ++ (b ++ [])) (make_of l.Pass (2 ∷ 1 ∷ []) (x ∷ y ∷ []))
    whole =
        pieces_back n (comma_row m) (2 ∷ 1 ∷ []) (phrase m) (token (fixed_class f.Comma) ∷ []) (2 ∷ 1 ∷ []) l.Pass rebuild rebuild (v.members g.0 (g.1 ++ a_comma)) (a_part g.3 (a_mark (mark_item f.Comma b y k) end)) refl
        (of_one_part (λ qs. Made l.Pass qs (v.members g.0 (g.1 ++ a_comma))) (comma_makes g.0 g.1 (g.1 ++ a_comma))) (λ d o. tt) (λ d o. refl) (λ d o. tt)
