-- What is printed of an expression is laid out as its tokens.
use Rattle.std.proofs.Common.{◌≡◌, refl, sym, ap, ◌∙◌, subst, ℕ, zero, suc, Bool, true, false, not, nat_lt, ◌&&◌, ◌||◌, ◌==◌, List, [], ◌∷◌, ◌++◌, append_assoc, append-nil, codes, Option, Some, None}
use Rattle.std.specs.Prelude.{if◌then◌else◌}
use Rattle.std.specs.List.{list_all, list_any}
use Rattle.std.specs.Str.{encode_utf8_all}
use Rattle.std.proofs.lemmas.Bool.{and_parts, eqb-true, eq-eqb}
use Rattle.std.proofs.lemmas.Str.{encodes-append}
use Rattle.unicode_ident.specs.Ident.{is_xid_continue}
use Rattle.unicode_ident.proofs.Computing.{unicode_ident}
use Rattle.wgsl_words.specs.declared.operators.UnaryOperator.{UnaryOperator}
use Rattle.wgsl_words.specs.declared.operators.UnaryOperator.TheVariants.{LogicalNegation, Negation, BitwiseComplement, AddressOf, Indirection}
use Rattle.wgsl_words.specs.declared.operators.BinaryOperator.{BinaryOperator}
use Rattle.wgsl_words.specs.declared.operators.BinaryOperator.TheVariants.{ShortCircuitOr, ShortCircuitAnd, Addition, Subtraction, Multiplication, Division, Remainder, Equality, Inequality, LessThan, LessThanEqual, GreaterThan, GreaterThanEqual, BitwiseOr, BitwiseAnd, BitwiseXor, ShiftLeft, ShiftRight}
use Rattle.wgsl_words.specs.Operators.{unary_text, binary_text}
use Rattle.wgsl_path.specs.declared.path.PathOrigin.{PathOrigin}
use Rattle.wgsl_path.specs.declared.path.PathOrigin.TheVariants.{Absolute, Relative, Package}
use Rattle.wgsl_path.specs.declared.path.ModulePath.{ModulePath}
use Rattle.wgsl_path.specs.Paths.{supers, origin_text, components_text, path_text}
use Rattle.wgsl_token.specs.declared.token.Token.TheVariants as t
use Rattle.wgsl_token.specs.declared.token.Fixed.TheVariants as f
use Rattle.wgsl_print_laws.proofs.Spells.{Spells, spells_then, spells_ascii}
use Rattle.wgsl_print_laws.proofs.Forms.{is_number_char}
use Rattle.wgsl_print_laws.proofs.Marks.{spaced}
use Rattle.wgsl_print_laws.proofs.Ends.{ends_word, ends_number}
use Rattle.wgsl_templates.specs.declared.meaning.token.TemplateToken.{TemplateToken}
use Rattle.wgsl_templates.specs.declared.meaning.token.TemplateToken.TheVariants.{Plain, TemplateArgsStart, TemplateArgsEnd}
use Rattle.wgsl_print_laws.specs.Layout.{IsLaidOut, at_the_end}
use Rattle.wgsl_expressions.specs.Print.{is_numeric, gap, begins_with, clings, prefixed, qualifier_text, angled, exp_text, exps_text, more_text, typ_text}
use Rattle.wgsl_expressions.specs.Tree.{Exp, literal, parenthesized, component, indexed, unary, binary, call, named, Exps, nil, cons, Typ, simple, templated}
use Rattle.wgsl_print_laws.specs.Tokens.{mark, word, unary_sign, binary_sign, supers_tokens, origin_tokens, components_tokens, path_tokens, qualifier_tokens, exp_tokens, exps_tokens, more_tokens, typ_tokens}
use Rattle.wgsl_print_laws.specs.Printable.{IsSpelled, AreSpelled, ends_in_number, is_apart, are_apart, type_is_apart}
use Rattle.wgsl_print_laws.specs.TreesLaws.{ExpressionsAreLaidOut}
use Rattle.wgsl_print_laws.proofs.Lays.{Lays, lays_then, lays_where, lays_nothing}
use Rattle.wgsl_print_laws.proofs.Signs.{begins_with_none, lays_paren_left, lays_paren_right, lays_bracket_left, lays_bracket_right, lays_comma, lays_tilde, lays_bang, lays_minus, lays_and, lays_star, lays_plus, lays_modulo, lays_or, lays_xor, lays_less, lays_greater, lays_separator, lays_or_or, lays_and_and, lays_equal_equal, lays_not_equal, lays_less_equal, lays_greater_equal, lays_shift_left, lays_shift_right, lays_slash, lays_list_start, lays_space}
use Rattle.wgsl_print_laws.proofs.Leaves.{begins_plainly, Leaf, word_leaf, word_starts, reserved_leaf, package_leaf, super_leaf, literal_leaf, lays_period, lays_list_end}

-- Runs of characters

-- what may stand behind a number, or behind anything else
abbrev pub ends : Bool → List ℕ → Bool
ends number rest = if number then ends_number rest else ends_word rest

pub record Run (may : List ℕ → Bool) (ts : List TemplateToken) (bytes : List ℕ) : Type 0 where
  pub characters : List ℕ
  pub spells : Spells characters bytes
  pub lays : Lays may characters ts

abbrev pub run_then : {may may' : List ℕ → Bool} {ts us : List TemplateToken} {xs ys : List ℕ} → Run may ts xs → (q : Run may' us ys) → ((rest : List ℕ) → may' rest ≡ true → may (q.characters ++ rest) ≡ true) → Run may' (ts ++ us) (xs ++ ys)
run_then p q follows = record { characters = p.characters ++ q.characters; spells = spells_then p.spells q.spells; lays = lays_then p.lays q.lays follows }

pub run_as : {may : List ℕ → Bool} {ts us : List TemplateToken} {xs ys : List ℕ} → ts ≡ us → xs ≡ ys → Run may ts xs → Run may us ys
run_as {may = may} e h p = let P : List TemplateToken × List ℕ → Type 0 = λ x. Run may x.0 x.1 in subst P (λ i. (e i, h i)) p

abbrev pub run_where : {may may' : List ℕ → Bool} {ts : List TemplateToken} {xs : List ℕ} → ((rest : List ℕ) → may' rest ≡ true → may rest ≡ true) → Run may ts xs → Run may' ts xs
run_where h p = record { characters = p.characters; spells = p.spells; lays = lays_where h p.lays }

abbrev pub sign_run : {may : List ℕ → Bool} {ts : List TemplateToken} {cs : List ℕ} → Lays may cs ts → list_all (λ c. nat_lt c 128) cs ≡ true → Run may ts cs
sign_run {cs = cs} l ascii = record { characters = cs; spells = spells_ascii cs ascii; lays = l }

abbrev pub leaf_run : {may : List ℕ → Bool} {k : _} {xs : List ℕ} → Leaf may k xs → Run may (Plain k ∷ []) xs
leaf_run p = record { characters = p.characters; spells = p.spells; lays = p.lays }

-- of a phrase, which begins with none of `<`, `=` and `>`
pub record Phrase (may : List ℕ → Bool) (ts : List TemplateToken) (bytes : List ℕ) : Type 0 where
  pub run : Run may ts bytes
  pub begins : begins_plainly run.characters ≡ true

abbrev leaf_phrase : {may : List ℕ → Bool} {k : _} {xs : List ℕ} → Leaf may k xs → Phrase may (Plain k ∷ []) xs
leaf_phrase p = record { run = leaf_run p; begins = p.begins }

pub begins_then : (cs ds : List ℕ) → begins_plainly cs ≡ true → begins_plainly (cs ++ ds) ≡ true
begins_then [] ds h = absurd cc
begins_then (c ∷ cs) ds h = h

abbrev pub phrase_then : {may may' : List ℕ → Bool} {ts us : List TemplateToken} {xs ys : List ℕ} → Phrase may ts xs → (q : Run may' us ys) → ((rest : List ℕ) → may' rest ≡ true → may (q.characters ++ rest) ≡ true) → Phrase may' (ts ++ us) (xs ++ ys)
phrase_then p q follows = record { run = run_then p.run q follows; begins = begins_then p.run.characters q.characters p.begins }

phrase_as : {may : List ℕ → Bool} {ts us : List TemplateToken} {xs ys : List ℕ} → ts ≡ us → xs ≡ ys → Phrase may ts xs → Phrase may us ys
phrase_as {may = may} e h p = let P : List TemplateToken × List ℕ → Type 0 = λ x. Phrase may x.0 x.1 in subst P (λ i. (e i, h i)) p

abbrev phrase_where : {may may' : List ℕ → Bool} {ts : List TemplateToken} {xs : List ℕ} → ((rest : List ℕ) → may' rest ≡ true → may rest ≡ true) → Phrase may ts xs → Phrase may' ts xs
phrase_where h p = record { run = run_where h p.run; begins = p.begins }

-- What may follow

-- anything
pub free : (rest : List ℕ) → begins_with_none [] rest ≡ true
free [] = refl
free (c ∷ cs) = refl

ends_at : (c : ℕ) → is_xid_continue c ≡ false → is_number_char c ≡ false → (b : Bool) (rest : List ℕ) → ends b (c ∷ rest) ≡ true
ends_at c w n true rest = ap not n
ends_at c w n false rest = ap not w

pub at_space : (b : Bool) (rest : List ℕ) → ends b (32 ∷ rest) ≡ true
unfolding unicode_ident
at_space = ends_at 32 refl refl

pub at_paren_left : (b : Bool) (rest : List ℕ) → ends b (40 ∷ rest) ≡ true
unfolding unicode_ident
at_paren_left = ends_at 40 refl refl

pub at_paren_right : (b : Bool) (rest : List ℕ) → ends b (41 ∷ rest) ≡ true
unfolding unicode_ident
at_paren_right = ends_at 41 refl refl

pub at_comma : (b : Bool) (rest : List ℕ) → ends b (44 ∷ rest) ≡ true
unfolding unicode_ident
at_comma = ends_at 44 refl refl

at_bracket_left : (b : Bool) (rest : List ℕ) → ends b (91 ∷ rest) ≡ true
unfolding unicode_ident
at_bracket_left = ends_at 91 refl refl

at_bracket_right : (b : Bool) (rest : List ℕ) → ends b (93 ∷ rest) ≡ true
unfolding unicode_ident
at_bracket_right = ends_at 93 refl refl

at_less : (b : Bool) (rest : List ℕ) → ends b (60 ∷ rest) ≡ true
unfolding unicode_ident
at_less = ends_at 60 refl refl

at_greater : (b : Bool) (rest : List ℕ) → ends b (62 ∷ rest) ≡ true
unfolding unicode_ident
at_greater = ends_at 62 refl refl

pub at_colon : (rest : List ℕ) → ends_word (58 ∷ rest) ≡ true
unfolding unicode_ident
at_colon rest = refl

pub at_period : (rest : List ℕ) → ends_word (46 ∷ rest) ≡ true
unfolding unicode_ident
at_period rest = refl

ends_nothing : (b : Bool) → ends b [] ≡ true
ends_nothing true = refl
ends_nothing false = refl

-- both: what stands behind an expression of a list
abbrev pub stops : List ℕ → Bool
stops rest = ends_word rest && ends_number rest

pub stops_end : (b : Bool) (rest : List ℕ) → stops rest ≡ true → ends b rest ≡ true
stops_end true rest h = (and_parts (ends_word rest) (ends_number rest) h).1
stops_end false rest h = (and_parts (ends_word rest) (ends_number rest) h).0

pub stops_at : (rest : List ℕ) → ((b : Bool) → ends b rest ≡ true) → stops rest ≡ true
stops_at rest h = (λ i. h false i && h true i)

-- Signs and words

abbrev empty_run : Run stops [] []
empty_run = record { characters = []; spells = spells_ascii [] refl; lays = lays_nothing }

abbrev space_run : Run (begins_with_none []) [] (codes " ")
space_run = sign_run lays_space refl

-- behind a phrase: `::` and a word
abbrev separator_run : Run (begins_with_none []) (mark f.PathSeparator ∷ []) (codes "::")
separator_run = sign_run lays_separator refl

then_word : {ts : List TemplateToken} {xs : List ℕ} (name : List ℕ) → Phrase ends_word ts xs → IsSpelled (t.Identifier name) → Phrase ends_word (ts ++ (mark f.PathSeparator ∷ word name ∷ [])) (xs ++ (codes "::" ++ name))
then_word name p s = phrase_then p (run_then separator_run (leaf_run (word_leaf name s)) (λ rest ok. free _)) (λ rest ok. at_colon (58 ∷ ((word_leaf name s).characters ++ rest)))

pub are_front : (ts us : List TemplateToken) → AreSpelled (ts ++ us) → AreSpelled ts
are_front [] us h = tt
are_front (Plain k ∷ ts) us h = (h.0, are_front ts us h.1)
are_front (TemplateArgsStart ∷ ts) us h = are_front ts us h
are_front (TemplateArgsEnd ∷ ts) us h = are_front ts us h

pub are_behind : (ts us : List TemplateToken) → AreSpelled (ts ++ us) → AreSpelled us
are_behind [] us h = h
are_behind (Plain k ∷ ts) us h = are_behind ts us h.1
are_behind (TemplateArgsStart ∷ ts) us h = are_behind ts us h
are_behind (TemplateArgsEnd ∷ ts) us h = are_behind ts us h

pub are_both : (ts us : List TemplateToken) → AreSpelled ts → AreSpelled us → AreSpelled (ts ++ us)
are_both [] us h g = g
are_both (Plain k ∷ ts) us h g = (h.0, are_both ts us h.1 g)
are_both (TemplateArgsStart ∷ ts) us h g = are_both ts us h g
are_both (TemplateArgsEnd ∷ ts) us h g = are_both ts us h g

-- Paths and names

supers_phrase : (n : ℕ) → Phrase ends_word (mark f.Super ∷ supers_tokens n) (codes "super" ++ supers n)
supers_phrase zero = phrase_as refl (sym (append-nil (codes "super"))) (leaf_phrase super_leaf)
supers_phrase (suc n) =
    phrase_as refl (append_assoc (codes "super") (supers n) (codes "::super"))
    (phrase_then (supers_phrase n) (run_then separator_run (leaf_run super_leaf) (λ rest ok. free _)) (λ rest ok. at_colon (58 ∷ (super_leaf.characters ++ rest))))

origin_phrase : (o : PathOrigin) → AreSpelled (origin_tokens o) → Phrase ends_word (origin_tokens o) (origin_text o)
origin_phrase Absolute s = leaf_phrase package_leaf
origin_phrase (Relative zero) s = leaf_phrase (reserved_leaf (codes "self") s.0)
origin_phrase (Relative (suc n)) s = supers_phrase n
origin_phrase (Package name) s = leaf_phrase (word_leaf name s.0)

components_phrase : {ts : List TemplateToken} {xs : List ℕ} (cs : List (List ℕ)) → Phrase ends_word ts xs → AreSpelled (components_tokens cs) → Phrase ends_word (ts ++ components_tokens cs) (xs ++ components_text cs)
components_phrase {ts = ts} {xs = xs} [] p s = phrase_as (sym (append-nil ts)) (sym (append-nil xs)) p
components_phrase {ts = ts} {xs = xs} (c ∷ cs) p s =
    phrase_as (append_assoc ts (mark f.PathSeparator ∷ word c ∷ []) (components_tokens cs)) (append_assoc xs (codes "::" ++ c) (components_text cs))
    (components_phrase cs (then_word c p s.1.0) s.1.1)

pub path_phrase : (p : ModulePath) → AreSpelled (path_tokens p) → Phrase ends_word (path_tokens p) (path_text p)
path_phrase p s = components_phrase p.components (origin_phrase p.origin (are_front (origin_tokens p.origin) (components_tokens p.components) s)) (are_behind (origin_tokens p.origin) (components_tokens p.components) s)

name_phrase : (path : Option ModulePath) (name : List ℕ) → AreSpelled (qualifier_tokens path) → IsSpelled (t.Identifier name) → Phrase ends_word (qualifier_tokens path ++ (word name ∷ [])) (qualifier_text path ++ name)
name_phrase None name s h = leaf_phrase (word_leaf name h)
name_phrase (Some p) name s h =
    phrase_as (sym (append_assoc (path_tokens p) (mark f.PathSeparator ∷ []) (word name ∷ []))) (sym (append_assoc (path_text p) (codes "::") name))
    (then_word name (path_phrase p (are_front (path_tokens p) (mark f.PathSeparator ∷ []) s)) h)

-- Operators

spaced_none : (ds : List ℕ) → list_any (λ d. 32 == d) ds ≡ false → (rest : List ℕ) → spaced rest ≡ true → begins_with_none ds rest ≡ true
spaced_none ds h [] ok = absurd cc
spaced_none ds h (c ∷ cs) ok = ap (λ x. not (list_any (λ d. x == d) ds)) (eqb-true c 32 ok) ∙ ap not h

binary_run : (o : BinaryOperator) → Run spaced (mark (binary_sign o) ∷ []) (binary_text o)
binary_run ShortCircuitOr = run_where (spaced_none [] refl) (sign_run lays_or_or refl)
binary_run ShortCircuitAnd = run_where (spaced_none [] refl) (sign_run lays_and_and refl)
binary_run Addition = run_where (spaced_none (43 ∷ 61 ∷ []) refl) (sign_run lays_plus refl)
binary_run Subtraction = run_where (spaced_none (45 ∷ 61 ∷ 62 ∷ []) refl) (sign_run lays_minus refl)
binary_run Multiplication = run_where (spaced_none (61 ∷ []) refl) (sign_run lays_star refl)
binary_run Division = sign_run lays_slash refl
binary_run Remainder = run_where (spaced_none (61 ∷ []) refl) (sign_run lays_modulo refl)
binary_run Equality = run_where (spaced_none [] refl) (sign_run lays_equal_equal refl)
binary_run Inequality = run_where (spaced_none [] refl) (sign_run lays_not_equal refl)
binary_run LessThan = run_where (spaced_none (60 ∷ 61 ∷ []) refl) (sign_run lays_less refl)
binary_run LessThanEqual = run_where (spaced_none [] refl) (sign_run lays_less_equal refl)
binary_run GreaterThan = run_where (spaced_none (61 ∷ 62 ∷ []) refl) (sign_run lays_greater refl)
binary_run GreaterThanEqual = run_where (spaced_none [] refl) (sign_run lays_greater_equal refl)
binary_run BitwiseOr = run_where (spaced_none (61 ∷ 124 ∷ []) refl) (sign_run lays_or refl)
binary_run BitwiseAnd = run_where (spaced_none (38 ∷ 61 ∷ []) refl) (sign_run lays_and refl)
binary_run BitwiseXor = run_where (spaced_none (61 ∷ []) refl) (sign_run lays_xor refl)
binary_run ShiftLeft = run_where (spaced_none (61 ∷ []) refl) (sign_run lays_shift_left refl)
binary_run ShiftRight = run_where (spaced_none (61 ∷ []) refl) (sign_run lays_shift_right refl)

-- what must not stand behind a prefix
abbrev unary_clash : UnaryOperator → List ℕ
unary_clash LogicalNegation = 61 ∷ []
unary_clash Negation = 45 ∷ 61 ∷ 62 ∷ []
unary_clash BitwiseComplement = []
unary_clash AddressOf = 38 ∷ 61 ∷ []
unary_clash Indirection = 61 ∷ []

unary_run : (o : UnaryOperator) → Phrase (begins_with_none (unary_clash o)) (mark (unary_sign o) ∷ []) (unary_text o)
unary_run LogicalNegation = record { run = sign_run lays_bang refl; begins = refl }
unary_run Negation = record { run = sign_run lays_minus refl; begins = refl }
unary_run BitwiseComplement = record { run = sign_run lays_tilde refl; begins = refl }
unary_run AddressOf = record { run = sign_run lays_and refl; begins = refl }
unary_run Indirection = record { run = sign_run lays_star refl; begins = refl }

no_space : (o : UnaryOperator) (rest : List ℕ) → begins_with_none (unary_clash o) (32 ∷ rest) ≡ true
no_space LogicalNegation rest = refl
no_space Negation rest = refl
no_space BitwiseComplement rest = refl
no_space AddressOf rest = refl
no_space Indirection rest = refl

-- the first byte of what begins with an ASCII character
first_byte : (c : ℕ) (cs bytes : List ℕ) → Spells (c ∷ cs) bytes → (m : ℕ) → nat_lt m 128 ≡ true → begins_with m bytes ≡ false → (c == m) ≡ false
first_byte c cs bytes s m low h = go (c == m) refl
  where
    go : (b : Bool) → (c == m) ≡ b → (c == m) ≡ false
    go false e = e
    go true e =
        let same : c ≡ m = eqb-true c m e in
        let is : bytes ≡ m ∷ encode_utf8_all cs = sym s.encodes ∙ ap (λ x. encode_utf8_all (x ∷ cs)) same ∙ encodes-append (m ∷ []) cs ∙ ap (λ x. x ++ encode_utf8_all cs) (spells_ascii (m ∷ []) (ap (λ b. b && true) low)).encodes in
        let there : (m == m) ≡ true = eq-eqb m m refl in
        let wrong : true ≡ false = sym there ∙ ap (begins_with m) (sym is) ∙ h in absurd cc

none_of_three : (a b c : Bool) → not (a || (b || (c || false))) ≡ true → (a ≡ false) × (b ≡ false) × (c ≡ false)
none_of_three true b c h = absurd cc
none_of_three false true c h = absurd cc
none_of_three false false true h = absurd cc
none_of_three false false false h = (refl, refl, refl)

no_clash : (o : UnaryOperator) (cs bytes rest : List ℕ) → begins_plainly cs ≡ true → Spells cs bytes → clings o bytes ≡ false → begins_with_none (unary_clash o) (cs ++ rest) ≡ true
no_clash o [] bytes rest b s h = absurd cc
no_clash o (c ∷ cs) bytes rest b s h = go o h
  where
    off : ((c == 60) ≡ false) × ((c == 61) ≡ false) × ((c == 62) ≡ false)
    off = none_of_three (c == 60) (c == 61) (c == 62) b

    go : (o : UnaryOperator) → clings o bytes ≡ false → begins_with_none (unary_clash o) (c ∷ (cs ++ rest)) ≡ true
    go LogicalNegation h = rw off.1 refl
    go Negation h = let sign = first_byte c cs bytes s 45 refl h in rw (sign, off.1, off.2) refl
    go BitwiseComplement h = refl
    go AddressOf h = let sign = first_byte c cs bytes s 38 refl h in rw (sign, off.1) refl
    go Indirection h = rw off.1 refl

abbrev prefixed_by : UnaryOperator → List ℕ → Bool → List ℕ
prefixed_by o bytes b = (unary_text o ++ (if b then codes " " else [])) ++ bytes

prefixed_phrase : {may : List ℕ → Bool} {ts : List TemplateToken} {bytes : List ℕ} (o : UnaryOperator) → Phrase may ts bytes → Phrase may (mark (unary_sign o) ∷ ts) (prefixed o bytes)
prefixed_phrase {may = may} {ts = ts} {bytes = bytes} o p = go (clings o bytes) refl
  where
    go : (b : Bool) → clings o bytes ≡ b → Phrase may (mark (unary_sign o) ∷ ts) (prefixed_by o bytes (clings o bytes))
    go true e =
        phrase_as refl (sym (append_assoc (unary_text o) (codes " ") bytes) ∙ ap (prefixed_by o bytes) (sym e))
        (phrase_then (unary_run o) (run_then space_run p.run (λ rest ok. free (p.run.characters ++ rest))) (λ rest ok. no_space o (p.run.characters ++ rest)))
    go false e =
        phrase_as refl (ap (λ x. x ++ bytes) (sym (append-nil (unary_text o))) ∙ ap (prefixed_by o bytes) (sym e))
        (phrase_then (unary_run o) p.run (λ rest ok. no_clash o p.run.characters bytes rest p.begins p.run.spells e))

-- Expressions

or_no : (a b : Bool) → (a || not b) ≡ true → a ≡ false → b ≡ false
or_no true b h e = absurd cc
or_no false true h e = absurd cc
or_no false false h e = refl

-- a number alone ends in it
abbrev pub closed_run : (ts : List TemplateToken) {xs : List ℕ} → Run (begins_with_none []) ts xs → Run ends_word ts xs
closed_run ts p = run_where (λ rest ok. free rest) p

-- what stands behind the first expression of a list
record More (ts : List TemplateToken) (bytes : List ℕ) : Type 0 where
  run : Run stops ts bytes
  follows : (b : Bool) (rest : List ℕ) → stops rest ≡ true → ends b (run.characters ++ rest) ≡ true

-- an expression and those behind it
abbrev first_of : {ts : List TemplateToken} {xs : List ℕ} (x : Exp) → Phrase (ends (ends_in_number x)) (exp_tokens x) (exp_text x) → More ts xs → Phrase stops (exp_tokens x ++ ts) (exp_text x ++ xs)
first_of x p q = phrase_then p q.run (λ rest ok. q.follows (ends_in_number x) rest ok)

abbrev component_by : Exp → List ℕ → Bool → List ℕ
component_by x name b = exp_text x ++ ((if b then codes " " else []) ++ (codes "." ++ name))

abbrev pub point_run : (name : List ℕ) → IsSpelled (t.Identifier name) → Run ends_word (mark f.Period ∷ word name ∷ []) (codes "." ++ name)
point_run name s = run_then (sign_run lays_period refl) (leaf_run (word_leaf name s)) (λ rest ok. word_starts name s rest)

component_phrase : (x : Exp) (name : List ℕ) → Phrase (ends (ends_in_number x)) (exp_tokens x) (exp_text x) → IsSpelled (t.Identifier name) → (is_numeric x || not (ends_in_number x)) ≡ true
    → Phrase ends_word (exp_tokens x ++ (mark f.Period ∷ word name ∷ [])) (exp_text x ++ gap x ++ codes "." ++ name)
component_phrase x name p s h =
    phrase_as refl (sym (append_assoc (exp_text x ++ gap x) (codes ".") name ∙ append_assoc (exp_text x) (gap x) (codes "." ++ name))) (go (is_numeric x) refl)
  where
    at_point : ends_in_number x ≡ false → (rest : List ℕ) → ends (ends_in_number x) (46 ∷ rest) ≡ true
    at_point e rest = ap (λ b. ends b (46 ∷ rest)) e ∙ at_period rest

    go : (b : Bool) → is_numeric x ≡ b → Phrase ends_word (exp_tokens x ++ (mark f.Period ∷ word name ∷ [])) (component_by x name (is_numeric x))
    go true e =
        phrase_as refl (ap (component_by x name) (sym e))
        (phrase_then p (run_then space_run (point_run name s) (λ rest ok. free ((point_run name s).characters ++ rest))) (λ rest ok. at_space (ends_in_number x) ((point_run name s).characters ++ rest)))
    go false e =
        phrase_as refl (ap (component_by x name) (sym e))
        (phrase_then p (point_run name s) (λ rest ok. at_point (or_no (is_numeric x) (ends_in_number x) h e) ((word_leaf name s).characters ++ rest)))

-- a template list behind a name
pub plain_start : (cs rest : List ℕ) → begins_plainly cs ≡ true → begins_with_none (60 ∷ 61 ∷ []) (cs ++ rest) ≡ true
plain_start [] rest h = absurd cc
plain_start (c ∷ cs) rest h = let off = none_of_three (c == 60) (c == 61) (c == 62) h in rw (off.0, off.1) refl

-- the inside of a list, and what may stand before it
pub record Inside (ts : List TemplateToken) (bytes : List ℕ) : Type 0 where
  pub run : Run stops ts bytes
  pub starts : (rest : List ℕ) → begins_with_none (60 ∷ 61 ∷ []) (run.characters ++ (62 ∷ rest)) ≡ true

pub angled_run : {ts : List TemplateToken} {bytes : List ℕ} → Inside ts bytes → Run ends_word (TemplateArgsStart ∷ (ts ++ (TemplateArgsEnd ∷ []))) (angled bytes)
unfolding angled
angled_run p =
    run_then (sign_run lays_list_start refl) (run_then p.run (closed_run _ (sign_run lays_list_end refl)) (λ rest ok. stops_at (62 ∷ rest) (λ b. at_greater b rest)))
    (λ rest ok. let same = append_assoc p.run.characters (62 ∷ []) rest in ap (begins_with_none (60 ∷ 61 ∷ [])) same ∙ p.starts rest)

pub at_angle : {ts : List TemplateToken} {bytes : List ℕ} (p : Inside ts bytes) (rest : List ℕ) → ends_word ((angled_run p).characters ++ rest) ≡ true
unfolding angled angled_run
at_angle p rest = at_less false ((p.run.characters ++ codes ">") ++ rest)

mutual
  pub exp_phrase : (e : Exp) → AreSpelled (exp_tokens e) → is_apart e ≡ true → Phrase (ends (ends_in_number e)) (exp_tokens e) (exp_text e)
  exp_phrase (literal l) s h = leaf_phrase (literal_leaf l s.0)
  exp_phrase (parenthesized x) s h =
      let p = exp_phrase x (are_front (exp_tokens x) (mark f.ParenRight ∷ []) s.1) h in
      record {
        run = run_then (sign_run lays_paren_left refl) (run_then p.run (closed_run _ (sign_run lays_paren_right refl)) (λ rest ok. at_paren_right (ends_in_number x) rest)) (λ rest ok. free _);
        begins = refl;
      }
  exp_phrase (component x name) s h =
      let both = and_parts (is_numeric x || not (ends_in_number x)) (is_apart x) h in
      let p = exp_phrase x (are_front (exp_tokens x) (mark f.Period ∷ word name ∷ []) s) both.1 in
      let spelled = (are_behind (exp_tokens x) (mark f.Period ∷ word name ∷ []) s).1.0 in
      component_phrase x name p spelled both.0
  exp_phrase (indexed x y) s h =
      let both = and_parts (is_apart x) (is_apart y) h in
      let behind = are_behind (exp_tokens x) (mark f.BracketLeft ∷ (exp_tokens y ++ (mark f.BracketRight ∷ []))) s in
      let p = exp_phrase x (are_front (exp_tokens x) (mark f.BracketLeft ∷ (exp_tokens y ++ (mark f.BracketRight ∷ []))) s) both.0 in
      let q = exp_phrase y (are_front (exp_tokens y) (mark f.BracketRight ∷ []) behind.1) both.1 in
      phrase_as refl (sym (append_assoc (exp_text x ++ codes "[") (exp_text y) (codes "]") ∙ append_assoc (exp_text x) (codes "[") (exp_text y ++ codes "]")))
      (phrase_then p
      (run_then (sign_run lays_bracket_left refl) (run_then q.run (closed_run _ (sign_run lays_bracket_right refl)) (λ rest ok. at_bracket_right (ends_in_number y) rest)) (λ rest ok. free _))
      (λ rest ok. at_bracket_left (ends_in_number x) ((q.run.characters ++ codes "]") ++ rest)))
  exp_phrase (unary o x) s h = prefixed_phrase o (exp_phrase x s.1 h)
  exp_phrase (binary o x y) s h =
      let both = and_parts (is_apart x) (is_apart y) h in
      let behind = are_behind (exp_tokens x) (mark (binary_sign o) ∷ exp_tokens y) s in
      let p = exp_phrase x (are_front (exp_tokens x) (mark (binary_sign o) ∷ exp_tokens y) s) both.0 in
      let q = exp_phrase y behind.1 both.1 in
      phrase_as refl
      (sym (append_assoc (exp_text x ++ codes " " ++ binary_text o) (codes " ") (exp_text y) ∙ append_assoc (exp_text x ++ codes " ") (binary_text o) (codes " " ++ exp_text y)
      ∙ append_assoc (exp_text x) (codes " ") (binary_text o ++ (codes " " ++ exp_text y))))
      (phrase_then p (run_then space_run (run_then (binary_run o) (run_then space_run q.run (λ rest ok. free _)) (λ rest ok. refl)) (λ rest ok. free _))
      (λ rest ok. at_space (ends_in_number x) (((binary_run o).characters ++ (codes " " ++ q.run.characters)) ++ rest)))
  exp_phrase (call t xs) s h =
      let both = and_parts (type_is_apart t) (are_apart xs) h in
      let behind = are_behind (typ_tokens t) (mark f.ParenLeft ∷ (exps_tokens xs ++ (mark f.ParenRight ∷ []))) s in
      let p = typ_phrase t (are_front (typ_tokens t) (mark f.ParenLeft ∷ (exps_tokens xs ++ (mark f.ParenRight ∷ []))) s) both.0 in
      let q = exps_run xs (are_front (exps_tokens xs) (mark f.ParenRight ∷ []) behind.1) both.1 in
      phrase_as refl (sym (append_assoc (typ_text t ++ codes "(") (exps_text xs) (codes ")") ∙ append_assoc (typ_text t) (codes "(") (exps_text xs ++ codes ")")))
      (phrase_then p
      (run_then (sign_run lays_paren_left refl) (run_then q (closed_run _ (sign_run lays_paren_right refl)) (λ rest ok. stops_at (41 ∷ rest) (λ b. at_paren_right b rest))) (λ rest ok. free _))
      (λ rest ok. at_paren_left false ((q.characters ++ codes ")") ++ rest)))
  exp_phrase (named t) s h = typ_phrase t s h

  pub exps_run : (xs : Exps) → AreSpelled (exps_tokens xs) → are_apart xs ≡ true → Run stops (exps_tokens xs) (exps_text xs)
  exps_run nil s h = empty_run
  exps_run (cons x xs) s h =
      let both = and_parts (is_apart x) (are_apart xs) h in
      (first_of x (exp_phrase x (are_front (exp_tokens x) (more_tokens xs) s) both.0) (more_run xs (are_behind (exp_tokens x) (more_tokens xs) s) both.1)).run

  more_run : (xs : Exps) → AreSpelled (more_tokens xs) → are_apart xs ≡ true → More (more_tokens xs) (more_text xs)
  more_run nil s h = record { run = empty_run; follows = λ b rest ok. stops_end b rest ok }
  more_run (cons x xs) s h =
      let both = and_parts (is_apart x) (are_apart xs) h in
      let p = first_of x (exp_phrase x (are_front (exp_tokens x) (more_tokens xs) s.1) both.0) (more_run xs (are_behind (exp_tokens x) (more_tokens xs) s.1) both.1) in
      record {
        run = run_then (sign_run lays_comma refl) (run_then space_run p.run (λ rest ok. free (p.run.characters ++ rest))) (λ rest ok. free ((codes " " ++ p.run.characters) ++ rest));
        follows = λ b rest ok. at_comma b ((codes " " ++ p.run.characters) ++ rest);
      }

  pub typ_phrase : (t : Typ) → AreSpelled (typ_tokens t) → type_is_apart t ≡ true → Phrase ends_word (typ_tokens t) (typ_text t)
  typ_phrase (simple path name) s h = name_phrase path name (are_front (qualifier_tokens path) (word name ∷ []) s) (are_behind (qualifier_tokens path) (word name ∷ []) s).0
  typ_phrase (templated path name xs) s h =
      let all : List TemplateToken = word name ∷ TemplateArgsStart ∷ (exps_tokens xs ++ (TemplateArgsEnd ∷ [])) in
      let behind = are_behind (qualifier_tokens path) all s in
      let q = inside xs (are_front (exps_tokens xs) (TemplateArgsEnd ∷ []) behind.1) h in
      phrase_as (append_assoc (qualifier_tokens path) (word name ∷ []) (TemplateArgsStart ∷ (exps_tokens xs ++ (TemplateArgsEnd ∷ [])))) refl
      (phrase_then (name_phrase path name (are_front (qualifier_tokens path) all s) behind.0) (angled_run q) (λ rest ok. at_angle q rest))

  inside : (xs : Exps) → AreSpelled (exps_tokens xs) → are_apart xs ≡ true → Inside (exps_tokens xs) (exps_text xs)
  inside nil s h = record { run = empty_run; starts = λ rest. refl }
  inside (cons x xs) s h =
      let both = and_parts (is_apart x) (are_apart xs) h in
      let p = first_of x (exp_phrase x (are_front (exp_tokens x) (more_tokens xs) s) both.0) (more_run xs (are_behind (exp_tokens x) (more_tokens xs) s) both.1) in
      record { run = p.run; starts = λ rest. plain_start p.run.characters (62 ∷ rest) p.begins }

pub expressions_are_laid_out : ExpressionsAreLaidOut
expressions_are_laid_out e s h =
    let p = exp_phrase e s h in record {
      characters = p.run.characters;
      are_scalars = p.run.spells.scalars;
      spell = p.run.spells.encodes;
      laid_out = (let P : List ℕ × List TemplateToken → Type 0 = λ x. IsLaidOut x.0 x.1 in
          subst P (λ i. (append-nil p.run.characters i, append-nil (exp_tokens e) i)) (p.run.lays.lays [] [] (ends_nothing (ends_in_number e)) at_the_end));
    }
