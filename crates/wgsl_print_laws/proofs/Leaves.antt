-- Words and numbers as they are printed.
use Rattle.std.proofs.Common.{◌≡◌, refl, sym, ap, ◌∙◌, subst, ℕ, Bool, true, false, not, ◌||◌, ◌==◌, List, [], ◌∷◌, ◌++◌, arith, codes, Option, Some, None, pos}
use Rattle.std.specs.Prelude.{◌≢◌, if◌then◌else◌, nat_lt, ℤ}
use Rattle.std.specs.List.{list_all}
use Rattle.std.specs.Fmt.{decimal}
use Rattle.std.specs.Str.{encode_utf8_all}
use Rattle.std.specs.Char.{is_ascii_digit}
use Rattle.std.proofs.lemmas.Bool.{and_parts}
use Rattle.unicode_ident.specs.Ident.{is_xid_continue}
use Rattle.unicode_ident.proofs.Computing.{unicode_ident}
use Rattle.wgsl_token.specs.declared.token.Token.{Token}
use Rattle.wgsl_token.specs.declared.token.Token.TheVariants as t
use Rattle.wgsl_token.specs.declared.token.Fixed.{Fixed}
use Rattle.wgsl_token.specs.declared.token.Fixed.TheVariants as f
use Rattle.wgsl_token.specs.Spelling.{spelling}
use Rattle.wgsl_lex.specs.Floats.{is_float}
use Rattle.wgsl_lex.specs.Pieces.{begins, opens_number, BeginsNothingElse, spelled_by_two, spelled_by_three}
use Rattle.wgsl_lex.specs.Tokens.{is_trivia, is_word, is_reserved, begins_with_two_underscores, word_token, number_token, fixed_of, token_form, form, token}
use Rattle.wgsl_lex.proofs.Bools.{differs}
use Rattle.wgsl_lex.proofs.Classes.{word_no_digit}
use Rattle.wgsl_lex.proofs.First.{one_first, two_first, three_first}
use Rattle.wgsl_lex.proofs.Forms.{no_number, no_form, no_trivia, no_word, fixed_form}
use Rattle.wgsl_lex.proofs.Tables.{begins_word, fixed_of-spelling, no_fixed}
use Rattle.wgsl_print_laws.proofs.Spells.{Spells, spells_then, spells_ascii}
use Rattle.wgsl_print_laws.proofs.Forms as m
use Rattle.wgsl_print_laws.proofs.Forms.{Made, made, word_is, Numeral, number_numeral}
use Rattle.wgsl_print_laws.proofs.Floats.{float_text, float_spelled}
use Rattle.wgsl_print_laws.proofs.Numbers.{decimal_is, abstract_form, signed_form, unsigned_form, digits_are_ascii}
use Rattle.wgsl_print_laws.proofs.Marks.{no_longer}
use Rattle.wgsl_print_laws.proofs.Ends.{ends_word, ends_number, word_ends, number_ends}
use Rattle.wgsl_templates.specs.declared.meaning.token.TemplateToken.TheVariants.{Plain, TemplateArgsEnd}
use Rattle.wgsl_templates.specs.Tokens.{IsFirst}
use Rattle.wgsl_print_laws.specs.Layout.{list_end, a_piece}
use Rattle.wgsl_expressions.specs.declared.expression.LiteralExpression.{LiteralExpression}
use Rattle.wgsl_expressions.specs.declared.expression.LiteralExpression.TheVariants as l
use Rattle.wgsl_expressions.specs.Print.{literal_text, is_number}
use Rattle.wgsl_print_laws.specs.Tokens.{mark, literal_token}
use Rattle.wgsl_print_laws.specs.Printable.{IsSpelled}
use Rattle.wgsl_print_laws.proofs.Lays.{Lays, lays_token}
use Rattle.wgsl_print_laws.proofs.Signs.{begins_with_none}

-- no `<`, `=` or `>` stands first, and something does
abbrev pub begins_plainly : List ℕ → Bool
begins_plainly [] = false
begins_plainly (c ∷ cs) = begins_with_none (60 ∷ 61 ∷ 62 ∷ []) (c ∷ cs)

pub record Leaf (ends : List ℕ → Bool) (k : Token) (bytes : List ℕ) : Type 0 where
  pub characters : List ℕ
  pub spells : Spells characters bytes
  pub begins : begins_plainly characters ≡ true
  pub lays : Lays ends characters (Plain k ∷ [])

pub leaf_as : {ends : List ℕ → Bool} {k : Token} {xs ys : List ℕ} → xs ≡ ys → Leaf ends k xs → Leaf ends k ys
leaf_as {ends = ends} {k = k} e p = subst (Leaf ends k) e p

-- no digit stands first
abbrev pub begins_no_number : List ℕ → Bool
begins_no_number [] = true
begins_no_number (c ∷ cs) = not (is_ascii_digit c)

-- Words

equal_begins_no_word : begins_word 61 ≡ false
unfolding unicode_ident
equal_begins_no_word = refl

greater_begins_no_word : begins_word 62 ≡ false
unfolding unicode_ident
greater_begins_no_word = refl

less_begins_no_word : begins_word 60 ≡ false
unfolding unicode_ident
less_begins_no_word = refl

none_of_three : (a b c : Bool) → a ≡ false → b ≡ false → c ≡ false → not (a || (b || (c || false))) ≡ true
none_of_three a b c h g f = rw (h, g, f) refl

pub word_plainly : (c : ℕ) (cs : List ℕ) → begins_word c ≡ true → begins_plainly (c ∷ cs) ≡ true
word_plainly c cs w = none_of_three (c == 60) (c == 61) (c == 62) (differs begins_word c 60 w less_begins_no_word) (differs begins_word c 61 w equal_begins_no_word) (differs begins_word c 62 w greater_begins_no_word)

-- the first character of a word
pub word_begins : (cs : List ℕ) → is_word cs ≡ true → (c : ℕ) × (ds : List ℕ) × (cs ≡ c ∷ ds) × (begins_word c ≡ true)
word_begins [] h = absurd cc
word_begins (c ∷ []) h = (c, [], refl, ap (λ b. b || (c == 95)) h)
word_begins (c ∷ d ∷ ds) h = (c, d ∷ ds, refl, (and_parts (begins_word c) (list_all is_xid_continue (d ∷ ds)) h).0)

pub identifier_word : (cs id : List ℕ) → Made cs (t.Identifier id) → (is_word cs ≡ true) × (encode_utf8_all cs ≡ id)
identifier_word cs id (m.as_fixed g e spelled) = absurd cc
identifier_word cs id (m.as_word w e) = (w, word_is cs id e)
identifier_word cs id (m.as_number e) = no_numeral (number_numeral cs (t.Identifier id) e)
  where
    no_numeral : Numeral (t.Identifier id) → (is_word cs ≡ true) × (encode_utf8_all cs ≡ id)
    no_numeral h = elim h [ ]

pub not_empty : (c : ℕ) (ds cs : List ℕ) → cs ≡ c ∷ ds → cs ≢ []
not_empty c ds cs are e = let x : c ∷ ds ≡ [] = sym are ∙ e in cc

abbrev pub word_leaf : (id : List ℕ) → IsSpelled (t.Identifier id) → Leaf ends_word (t.Identifier id) id
word_leaf id s =
    let (w, spell) = identifier_word s.characters id (made s.characters (t.Identifier id) s.forms) in
    let (c, ds, are, begins) = word_begins s.characters w in record {
      characters = s.characters;
      spells = record { scalars = s.scalars; encodes = spell };
      begins = ap begins_plainly are ∙ word_plainly c ds begins;
      lays = lays_token (not_empty c ds s.characters are) s.forms (λ rest ok. rw are (word_ends c ds rest begins ok));
    }

-- it begins with no digit
pub word_starts : (id : List ℕ) (s : IsSpelled (t.Identifier id)) (rest : List ℕ) → begins_no_number ((word_leaf id s).characters ++ rest) ≡ true
word_starts id s rest =
    let w = (identifier_word s.characters id (made s.characters (t.Identifier id) s.forms)).0 in
    let (c, ds, are, begins) = word_begins s.characters w in
    ap (λ x. begins_no_number (x ++ rest)) are ∙ ap not (word_no_digit c begins)

-- a reserved word
reserved_is : (cs id : List ℕ) → t.Reserved id ≡ word_token cs → encode_utf8_all cs ≡ id
reserved_is cs id e = go (begins_with_two_underscores cs) (is_reserved cs) e
  where
    go : (b c : Bool) → t.Reserved id ≡ (if b then t.Invalid else (if c then t.Reserved (encode_utf8_all cs) else t.Identifier (encode_utf8_all cs))) → encode_utf8_all cs ≡ id
    go true c h = absurd cc
    go false true h = cc
    go false false h = absurd cc

reserved_word : (cs id : List ℕ) → Made cs (t.Reserved id) → (is_word cs ≡ true) × (encode_utf8_all cs ≡ id)
reserved_word cs id (m.as_fixed g e spelled) = absurd cc
reserved_word cs id (m.as_word w e) = (w, reserved_is cs id e)
reserved_word cs id (m.as_number e) = no_numeral (number_numeral cs (t.Reserved id) e)
  where
    no_numeral : Numeral (t.Reserved id) → (is_word cs ≡ true) × (encode_utf8_all cs ≡ id)
    no_numeral h = elim h [ ]

pub reserved_leaf : (id : List ℕ) → IsSpelled (t.Reserved id) → Leaf ends_word (t.Reserved id) id
reserved_leaf id s =
    let (w, spell) = reserved_word s.characters id (made s.characters (t.Reserved id) s.forms) in
    let (c, ds, are, begins) = word_begins s.characters w in record {
      characters = s.characters;
      spells = record { scalars = s.scalars; encodes = spell };
      begins = ap begins_plainly are ∙ word_plainly c ds begins;
      lays = lays_token (not_empty c ds s.characters are) s.forms (λ rest ok. rw are (word_ends c ds rest begins ok));
    }

-- a keyword
pub keyword_leaf : (g : Fixed) (c : ℕ) (cs : List ℕ) → spelling g ≡ c ∷ cs → is_trivia (c ∷ cs) ≡ false → begins_word c ≡ true → list_all (λ d. nat_lt d 128) (c ∷ cs) ≡ true → Leaf ends_word (t.Fixed g) (c ∷ cs)
keyword_leaf g c cs is plain begins ascii =
    let P : List ℕ → Type 0 = λ xs. is_trivia xs ≡ false → form xs ≡ Some (token (t.Fixed g)) in
    let forms : form (c ∷ cs) ≡ Some (token (t.Fixed g)) = subst P is (λ h. fixed_form (spelling g) g h (fixed_of-spelling g)) plain in record {
      characters = c ∷ cs;
      spells = spells_ascii (c ∷ cs) ascii;
      begins = word_plainly c cs begins;
      lays = lays_token (λ e. cc) forms (λ rest ok. word_ends c cs rest begins ok);
    }

pub true_leaf : Leaf ends_word (t.Fixed f.True) (codes "true")
unfolding unicode_ident
true_leaf = keyword_leaf f.True 116 (codes "rue") refl refl refl refl

pub false_leaf : Leaf ends_word (t.Fixed f.False) (codes "false")
unfolding unicode_ident
false_leaf = keyword_leaf f.False 102 (codes "alse") refl refl refl refl

pub package_leaf : Leaf ends_word (t.Fixed f.Package) (codes "package")
unfolding unicode_ident
package_leaf = keyword_leaf f.Package 112 (codes "ackage") refl refl refl refl

pub super_leaf : Leaf ends_word (t.Fixed f.Super) (codes "super")
unfolding unicode_ident
super_leaf = keyword_leaf f.Super 115 (codes "uper") refl refl refl refl

-- Numbers

abbrev is_numeral : Token → Bool
is_numeral (t.AbstractInt n) = true
is_numeral (t.I32 n) = true
is_numeral (t.U32 n) = true
is_numeral (t.AbstractFloat x) = true
is_numeral (t.F32 x) = true
is_numeral (t.F16 x) = true
is_numeral _ = false

word_no_numeral : (cs : List ℕ) → is_numeral (word_token cs) ≡ false
word_no_numeral cs = go (begins_with_two_underscores cs) (is_reserved cs)
  where
    go : (b c : Bool) → is_numeral (if b then t.Invalid else (if c then t.Reserved (encode_utf8_all cs) else t.Identifier (encode_utf8_all cs))) ≡ false
    go true c = refl
    go false true = refl
    go false false = refl

numeral_number : (cs : List ℕ) (k : Token) → is_numeral k ≡ true → Made cs k → number_token cs ≡ Some k
numeral_number cs k n (m.as_fixed g e spelled) = let wrong : true ≡ false = sym n ∙ ap is_numeral e in absurd cc
numeral_number cs k n (m.as_word w e) = let wrong : true ≡ false = sym n ∙ ap is_numeral e ∙ word_no_numeral cs in absurd cc
numeral_number cs k n (m.as_number e) = e

digit_plainly : (c : ℕ) (cs : List ℕ) → opens_number c cs ≡ true → begins_plainly (c ∷ cs) ≡ true
digit_plainly c cs o = none_of_three (c == 60) (c == 61) (c == 62) (off 60 refl) (off 61 refl) (off 62 refl)
  where
    off : (d : ℕ) → opens_number d cs ≡ false → (c == d) ≡ false
    off d h = differs (λ x. opens_number x cs) c d o h

opens_of : (c : ℕ) (cs : List ℕ) (k : Token) → number_token (c ∷ cs) ≡ Some k → opens_number c cs ≡ true
opens_of c cs k e = go (opens_number c cs) refl
  where
    go : (b : Bool) → opens_number c cs ≡ b → opens_number c cs ≡ true
    go true h = h
    go false h = let wrong : None ≡ Some k = sym (no_number c cs h) ∙ e in absurd cc

no_empty_form : form [] ≡ None
unfolding form token_form fixed_of is_float
no_empty_form = refl

pub number_leaf : (cs : List ℕ) (k : Token) (bytes : List ℕ) → is_numeral k ≡ true → form cs ≡ Some (token k) → Spells cs bytes → Leaf ends_number k bytes
number_leaf [] k bytes n e s = let wrong = sym no_empty_form ∙ e in absurd cc
number_leaf (c ∷ cs) k bytes n e s =
    let is = numeral_number (c ∷ cs) k n (made (c ∷ cs) k e) in record {
      characters = c ∷ cs;
      spells = s;
      begins = digit_plainly c cs (opens_of c cs k is);
      lays = lays_token (λ x. cc) e (λ rest ok. number_ends c cs rest k is ok);
    }

-- a float, by the characters that it was
float_leaf : (k : Token) (x : List ℕ) → is_numeral k ≡ true → float_text k ≡ Some x → IsSpelled k → Leaf ends_number k x
float_leaf k x n is s =
    let number = numeral_number s.characters k n (made s.characters k s.forms) in
    number_leaf s.characters k x n s.forms (record { scalars = s.scalars; encodes = float_spelled s.characters k x number is })

abbrev ends_literal : LiteralExpression → List ℕ → Bool
ends_literal x rest = if is_number x then ends_number rest else ends_word rest

-- whole numbers that are tokens, in decimal
numeral_of : (k : Token) → is_numeral k ≡ true → IsSpelled k → Numeral k
numeral_of k n s = number_numeral s.characters k (numeral_number s.characters k n (made s.characters k s.forms))

abstract_leaf : (k : Token) → Numeral k → (z : ℤ) → k ≡ t.AbstractInt z → Leaf ends_number (t.AbstractInt z) (literal_text (l.AbstractInt z))
abstract_leaf _ (m.abstract n h) z e =
    let same : pos n ≡ z = cc in
    let P : ℤ → Type 0 = λ x. Leaf ends_number (t.AbstractInt x) (literal_text (l.AbstractInt x)) in
    subst P same (number_leaf (decimal n) (t.AbstractInt (pos n)) (decimal n) refl (abstract_form n h) (spells_ascii (decimal n) (digits_are_ascii (decimal_is n (omega arith)))))
abstract_leaf _ (m.signed n h) z e = absurd cc
abstract_leaf _ (m.unsigned n h) z e = absurd cc
abstract_leaf _ (m.float x) z e = absurd cc
abstract_leaf _ (m.single x) z e = absurd cc
abstract_leaf _ (m.half x) z e = absurd cc
abstract_leaf _ m.past z e = absurd cc

signed_leaf : (k : Token) → Numeral k → (z : ℤ) → k ≡ t.I32 z → Leaf ends_number (t.I32 z) (literal_text (l.I32 z))
signed_leaf _ (m.signed n h) z e =
    let same : pos n ≡ z = cc in
    let P : ℤ → Type 0 = λ x. Leaf ends_number (t.I32 x) (literal_text (l.I32 x)) in
    subst P same (number_leaf (decimal n ++ codes "i") (t.I32 (pos n)) (decimal n ++ codes "i") refl (signed_form n h) (spells_then (spells_ascii (decimal n) (digits_are_ascii (decimal_is n (omega arith)))) (spells_ascii (codes "i") refl)))
signed_leaf _ (m.abstract n h) z e = absurd cc
signed_leaf _ (m.unsigned n h) z e = absurd cc
signed_leaf _ (m.float x) z e = absurd cc
signed_leaf _ (m.single x) z e = absurd cc
signed_leaf _ (m.half x) z e = absurd cc
signed_leaf _ m.past z e = absurd cc

unsigned_leaf : (k : Token) → Numeral k → (z : ℕ) → k ≡ t.U32 z → Leaf ends_number (t.U32 z) (literal_text (l.U32 z))
unsigned_leaf _ (m.unsigned n h) z e =
    let same : n ≡ z = cc in
    let P : ℕ → Type 0 = λ x. Leaf ends_number (t.U32 x) (literal_text (l.U32 x)) in
    subst P same (number_leaf (decimal n ++ codes "u") (t.U32 n) (decimal n ++ codes "u") refl (unsigned_form n h) (spells_then (spells_ascii (decimal n) (digits_are_ascii (decimal_is n (omega arith)))) (spells_ascii (codes "u") refl)))
unsigned_leaf _ (m.abstract n h) z e = absurd cc
unsigned_leaf _ (m.signed n h) z e = absurd cc
unsigned_leaf _ (m.float x) z e = absurd cc
unsigned_leaf _ (m.single x) z e = absurd cc
unsigned_leaf _ (m.half x) z e = absurd cc
unsigned_leaf _ m.past z e = absurd cc

pub literal_leaf : (x : LiteralExpression) → IsSpelled (literal_token x) → Leaf (ends_literal x) (literal_token x) (literal_text x)
literal_leaf (l.Bool true) s = true_leaf
literal_leaf (l.Bool false) s = false_leaf
literal_leaf (l.AbstractFloat x) s = float_leaf (t.AbstractFloat x) x refl refl s
literal_leaf (l.F32 x) s = float_leaf (t.F32 x) (x ++ 102 ∷ []) refl refl s
literal_leaf (l.F16 x) s = float_leaf (t.F16 x) (x ++ 104 ∷ []) refl refl s
literal_leaf (l.AbstractInt z) s = abstract_leaf (t.AbstractInt z) (numeral_of (t.AbstractInt z) refl s) z refl
literal_leaf (l.I32 z) s = signed_leaf (t.I32 z) (numeral_of (t.I32 z) refl s) z refl
literal_leaf (l.U32 n) s = unsigned_leaf (t.U32 n) (numeral_of (t.U32 n) refl s) n refl

-- `.`, behind which no digit stands

not_false : (b : Bool) → not b ≡ true → b ≡ false
not_false true h = absurd cc
not_false false h = refl

abbrev alone_first : List ℕ → Bool
alone_first [] = true
alone_first (x ∷ []) = true
alone_first (x ∷ y ∷ xs) = not (x == 46)

pub lays_period : Lays begins_no_number (codes ".") (mark f.Period ∷ [])
unfolding unicode_ident
lays_period = lays_token (λ e. cc) (fixed_form (codes ".") f.Period refl (fixed_of-spelling f.Period)) (λ rest ok. no_longer begins_no_number (codes ".") rest ok (λ d more behind h.
    no_form 46 (d ∷ more) (no_trivia 46 d more refl) (no_fixed alone_first refl (46 ∷ d ∷ more) refl) (no_word 46 (d ∷ more) refl) (not_false (is_ascii_digit d) h)))

-- `>`, which ends a template list, whatever stands behind it

greater_first : (rest : List ℕ) → (n : ℕ) × (k : Token) × IsFirst (62 ∷ rest) n (Some k)
unfolding unicode_ident
greater_first rest = by_three (spelled_by_three 62 rest) refl
  where
    plain : BeginsNothingElse 62 rest
    plain = record { blank = refl; comment = refl; word = refl; number = refl }

    by_two : spelled_by_three 62 rest ≡ None → (o : Option Fixed) → spelled_by_two 62 rest ≡ o → (n : ℕ) × (k : Token) × IsFirst (62 ∷ rest) n (Some k)
    by_two none (Some g) h = (2, t.Fixed g, record { some = λ e. cc; stands = two_first 62 rest plain g none h })
    by_two none None h = (1, t.Fixed f.GreaterThan, record { some = λ e. cc; stands = one_first 62 rest plain f.GreaterThan none h (fixed_of-spelling f.GreaterThan) })

    by_three : (o : Option Fixed) → spelled_by_three 62 rest ≡ o → (n : ℕ) × (k : Token) × IsFirst (62 ∷ rest) n (Some k)
    by_three (Some g) h = (3, t.Fixed g, record { some = λ e. cc; stands = three_first 62 rest plain g h })
    by_three None h = by_two h (spelled_by_two 62 rest) refl

pub lays_list_end : Lays (begins_with_none []) (codes ">") (TemplateArgsEnd ∷ [])
lays_list_end = record { lays = λ rest us ok l. let (n, k, h) = greater_first rest in a_piece 1 TemplateArgsEnd (list_end h refl) l }
