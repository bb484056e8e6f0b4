-- Imports of texts name modules by paths that are told apart by how they are printed.
use Rattle.std.proofs.Common.{◌≡◌, refl, sym, ap, ◌∙◌, subst, ℕ, ◌==◌, Bool, true, false, ◌||◌, List, [], ◌∷◌, ◌++◌, arith, codes, Option, Some, inl, inr, Ok}
use Rattle.std.specs.Prelude.{◌≢◌, get_or}
use Rattle.std.specs.List.{list_all, AllByRecursion, Contains}
use Rattle.std.specs.Str.{encode_utf8_all, NonePass}
use Rattle.std.proofs.lemmas.Bool.{and_parts}
use Rattle.std.proofs.lemmas.List.Elements.{All-contains, All-from_get_or, All-from_recursion}
use Rattle.std.proofs.lemmas.Str.{encodes_same, NoCharPasses-byte}
use Rattle.unicode_ident.specs.Ident.{is_xid_continue}
use Rattle.unicode_ident.proofs.Computing.{unicode_ident}
use Rattle.wgsl_path.specs.declared.path.PathOrigin.{PathOrigin}
use Rattle.wgsl_path.specs.declared.path.PathOrigin.TheVariants.{Absolute, Relative, Package}
use Rattle.wgsl_path.specs.declared.path.ModulePath.{ModulePath}
use Rattle.wgsl_path.specs.Laws.{HasNoColon, IsPlainName, IsPlainOrigin, IsPlainPath}
use Rattle.wgsl_path.proofs.Printed.{once}
use Rattle.wgsl_token.specs.declared.token.Token.{Token}
use Rattle.wgsl_token.specs.declared.token.Token.TheVariants as t
use Rattle.wgsl_token.specs.declared.token.Fixed.TheVariants as f
use Rattle.wgsl_lex.specs.Tokens.{is_word, is_reserved, fixed_of, form, token}
use Rattle.wgsl_lex.proofs.Bools.{differs, not_both}
use Rattle.wgsl_lex.proofs.Forms.{fixed_form, word_form}
use Rattle.wgsl_lex.proofs.Tables.{begins_word, fixed_of-spelling}
use Rattle.wgsl_print_laws.proofs.Forms.{made}
use Rattle.wgsl_print_laws.proofs.Spells.{spells_ascii}
use Rattle.wgsl_templates.specs.declared.meaning.token.TemplateToken.{TemplateToken}
use Rattle.wgsl_templates.specs.Tokens.{start}
use Rattle.wgsl_declarations.specs.ImportsTree.{Importing}
use Rattle.wgsl_declarations.specs.declared.unit.TranslationUnit.{TranslationUnit}
use Rattle.wgsl_declarations.specs.Tree.{UnitTree}
use Rattle.wgsl_declarations.specs.View.{unit_tree}
use Rattle.wgsl_print_laws.specs.Tokens.{mark, origin_tokens, components_tokens, path_tokens, qualifier_tokens}
use Rattle.wgsl_print_laws.specs.Imports.{content_tokens, import_rest, ImportTokens, an_import}
use Rattle.wgsl_print_laws.specs.Printable.{IsSpelled, AreSpelled}
use Rattle.wgsl_print_laws.proofs.Expressions.{are_front, are_behind}
use Rattle.wgsl_print_laws.proofs.Leaves.{identifier_word}
use Rattle.wgsl_print_laws.proofs.Spelled.{read_spelled}
use Rattle.wgsl_print_laws.specs.Declarations.{RowTokens, row_end, row_and, UnitTokens, a_unit}
use Rattle.wgsl_semantic_values.specs.declared.part.Part.TheVariants as part
use Rattle.wgsl_grammar_tables.specs.Nonterminals as n
use Rattle.wgsl_grammar_tables.specs.Expansion.{plain}
use Rattle.wgsl_parser.specs.Start.TheVariants.{Module}
use Rattle.wgsl_parser.specs.Texts.{IsParsed, ParsesModule}
use Rattle.wgsl_read_back.specs.Laws.{ImportsOfTextsAreApart}
use Rattle.wgsl_read_back.proofs.Modules.{ModuleRead, of_nothing, of_some, unit}
use Rattle.wgsl_read_back.proofs.Returned.{parsed_good}
use Rattle.wgsl_read_back.proofs.ModuleLaws.{goal_is_module, unit_is}

-- ---- names

abbrev is_colon : ℕ → Bool
is_colon c = c == 58

colon_begins_no_word : begins_word 58 ≡ false
unfolding unicode_ident
colon_begins_no_word = refl

colon_continues_no_word : is_xid_continue 58 ≡ false
unfolding unicode_ident
colon_continues_no_word = refl

continued_plain : (cs : List ℕ) → list_all is_xid_continue cs ≡ true → NonePass is_colon cs
continued_plain [] h = tt
continued_plain (c ∷ cs) h =
    let (one, others) = and_parts (is_xid_continue c) (list_all is_xid_continue cs) h in (differs is_xid_continue c 58 one colon_continues_no_word, continued_plain cs others)

word_plain : (cs : List ℕ) → is_word cs ≡ true → NonePass is_colon cs
word_plain [] h = absurd cc
word_plain (c ∷ []) h = (differs begins_word c 58 (ap (λ b. b || (c == 95)) h) colon_begins_no_word, tt)
word_plain (c ∷ d ∷ cs) h =
    let (one, others) = and_parts (begins_word c) (list_all is_xid_continue (d ∷ cs)) h in (differs begins_word c 58 one colon_begins_no_word, continued_plain (d ∷ cs) others)

no_colon : (name cs : List ℕ) → is_word cs ≡ true → encode_utf8_all cs ≡ name → HasNoColon name
no_colon name cs w e =
    All-from_get_or (λ c. c ≢ 58) name 0
    (λ i within same. not_both (get_or name i 0 == 58) (ap is_colon same) (NoCharPasses-byte is_colon name i (cs, e, word_plain cs w) within (omega (arith, same))))

of_token : {x y : Token} → Some (token x) ≡ Some (token y) → x ≡ y
of_token e = cc

-- what another token is spelled as, is no identifier
no_identifier : (word : List ℕ) (k : Token) → encode_utf8_all word ≡ word → form word ≡ Some (token k) → (name : List ℕ) → (t.Identifier name ≡ k → ⊥) → IsSpelled (t.Identifier name) → name ≢ word
no_identifier word k ascii forms name other s e =
    let spell = (identifier_word s.characters name (made s.characters (t.Identifier name) s.forms)).1 in
    let same : s.characters ≡ word = encodes_same s.characters word (spell ∙ e ∙ sym ascii) in
    other (of_token (sym s.forms ∙ ap form same ∙ forms))

package_forms : form (codes "package") ≡ Some (token (t.Fixed f.Package))
package_forms = fixed_form (codes "package") f.Package refl (fixed_of-spelling f.Package)

super_forms : form (codes "super") ≡ Some (token (t.Fixed f.Super))
super_forms = fixed_form (codes "super") f.Super refl (fixed_of-spelling f.Super)

-- a reserved word
self_forms : form (codes "self") ≡ Some (token (t.Reserved (encode_utf8_all (codes "self"))))
unfolding unicode_ident fixed_of is_reserved
self_forms = word_form (codes "self") refl refl refl

not_empty : (name : List ℕ) → IsSpelled (t.Identifier name) → name ≢ codes ""
not_empty name s e =
    let (w, spell) = identifier_word s.characters name (made s.characters (t.Identifier name) s.forms) in
    let same : s.characters ≡ [] = encodes_same s.characters [] (spell ∙ e) in
    let wrong : is_word [] ≡ true = sym (ap is_word same) ∙ w in absurd cc

-- An identifier in a text is no word of an origin, and has no `:`.
plain_name : (name : List ℕ) → IsSpelled (t.Identifier name) → IsPlainName name
plain_name name s =
    let (w, spell) = identifier_word s.characters name (made s.characters (t.Identifier name) s.forms) in (
      no_colon name s.characters w spell,
      not_empty name s,
      no_identifier (codes "package") (t.Fixed f.Package) (spells_ascii (codes "package") refl).encodes package_forms name (λ e. cc) s,
      no_identifier (codes "self") (t.Reserved (encode_utf8_all (codes "self"))) (spells_ascii (codes "self") refl).encodes self_forms name (λ e. cc) s,
      no_identifier (codes "super") (t.Fixed f.Super) (spells_ascii (codes "super") refl).encodes super_forms name (λ e. cc) s,
    )

-- ---- paths

origin_plain : (o : PathOrigin) → AreSpelled (origin_tokens o) → IsPlainOrigin o
origin_plain Absolute s = tt
origin_plain (Relative n) s = tt
origin_plain (Package name) s = plain_name name s.0

components_plain : (names : List (List ℕ)) → AreSpelled (components_tokens names) → AllByRecursion IsPlainName names
components_plain [] s = tt
components_plain (name ∷ names) s = (plain_name name s.1.0, components_plain names s.1.1)

path_plain : (p : ModulePath) → AreSpelled (path_tokens p) → IsPlainPath p
path_plain p s = (
  origin_plain p.origin (are_front (origin_tokens p.origin) (components_tokens p.components) s),
  All-from_recursion IsPlainName p.components (components_plain p.components (are_behind (origin_tokens p.origin) (components_tokens p.components) s)),
)

-- ---- imports

-- Whatever path the import has is of such names.
abbrev NamesPlainly : Importing → Type 0
NamesPlainly i = (a : ModulePath) → i.path ≡ Some a → IsPlainPath a

import_plain : (i : Importing) (ts : List TemplateToken) → ImportTokens i ts → AreSpelled ts → NamesPlainly i
import_plain i _ (an_import {ts = ts} h) s a e =
    let rest = are_behind ts (import_rest i) s in
    let before = are_front (qualifier_tokens i.path) (content_tokens i.content ++ (mark f.Semicolon ∷ [])) rest.1 in
    path_plain a (are_front (path_tokens a) (mark f.PathSeparator ∷ []) (subst (λ (o : Option ModulePath). AreSpelled (qualifier_tokens o)) e before))

imports_plain : (is : List Importing) (ts : List TemplateToken) → RowTokens ImportTokens is ts → AreSpelled ts → AllByRecursion NamesPlainly is
imports_plain _ _ row_end s = tt
imports_plain _ _ (row_and {x = i} {xs = is} {ts = ts} {us = us} h row) s = (import_plain i ts h (are_front ts us s), imports_plain is us row (are_behind ts us s))

abbrev ImportsPlain : UnitTree → Type 0
ImportsPlain u = AllByRecursion NamesPlainly u.imports

unit_plain : (u : UnitTree) (ts : List TemplateToken) → UnitTokens u ts → AreSpelled ts → ImportsPlain u
unit_plain u _ (a_unit {ts = ts} {us = us} {vs = vs} h k j) s = imports_plain u.imports ts h (are_front ts (us ++ vs) s)

-- ---- texts

parsed_plain : (text : List ℕ) (x : TranslationUnit) (p : IsParsed Module text (part.Module x)) → ModuleRead (plain n.Module) p.tokens p.part.phrase → ImportsPlain (unit_tree x)
parsed_plain text x p (of_nothing h again) = subst ImportsPlain (unit_is text x p (unit [] [] []) [] h) tt
parsed_plain text x p (of_some u ts k b) =
    let spelled = b.spelled (read_spelled start p.lexed.characters p.tokens p.lexed.lexes.0 [] p.lexed.lexes.1 p.lexed.are_scalars) in
    subst ImportsPlain (unit_is text x p u ts b.stands) (unit_plain u ts k spelled)

module_plain : (text : List ℕ) (x : TranslationUnit) → ParsesModule text (Ok x) → ImportsPlain (unit_tree x)
module_plain text x (inl p) = parsed_plain text x p (parsed_good Module refl (plain n.Module) goal_is_module text (part.Module x) p)
module_plain text x (inr empty) = subst ImportsPlain (ap unit_tree (sym empty.1)) tt

named_plain : (text : List ℕ) (x : TranslationUnit) → ParsesModule text (Ok x) → (i : Importing) → Contains (unit_tree x).imports i → NamesPlainly i
named_plain text x h i c = All-contains NamesPlainly (unit_tree x).imports i (All-from_recursion NamesPlainly (unit_tree x).imports (module_plain text x h)) c

pub imports_of_texts_are_apart : ImportsOfTextsAreApart
imports_of_texts_are_apart one other x y h g i j a b c d e k same = once a b (named_plain one x h i c a e) (named_plain other y g j d b k) same
