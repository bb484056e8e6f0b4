-- The tokens of statements that hold no other statement, as they are printed (WGSL, "Statements"), up to their `;`.
use Rattle.std.specs.Prelude.{◌≡◌, ℕ, Bool, true, false, ◌&&◌, List, [], ◌∷◌, ◌++◌, codes, Option, Some, None}
use Rattle.wgsl_token.specs.declared.token.Fixed.{Fixed}
use Rattle.wgsl_token.specs.declared.token.Fixed.TheVariants as f
use Rattle.wgsl_templates.specs.declared.meaning.token.TemplateToken.{TemplateToken}
use Rattle.wgsl_words.specs.declared.enumerations.words.AssignmentOperator.{AssignmentOperator}
use Rattle.wgsl_words.specs.declared.enumerations.words.AssignmentOperator.TheVariants as a
use Rattle.wgsl_expressions.specs.Tree.{Exp, call, Exps, Typ}
use Rattle.wgsl_expressions.specs.AttributesTree.{Attr}
use Rattle.wgsl_simple_statements.specs.declared.declaration.DeclarationKind.{DeclarationKind}
use Rattle.wgsl_simple_statements.specs.Tree.{Simple, assignment, increment, decrement, breaking, continuing, returning, discarding, calling, asserting, declaring, Selector, default_selector, selected}
use Rattle.wgsl_print_laws.specs.Tokens.{mark, word, exp_tokens, typ_tokens}
use Rattle.wgsl_print_laws.specs.Printable.{ends_in_number, is_apart, type_is_apart}
use Rattle.wgsl_print_laws.specs.Attributes.{name_exp}
use Rattle.wgsl_print_laws.specs.DeclarationKinds.{kind_tokens}

abbrev pub assignment_sign : AssignmentOperator → Fixed
assignment_sign a.Equal = f.Equal
assignment_sign a.PlusEqual = f.PlusEqual
assignment_sign a.MinusEqual = f.MinusEqual
assignment_sign a.TimesEqual = f.TimesEqual
assignment_sign a.DivisionEqual = f.DivisionEqual
assignment_sign a.ModuloEqual = f.ModuloEqual
assignment_sign a.AndEqual = f.AndEqual
assignment_sign a.OrEqual = f.OrEqual
assignment_sign a.XorEqual = f.XorEqual
assignment_sign a.ShiftRightAssign = f.ShiftRightAssign
assignment_sign a.ShiftLeftAssign = f.ShiftLeftAssign

-- ---- declared values

-- `:` and a type, where there is one
abbrev pub annotation_tokens : Option Typ → List TemplateToken
annotation_tokens None = []
annotation_tokens (Some t) = mark f.Colon ∷ typ_tokens t

-- `=` and a value, where there is one
abbrev pub initializer_tokens : Option Exp → List TemplateToken
initializer_tokens None = []
initializer_tokens (Some x) = mark f.Equal ∷ exp_tokens x

abbrev pub declared_tokens : DeclarationKind → List ℕ → Option Typ → Option Exp → List TemplateToken
declared_tokens kind name type value = kind_tokens kind ++ (word name ∷ (annotation_tokens type ++ initializer_tokens value))

abbrev pub annotation_is_apart : Option Typ → Bool
annotation_is_apart None = true
annotation_is_apart (Some t) = type_is_apart t

abbrev pub value_is_apart : Option Exp → Bool
value_is_apart None = true
value_is_apart (Some x) = is_apart x

-- what `const_assert` asserts
abbrev pub asserted_tokens : Exp → List TemplateToken
asserted_tokens x = mark f.ConstAssert ∷ exp_tokens x

-- ---- statements

-- what is returned, where there is something
abbrev pub value_tokens : Option Exp → List TemplateToken
value_tokens None = []
value_tokens (Some x) = exp_tokens x

-- what is assigned to: `_`, or an expression
pub data PlaceTokens : Exp → List TemplateToken → Type 0 where
  phony : PlaceTokens (name_exp (codes "_")) (mark f.Underscore ∷ [])
  place : {x : Exp} → is_apart x ≡ true → PlaceTokens x (exp_tokens x)

-- Of statements without attributes. Before `++` and `--` stands no number, of which the first `+` or `-` could be a part.
pub data SimpleTokens : Simple → List TemplateToken → Type 0 where
  assigned : (o : AssignmentOperator) {x y : Exp} {ts : List TemplateToken} → PlaceTokens x ts → is_apart y ≡ true → SimpleTokens (assignment [] o x y) (ts ++ (mark (assignment_sign o) ∷ exp_tokens y))
  incremented : {x : Exp} → ends_in_number x ≡ false → is_apart x ≡ true → SimpleTokens (increment [] x) (exp_tokens x ++ (mark f.PlusPlus ∷ []))
  decremented : {x : Exp} → ends_in_number x ≡ false → is_apart x ≡ true → SimpleTokens (decrement [] x) (exp_tokens x ++ (mark f.MinusMinus ∷ []))
  breaks : SimpleTokens (breaking []) (mark f.Break ∷ [])
  continues : SimpleTokens (continuing []) (mark f.Continue ∷ [])
  returns : {value : Option Exp} → value_is_apart value ≡ true → SimpleTokens (returning [] value) (mark f.Return ∷ value_tokens value)
  discards : SimpleTokens (discarding []) (mark f.Discard ∷ [])
  called : {t : Typ} {xs : Exps} → is_apart (call t xs) ≡ true → SimpleTokens (calling [] t xs) (exp_tokens (call t xs))
  asserted : {x : Exp} → is_apart x ≡ true → SimpleTokens (asserting [] x) (asserted_tokens x)
  declared : (kind : DeclarationKind) (name : List ℕ) {type : Option Typ} {value : Option Exp} → annotation_is_apart type ≡ true → value_is_apart value ≡ true → SimpleTokens (declaring [] kind name type value) (declared_tokens kind name type value)

-- a statement with these attributes in the place of its own
abbrev pub attributed : List Attr → Simple → Simple
attributed new (assignment attributes o x y) = assignment new o x y
attributed new (increment attributes x) = increment new x
attributed new (decrement attributes x) = decrement new x
attributed new (breaking attributes) = breaking new
attributed new (continuing attributes) = continuing new
attributed new (returning attributes value) = returning new value
attributed new (discarding attributes) = discarding new
attributed new (calling attributes t xs) = calling new t xs
attributed new (asserting attributes x) = asserting new x
attributed new (declaring attributes kind name type value) = declaring new kind name type value

-- ---- selectors of `switch`

abbrev pub selector_tokens : Selector → List TemplateToken
selector_tokens default_selector = mark f.Default ∷ []
selector_tokens (selected x) = exp_tokens x

-- behind the first, and all, with commas between them
abbrev pub more_selectors_tokens : List Selector → List TemplateToken
more_selectors_tokens [] = []
more_selectors_tokens (s ∷ ss) = mark f.Comma ∷ (selector_tokens s ++ more_selectors_tokens ss)

abbrev pub selectors_tokens : List Selector → List TemplateToken
selectors_tokens [] = []
selectors_tokens (s ∷ ss) = selector_tokens s ++ more_selectors_tokens ss

-- what a clause begins with: `default` alone, or `case` and its selectors
abbrev pub case_tokens : List Selector → List TemplateToken
case_tokens (default_selector ∷ []) = mark f.Default ∷ []
case_tokens selectors = mark f.Case ∷ selectors_tokens selectors

abbrev pub selector_is_apart : Selector → Bool
selector_is_apart default_selector = true
selector_is_apart (selected x) = is_apart x

abbrev pub selectors_are_apart : List Selector → Bool
selectors_are_apart [] = true
selectors_are_apart (s ∷ ss) = selector_is_apart s && selectors_are_apart ss
