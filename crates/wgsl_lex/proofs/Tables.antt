-- What the table of the tokens of one spelling says.
use Rattle.std.proofs.Common.{◌≡◌, ℕ, Bool, true, false, cond, not, ◌&&◌, ◌||◌, ◌==◌, List, [], ◌∷◌, refl, sym, ◌∙◌, ap}
use Rattle.std.specs.Prelude.{Some, None, find}
use Rattle.std.specs.List.{list_all}
use Rattle.std.specs.Char.{is_ascii_digit}
use Rattle.std.specs.Str.{bytes_eq}
use Rattle.std.proofs.lemmas.Slice.Eq.{bytes_eq-Decides}
use Rattle.unicode_ident.specs.Ident.{is_xid_start, is_xid_continue}
use Rattle.unicode_ident.proofs.Computing.{unicode_ident}
use Rattle.wgsl_token.specs.declared.token.Fixed.{Fixed}
use Rattle.wgsl_token.specs.declared.token.Fixed.TheVariants as f
use Rattle.wgsl_token.specs.Spelling.{spelling}
use Rattle.wgsl_lex.specs.Tokens.{all_fixed, fixed_of}

-- what a search finds passes its test, and whatever each element passes
pub find_found : {X : Type 0} (p : X → Bool) (xs : List X) (x : X) → find p xs ≡ Some x → p x ≡ true
find_found p [] x e = cc
find_found p (y ∷ ys) x e =
    elim (p y) as (λ b. p y ≡ b → cond b (Some y) (find p ys) ≡ Some x → p x ≡ true) [ true ↦ λ passes found. cc | false ↦ λ _ found. find_found p ys x found ] refl e

pub find_all : {X : Type 0} (p q : X → Bool) (xs : List X) (x : X) → list_all q xs ≡ true → find p xs ≡ Some x → q x ≡ true
find_all p q [] x all e = cc
find_all p q (y ∷ ys) x all e =
    elim (q y) as (λ b. q y ≡ b → (b && list_all q ys) ≡ true → q x ≡ true) [
      | true ↦ λ here there. elim (p y) as (λ b. cond b (Some y) (find p ys) ≡ Some x → q x ≡ true) [ true ↦ λ found. cc | false ↦ λ found. find_all p q ys x there found ] e
      | false ↦ λ _ none. cc
    ] refl all

pub spelled_as : (cs : List ℕ) (fixed : Fixed) → fixed_of cs ≡ Some fixed → spelling fixed ≡ cs
unfolding fixed_of
spelled_as cs fixed e = (bytes_eq-Decides (spelling fixed) cs).0 (find_found (λ g. bytes_eq (spelling g) cs) all_fixed fixed e)

-- what each spelling passes, a spelling passes
pub fixed_passes : (p : List ℕ → Bool) → list_all (λ g. p (spelling g)) all_fixed ≡ true → (cs : List ℕ) (fixed : Fixed) → fixed_of cs ≡ Some fixed → p cs ≡ true
unfolding fixed_of
fixed_passes p all cs fixed e =
    ap p (sym (spelled_as cs fixed e)) ∙ find_all (λ g. bytes_eq (spelling g) cs) (λ g. p (spelling g)) all_fixed fixed all e

pub no_fixed : (p : List ℕ → Bool) → list_all (λ g. p (spelling g)) all_fixed ≡ true → (cs : List ℕ) → p cs ≡ false → fixed_of cs ≡ None
no_fixed p all cs fails =
    elim (fixed_of cs) as (λ o. fixed_of cs ≡ o → fixed_of cs ≡ None) [
      | None ↦ λ none. none
      | Some fixed ↦ λ some. let passes : p cs ≡ true = fixed_passes p all cs fixed some in cc
    ] refl

pub fixed_of-spelling : (fixed : Fixed) → fixed_of (spelling fixed) ≡ Some fixed
unfolding fixed_of
fixed_of-spelling f.Alias = refl
fixed_of-spelling f.Break = refl
fixed_of-spelling f.Case = refl
fixed_of-spelling f.Const = refl
fixed_of-spelling f.ConstAssert = refl
fixed_of-spelling f.Continue = refl
fixed_of-spelling f.Continuing = refl
fixed_of-spelling f.Default = refl
fixed_of-spelling f.Diagnostic = refl
fixed_of-spelling f.Discard = refl
fixed_of-spelling f.Else = refl
fixed_of-spelling f.Enable = refl
fixed_of-spelling f.False = refl
fixed_of-spelling f.Fn = refl
fixed_of-spelling f.For = refl
fixed_of-spelling f.If = refl
fixed_of-spelling f.Let = refl
fixed_of-spelling f.Loop = refl
fixed_of-spelling f.Override = refl
fixed_of-spelling f.Requires = refl
fixed_of-spelling f.Return = refl
fixed_of-spelling f.Struct = refl
fixed_of-spelling f.Switch = refl
fixed_of-spelling f.True = refl
fixed_of-spelling f.Var = refl
fixed_of-spelling f.While = refl
fixed_of-spelling f.And = refl
fixed_of-spelling f.AndAnd = refl
fixed_of-spelling f.Arrow = refl
fixed_of-spelling f.Attr = refl
fixed_of-spelling f.ForwardSlash = refl
fixed_of-spelling f.Bang = refl
fixed_of-spelling f.BracketLeft = refl
fixed_of-spelling f.BracketRight = refl
fixed_of-spelling f.BraceLeft = refl
fixed_of-spelling f.BraceRight = refl
fixed_of-spelling f.Colon = refl
fixed_of-spelling f.PathSeparator = refl
fixed_of-spelling f.Comma = refl
fixed_of-spelling f.Equal = refl
fixed_of-spelling f.EqualEqual = refl
fixed_of-spelling f.NotEqual = refl
fixed_of-spelling f.GreaterThan = refl
fixed_of-spelling f.GreaterThanEqual = refl
fixed_of-spelling f.ShiftRight = refl
fixed_of-spelling f.LessThan = refl
fixed_of-spelling f.LessThanEqual = refl
fixed_of-spelling f.ShiftLeft = refl
fixed_of-spelling f.Modulo = refl
fixed_of-spelling f.Minus = refl
fixed_of-spelling f.MinusMinus = refl
fixed_of-spelling f.Period = refl
fixed_of-spelling f.Plus = refl
fixed_of-spelling f.PlusPlus = refl
fixed_of-spelling f.Or = refl
fixed_of-spelling f.OrOr = refl
fixed_of-spelling f.ParenLeft = refl
fixed_of-spelling f.ParenRight = refl
fixed_of-spelling f.Semicolon = refl
fixed_of-spelling f.Star = refl
fixed_of-spelling f.Tilde = refl
fixed_of-spelling f.Underscore = refl
fixed_of-spelling f.Xor = refl
fixed_of-spelling f.PlusEqual = refl
fixed_of-spelling f.MinusEqual = refl
fixed_of-spelling f.TimesEqual = refl
fixed_of-spelling f.DivisionEqual = refl
fixed_of-spelling f.ModuloEqual = refl
fixed_of-spelling f.AndEqual = refl
fixed_of-spelling f.OrEqual = refl
fixed_of-spelling f.XorEqual = refl
fixed_of-spelling f.ShiftRightAssign = refl
fixed_of-spelling f.ShiftLeftAssign = refl
fixed_of-spelling f.Import = refl
fixed_of-spelling f.Package = refl
fixed_of-spelling f.Super = refl
fixed_of-spelling f.As = refl

-- may begin a word
abbrev pub begins_word : ℕ → Bool
begins_word c = is_xid_start c || (c == 95)

-- a spelling that begins as a word is of such characters throughout
abbrev pub stays_word : List ℕ → Bool
stays_word [] = true
stays_word (c ∷ cs) = not (begins_word c) || list_all is_xid_continue cs

pub spellings_stay_words : list_all (λ g. stays_word (spelling g)) all_fixed ≡ true
unfolding unicode_ident
spellings_stay_words = refl

-- no spelling begins with a digit, blankspace, or as a comment
abbrev pub begins_fixed : List ℕ → Bool
begins_fixed [] = false
begins_fixed (c ∷ cs) = not (is_ascii_digit c)

pub spellings_begin : list_all (λ g. begins_fixed (spelling g)) all_fixed ≡ true
spellings_begin = refl
