-- Tokens that differ in marks alone that may be left out: the last comma of a list, and `:`, `;` and `case` where a text may do without.
use Rattle.std.specs.Prelude.{◌≡◌, Bool, true, false, List, [], ◌∷◌}
use Rattle.wgsl_token.specs.declared.token.Token.TheVariants.{Fixed, Identifier, Reserved}
use Rattle.wgsl_token.specs.declared.token.Fixed.TheVariants as f
use Rattle.wgsl_templates.specs.declared.meaning.kind.Kind.{Kind}
use Rattle.wgsl_templates.specs.declared.meaning.kind.Kind.TheVariants as k
use Rattle.wgsl_templates.specs.declared.meaning.token.TemplateToken.{TemplateToken}
use Rattle.wgsl_templates.specs.declared.meaning.token.TemplateToken.TheVariants.{Plain}
use Rattle.wgsl_templates.specs.Kinds.{kind}

-- What a token stands behind: what may be called, another operand's end, what stands in no expression (or nothing), or anything else.
pub data Before : Type 0 where
  outside : Before
  fresh : Before
  callee : Before
  operand : Before

abbrev pub behind_kind : Kind → Before
behind_kind k.Word = callee
behind_kind k.TemplateArgsEnd = callee
behind_kind k.Literal = operand
behind_kind k.ParenRight = operand
behind_kind k.BracketRight = operand
behind_kind k.Other = outside
behind_kind _ = fresh

-- (`var` is a word behind which a list may open)
abbrev pub before : TemplateToken → Before
before (Plain (Fixed f.Var)) = fresh
before t = behind_kind (kind t)

-- `(` stands before arguments: of a call, or of an attribute or a directive, whose word may be a keyword
abbrev pub is_callee : Before → Bool
is_callee callee = true
is_callee outside = true
is_callee _ = false

abbrev pub ends_operand : Before → Bool
ends_operand callee = true
ends_operand operand = true
ends_operand _ = false

abbrev pub is_closer : Kind → Bool
is_closer k.ParenRight = true
is_closer k.TemplateArgsEnd = true
is_closer _ = false

abbrev pub outer : List Bool → List Bool
outer [] = []
outer (x ∷ xs) = xs

-- Of each group that is open, the last one first: may it end in a comma? Arguments and template lists may.
abbrev pub groups : Before → List Bool → Kind → List Bool
groups b opened k.ParenLeft = is_callee b ∷ opened
groups b opened k.BracketLeft = false ∷ opened
groups b opened k.TemplateArgsStart = true ∷ opened
groups b opened k.ParenRight = outer opened
groups b opened k.BracketRight = outer opened
groups b opened k.TemplateArgsEnd = outer opened
groups b opened _ = opened

abbrev pub may_end_so : List Bool → Bool
may_end_so [] = false
may_end_so (x ∷ xs) = x

abbrev pub comma : TemplateToken
comma = Plain (Fixed f.Comma)

-- the marks that may be left out
abbrev pub may_go : TemplateToken → Bool
may_go (Plain (Fixed f.Comma)) = true
may_go (Plain (Fixed f.Colon)) = true
may_go (Plain (Fixed f.Semicolon)) = true
may_go _ = false

-- what may be left out behind what stands in no expression: any `;` or `case` (the grammar leaves out a `;` alone, and `case` before `default` alone)
abbrev pub may_go_outside : TemplateToken → Bool
may_go_outside (Plain (Fixed f.Semicolon)) = true
may_go_outside (Plain (Fixed f.Case)) = true
may_go_outside _ = false

-- A mark stands first that is in no expression: where a list ends without a bracket, and where `:` or `;` may be left out.
abbrev pub begins_outside : List TemplateToken → Bool
begins_outside (Plain (Fixed f.BraceLeft) ∷ ts) = true
begins_outside (Plain (Fixed f.BraceRight) ∷ ts) = true
begins_outside (Plain (Fixed f.Attr) ∷ ts) = true
begins_outside (Plain (Fixed f.Colon) ∷ ts) = true
begins_outside (Plain (Fixed f.Semicolon) ∷ ts) = true
begins_outside _ = false

-- a word, which may stand behind `@`
abbrev pub is_any_word : TemplateToken → Bool
is_any_word (Plain (Identifier name)) = true
is_any_word (Plain (Reserved name)) = true
is_any_word (Plain (Fixed f.Alias)) = true
is_any_word (Plain (Fixed f.Break)) = true
is_any_word (Plain (Fixed f.Case)) = true
is_any_word (Plain (Fixed f.Const)) = true
is_any_word (Plain (Fixed f.ConstAssert)) = true
is_any_word (Plain (Fixed f.Continue)) = true
is_any_word (Plain (Fixed f.Continuing)) = true
is_any_word (Plain (Fixed f.Default)) = true
is_any_word (Plain (Fixed f.Diagnostic)) = true
is_any_word (Plain (Fixed f.Discard)) = true
is_any_word (Plain (Fixed f.Else)) = true
is_any_word (Plain (Fixed f.Enable)) = true
is_any_word (Plain (Fixed f.False)) = true
is_any_word (Plain (Fixed f.Fn)) = true
is_any_word (Plain (Fixed f.For)) = true
is_any_word (Plain (Fixed f.If)) = true
is_any_word (Plain (Fixed f.Let)) = true
is_any_word (Plain (Fixed f.Loop)) = true
is_any_word (Plain (Fixed f.Override)) = true
is_any_word (Plain (Fixed f.Requires)) = true
is_any_word (Plain (Fixed f.Return)) = true
is_any_word (Plain (Fixed f.Struct)) = true
is_any_word (Plain (Fixed f.Switch)) = true
is_any_word (Plain (Fixed f.True)) = true
is_any_word (Plain (Fixed f.Var)) = true
is_any_word (Plain (Fixed f.While)) = true
is_any_word (Plain (Fixed f.Import)) = true
is_any_word (Plain (Fixed f.Package)) = true
is_any_word (Plain (Fixed f.Super)) = true
is_any_word (Plain (Fixed f.As)) = true
is_any_word _ = false

abbrev pub at_sign : TemplateToken
at_sign = Plain (Fixed f.Attr)

-- The same tokens but for marks that may be left out, of either: a comma before what closes arguments or a template list; a mark before
-- what stands in no expression; a `;` or `case` behind what stands in none. The word of an attribute may have arguments, whatever word it is.
pub data AreAlike : Before → List Bool → List TemplateToken → List TemplateToken → Type 0 where
  none : {b : Before} {opened : List Bool} → AreAlike b opened [] []
  same : {b : Before} {opened : List Bool} {ts us : List TemplateToken} (t : TemplateToken) → AreAlike (before t) (groups b opened (kind t)) ts us → AreAlike b opened (t ∷ ts) (t ∷ us)
  first_has : {b : Before} {opened : List Bool} {ts us : List TemplateToken} (t : TemplateToken) → ends_operand b ≡ true → may_end_so opened ≡ true → is_closer (kind t) ≡ true
      → AreAlike (before t) (groups b opened (kind t)) ts us → AreAlike b opened (comma ∷ t ∷ ts) (t ∷ us)
  second_has : {b : Before} {opened : List Bool} {ts us : List TemplateToken} (t : TemplateToken) → ends_operand b ≡ true → may_end_so opened ≡ true → is_closer (kind t) ≡ true
      → AreAlike (before t) (groups b opened (kind t)) ts us → AreAlike b opened (t ∷ ts) (comma ∷ t ∷ us)
  first_extra : {b : Before} {opened : List Bool} {ts us : List TemplateToken} (t : TemplateToken) → may_go t ≡ true → begins_outside us ≡ true → AreAlike b opened ts us → AreAlike b opened (t ∷ ts) us
  second_extra : {b : Before} {opened : List Bool} {ts us : List TemplateToken} (t : TemplateToken) → may_go t ≡ true → begins_outside ts ≡ true → AreAlike b opened ts us → AreAlike b opened ts (t ∷ us)
  same_attribute : {b : Before} {opened : List Bool} {ts us : List TemplateToken} (t : TemplateToken) → is_any_word t ≡ true → AreAlike callee opened ts us → AreAlike b opened (at_sign ∷ t ∷ ts) (at_sign ∷ t ∷ us)
  first_outside : {opened : List Bool} {ts us : List TemplateToken} (t : TemplateToken) → may_go_outside t ≡ true → AreAlike outside opened ts us → AreAlike outside opened (t ∷ ts) us
  second_outside : {opened : List Bool} {ts us : List TemplateToken} (t : TemplateToken) → may_go_outside t ≡ true → AreAlike outside opened ts us → AreAlike outside opened ts (t ∷ us)
