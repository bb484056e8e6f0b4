-- The grammar of expressions over kinds of tokens (WGSL, "Expression Grammar Summary" and "Template Lists"; paths are WESL's). No
-- argument is checked, and no tree is made.
use Rattle.std.specs.Prelude.{◌≡◌, Bool, true, false, List, [], ◌∷◌, ◌++◌}
use Rattle.wgsl_templates.specs.declared.meaning.kind.Kind.{Kind}
use Rattle.wgsl_templates.specs.declared.meaning.kind.Kind.TheVariants as k

abbrev pub is_prefix : Kind → Bool
is_prefix k.Minus = true
is_prefix k.Not = true
is_prefix k.Star = true
is_prefix k.And = true
is_prefix _ = false

abbrev pub is_multiplicative : Kind → Bool
is_multiplicative k.Star = true
is_multiplicative k.Division = true
is_multiplicative _ = false

abbrev pub is_additive : Kind → Bool
is_additive k.Plus = true
is_additive k.Minus = true
is_additive _ = false

abbrev pub is_bitwise : Kind → Bool
is_bitwise k.And = true
is_bitwise k.Or = true
is_bitwise k.Xor = true
is_bitwise _ = false

abbrev pub is_logical : Kind → Bool
is_logical k.AndAnd = true
is_logical k.OrOr = true
is_logical _ = false

-- {id `::`} id
pub data IsQualified : List Kind → Type 0 where
  id : IsQualified (k.Word ∷ [])
  within : {u : List Kind} → IsQualified u → IsQualified (k.Word ∷ k.PathSeparator ∷ u)

-- (`super` `::`)+ {id `::`} id
pub data IsRelative : List Kind → Type 0 where
  once : {u : List Kind} → IsQualified u → IsRelative (k.Super ∷ k.PathSeparator ∷ u)
  again : {u : List Kind} → IsRelative u → IsRelative (k.Super ∷ k.PathSeparator ∷ u)

-- [`package` `::` | (`super` `::`)+] {id `::`} id
pub data IsName : List Kind → Type 0 where
  qualified : {u : List Kind} → IsQualified u → IsName u
  from_package : {u : List Kind} → IsQualified u → IsName (k.Package ∷ k.PathSeparator ∷ u)
  from_super : {u : List Kind} → IsRelative u → IsName u

mutual
  -- a name, with a template list or without
  pub data IsType : List Kind → Type 0 where
    named : {u : List Kind} → IsName u → IsType u
    templated : {u v : List Kind} → IsName u → IsListBody v → IsType (u ++ (k.TemplateArgsStart ∷ v))

  pub data IsPrimary : List Kind → Type 0 where
    literal : IsPrimary (k.Literal ∷ [])
    type : {u : List Kind} → IsType u → IsPrimary u
    call : {u v : List Kind} → IsType u → IsArguments v → IsPrimary (u ++ (k.ParenLeft ∷ v))
    parenthesized : {u : List Kind} → IsExpression u → IsPrimary (k.ParenLeft ∷ (u ++ (k.ParenRight ∷ [])))

  -- behind the `(` of a call: [expr {`,` expr} [`,`]] `)`
  pub data IsArguments : List Kind → Type 0 where
    no_argument : IsArguments (k.ParenRight ∷ [])
    last_argument : {u : List Kind} → IsExpression u → IsArguments (u ++ (k.ParenRight ∷ []))
    more_arguments : {u v : List Kind} → IsExpression u → IsArguments v → IsArguments (u ++ (k.Comma ∷ v))

  -- primary {`.` id | `[` expr `]`}
  pub data IsSingular : List Kind → Type 0 where
    primary : {u : List Kind} → IsPrimary u → IsSingular u
    member : {u : List Kind} → IsSingular u → IsSingular (u ++ (k.Period ∷ k.Word ∷ []))
    index : {u v : List Kind} → IsSingular u → IsExpression v → IsSingular (u ++ (k.BracketLeft ∷ (v ++ (k.BracketRight ∷ []))))

  -- {`-` | `!` | `~` | `*` | `&`} singular
  pub data IsUnary : List Kind → Type 0 where
    singular : {u : List Kind} → IsSingular u → IsUnary u
    prefixed : {u : List Kind} (o : Kind) → is_prefix o ≡ true → IsUnary u → IsUnary (o ∷ u)

  -- unary {(`*` | `/` | `%`) unary}
  pub data IsProduct : List Kind → Type 0 where
    unary : {u : List Kind} → IsUnary u → IsProduct u
    times : {u v : List Kind} (o : Kind) → IsProduct u → is_multiplicative o ≡ true → IsUnary v → IsProduct (u ++ (o ∷ v))

  -- product {(`+` | `-`) product}
  pub data IsSum : List Kind → Type 0 where
    product : {u : List Kind} → IsProduct u → IsSum u
    plus : {u v : List Kind} (o : Kind) → IsSum u → is_additive o ≡ true → IsProduct v → IsSum (u ++ (o ∷ v))

  -- sum | unary (`<<` | `>>`) unary
  pub data IsShift : List Kind → Type 0 where
    sum : {u : List Kind} → IsSum u → IsShift u
    shifted : {u v : List Kind} → IsUnary u → IsUnary v → IsShift (u ++ (k.Shift ∷ v))

  -- shift [(`<` | `<=` | `>` | `>=` | `==` | `!=`) shift]
  pub data IsRelational : List Kind → Type 0 where
    shift : {u : List Kind} → IsShift u → IsRelational u
    compared : {u v : List Kind} → IsShift u → IsShift v → IsRelational (u ++ (k.Comparison ∷ v))

  -- unary {o unary}+
  pub data IsBitwise : Kind → List Kind → Type 0 where
    two_unaries : {u v : List Kind} (o : Kind) → IsUnary u → IsUnary v → IsBitwise o (u ++ (o ∷ v))
    more_unaries : {u v : List Kind} (o : Kind) → IsBitwise o u → IsUnary v → IsBitwise o (u ++ (o ∷ v))

  -- relational {o relational}+
  pub data IsLogical : Kind → List Kind → Type 0 where
    two_relations : {u v : List Kind} (o : Kind) → IsRelational u → IsRelational v → IsLogical o (u ++ (o ∷ v))
    more_relations : {u v : List Kind} (o : Kind) → IsLogical o u → IsRelational v → IsLogical o (u ++ (o ∷ v))

  -- an expression without `&&` and `||` of its own: what stands in a template list, where these stop the reading. (A `>`, `>=` or `>>`
  -- never stands at a list's own depth: there its end has been read.)
  pub data IsItem : List Kind → Type 0 where
    relational : {u : List Kind} → IsRelational u → IsItem u
    bitwise : {u : List Kind} (o : Kind) → is_bitwise o ≡ true → IsBitwise o u → IsItem u

  pub data IsExpression : List Kind → Type 0 where
    item : {u : List Kind} → IsItem u → IsExpression u
    logical : {u : List Kind} (o : Kind) → is_logical o ≡ true → IsLogical o u → IsExpression u

  -- behind the start of a template list: item {`,` item} [`,`], and the list's end
  pub data IsListBody : List Kind → Type 0 where
    last_item : {u : List Kind} → IsItem u → IsListBody (u ++ (k.TemplateArgsEnd ∷ []))
    last_and_comma : {u : List Kind} → IsItem u → IsListBody (u ++ (k.Comma ∷ k.TemplateArgsEnd ∷ []))
    more_items : {u v : List Kind} → IsItem u → IsListBody v → IsListBody (u ++ (k.Comma ∷ v))
