-- The tokens of declarations and modules as they are printed (WGSL, "Declarations").
use Rattle.std.specs.Prelude.{◌≡◌, ℕ, true, List, [], ◌∷◌, ◌++◌, Option, Some, None}
use Rattle.wgsl_token.specs.declared.token.Fixed.TheVariants as f
use Rattle.wgsl_templates.specs.declared.meaning.token.TemplateToken.{TemplateToken}
use Rattle.wgsl_expressions.specs.Tree.{Exp, Typ}
use Rattle.wgsl_expressions.specs.AttributesTree.{Attr}
use Rattle.wgsl_simple_statements.specs.declared.declaration.DeclarationKind.{DeclarationKind}
use Rattle.wgsl_statements.specs.Tree.{Block}
use Rattle.wgsl_declarations.specs.Tree.{Member, Param, Decl, variable, alias, structure, function, assertion, UnitTree}
use Rattle.wgsl_print_laws.specs.Tokens.{mark, word, typ_tokens}
use Rattle.wgsl_print_laws.specs.Printable.{is_apart, type_is_apart}
use Rattle.wgsl_print_laws.specs.Directives.{HasTokens}
use Rattle.wgsl_print_laws.specs.Imports.{AttributesTokens, ImportTokens}
use Rattle.wgsl_print_laws.specs.Simple.{declared_tokens, annotation_is_apart, value_is_apart, asserted_tokens}
use Rattle.wgsl_print_laws.specs.Statements.{in_braces, BlockTokens}

-- a name and its type
abbrev pub typed_tokens : List ℕ → Typ → List TemplateToken
typed_tokens name type = word name ∷ mark f.Colon ∷ typ_tokens type

-- members of a structure, each with a comma behind it
pub data MembersTokens : List Member → List TemplateToken → Type 0 where
  no_members : MembersTokens [] []
  members_and : {m : Member} {ms : List Member} {ts us : List TemplateToken} → AttributesTokens m.attributes ts → type_is_apart m.type ≡ true → MembersTokens ms us
      → MembersTokens (m ∷ ms) (ts ++ (typed_tokens m.name m.type ++ (mark f.Comma ∷ us)))

-- parameters behind the first, and all, with commas between them
pub data MoreParametersTokens : List Param → List TemplateToken → Type 0 where
  no_more_parameters : MoreParametersTokens [] []
  parameters_and : {p : Param} {ps : List Param} {ts us : List TemplateToken} → AttributesTokens p.attributes ts → type_is_apart p.type ≡ true → MoreParametersTokens ps us
      → MoreParametersTokens (p ∷ ps) (mark f.Comma ∷ (ts ++ (typed_tokens p.name p.type ++ us)))

pub data ParametersTokens : List Param → List TemplateToken → Type 0 where
  no_parameters : ParametersTokens [] []
  parameters : {p : Param} {ps : List Param} {ts us : List TemplateToken} → AttributesTokens p.attributes ts → type_is_apart p.type ≡ true → MoreParametersTokens ps us
      → ParametersTokens (p ∷ ps) (ts ++ (typed_tokens p.name p.type ++ us))

-- the result of a function, with the attributes before its type
pub data ResultTokens : List Attr → Option Typ → List TemplateToken → Type 0 where
  no_result : ResultTokens [] None []
  a_result : {attributes : List Attr} {t : Typ} {ts : List TemplateToken} → AttributesTokens attributes ts → type_is_apart t ≡ true → ResultTokens attributes (Some t) (mark f.Arrow ∷ (ts ++ typ_tokens t))

pub data DeclTokens : Decl → List TemplateToken → Type 0 where
  a_variable : {attributes : List Attr} {ts : List TemplateToken} (kind : DeclarationKind) (name : List ℕ) {type : Option Typ} {value : Option Exp} → AttributesTokens attributes ts → annotation_is_apart type ≡ true → value_is_apart value ≡ true
      → DeclTokens (variable attributes kind name type value) (ts ++ (declared_tokens kind name type value ++ (mark f.Semicolon ∷ [])))
  an_alias : {attributes : List Attr} {ts : List TemplateToken} (name : List ℕ) {type : Typ} → AttributesTokens attributes ts → type_is_apart type ≡ true
      → DeclTokens (alias attributes name type) (ts ++ (mark f.Alias ∷ word name ∷ mark f.Equal ∷ (typ_tokens type ++ (mark f.Semicolon ∷ []))))
  a_structure : {attributes : List Attr} {ms : List Member} {ts us : List TemplateToken} (name : List ℕ) → AttributesTokens attributes ts → MembersTokens ms us
      → DeclTokens (structure attributes name ms) (ts ++ (mark f.Struct ∷ word name ∷ in_braces us))
  a_function : {attributes results : List Attr} {ps : List Param} {result : Option Typ} {body : Block} {ts us vs ws : List TemplateToken} (name : List ℕ) → AttributesTokens attributes ts → ParametersTokens ps us → ResultTokens results result vs → BlockTokens body ws
      → DeclTokens (function attributes name ps results result body) (ts ++ (mark f.Fn ∷ word name ∷ mark f.ParenLeft ∷ (us ++ (mark f.ParenRight ∷ (vs ++ ws)))))
  an_assertion : {attributes : List Attr} {ts : List TemplateToken} {x : Exp} → AttributesTokens attributes ts → is_apart x ≡ true → DeclTokens (assertion attributes x) (ts ++ (asserted_tokens x ++ (mark f.Semicolon ∷ [])))

-- ---- modules

-- some in a row, each of which has its tokens
pub data RowTokens {A : Type 0} (has : A → List TemplateToken → Type 0) : List A → List TemplateToken → Type 0 where
  row_end : RowTokens has [] []
  row_and : {x : A} {xs : List A} {ts us : List TemplateToken} → has x ts → RowTokens has xs us → RowTokens has (x ∷ xs) (ts ++ us)

pub data UnitTokens (u : UnitTree) : List TemplateToken → Type 0 where
  a_unit : {ts us vs : List TemplateToken} → RowTokens ImportTokens u.imports ts → RowTokens HasTokens u.directives us → RowTokens DeclTokens u.declarations vs → UnitTokens u (ts ++ (us ++ vs))
