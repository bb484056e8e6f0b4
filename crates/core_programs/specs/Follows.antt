-- One tree follows another: the same shape, with names for names, and other expressions where the two agree.
use Rattle.std.specs.Prelude.{◌≡◌, List, [], ◌∷◌, map, Option, Some, None}
use Rattle.wgsl_words.specs.declared.operators.UnaryOperator.{UnaryOperator}
use Rattle.wgsl_words.specs.declared.operators.BinaryOperator.{BinaryOperator}
use Rattle.core_syntax.specs.declared.expression.LiteralExpression.{LiteralExpression}
use Rattle.core_syntax.specs.declared.declaration.DeclarationKind.{DeclarationKind}
use Rattle.core_syntax.specs.Tree.{Exp, Exps, literal, parenthesized, unary, binary, call, named, nil, cons, Typ, Attr, fragment, location, Stm, returning, Param, Decl, variable, function, Block}
use Rattle.core_programs.specs.Names.{Name}

-- how the parts of trees may differ, where these locals are in scope
pub record Differences : Type 1 where
  -- a name for a name, as a value, as a callee, and as a type
  pub names : List Name → Typ → Typ → Type 0
  pub callees : List Name → Typ → Typ → Type 0
  pub types : Typ → Typ → Type 0
  -- an expression for an expression, whatever its shape
  pub replaced : List Name → Exp → Exp → Type 0
  -- what is returned by a function of this type, at that type
  pub returned : List Name → Option Typ → Exp → Exp → Type 0

module _ (D : Differences) where
  module _ (locals : List Name) where
    mutual
      pub data Follows : Exp → Exp → Type 0 where
        keeps_literal : {l : LiteralExpression} → Follows (literal l) (literal l)
        keeps_parentheses : {a b : Exp} → Follows a b → Follows (parenthesized a) (parenthesized b)
        keeps_unary : {o : UnaryOperator} {a b : Exp} → Follows a b → Follows (unary o a) (unary o b)
        keeps_binary : {o : BinaryOperator} {a b c d : Exp} → Follows a b → Follows c d → Follows (binary o a c) (binary o b d)
        keeps_call : {f g : Typ} {es ds : Exps} → D.callees locals f g → FollowAll es ds → Follows (call f es) (call g ds)
        keeps_name : {x y : Typ} → D.names locals x y → Follows (named x) (named y)
        replaces : {e d : Exp} → D.replaced locals e d → Follows e d

      pub data FollowAll : Exps → Exps → Type 0 where
        no_more : FollowAll nil nil
        one_more : {e d : Exp} {es ds : Exps} → Follows e d → FollowAll es ds → FollowAll (cons e es) (cons d ds)

    -- what is returned follows, or differs at the function's type
    pub data FollowsAt (type : Option Typ) : Exp → Exp → Type 0 where
      as_it_is : {e d : Exp} → Follows e d → FollowsAt type e d
      at_the_type : {e d : Exp} → D.returned locals type e d → FollowsAt type e d

    pub data FollowStatements (type : Option Typ) : List Stm → List Stm → Type 0 where
      no_statements : FollowStatements type [] []
      returns_nothing : {as1 as2 : List Attr} {rest others : List Stm} → FollowStatements type rest others
          → FollowStatements type (returning as1 None ∷ rest) (returning as2 None ∷ others)
      returns : {as1 as2 : List Attr} {e d : Exp} {rest others : List Stm} → FollowsAt type e d → FollowStatements type rest others
          → FollowStatements type (returning as1 (Some e) ∷ rest) (returning as2 (Some d) ∷ others)

  pub data FollowAttributes : List Attr → List Attr → Type 0 where
    no_attributes : FollowAttributes [] []
    keeps_fragment : {as1 as2 : List Attr} → FollowAttributes as1 as2 → FollowAttributes (fragment ∷ as1) (fragment ∷ as2)
    keeps_location : {e d : Exp} {as1 as2 : List Attr} → Follows [] e d → FollowAttributes as1 as2 → FollowAttributes (location e ∷ as1) (location d ∷ as2)

  pub data FollowType : Option Typ → Option Typ → Type 0 where
    no_type : FollowType None None
    keeps_type : {t u : Typ} → D.types t u → FollowType (Some t) (Some u)

  pub record FollowsParameter (p q : Param) : Type 0 where
    pub name : p.name ≡ q.name
    pub type : D.types p.type q.type
    pub attributes : FollowAttributes p.attributes q.attributes

  pub data FollowParameters : List Param → List Param → Type 0 where
    no_parameters : FollowParameters [] []
    one_parameter : {p q : Param} {ps qs : List Param} → FollowsParameter p q → FollowParameters ps qs → FollowParameters (p ∷ ps) (q ∷ qs)

  pub data FollowInitializer : Option Exp → Option Exp → Type 0 where
    no_initializer : FollowInitializer None None
    keeps_initializer : {e d : Exp} → Follows [] e d → FollowInitializer (Some e) (Some d)

  -- a const's initializer has no locals; a function's body has its parameters
  pub data FollowsDeclaration : Decl → Decl → Type 0 where
    keeps_const : {as1 as2 : List Attr} {kind : DeclarationKind} {x y : Name} {t u : Option Typ} {e d : Option Exp}
        → FollowType t u → FollowInitializer e d → FollowsDeclaration (variable as1 kind x t e) (variable as2 kind y u d)
    keeps_function : {as1 as2 rs qs : List Attr} {f g : Name} {ps ns : List Param} {t u : Option Typ} {b c : Block}
        → FollowAttributes as1 as2 → FollowParameters ps ns → FollowType t u
        → FollowStatements (map (λ p. p.name) ps) t b.statements c.statements → FollowsDeclaration (function as1 f ps rs t b) (function as2 g ns qs u c)
