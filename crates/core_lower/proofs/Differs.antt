-- How a lowered declaration differs from the declaration.
use Rattle.std.proofs.Common.{◌≡◌, ℕ, List, [], ◌∷◌, map, Option, Some, None, Bool, true, false, Ok, Err, refl, sym, ap, ◌∙◌, subst}
use Rattle.std.specs.Prelude.{if◌then◌else◌, not, ◌&&◌}
use Rattle.core_syntax.specs.Tree.{Exp, Exps, exps, literal, parenthesized, unary, binary, call, named, nil, cons, Typ, simple, templated, Attr, fragment, location, Stm, returning, Param, Decl, variable, function, Block}
use Rattle.wgsl_shader_type.specs.declared.literal.LiteralInstance.{LiteralInstance}
use Rattle.wgsl_scalar.specs.declared.scalar.ScalarType.{ScalarType}
use Rattle.wgsl_scalar.specs.declared.scalar.ScalarType.TheVariants.{Bool as Truth, Integer}
use Rattle.wgsl_scalar.specs.declared.scalar.IntegerType.TheVariants.{AbstractInt, I32, U32}
use Rattle.core_meaning.specs.declared.fault.Fault.TheVariants.{StepLimit, Operation, Deferred, NegativeAttr, Name as Named}
use Rattle.core_meaning.specs.Values.{Checked, and_then}
use Rattle.core_meaning.specs.Outcome.{Outcome, Done, Failed, Deep}
use Rattle.core_meaning.specs.Names.{Name, find, find_decl, plain_name, built_in_type}
use Rattle.core_meaning.specs.Meaning.{Types, value, typed}
use Rattle.core_meaning.specs.ConstStage.{Consts, Scope, stage, hidden, const_known, callee_at, callee_of}
use Rattle.core_meaning.specs.Written.{written}
use Rattle.core_meaning.specs.Programs.{type_at, here_if}
use Rattle.core_lower_expressions.specs.Follows.{Differences, Follows, FollowAll, keeps_parentheses, keeps_unary, keeps_binary, keeps_call, keeps_name, replaces, no_more, one_more, FollowsAt, as_it_is, at_the_type, FollowStatements, no_statements, returns_nothing, returns, FollowAttributes, no_attributes, keeps_fragment, keeps_location, FollowType, no_type, keeps_type, FollowParameters, no_parameters, one_parameter, FollowsDeclaration, keeps_function}
use Rattle.core_lower_expressions.specs.Runs.{has_stage}
use Rattle.core_lower_expressions.specs.Cleared.{any_stage, does_nothing, cleared}
use Rattle.core_lower_expressions.specs.Computed.{lacks_value, unless_const, callee_here, lowered, all_lowered, type_here, constructor_call, converted_exp, lowered_return, lowered_attribute, lowered_attributes, lowered_parameter, lowered_parameters, parameter_types, checked_type, lowered_statement, lowered_statements}
use Rattle.core_lower.proofs.Steps.{then_ok}
use Rattle.core_lower.proofs.Units.{IsLowered}
use Rattle.core_lower.proofs.Worlds.{IsType}

-- ---- a value, or the parts

abbrev pub HasNone : Outcome LiteralInstance → Type 0
HasNone (Done v n) = ⊥
HasNone (Failed StepLimit) = ⊥
HasNone (Failed (Operation f)) = ⊥
HasNone (Failed (Deferred t)) = ⊥
HasNone (Failed (NegativeAttr z)) = ⊥
HasNone (Failed (Named f x)) = lacks_value f ≡ true
HasNone Deep = ⊥

pub data Case (o : Outcome LiteralInstance) (other : Checked Exp) (d : Exp) : Type 0 where
  has : (v : LiteralInstance) (n : ℕ) → o ≡ Done v n → written v ≡ d → Case o other d
  has_none : HasNone o → other ≡ Ok d → Case o other d

pub case_of : (o : Outcome LiteralInstance) (other : Checked Exp) (d : Exp) → unless_const o other ≡ Ok d → Case o other d
case_of (Done v n) other d e = has v n refl (cc)
case_of (Failed StepLimit) other d e = absurd (cc)
case_of (Failed (Operation f)) other d e = absurd (cc)
case_of (Failed (Deferred t)) other d e = absurd (cc)
case_of (Failed (NegativeAttr z)) other d e = absurd (cc)
case_of (Failed (Named f x)) other d e = at (lacks_value f) refl e
  where
    at : (b : Bool) → lacks_value f ≡ b → (if b then other else Err (Named f x)) ≡ Ok d → Case (Failed (Named f x)) other d
    at true is h = has_none is h
    at false is h = absurd (cc)
case_of Deep other d e = absurd (cc)

-- ---- entry points

-- stages stay
pub same_stage : (s : Scope) (as' low : List Attr) → lowered_attributes s as' ≡ Ok low → has_stage as' ≡ has_stage low
same_stage s [] low h = let same : [] ≡ low = cc in ap has_stage same
same_stage s (fragment ∷ rest) low h =
    let b = then_ok (lowered_attribute s fragment) (λ b. and_then (lowered_attributes s rest) (λ more. Ok (b ∷ more))) low h in
    let more = then_ok (lowered_attributes s rest) (λ more. Ok (b.0 ∷ more)) low b.2 in
    let is : fragment ≡ b.0 = cc in
    let same : b.0 ∷ more.0 ≡ low = cc in
    ap has_stage (ap (λ y. y ∷ more.0) is ∙ same)
same_stage s (location e ∷ rest) low h =
    let b = then_ok (lowered_attribute s (location e)) (λ b. and_then (lowered_attributes s rest) (λ more. Ok (b ∷ more))) low h in
    let more = then_ok (lowered_attributes s rest) (λ more. Ok (b.0 ∷ more)) low b.2 in
    let d = then_ok (lowered s e) (λ d. Ok (location d)) b.0 b.1 in
    let is : location d.0 ≡ b.0 = cc in
    let same : b.0 ∷ more.0 ≡ low = cc in
    same_stage s rest more.0 more.1 ∙ ap has_stage (ap (λ y. y ∷ more.0) is ∙ same)

-- and the body of an entry point stays
pub entry_stays : (as' : List Attr) (ps : List Param) (t : Option Typ) → has_stage as' ≡ true → does_nothing as' ps t ≡ false
entry_stays as' ps None h = ap (λ b. not b && not (any_stage ps)) h
entry_stays as' ps (Some t) h = refl

-- ---- the differences

-- no built-in type has the name of one of these
abbrev pub AreClearTypes : Types → Type 0
AreClearTypes ts = (x : Name) (t : ScalarType) → built_in_type x ≡ Ok t → find x ts ≡ None

module _ (ds : List Decl) (cs : Consts) where
  abbrev pub scope : Types → Scope
  scope ts = record { declared = λ x. find_decl x ds; known = λ x. find x cs; parameters = ts }

  -- types of locals of these names
  pub record Typed (locals : List Name) : Type 0 where
    pub types : Types
    pub named : map (λ b. b.0) types ≡ locals
    pub clear : AreClearTypes types

  -- a local
  pub record KeptName (locals : List Name) (x y : Typ) : Type 0 where
    pub same_name : x ≡ y
    pub typed : Typed locals
    pub name : Name
    pub is : x ≡ simple None name
    pub type : ScalarType
    pub local : find name typed.types ≡ Some type

  -- a constructor
  pub record KeptCallee (locals : List Name) (f g : Typ) : Type 0 where
    pub same_callee : f ≡ g
    pub typed : Typed locals
    pub name : Name
    pub is : f ≡ simple None name
    pub no_local : find name typed.types ≡ None
    pub undeclared : find_decl name ds ≡ None

  pub record KeptType (t u : Typ) : Type 0 where
    pub same_type : t ≡ u
    pub type : ScalarType
    pub is : IsType ds t type

  -- what has a const value, and the value written
  pub record HasValue (locals : List Name) (e d : Exp) : Type 0 where
    pub typed : Typed locals
    pub its : LiteralInstance
    pub steps : ℕ
    pub gives : value (stage (scope typed.types)) [] e ≡ Done its steps
    pub so_written : written its ≡ d

  -- an abstract number, under the constructor of the function's type
  pub record HasConversion (locals : List Name) (type : Option Typ) (e d : Exp) : Type 0 where
    pub typed : Typed locals
    pub named_type : Typ
    pub is : type ≡ Some named_type
    pub goes : lowered (scope typed.types) (call named_type (cons e nil)) ≡ Ok d

  abbrev pub lowering : Differences
  lowering = record { names = KeptName; callees = KeptCallee; types = KeptType; replaced = HasValue; returned = HasConversion }

  -- ---- expressions

  plain_is : (f : Typ) (x : Name) → plain_name f ≡ Ok x → f ≡ simple None x
  plain_is (simple None y) x h = let same : y ≡ x = cc in ap (simple None) same
  plain_is (simple (Some path) y) x h = absurd (cc)
  plain_is (templated None y arguments) x h = absurd (cc)
  plain_is (templated (Some path) y arguments) x h = absurd (cc)

  pub type_is : (ts : Types) (t : Typ) (to : ScalarType) → type_here (scope ts) t ≡ Ok to → IsType ds t to
  type_is ts t to h =
      let x = then_ok (plain_name t) (stage (scope ts)).type_named to h in
      by x.0 (plain_is t x.0 x.1) (find_decl x.0 ds) refl x.2
    where
      by : (x : Name) → t ≡ simple None x → (d : Option Decl) → find_decl x ds ≡ d → type_at x (here_if x d) ≡ Ok to → IsType ds t to
      by x is (Some d) e g = absurd (cc)
      by x is None e g = record { name = x; is = is; undeclared = e; built_in = g }

  module _ (locals : List Name) (l : Typed locals) where
    abbrev s : Scope
    s = scope l.types

    kept_name : (x : Typ) → HasNone (value (stage s) [] (named x)) → KeptName locals x x
    kept_name (simple None x) h = at (find x l.types) refl (find x cs) (find_decl x ds) h
      where
        at : (t : Option ScalarType) → find x l.types ≡ t → (c : Option LiteralInstance) (d : Option Decl) → HasNone (hidden x t (const_known x c d)) → KeptName locals (simple None x) (simple None x)
        at (Some t) e c d g = record { same_name = refl; typed = l; name = x; is = refl; type = t; local = e }
        at None e (Some v) d g = absurd g
        at None e None (Some (variable attributes kind y type i)) g = absurd (cc)
        at None e None (Some (function attributes f parameters return_attributes type body)) g = absurd (cc)
        at None e None None g = absurd (cc)
    kept_name (simple (Some path) x) h = absurd (cc)
    kept_name (templated None x arguments) h = absurd (cc)
    kept_name (templated (Some path) x arguments) h = absurd (cc)

    pub kept_callee : (f : Typ) (t : ScalarType) → callee_here s f ≡ Ok t → KeptCallee locals f f
    kept_callee f t h =
        let x = then_ok (plain_name f) (callee_of s) t h in
        at x.0 (plain_is f x.0 x.1) (find x.0 l.types) refl (find_decl x.0 ds) refl x.2
      where
        at : (x : Name) → f ≡ simple None x → (u : Option ScalarType) → find x l.types ≡ u → (d : Option Decl) → find_decl x ds ≡ d → callee_at x u d ≡ Ok t → KeptCallee locals f f
        at x is (Some u) e d g k = absurd (cc)
        at x is None e (Some d) g k = absurd (cc)
        at x is None e None g k = record { same_callee = refl; typed = l; name = x; is = is; no_local = e; undeclared = g }

    abbrev Goes : Exp → Exp → Type 0
    Goes = Follows lowering locals

    by_case : (e d : Exp) (other : Checked Exp) → (other ≡ Ok d → HasNone (value (stage s) [] e) → Goes e d) → Case (value (stage s) [] e) other d → Goes e d
    by_case e d other go (has v n is to) = replaces (record { typed = l; its = v; steps = n; gives = is; so_written = to })
    by_case e d other go (has_none lacks is) = go is lacks

    mutual
      pub goes : (e d : Exp) → lowered s e ≡ Ok d → Goes e d
      goes (literal n) d h = by_case (literal n) d (Ok (literal n)) (λ is lacks. absurd lacks) (case_of _ _ d h)
      goes (named x) d h =
          by_case (named x) d (Ok (named x)) (λ is lacks. let to : named x ≡ d = cc in subst (Goes (named x)) to (keeps_name (kept_name x lacks))) (case_of _ _ d h)
      goes (parenthesized a) d h =
          let inner = goes a in
          by_case (parenthesized a) d (and_then (lowered s a) (λ x. Ok (parenthesized x))) (λ is lacks.
          let x = then_ok (lowered s a) (λ x. Ok (parenthesized x)) d is in
          let to : parenthesized x.0 ≡ d = cc in
          subst (Goes (parenthesized a)) to (keeps_parentheses (inner x.0 x.1))) (case_of _ _ d h)
      goes (unary o a) d h =
          let inner = goes a in
          by_case (unary o a) d (and_then (lowered s a) (λ x. Ok (unary o x))) (λ is lacks.
          let x = then_ok (lowered s a) (λ x. Ok (unary o x)) d is in
          let to : unary o x.0 ≡ d = cc in
          subst (Goes (unary o a)) to (keeps_unary (inner x.0 x.1))) (case_of _ _ d h)
      goes (binary o a b) d h =
          let left = goes a in
          let right = goes b in
          by_case (binary o a b) d (and_then (lowered s a) (λ x. and_then (lowered s b) (λ y. Ok (binary o x y)))) (λ is lacks.
          let x = then_ok (lowered s a) (λ x. and_then (lowered s b) (λ y. Ok (binary o x y))) d is in
          let y = then_ok (lowered s b) (λ y. Ok (binary o x.0 y)) d x.2 in
          let to : binary o x.0 y.0 ≡ d = cc in
          subst (Goes (binary o a b)) to (keeps_binary (left x.0 x.1) (right y.0 y.1))) (case_of _ _ d h)
      goes (call f es) d h =
          let inner = all_go es in
          by_case (call f es) d (and_then (callee_here s f) (λ t. and_then (all_lowered s es) (λ xs. Ok (call f (exps xs))))) (λ is lacks.
          let t = then_ok (callee_here s f) (λ t. and_then (all_lowered s es) (λ xs. Ok (call f (exps xs)))) d is in
          let x = then_ok (all_lowered s es) (λ xs. Ok (call f (exps xs))) d t.2 in
          let to : call f (exps x.0) ≡ d = cc in
          subst (Goes (call f es)) to (keeps_call (kept_callee f t.0 t.1) (inner x.0 x.1))) (case_of _ _ d h)

      pub all_go : (es : Exps) (xs : List Exp) → all_lowered s es ≡ Ok xs → FollowAll lowering locals es (exps xs)
      all_go nil xs h = let to : [] ≡ xs = cc in subst (λ z. FollowAll lowering locals nil (exps z)) to no_more
      all_go (cons e es) xs h =
          let x = then_ok (lowered s e) (λ x. and_then (all_lowered s es) (λ more. Ok (x ∷ more))) xs h in
          let more = then_ok (all_lowered s es) (λ more. Ok (x.0 ∷ more)) xs x.2 in
          let to : x.0 ∷ more.0 ≡ xs = cc in
          subst (λ z. FollowAll lowering locals (cons e es) (exps z)) to (one_more (goes e x.0 x.1) (all_go es more.0 more.1))

    -- ---- what is returned

    return_goes : (type : Option Typ) (e d : Exp) → lowered_return s type e ≡ Ok d → FollowsAt lowering locals type e d
    return_goes None e d h =
        let e1 = then_ok (converted_exp s None e) (lowered s) d h in
        let same : e ≡ e1.0 = cc in
        as_it_is (goes e d (ap (lowered s) same ∙ e1.2))
    return_goes (Some t) e d h =
        let e1 = then_ok (converted_exp s (Some t) e) (lowered s) d h in
        at (typed (stage s) s.parameters e) e1.0 e1.1 e1.2
      where
        at : (o : Outcome ScalarType) (e1 : Exp) → constructor_call t e o ≡ Ok e1 → lowered s e1 ≡ Ok d → FollowsAt lowering locals (Some t) e d
        at (Done (Integer AbstractInt) n) e1 is g = let same : call t (cons e nil) ≡ e1 = cc in at_the_type (record { typed = l; named_type = t; is = refl; goes = ap (lowered s) same ∙ g })
        at (Done (Integer I32) n) e1 is g = let same : e ≡ e1 = cc in as_it_is (goes e d (ap (lowered s) same ∙ g))
        at (Done (Integer U32) n) e1 is g = let same : e ≡ e1 = cc in as_it_is (goes e d (ap (lowered s) same ∙ g))
        at (Done Truth n) e1 is g = let same : e ≡ e1 = cc in as_it_is (goes e d (ap (lowered s) same ∙ g))
        at (Failed f) e1 is g = absurd (cc)
        at Deep e1 is g = absurd (cc)

    pub statements_go : (type : Option Typ) (body low : List Stm) → lowered_statements s type body ≡ Ok low → FollowStatements lowering locals type body low
    statements_go type [] low h = let same : [] ≡ low = cc in subst (FollowStatements lowering locals type []) same no_statements
    statements_go type (returning a None ∷ rest) low h =
        let x = then_ok (lowered_statement s type (returning a None)) (λ y. and_then (lowered_statements s type rest) (λ others. Ok (y ∷ others))) low h in
        let others = then_ok (lowered_statements s type rest) (λ others. Ok (x.0 ∷ others)) low x.2 in
        let b = then_ok (lowered_attributes s a) (λ more. Ok (returning more None)) x.0 x.1 in
        let is : returning b.0 None ≡ x.0 = cc in
        let same : x.0 ∷ others.0 ≡ low = cc in
        subst (FollowStatements lowering locals type (returning a None ∷ rest)) (ap (λ y. y ∷ others.0) is ∙ same) (returns_nothing (statements_go type rest others.0 others.1))
    statements_go type (returning a (Some e) ∷ rest) low h =
        let x = then_ok (lowered_statement s type (returning a (Some e))) (λ y. and_then (lowered_statements s type rest) (λ others. Ok (y ∷ others))) low h in
        let others = then_ok (lowered_statements s type rest) (λ others. Ok (x.0 ∷ others)) low x.2 in
        let b = then_ok (lowered_attributes s a) (λ more. and_then (lowered_return s type e) (λ d. Ok (returning more (Some d)))) x.0 x.1 in
        let d = then_ok (lowered_return s type e) (λ d. Ok (returning b.0 (Some d))) x.0 b.2 in
        let is : returning b.0 (Some d.0) ≡ x.0 = cc in
        let same : x.0 ∷ others.0 ≡ low = cc in
        subst (FollowStatements lowering locals type (returning a (Some e) ∷ rest)) (ap (λ y. y ∷ others.0) is ∙ same) (returns (return_goes type e d.0 d.1) (statements_go type rest others.0 others.1))

  -- ---- declarations

  abbrev outside : Typed []
  outside = record { types = []; named = refl; clear = λ x t h. refl }

  attributes_go : (a low : List Attr) → lowered_attributes (scope []) a ≡ Ok low → FollowAttributes lowering a low
  attributes_go [] low h = let same : [] ≡ low = cc in subst (FollowAttributes lowering []) same no_attributes
  attributes_go (fragment ∷ rest) low h =
      let b = then_ok (lowered_attribute (scope []) fragment) (λ b. and_then (lowered_attributes (scope []) rest) (λ more. Ok (b ∷ more))) low h in
      let more = then_ok (lowered_attributes (scope []) rest) (λ more. Ok (b.0 ∷ more)) low b.2 in
      let is : fragment ≡ b.0 = cc in
      let same : b.0 ∷ more.0 ≡ low = cc in
      subst (FollowAttributes lowering (fragment ∷ rest)) (ap (λ y. y ∷ more.0) is ∙ same) (keeps_fragment (attributes_go rest more.0 more.1))
  attributes_go (location e ∷ rest) low h =
      let b = then_ok (lowered_attribute (scope []) (location e)) (λ b. and_then (lowered_attributes (scope []) rest) (λ more. Ok (b ∷ more))) low h in
      let more = then_ok (lowered_attributes (scope []) rest) (λ more. Ok (b.0 ∷ more)) low b.2 in
      let d = then_ok (lowered (scope []) e) (λ d. Ok (location d)) b.0 b.1 in
      let is : location d.0 ≡ b.0 = cc in
      let same : b.0 ∷ more.0 ≡ low = cc in
      subst (FollowAttributes lowering (location e ∷ rest)) (ap (λ y. y ∷ more.0) is ∙ same) (keeps_location (goes [] outside e d.0 d.1) (attributes_go rest more.0 more.1))

  parameters_go : (ps low : List Param) → lowered_parameters (scope []) ps ≡ Ok low → FollowParameters lowering ps low
  parameters_go [] low h = let same : [] ≡ low = cc in subst (FollowParameters lowering []) same no_parameters
  parameters_go (p ∷ ps) low h =
      let q = then_ok (lowered_parameter (scope []) p) (λ q. and_then (lowered_parameters (scope []) ps) (λ more. Ok (q ∷ more))) low h in
      let more = then_ok (lowered_parameters (scope []) ps) (λ more. Ok (q.0 ∷ more)) low q.2 in
      let a = then_ok (lowered_attributes (scope []) p.attributes) (λ a. and_then (type_here (scope []) p.type) (λ t. Ok (record { attributes = a; name = p.name; type = p.type }))) q.0 q.1 in
      let t = then_ok (type_here (scope []) p.type) (λ t. Ok (record { attributes = a.0; name = p.name; type = p.type })) q.0 a.2 in
      let is : record { attributes = a.0; name = p.name; type = p.type } ≡ q.0 = cc in
      let same : q.0 ∷ more.0 ≡ low = cc in
      subst (FollowParameters lowering (p ∷ ps)) (ap (λ y. y ∷ more.0) is ∙ same)
      (one_parameter (record { name = refl; type = record { same_type = refl; type = t.0; is = type_is [] p.type t.0 t.1 }; attributes = attributes_go p.attributes a.0 a.1 }) (parameters_go ps more.0 more.1))

  result_goes : (t : Option Typ) → checked_type (scope []) t ≡ Ok tt → FollowType lowering t t
  result_goes None h = no_type
  result_goes (Some t) h = let u = then_ok (type_here (scope []) t) (λ u. Ok tt) tt h in keeps_type (record { same_type = refl; type = u.0; is = type_is [] t u.0 u.1 })

  types_named : (ps : List Param) (ts : Types) → parameter_types (scope []) ps ≡ Ok ts → map (λ b. b.0) ts ≡ map (λ p. p.name) ps
  types_named [] ts h = let same : [] ≡ ts = cc in ap (map (λ b. b.0)) (sym same)
  types_named (p ∷ ps) ts h =
      let t = then_ok (type_here (scope []) p.type) (λ t. and_then (parameter_types (scope []) ps) (λ more. Ok ((p.name, t) ∷ more))) ts h in
      let more = then_ok (parameter_types (scope []) ps) (λ more. Ok ((p.name, t.0) ∷ more)) ts t.2 in
      let same : (p.name, t.0) ∷ more.0 ≡ ts = cc in
      ap (map (λ b. b.0)) (sym same) ∙ ap (λ l. p.name ∷ l) (types_named ps more.0 more.1)

  pub declaration_goes : (a : List Attr) (f : Name) (ps : List Param) (rs : List Attr) (t : Option Typ) (b : Block) (d : Decl) (l : IsLowered (scope []) a f ps rs t b d) → AreClearTypes l.types
      → does_nothing l.attributes l.parameters t ≡ false → FollowsDeclaration lowering (function a f ps rs t b) d
  declaration_goes a f ps rs t b d l clear stays =
      subst (FollowsDeclaration lowering (function a f ps rs t b)) (sym (ap (λ c. function l.attributes f l.parameters l.result t (cleared c l.block)) stays) ∙ l.is)
      (keeps_function (attributes_go a l.attributes l.attributes_are) (parameters_go ps l.parameters l.parameters_are) (result_goes t l.type_is)
      (statements_go (map (λ p. p.name) ps) (record { types = l.types; named = types_named ps l.types l.types_are; clear = clear }) t b.statements l.block.statements l.statements_are))
