-- Values and types of expressions and consts of the const stage, on scalars, as code computes them.
use Rattle.std.specs.Prelude.{pos, List, [], ◌∷◌, Option, Some, None, Ok, Err, if◌then◌else◌}
use Rattle.wgsl_words.specs.declared.operators.BinaryOperator.{BinaryOperator}
use Rattle.core_syntax.specs.Tree.{Exp, Exps, literal, parenthesized, unary, binary, call, named, nil, cons, Typ, Decl, variable, function}
use Rattle.wgsl_words.specs.declared.enumerations.words.ShaderStage.{ShaderStage}
use Rattle.wgsl_shader_type.specs.declared.literal.LiteralInstance.{LiteralInstance}
use Rattle.wgsl_shader_type.specs.declared.literal.LiteralInstance.TheVariants as V
use Rattle.wgsl_scalar.specs.declared.scalar.ScalarType.{ScalarType}
use Rattle.core_meaning.specs.declared.fault.Fault.TheVariants.{Name as Named}
use Rattle.core_meaning.specs.declared.fault.NameFault.TheVariants.{UnknownDecl, NotCallable, UninitConst, Signature}
use Rattle.wgsl_scalar.specs.Scalars.{type_of}
use Rattle.wgsl_scalar.specs.Conversions.{converted, constructed}
use Rattle.wgsl_scalar.specs.Operators.{unary_value, binary_value}
use Rattle.wgsl_scalar.specs.OperatorTypes.{unary_type, binary_type}
use Rattle.core_meaning.specs.Values.{Checked, and_then, literal_value, decides}
use Rattle.core_meaning.specs.Outcome.{Outcome, Done, Failed, bind, at_once, computed}
use Rattle.core_meaning.specs.Names.{Name, find, plain_name}

-- ---- expressions

-- the parameters, with their values or with their types
abbrev pub Env : Type 0
Env = List (Name × LiteralInstance)

abbrev pub Types : Type 0
Types = List (Name × ScalarType)

-- what the names of the module mean at a stage
pub record World : Type 0 where
  pub stage : ShaderStage
  -- the value of a const
  pub value_of : Name → Outcome LiteralInstance
  -- a call of a function or a constructor
  pub result_of : Name → List LiteralInstance → Outcome LiteralInstance
  -- its type, from the arguments' types
  pub result_type : Name → List ScalarType → Outcome ScalarType
  -- a type's name
  pub type_named : Name → Checked ScalarType

-- a parameter's, or what the world says
abbrev pub local_or : {A : Type 0} → Option A → Outcome A → Outcome A
local_or (Some v) other = Done v 0
local_or None other = other

-- a parameter can't be called
abbrev pub called_or : {A B : Type 0} → Name → Option A → Outcome B → Outcome B
called_or f (Some v) other = Failed (Named NotCallable f)
called_or f None other = other

abbrev pub value_here : World → Env → Checked Name → Outcome LiteralInstance
value_here w env (Ok x) = local_or (find x env) (w.value_of x)
value_here w env (Err f) = Failed f

abbrev pub result_here : World → Env → Checked Name → List LiteralInstance → Outcome LiteralInstance
result_here w env (Ok f) vs = called_or f (find f env) (w.result_of f vs)
result_here w env (Err e) vs = Failed e

-- the left operand, then the right one, unless the left one decides
abbrev pub between : ShaderStage → BinaryOperator → LiteralInstance → Outcome LiteralInstance → Outcome LiteralInstance
between stage o x right = if decides o x then Done x 0 else bind right (λ y. computed (binary_value stage o x y))

-- the value of an expression: left before right, arguments in order, the callee last (WGSL, "Program Order Within an Invocation")
abbrev mutual
  pub value : World → Env → Exp → Outcome LiteralInstance
  value w env (literal l) = Done (literal_value l) 0
  value w env (parenthesized e) = value w env e
  value w env (unary o e) = bind (value w env e) (λ x. computed (unary_value w.stage o x))
  value w env (binary o a b) = bind (value w env a) (λ x. between w.stage o x (value w env b))
  value w env (call f es) = bind (values w env es) (λ vs. result_here w env (plain_name f) vs)
  value w env (named x) = value_here w env (plain_name x)

  pub values : World → Env → Exps → Outcome (List LiteralInstance)
  values w env nil = Done [] 0
  values w env (cons e es) = bind (value w env e) (λ x. bind (values w env es) (λ xs. Done (x ∷ xs) 0))

-- ---- their types

-- an untyped const has the type of its value
abbrev pub type_in_world : Outcome LiteralInstance → Outcome ScalarType
type_in_world o = bind o (λ v. Done (type_of v) 0)

abbrev pub type_here : World → Types → Checked Name → Outcome ScalarType
type_here w env (Ok x) = local_or (find x env) (type_in_world (w.value_of x))
type_here w env (Err f) = Failed f

abbrev pub result_type_here : World → Types → Checked Name → List ScalarType → Outcome ScalarType
result_type_here w env (Ok f) ts = called_or f (find f env) (w.result_type f ts)
result_type_here w env (Err e) ts = Failed e

abbrev mutual
  pub typed : World → Types → Exp → Outcome ScalarType
  typed w env (literal l) = Done (type_of (literal_value l)) 0
  typed w env (parenthesized e) = typed w env e
  typed w env (unary o e) = bind (typed w env e) (λ t. computed (unary_type o t))
  typed w env (binary o a b) = bind (typed w env a) (λ s. bind (typed w env b) (λ t. computed (binary_type o s t)))
  typed w env (call f es) = bind (all_typed w env es) (λ ts. result_type_here w env (plain_name f) ts)
  typed w env (named x) = type_here w env (plain_name x)

  pub all_typed : World → Types → Exps → Outcome (List ScalarType)
  all_typed w env nil = Done [] 0
  all_typed w env (cons e es) = bind (typed w env e) (λ t. bind (all_typed w env es) (λ ts. Done (t ∷ ts) 0))

-- ---- constructors and consts

-- the constructor of a type: of one argument, or of none for zero (WGSL, "Zero Value Built-in Functions")
abbrev pub construct : Name → ScalarType → List LiteralInstance → Outcome LiteralInstance
construct f t [] = computed (constructed t (V.AbstractInt (pos 0)))
construct f t (v ∷ []) = computed (constructed t v)
construct f t (v ∷ w ∷ vs) = Failed (Named Signature f)

abbrev pub construct_type : Name → ScalarType → List ScalarType → Outcome ScalarType
construct_type f t [] = Done t 0
construct_type f t (s ∷ []) = Done t 0
construct_type f t (s ∷ u ∷ ts) = Failed (Named Signature f)

-- a written type
abbrev pub type_written : World → Typ → Outcome ScalarType
type_written w t = at_once (and_then (plain_name t) w.type_named)

-- the value of an initializer, under a written type or its own
abbrev pub initial : World → Option Typ → Exp → Outcome LiteralInstance
initial w (Some t) e = bind (type_written w t) (λ u. bind (value w [] e) (λ v. computed (converted u v)))
initial w None e = bind (typed w [] e) (λ u. value w [] e)

abbrev pub initialized : World → Name → Option Typ → Option Exp → Outcome LiteralInstance
initialized w x type (Some e) = initial w type e
initialized w x type None = Failed (Named UninitConst x)

-- a const's value (WGSL, "const Declarations")
abbrev pub const_in : World → Name → Option Decl → Outcome LiteralInstance
const_in w x (Some (variable attributes kind y type e)) = initialized w y type e
const_in w x (Some (function attributes f parameters return_attributes return_type body)) = Failed (Named UnknownDecl x)
const_in w x None = Failed (Named UnknownDecl x)
