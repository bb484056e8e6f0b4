-- The value and the type of an expression, whatever names denote (WGSL, "Expressions").
use Rattle.std.specs.Prelude.{List, [], ◌∷◌, Option, Some, None, Ok, Err, if◌then◌else◌}
use Rattle.wgsl_words.specs.declared.operators.BinaryOperator.{BinaryOperator}
use Rattle.core_syntax.specs.Tree.{Exp, Exps, literal, parenthesized, unary, binary, call, named, nil, cons, Typ, simple, templated}
use Rattle.wgsl_words.specs.declared.enumerations.words.ShaderStage.{ShaderStage}
use Rattle.wgsl_shader_type.specs.declared.tree.ShaderType.{ShaderType}
use Rattle.wgsl_shader_type.specs.Class.{loaded_type}
use Rattle.wgsl_instance.specs.declared.tree.Instance.{Instance}
use Rattle.wgsl_instance.specs.Typed.{type_of}
use Rattle.core_computations.specs.Machine.{pure, fail, bind}
use Rattle.core_programs.specs.Faults.{OfName, UnknownDecl, UnexpectedTemplate, NotAccessible, NotType, NotCallable, Void}
use Rattle.core_programs.specs.Computing.{M, Checked, computed, at_once, used}
use Rattle.core_programs.specs.Names.{Name, Symbol, Local, Has, Hidden, Env, local_type, find, built_in_type}
use Rattle.core_programs.specs.Operations.{literal_value, unary_type, unary_value, operand, operand_type, binary_type, binary_value, decides, construct, construct_type}

-- what names mean. They enter by `denotes` alone; faults tell printed names
pub record World : Type 0 where
  pub denotes : Name → Option Symbol
  pub printed : Symbol → Name
  -- the value and the type of a declared value
  pub value_of : ShaderStage → Symbol → M Instance
  pub value_type : Symbol → M ShaderType
  -- a call of a declared function, with its value, if it has one; and the type of its value
  pub result_of : ShaderStage → Symbol → List Instance → M (Option Instance)
  pub result_type : Symbol → M (Option ShaderType)

-- ---- names

-- the name that a fault tells: the printed one of what is denoted
abbrev pub shown : World → Name → Option Local → Option Symbol → Name
shown w x (Some l) d = x
shown w x None (Some s) = w.printed s
shown w x None None = x

-- a plain name, without path and template arguments
abbrev pub plain_name : World → Env → Typ → Checked Name
plain_name w env (simple None x) = Ok x
plain_name w env (simple (Some path) x) = Err (OfName UnknownDecl x)
plain_name w env (templated None x arguments) = Err (OfName UnexpectedTemplate (shown w x (find x env) (w.denotes x)))
plain_name w env (templated (Some path) x arguments) = Err (OfName UnknownDecl x)

abbrev pub local_value : Name → Local → M Instance
local_value x (Has v) = pure v
local_value x (Hidden t) = fail (OfName NotAccessible x)

-- the nearest local, else what the name denotes
abbrev pub name_value : World → ShaderStage → Name → Option Local → Option Symbol → M Instance
name_value w s x (Some l) d = local_value x l
name_value w s x None (Some t) = w.value_of s t
name_value w s x None None = fail (OfName UnknownDecl x)

abbrev pub name_type : World → Name → Option Local → Option Symbol → M ShaderType
name_type w x (Some l) d = pure (local_type l)
name_type w x None (Some t) = w.value_type t
name_type w x None None = fail (OfName UnknownDecl x)

-- what is there where something is needed
abbrev pub needed : {A : Type 0} → Name → Option A → M A
needed f (Some x) = pure x
needed f None = fail (OfName Void f)

-- a function, else a constructor. A local can't be called
abbrev pub call_value : World → ShaderStage → Name → Option Local → Option Symbol → List Instance → M Instance
call_value w s f (Some l) d xs = fail (OfName NotCallable f)
call_value w s f None (Some g) xs = bind (w.result_of s g xs) (needed (w.printed g))
call_value w s f None None xs = bind (at_once (built_in_type f)) (λ t. construct f t xs)

abbrev pub call_type : World → Name → Option Local → Option Symbol → List ShaderType → M ShaderType
call_type w f (Some l) d ts = fail (OfName NotCallable f)
call_type w f None (Some g) ts = bind (w.result_type g) (needed (w.printed g))
call_type w f None None ts = bind (at_once (built_in_type f)) (λ t. construct_type f t ts)

-- a written type
abbrev pub denoted_type : World → Name → Option Symbol → M ShaderType
denoted_type w x (Some s) = fail (OfName NotType (w.printed s))
denoted_type w x None = at_once (built_in_type x)

abbrev pub type_written : World → Typ → M ShaderType
type_written w t = bind (at_once (plain_name w [] t)) (λ x. denoted_type w x (w.denotes x))

-- ---- expressions

-- the left operand, then the right one, unless the left one decides
abbrev pub between : ShaderStage → BinaryOperator → Instance → M Instance → M Instance
between s o x right = if decides o x then pure x else bind right (λ y. computed (binary_value s o x y))

-- left before right, arguments in order, the callee last (WGSL, "Program Order Within an Invocation"). The value may be a reference;
-- where it is used, it is what is stored there
abbrev mutual
  pub value : World → ShaderStage → Env → Exp → M Instance
  value w s env (literal l) = pure (literal_value l)
  value w s env (parenthesized e) = value w s env e
  value w s env (unary o e) = bind (bind (value w s env e) (operand o)) (λ x. computed (unary_value s o x))
  value w s env (binary o a b) = bind (bind (value w s env a) used) (λ x. between s o x (bind (value w s env b) used))
  value w s env (call f es) = bind (values w s env es) (λ xs. bind (at_once (plain_name w env f)) (λ g. call_value w s g (find g env) (w.denotes g) xs))
  value w s env (named t) = bind (at_once (plain_name w env t)) (λ x. name_value w s x (find x env) (w.denotes x))

  pub values : World → ShaderStage → Env → Exps → M (List Instance)
  values w s env nil = pure []
  values w s env (cons e es) = bind (bind (value w s env e) used) (λ x. bind (values w s env es) (λ xs. pure (x ∷ xs)))

-- typing never evaluates a name; both operands are typed
abbrev mutual
  pub typed : World → Env → Exp → M ShaderType
  typed w env (literal l) = pure (type_of (literal_value l))
  typed w env (parenthesized e) = typed w env e
  typed w env (unary o e) = bind (typed w env e) (λ t. computed (unary_type o (operand_type o t)))
  typed w env (binary o a b) = bind (typed w env a) (λ t. bind (typed w env b) (λ u. computed (binary_type o (loaded_type t) (loaded_type u))))
  typed w env (call f es) = bind (all_typed w env es) (λ ts. bind (at_once (plain_name w env f)) (λ g. call_type w g (find g env) (w.denotes g) ts))
  typed w env (named t) = bind (at_once (plain_name w env t)) (λ x. name_type w x (find x env) (w.denotes x))

  pub all_typed : World → Env → Exps → M (List ShaderType)
  all_typed w env nil = pure []
  all_typed w env (cons e es) = bind (typed w env e) (λ t. bind (all_typed w env es) (λ ts. pure (loaded_type t ∷ ts)))
