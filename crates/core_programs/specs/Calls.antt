-- Declared values, and calls of functions: parameters, bodies and what they hand back (WGSL, "Function Calls").
use Rattle.std.specs.Prelude.{List, [], ◌∷◌, length, ◌==◌, Option, Some, None, if◌then◌else◌}
use Rattle.core_syntax.specs.Tree.{Exp, Typ, Stm, returning, Param, Decl, variable, function}
use Rattle.wgsl_words.specs.declared.enumerations.words.ShaderStage.{ShaderStage}
use Rattle.wgsl_words.specs.declared.enumerations.words.ShaderStage.TheVariants.{Const}
use Rattle.wgsl_shader_type.specs.declared.tree.ShaderType.{ShaderType}
use Rattle.wgsl_shader_type.specs.Rank.{converts}
use Rattle.wgsl_instance.specs.declared.tree.Instance.{Instance}
use Rattle.wgsl_instance.specs.Converted.{converted}
use Rattle.wgsl_instance.specs.Typed.{type_of}
use Rattle.core_computations.specs.Machine.{pure, fail, bind, scoped}
use Rattle.core_computations.specs.Loops.{Flow, Next, Broke, Goes, Returned}
use Rattle.core_programs.specs.Faults.{OfName, UnknownDecl, UninitConst, NotCallable, ParamCount, NoReturn, UnexpectedReturn, ReturnType}
use Rattle.core_programs.specs.Computing.{M, computed, used, step}
use Rattle.core_programs.specs.Names.{Name, Has, Env}
use Rattle.core_programs.specs.Operations.{argument}
use Rattle.core_programs.specs.Meaning.{World, type_written, value, typed}

-- ---- consts (WGSL, "const Declarations")

-- the value of an initializer, converted to a written type, or of its own type
abbrev pub initial : World → Option Typ → Exp → M Instance
initial w (Some t) e = bind (type_written w t) (λ u. bind (bind (value w Const [] e) used) (λ x. computed (converted x u)))
initial w None e = bind (typed w [] e) (λ u. bind (value w Const [] e) used)

abbrev pub initialized : World → Name → Option Typ → Option Exp → M Instance
initialized w x type (Some e) = initial w type e
initialized w x type None = fail (OfName UninitConst x)

abbrev pub const_in : World → Name → Option Decl → M Instance
const_in w x (Some (variable attributes kind y type e)) = initialized w x type e
const_in w x (Some (function attributes f parameters return_attributes type body)) = fail (OfName UnknownDecl x)
const_in w x None = fail (OfName UnknownDecl x)

-- ---- functions

-- the parameters take the values, each converted to the parameter's type
abbrev pub bound : World → List Param → List Instance → M Env
bound w [] xs = pure []
bound w (p ∷ ps) [] = pure []
bound w (p ∷ ps) (x ∷ xs) =
    bind (type_written w p.type) (λ t. bind (computed (argument t x)) (λ y. bind (bound w ps xs) (λ env. pure ((p.name, Has y) ∷ env))))

abbrev pub converted_return : Name → ShaderType → Instance → M (Option Instance)
converted_return f t x = if converts (type_of x) t then bind (computed (converted x t)) (λ y. pure (Some y)) else fail (OfName (ReturnType (type_of x) t) f)

-- what is handed back, converted to the function's type
abbrev pub handed_back : Name → Option ShaderType → Option Instance → M (Option Instance)
handed_back f None None = pure None
handed_back f None (Some x) = fail (OfName (UnexpectedReturn (type_of x)) f)
handed_back f (Some t) None = fail (OfName (NoReturn t) f)
handed_back f (Some t) (Some x) = converted_return f t x

-- the value of a `return`
abbrev pub returned : World → ShaderStage → Name → Option ShaderType → Env → Exp → M (Option Instance)
returned w s f t env e = bind (bind (value w s env e) used) (λ x. handed_back f t (Some x))

-- how the statements of a function of this type end
abbrev pub executed : World → ShaderStage → Name → Option ShaderType → Env → List Stm → M Flow
executed w s f t env [] = pure Next
executed w s f t env (returning attributes None ∷ rest) = bind (handed_back f t None) (λ y. pure (Returned y))
executed w s f t env (returning attributes (Some e) ∷ rest) = bind (returned w s f t env e) (λ y. pure (Returned y))

-- a body that ends without a `return` hands back nothing
abbrev pub ended : Name → Option ShaderType → Flow → M (Option Instance)
ended f t (Returned x) = pure x
ended f t Next = handed_back f t None
ended f t Broke = handed_back f t None
ended f t Goes = handed_back f t None

abbrev pub written_result : World → Option Typ → M (Option ShaderType)
written_result w None = pure None
written_result w (Some t) = bind (type_written w t) (λ u. pure (Some u))

abbrev pub body_of : World → ShaderStage → Name → Option Typ → List Stm → Env → M (Option Instance)
body_of w s f type body env = bind (written_result w type) (λ t. bind (executed w s f t env body) (ended f t))

-- A call is a step. What its locals are stored in goes at its end
abbrev pub call_in : World → ShaderStage → Name → Option Decl → List Instance → M (Option Instance)
call_in w s f (Some (function attributes g parameters return_attributes type body)) xs =
    if length xs == length parameters then bind step (λ _. scoped (bind (bound w parameters xs) (body_of w s f type body.statements)))
    else fail (OfName (ParamCount (length parameters) (length xs)) f)
call_in w s f (Some (variable attributes kind x type e)) xs = fail (OfName NotCallable f)
call_in w s f None xs = fail (OfName NotCallable f)

abbrev pub result_in : World → Name → Option Decl → M (Option ShaderType)
result_in w f (Some (function attributes g parameters return_attributes type body)) = written_result w type
result_in w f (Some (variable attributes kind x type e)) = fail (OfName NotCallable f)
result_in w f None = fail (OfName NotCallable f)
