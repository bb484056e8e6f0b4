-- The lowered unit as code computes it, with values that are scalars. What it is, `Lowered` says.
use Rattle.std.specs.Prelude.{ℕ, List, [], ◌∷◌, ◌++◌, Option, Some, None, Bool, false, Result, Ok, Err}
use Rattle.core_syntax.specs.Tree.{Exp, Exps, literal, parenthesized, unary, binary, call, named, nil, cons, exps, Typ, Attr, fragment, location, Stm, returning, Block, Param, Decl, variable, function, UnitTree as Module}
use Rattle.wgsl_shader_type.specs.declared.literal.LiteralInstance.{LiteralInstance}
use Rattle.wgsl_scalar.specs.declared.scalar.ScalarType.{ScalarType}
use Rattle.wgsl_scalar.specs.declared.scalar.ScalarType.TheVariants.{Bool as Truth, Integer}
use Rattle.wgsl_scalar.specs.declared.scalar.IntegerType.TheVariants.{AbstractInt, I32, U32}
use Rattle.core_meaning.specs.declared.fault.Fault.{Fault}
use Rattle.core_meaning.specs.declared.fault.Fault.TheVariants.{StepLimit, Operation, Deferred, NegativeAttr, Name as Named}
use Rattle.core_meaning.specs.Values.{Checked, and_then}
use Rattle.core_meaning.specs.Outcome.{Outcome, Done, Failed, Deep}
pub use Rattle.core_written.specs.Lacking.{lacks_value, unless_fault, unless_const, lacks, const_value}
use Rattle.core_meaning.specs.Names.{Name, plain_name}
use Rattle.core_meaning.specs.Meaning.{Types, value, typed}
use Rattle.core_meaning.specs.ConstStage.{Scope, stage, module_scope, callee_of}
use Rattle.core_meaning.specs.Written.{written}
use Rattle.core_lower_expressions.specs.Cleared.{does_nothing, cleared}
use Rattle.core_written.specs.DeclarationFault.{DeclarationFault}
use Rattle.wgsl_base.specs.declared.items.error.OrOutOfMemory.{OrOutOfMemory}
use Rattle.wgsl_base.specs.declared.items.error.OrOutOfMemory.TheVariants.{Error, OutOfMemory}
use Rattle.core_written.specs.Start.{refused, then_more, consts_of}

-- ---- expressions

abbrev pub callee_here : Scope → Typ → Checked ScalarType
callee_here s f = and_then (plain_name f) (callee_of s)

-- outermost constant expressions are written as their values. A call that isn't constant is a constructor's; of functions it isn't
-- lowered yet
abbrev mutual
  pub lowered : Scope → Exp → Checked Exp
  lowered s (literal l) = unless_const (value (stage s) [] (literal l)) (Ok (literal l))
  lowered s (parenthesized e) = unless_const (value (stage s) [] (parenthesized e)) (and_then (lowered s e) (λ d. Ok (parenthesized d)))
  lowered s (unary o e) = unless_const (value (stage s) [] (unary o e)) (and_then (lowered s e) (λ d. Ok (unary o d)))
  lowered s (binary o a b) = unless_const (value (stage s) [] (binary o a b)) (and_then (lowered s a) (λ c. and_then (lowered s b) (λ d. Ok (binary o c d))))
  lowered s (call f es) = unless_const (value (stage s) [] (call f es)) (and_then (callee_here s f) (λ t. and_then (all_lowered s es) (λ ds. Ok (call f (exps ds)))))
  lowered s (named x) = unless_const (value (stage s) [] (named x)) (Ok (named x))

  pub all_lowered : Scope → Exps → Checked (List Exp)
  all_lowered s nil = Ok []
  all_lowered s (cons e es) = and_then (lowered s e) (λ d. and_then (all_lowered s es) (λ ds. Ok (d ∷ ds)))

-- the parts lowered, where the whole has no value
abbrev pub parts : Scope → Exp → Checked Exp
parts s (literal l) = Ok (literal l)
parts s (parenthesized e) = and_then (lowered s e) (λ d. Ok (parenthesized d))
parts s (unary o e) = and_then (lowered s e) (λ d. Ok (unary o d))
parts s (binary o a b) = and_then (lowered s a) (λ c. and_then (lowered s b) (λ d. Ok (binary o c d)))
parts s (call f es) = and_then (callee_here s f) (λ t. and_then (all_lowered s es) (λ ds. Ok (call f (exps ds))))
parts s (named x) = Ok (named x)

-- ---- what a function returns

-- an abstract number that is returned gets the constructor of the function's type
abbrev pub constructor_call : Typ → Exp → Outcome ScalarType → Checked Exp
constructor_call t e (Done (Integer AbstractInt) n) = Ok (call t (cons e nil))
constructor_call t e (Done (Integer I32) n) = Ok e
constructor_call t e (Done (Integer U32) n) = Ok e
constructor_call t e (Done Truth n) = Ok e
constructor_call t e (Failed f) = Err f
constructor_call t e Deep = Err StepLimit

abbrev pub converted_exp : Scope → Option Typ → Exp → Checked Exp
converted_exp s (Some t) e = constructor_call t e (typed (stage s) s.parameters e)
converted_exp s None e = Ok e

abbrev pub lowered_return : Scope → Option Typ → Exp → Checked Exp
lowered_return s t e = and_then (converted_exp s t e) (lowered s)

-- ---- functions

abbrev pub lowered_attribute : Scope → Attr → Checked Attr
lowered_attribute s fragment = Ok fragment
lowered_attribute s (location e) = and_then (lowered s e) (λ d. Ok (location d))

abbrev pub lowered_attributes : Scope → List Attr → Checked (List Attr)
lowered_attributes s [] = Ok []
lowered_attributes s (a ∷ rest) = and_then (lowered_attribute s a) (λ b. and_then (lowered_attributes s rest) (λ more. Ok (b ∷ more)))

-- a type that is evaluated
abbrev pub type_here : Scope → Typ → Checked ScalarType
type_here s t = and_then (plain_name t) (stage s).type_named

abbrev pub lowered_parameter : Scope → Param → Checked Param
lowered_parameter s p =
    and_then (lowered_attributes s p.attributes) (λ attributes. and_then (type_here s p.type) (λ t.
    Ok (record { attributes = attributes; name = p.name; type = p.type })))

abbrev pub lowered_parameters : Scope → List Param → Checked (List Param)
lowered_parameters s [] = Ok []
lowered_parameters s (p ∷ ps) = and_then (lowered_parameter s p) (λ q. and_then (lowered_parameters s ps) (λ more. Ok (q ∷ more)))

abbrev pub parameter_types : Scope → List Param → Checked Types
parameter_types s [] = Ok []
parameter_types s (p ∷ ps) = and_then (type_here s p.type) (λ t. and_then (parameter_types s ps) (λ more. Ok ((p.name, t) ∷ more)))

abbrev pub checked_type : Scope → Option Typ → Checked (Unit {0})
checked_type s None = Ok tt
checked_type s (Some t) = and_then (type_here s t) (λ u. Ok tt)

abbrev pub lowered_statement : Scope → Option Typ → Stm → Checked Stm
lowered_statement s t (returning attributes None) = and_then (lowered_attributes s attributes) (λ more. Ok (returning more None))
lowered_statement s t (returning attributes (Some e)) =
    and_then (lowered_attributes s attributes) (λ more. and_then (lowered_return s t e) (λ d. Ok (returning more (Some d))))

abbrev pub lowered_statements : Scope → Option Typ → List Stm → Checked (List Stm)
lowered_statements s t [] = Ok []
lowered_statements s t (x ∷ rest) = and_then (lowered_statement s t x) (λ y. and_then (lowered_statements s t rest) (λ others. Ok (y ∷ others)))

abbrev pub with_parameters : Scope → Types → Scope
with_parameters s ts = record { declared = s.declared; known = s.known; parameters = ts }

abbrev pub lowered_body : Scope → Option Typ → Block → Checked Block
lowered_body s t b =
    and_then (lowered_attributes s b.attributes) (λ attributes. and_then (lowered_statements s t b.statements) (λ statements.
    Ok (record { attributes = attributes; statements = statements })))

-- the attributes and the type of the result, and the body, after attributes and parameters; a body that is cleared is lowered first
abbrev pub lowered_rest : Scope → List Attr → Name → List Param → Types → List Attr → Option Typ → Block → Checked Decl
lowered_rest s attributes f parameters ts return_attributes type body =
    and_then (lowered_attributes s return_attributes) (λ rs. and_then (checked_type s type) (λ u. and_then (lowered_body (with_parameters s ts) type body) (λ b.
    Ok (function attributes f parameters rs type (cleared (does_nothing attributes parameters type) b)))))

-- in text order
abbrev pub lowered_function : Scope → List Attr → Name → List Param → List Attr → Option Typ → Block → Checked Decl
lowered_function s attributes f parameters return_attributes type body =
    and_then (lowered_attributes s attributes) (λ as'. and_then (lowered_parameters s parameters) (λ ps. and_then (parameter_types s parameters) (λ ts.
    lowered_rest s as' f ps ts return_attributes type body)))

-- a const stays as it is (it goes from the unit)
abbrev pub lowered_declaration : Scope → Decl → Checked Decl
lowered_declaration s (variable attributes kind x type e) = Ok (variable attributes kind x type e)
lowered_declaration s (function attributes f parameters return_attributes type body) = lowered_function s attributes f parameters return_attributes type body

-- ---- units

abbrev pub refusing : {A : Type 0} → Name → Checked A → Result A DeclarationFault
refusing x (Ok v) = Ok v
refusing x (Err f) = Err (refused x f)

abbrev pub lowered_declarations : Scope → List Decl → Result (List Decl) DeclarationFault
lowered_declarations s [] = Ok []
lowered_declarations s (variable attributes kind x type e ∷ ds) = lowered_declarations s ds
lowered_declarations s (function attributes f parameters return_attributes type body ∷ ds) =
    then_more (refusing f (lowered_function s attributes f parameters return_attributes type body)) (λ d. then_more (lowered_declarations s ds) (λ more. Ok (d ∷ more)))

-- the unit of the rewritten functions
abbrev pub lowered_under : Scope → List Decl → Result Module DeclarationFault
lowered_under s ds = then_more (lowered_declarations s ds) (λ low. Ok (record { imports = []; declarations = low }))

-- first the consts at these positions get their values, one after another, then functions are rewritten, in text order; the refusal
-- is the first
abbrev pub lowered_after : List ℕ → Module → Result Module DeclarationFault
lowered_after order u =
    then_more (consts_of u.declarations order) (λ cs. lowered_under (module_scope u.declarations cs) u.declarations)

-- ---- what code tests and keeps

abbrev pub written_or : Checked Exp → Option LiteralInstance → Checked Exp
written_or parts (Some v) = Ok (written v)
written_or parts None = parts

-- these first
abbrev pub prepended : {A : Type 0} → List A → Checked (List A) → Checked (List A)
prepended ds (Ok es) = Ok (ds ++ es)
prepended ds (Err f) = Err f

abbrev pub pushed : Scope → List Decl → Decl → Result (List Decl) DeclarationFault
pushed s done (variable attributes kind x type e) = Ok done
pushed s done (function attributes f parameters return_attributes type body) =
    then_more (refusing f (lowered_function s attributes f parameters return_attributes type body)) (λ d. Ok (done ++ d ∷ []))

abbrev pub all_pushed : Scope → List Decl → List Decl → Result (List Decl) DeclarationFault
all_pushed s done [] = Ok done
all_pushed s done (d ∷ ds) = then_more (pushed s done d) (λ more. all_pushed s more ds)
