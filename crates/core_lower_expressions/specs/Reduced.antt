-- What one walk gives: the value of an expression, if it has one, and what is written for it.
use Rattle.std.specs.Prelude.{List, [], ◌∷◌, ◌++◌, map, Option, Some, None, Bool, false, Result, Ok, Err}
use Rattle.wgsl_words.specs.declared.operators.UnaryOperator.{UnaryOperator}
use Rattle.wgsl_words.specs.declared.operators.BinaryOperator.{BinaryOperator}
use Rattle.core_syntax.specs.Tree.{Exp, Exps, parenthesized, unary, binary, call, exps, Typ}
use Rattle.core_syntax.specs.View.{node_tree}
use Rattle.wgsl_words.specs.declared.enumerations.words.ShaderStage.TheVariants.{Const}
use Rattle.wgsl_shader_type.specs.declared.literal.LiteralInstance.{LiteralInstance}
use Rattle.wgsl_shader_type.specs.declared.error.Error.{Error}
use Rattle.wgsl_scalar.specs.Operators.{unary_value, binary_value}
use Rattle.core_meaning.specs.declared.fault.Fault.TheVariants.{StepLimit, Operation}
use Rattle.core_meaning.specs.Values.{Checked, and_then, decides}
use Rattle.core_meaning.specs.Outcome.{Outcome, Done, Failed, Deep}
use Rattle.core_meaning.specs.Names.{Name, plain_name}
use Rattle.core_meaning.specs.Meaning.{value, values}
use Rattle.core_meaning.specs.ConstStage.{Scope, stage, callee_of}
use Rattle.core_meaning.specs.Written.{written}
pub use Rattle.core_written.specs.Reduced.{Reduced, known, rewritten, reduction, reduced_to}
use Rattle.core_lower_expressions.specs.declared.expression.Arguments.{Arguments}
use Rattle.core_lower_expressions.specs.Computed.{const_value, lowered, all_lowered}

pub record AllReduced : Type 0 where
  pub values : Option (List LiteralInstance)
  pub texts : List Exp

abbrev pub reductions : Arguments → AllReduced
reductions a = record { values = a.values; texts = map node_tree a.nodes }

-- ---- expressions

abbrev pub reduced : Scope → Exp → Checked Reduced
reduced s e = reduced_to (const_value (value (stage s) [] e)) (lowered s e)

abbrev pub all_reduced_to : Checked (Option (List LiteralInstance)) → Checked (List Exp) → Checked AllReduced
all_reduced_to v d = and_then v (λ o. and_then d (λ es. Ok (record { values = o; texts = es })))

abbrev pub all_reduced : Scope → Exps → Checked AllReduced
all_reduced s es = all_reduced_to (const_value (values (stage s) [] es)) (all_lowered s es)

-- ---- from the parts to the whole

abbrev pub parenthesized_by : Option LiteralInstance → Exp → Reduced
parenthesized_by (Some v) d = record { value = Some v; text = d }
parenthesized_by None d = rewritten (parenthesized d)

abbrev pub in_parentheses : Reduced → Reduced
in_parentheses x = parenthesized_by x.value x.text

-- an operation's value, or its error as the fault
abbrev pub operated : Result LiteralInstance Error → Checked LiteralInstance
operated (Ok v) = Ok v
operated (Err f) = Err (Operation f)

abbrev pub unary_by : UnaryOperator → Option LiteralInstance → Exp → Checked Reduced
unary_by o (Some v) d = and_then (operated (unary_value Const o v)) (λ w. Ok (known w))
unary_by o None d = Ok (rewritten (unary o d))

abbrev pub under_operator : UnaryOperator → Reduced → Checked Reduced
under_operator o x = unary_by o x.value x.text

abbrev pub decided_by : BinaryOperator → Option LiteralInstance → Bool
decided_by o (Some v) = decides o v
decided_by o None = false

abbrev pub binary_by : BinaryOperator → Option LiteralInstance → Option LiteralInstance → Exp → Exp → Checked Reduced
binary_by o (Some v) (Some w) c d = and_then (operated (binary_value Const o v w)) (λ z. Ok (known z))
binary_by o (Some v) None c d = Ok (rewritten (binary o c d))
binary_by o None y c d = Ok (rewritten (binary o c d))

abbrev pub between_operands : BinaryOperator → Reduced → Reduced → Checked Reduced
between_operands o x y = binary_by o x.value y.value x.text y.text

-- the callee of a constructor
abbrev pub constructor_name : Scope → Typ → Checked Name
constructor_name s t = and_then (plain_name t) (λ f. and_then (callee_of s f) (λ u. Ok f))

-- what an outcome says, without its steps
abbrev pub ended : {A : Type 0} → Outcome A → Checked A
ended (Done v n) = Ok v
ended (Failed f) = Err f
ended Deep = Err StepLimit

abbrev pub called_by : Scope → Name → Typ → Option (List LiteralInstance) → List Exp → Checked Reduced
called_by s f t (Some vs) ds = and_then (ended ((stage s).result_of f vs)) (λ v. Ok (known v))
called_by s f t None ds = Ok (rewritten (call t (exps ds)))

abbrev pub of_arguments : Scope → Name → Typ → AllReduced → Checked Reduced
of_arguments s f t xs = called_by s f t xs.values xs.texts

-- ---- the arguments of a call, one after another

abbrev pub valued_too : List LiteralInstance → Option LiteralInstance → Option (List LiteralInstance)
valued_too vs (Some v) = Some (vs ++ v ∷ [])
valued_too vs None = None

abbrev pub all_valued : Option (List LiteralInstance) → Option LiteralInstance → Option (List LiteralInstance)
all_valued (Some vs) o = valued_too vs o
all_valued None o = None

abbrev pub with_argument : AllReduced → Reduced → AllReduced
with_argument xs x = record { values = all_valued xs.values x.value; texts = xs.texts ++ x.text ∷ [] }

abbrev pub joined_values : Option (List LiteralInstance) → Option (List LiteralInstance) → Option (List LiteralInstance)
joined_values (Some vs) (Some ws) = Some (vs ++ ws)
joined_values (Some vs) None = None
joined_values None o = None

-- these before more
abbrev pub before_more : AllReduced → Checked AllReduced → Checked AllReduced
before_more xs more = and_then more (λ ys. Ok (record { values = joined_values xs.values ys.values; texts = xs.texts ++ ys.texts }))
