-- What code computes on scalars is the lowered unit as it is defined over the meaning of programs, refusal for refusal.
use Rattle.std.proofs.Common.{◌≡◌, ℕ, suc, List, [], ◌∷◌, ◌++◌, Option, Some, None, Bool, true, false, Result, Ok, Err, refl, sym, ap, ◌∙◌, subst}
use Rattle.std.specs.Prelude.{slice_get, if◌then◌else◌}
use Rattle.std.specs.Str.{bytes_eq}
use Rattle.std.specs.Cmp.Lexicographic.{same_text}
use Rattle.core_syntax.specs.Tree.{Exp, Exps, literal, parenthesized, unary, binary, call, named, nil, cons, exps, Typ, simple, templated, Attr, fragment, location, Stm, returning, Block, Param, Decl, variable, function, UnitTree as Module}
use Rattle.core_syntax.specs.declared.declaration.DeclarationKind.{DeclarationKind}
use Rattle.core_syntax.specs.Names.{declared_name}
use Rattle.wgsl_words.specs.declared.enumerations.words.ShaderStage.TheVariants.{Const}
use Rattle.wgsl_shader_type.specs.declared.literal.LiteralInstance.{LiteralInstance}
use Rattle.wgsl_shader_type.specs.declared.tree.ShaderType.{ShaderType, map-ShaderType, fold_out-ShaderType}
use Rattle.wgsl_shader_type.specs.declared.tree.ShaderType.TheVariants as type
use Rattle.wgsl_shader_type.specs.Class.{is_abstract, abstract_layer}
use Rattle.wgsl_scalar.specs.declared.scalar.ScalarType.{ScalarType}
use Rattle.wgsl_scalar.specs.declared.scalar.ScalarType.TheVariants.{Bool as Truth, Integer}
use Rattle.wgsl_scalar.specs.declared.scalar.IntegerType.TheVariants.{AbstractInt, I32, U32}
use Rattle.wgsl_scalar.specs.Scalars.{scalar_type}
use Rattle.wgsl_scalar.specs.Conversions as conversions
use Rattle.wgsl_instance.specs.declared.tree.Instance.TheVariants as v
use Rattle.wgsl_instance.specs.Converted.{converted}
use Rattle.core_computations.specs.Machine.{fail, bind}
use Rattle.core_meaning.specs.Outcome.{Outcome, Done, Failed, Deep}
use Rattle.core_meaning.specs.Outcome as plain
use Rattle.core_meaning.specs.Values.{Checked, and_then}
use Rattle.core_meaning.specs.Names as plain_names
use Rattle.core_meaning.specs.Meaning as plain_meaning
use Rattle.core_meaning.specs.Meaning.{Types}
use Rattle.core_meaning.specs.ConstStage.{Consts, Scope, stage, module_scope, callee_at, Settled, nothing}
use Rattle.core_lower_expressions.specs.Faults.{StepLimit, OfName, UnexpectedTemplate, UninitConst}
use Rattle.core_lower_expressions.specs.Computing.{M, computed, used}
use Rattle.core_lower_expressions.specs.Names.{Name, Hidden, Env}
use Rattle.core_lower_expressions.specs.Meaning.{World, type_written, value, typed}
use Rattle.core_lower_expressions.specs.Calls.{initialized}
use Rattle.core_lower_expressions.specs.Programs.{Known, here}
use Rattle.core_lower_expressions.specs.Runs.{find_decl, here_if}
use Rattle.core_lower_expressions.proofs.Scalars.{converted_scalar, IsInRange}
use Rattle.core_eval.specs.declared.error.DeclarationFault.{DeclarationFault}
use Rattle.core_eval.specs.Start.{then_more, added, valued, valued_at, all_valued, consts_of}
use Rattle.core_lower_expressions.specs.Cleared.{does_nothing, cleared}
use Rattle.core_lower_expressions.specs.Lowered.{given, written_layer, unless_const, constructed_by, constructed_type, constructor_call, in_declaration, unit_world, started_const, started_at, started_consts}
use Rattle.core_lower_expressions.specs.Lowered as means
use Rattle.core_lower_expressions.specs.Computed as code
use Rattle.core_lower.proofs.Computes.{as_value, lift, lift_after, lift_bind, lift_used, lift_computed}
use Rattle.core_lower.proofs.Worlds.{same_decl, hidden_locals, if_hidden, known_of, typed_or, built_is, type_written_is, AreDeclared, told_in, local_is, scope_means, scope_types}
use Rattle.core_lower.proofs.Differs.{type_is}
use Rattle.core_lower.proofs.Meets.{concrete_of}
use Rattle.core_lower.proofs.Starts.{in_range, declared_of}
use Rattle.core_lower.proofs.Runs.{settled_at, settled}

-- ---- what is given within some steps, where none is taken

-- an end on scalars as a value or a fault
abbrev pub checked_of : {A B : Type 0} → (A → B) → Outcome A → Checked B
checked_of view (Done x n) = Ok (view x)
checked_of view (Failed f) = Err f
checked_of view Deep = Err StepLimit

given_is : {A B : Type 0} (steps : ℕ) (view : A → B) (o : Outcome A) → given steps (lift view o) ≡ checked_of view o
given_is steps view (Done x n) = refl
given_is steps view (Failed f) = refl
given_is steps view Deep = refl

at_once_is : (r : Checked ScalarType) → checked_of scalar_type (plain.at_once r) ≡ typed_or r
at_once_is (Ok t) = refl
at_once_is (Err f) = refl

-- what goes on without looking at the type
past_type : {A : Type 0} (r : Checked ScalarType) (x : Checked A) → and_then (typed_or r) (λ t. x) ≡ and_then r (λ t. x)
past_type (Ok t) x = refl
past_type (Err f) x = refl

-- a value that is written, or the parts
unless_same : (e : Exp) (o : Outcome LiteralInstance) (p : Checked Exp) → unless_const e (checked_of as_value o) p ≡ code.unless_const o p
unless_same e (Done x n) p = λ k. Ok (written_layer e (v.outs-Literal x k))
unless_same e (Failed f) p = refl
unless_same e Deep p = refl

-- a number without a type
abbrev is_number : ScalarType → Bool
is_number (Integer AbstractInt) = true
is_number t = false

-- of the scalars one type is abstract
abstract_scalar : (t : ScalarType) → is_abstract (scalar_type t) ≡ is_number t
abstract_scalar Truth = fold_out-ShaderType Bool abstract_layer type.Bool ∙ (λ k. abstract_layer (map-ShaderType ShaderType Bool is_abstract (type.outs-Bool k)))
abstract_scalar (Integer AbstractInt) = fold_out-ShaderType Bool abstract_layer type.AbstractInt ∙ (λ k. abstract_layer (map-ShaderType ShaderType Bool is_abstract (type.outs-AbstractInt k)))
abstract_scalar (Integer I32) = fold_out-ShaderType Bool abstract_layer type.I32 ∙ (λ k. abstract_layer (map-ShaderType ShaderType Bool is_abstract (type.outs-I32 k)))
abstract_scalar (Integer U32) = fold_out-ShaderType Bool abstract_layer type.U32 ∙ (λ k. abstract_layer (map-ShaderType ShaderType Bool is_abstract (type.outs-U32 k)))

constructor_same : (t : Typ) (e : Exp) (o : Outcome ScalarType) → constructor_call t e (checked_of scalar_type o) ≡ code.constructor_call t e o
constructor_same t e (Done Truth n) = ap (λ b. if b then Ok (call t (cons e nil)) else Ok e) (abstract_scalar Truth)
constructor_same t e (Done (Integer AbstractInt) n) = ap (λ b. if b then Ok (call t (cons e nil)) else Ok e) (abstract_scalar (Integer AbstractInt))
constructor_same t e (Done (Integer I32) n) = ap (λ b. if b then Ok (call t (cons e nil)) else Ok e) (abstract_scalar (Integer I32))
constructor_same t e (Done (Integer U32) n) = ap (λ b. if b then Ok (call t (cons e nil)) else Ok e) (abstract_scalar (Integer U32))
constructor_same t e (Failed f) = refl
constructor_same t e Deep = refl

in_declaration_is : {A : Type 0} (x : Name) (o : Checked A) → in_declaration x o ≡ code.refusing x o
in_declaration_is x (Ok y) = refl
in_declaration_is x (Err f) = refl

-- the locals of parameters, or a fault
abbrev hidden_or : Checked Types → Checked Env
hidden_or (Ok ts) = Ok (hidden_locals ts)
hidden_or (Err f) = Err f

past_locals : {A : Type 0} (r : Checked Types) (f : Env → Checked A) → and_then (hidden_or r) f ≡ and_then r (λ ts. f (hidden_locals ts))
past_locals (Ok ts) f = refl
past_locals (Err e) f = refl

-- known consts, or a refusal
abbrev pub known_or : Result Consts DeclarationFault → Result Known DeclarationFault
known_or (Ok cs) = Ok (known_of cs)
known_or (Err r) = Err r

-- one const more
known_more : (cs : Consts) (x : Name) (z : LiteralInstance) → known_of cs ++ (here x, v.Literal z) ∷ [] ≡ known_of (cs ++ (x, z) ∷ [])
known_more [] x z = refl
known_more (c ∷ cs) x z = ap (λ l. (here c.0, v.Literal c.1) ∷ l) (known_more cs x z)

-- what is found under a name has it
name_of : (x : Name) (ds : List Decl) (d : Decl) → plain_names.find_decl x ds ≡ Some d → x ≡ declared_name d
name_of x [] d h = absurd (cc)
name_of x (e ∷ ds) d h = at (bytes_eq x (declared_name e)) refl h (name_of x ds d)
  where
    at : (b : Bool) → bytes_eq x (declared_name e) ≡ b → (if b then Some e else plain_names.find_decl x ds) ≡ Some d → (plain_names.find_decl x ds ≡ Some d → x ≡ declared_name d) → x ≡ declared_name d
    at true is k go = let same : e ≡ d = cc in same_text x (declared_name e) (sym is) ∙ ap declared_name same
    at false is k go = go k

module _ (ds : List Decl) (cs : Consts) (declared : AreDeclared ds cs) (steps : ℕ) where
  abbrev s : Types → Scope
  s ts = record { declared = λ x. plain_names.find_decl x ds; known = λ x. plain_names.find x cs; parameters = ts }

  abbrev w : World
  w = unit_world steps ds (known_of cs)

  -- ---- expressions

  value_is : (ts : Types) (e : Exp) → given steps (value w Const (hidden_locals ts) e) ≡ checked_of as_value (plain_meaning.value (stage (s ts)) [] e)
  value_is ts e = ap (given steps) (scope_means ds cs declared ts (suc steps) e) ∙ given_is steps as_value (plain_meaning.value (stage (s ts)) [] e)

  constructed_at : (f : Name) (t : Option ScalarType) (d : Option Decl) → constructed_by w f (if_hidden t) (here_if f d) ≡ typed_or (callee_at f t d)
  constructed_at f (Some t) d = refl
  constructed_at f None (Some d) = refl
  constructed_at f None None = built_is f

  constructed_is : (ts : Types) (f : Typ) → constructed_type w (hidden_locals ts) f ≡ typed_or (code.callee_here (s ts) f)
  constructed_is ts (simple None f) =
      ap (λ l. constructed_by w f l (here_if f (find_decl f ds))) (local_is ds cs declared ts (suc steps) f (plain_names.find f ts) refl)
      ∙ ap (λ d. constructed_by w f (if_hidden (plain_names.find f ts)) (here_if f d)) (sym (same_decl f ds))
      ∙ constructed_at f (plain_names.find f ts) (plain_names.find_decl f ds)
  constructed_is ts (simple (Some path) f) = refl
  constructed_is ts (templated None f arguments) = ap (λ y. Err (OfName UnexpectedTemplate y)) (told_in ds cs declared ts (suc steps) f)
  constructed_is ts (templated (Some path) f arguments) = refl

  -- the whole, where its parts are the same
  whole : (ts : Types) (e : Exp) (p q : Checked Exp) → p ≡ q → unless_const e (given steps (value w Const (hidden_locals ts) e)) p ≡ code.unless_const (plain_meaning.value (stage (s ts)) [] e) q
  whole ts e p q same =
      (λ k. unless_const e (value_is ts e k) (same k)) ∙ unless_same e (plain_meaning.value (stage (s ts)) [] e) q

  mutual
    pub lowered_same : (ts : Types) (e : Exp) → means.lowered steps w (hidden_locals ts) e ≡ code.lowered (s ts) e
    lowered_same ts (literal l) = whole ts (literal l) (Ok (literal l)) (Ok (literal l)) refl
    lowered_same ts (parenthesized e) = whole ts (parenthesized e) _ _ (ap (λ o. and_then o (λ d. Ok (parenthesized d))) (lowered_same ts e))
    lowered_same ts (unary o e) = whole ts (unary o e) _ _ (ap (λ q. and_then q (λ d. Ok (unary o d))) (lowered_same ts e))
    lowered_same ts (binary o a b) =
        whole ts (binary o a b) _ _ (λ k. and_then (lowered_same ts a k) (λ c. and_then (lowered_same ts b k) (λ d. Ok (binary o c d))))
    lowered_same ts (call f es) =
        whole ts (call f es) _ _
        ((λ k. and_then (constructed_is ts f k) (λ t. and_then (all_lowered_same ts es k) (λ xs. Ok (call f (exps xs)))))
        ∙ past_type (code.callee_here (s ts) f) (and_then (code.all_lowered (s ts) es) (λ xs. Ok (call f (exps xs)))))
    lowered_same ts (named x) = whole ts (named x) (Ok (named x)) (Ok (named x)) refl

    all_lowered_same : (ts : Types) (es : Exps) → means.all_lowered steps w (hidden_locals ts) es ≡ code.all_lowered (s ts) es
    all_lowered_same ts nil = refl
    all_lowered_same ts (cons e es) = λ k. and_then (lowered_same ts e k) (λ d. and_then (all_lowered_same ts es k) (λ xs. Ok (d ∷ xs)))

  converted_same : (ts : Types) (t : Option Typ) (e : Exp) → means.converted_exp steps w (hidden_locals ts) t e ≡ code.converted_exp (s ts) t e
  converted_same ts (Some t) e =
      ap (λ m. constructor_call t e (given steps m)) (scope_types ds cs declared ts (suc steps) e)
      ∙ ap (constructor_call t e) (given_is steps scalar_type (plain_meaning.typed (stage (s ts)) ts e))
      ∙ constructor_same t e (plain_meaning.typed (stage (s ts)) ts e)
  converted_same ts None e = refl

  return_same : (ts : Types) (t : Option Typ) (e : Exp) → means.lowered_return steps w (hidden_locals ts) t e ≡ code.lowered_return (s ts) t e
  return_same ts t e = λ k. and_then (converted_same ts t e k) (λ d. lowered_same ts d k)

  -- ---- functions

  attribute_same : (ts : Types) (a : Attr) → means.lowered_attribute steps w (hidden_locals ts) a ≡ code.lowered_attribute (s ts) a
  attribute_same ts fragment = refl
  attribute_same ts (location e) = ap (λ o. and_then o (λ d. Ok (location d))) (lowered_same ts e)

  attributes_same : (ts : Types) (as' : List Attr) → means.lowered_attributes steps w (hidden_locals ts) as' ≡ code.lowered_attributes (s ts) as'
  attributes_same ts [] = refl
  attributes_same ts (a ∷ rest) = λ k. and_then (attribute_same ts a k) (λ b. and_then (attributes_same ts rest k) (λ more. Ok (b ∷ more)))

  type_same : (t : Typ) → means.type_here steps w t ≡ typed_or (code.type_here (s []) t)
  type_same t =
      ap (given steps) (type_written_is ds w (λ x. refl) (λ x. refl) t)
      ∙ given_is steps scalar_type (plain.at_once (code.type_here (s []) t)) ∙ at_once_is (code.type_here (s []) t)

  parameter_same : (p : Param) → means.lowered_parameter steps w p ≡ code.lowered_parameter (s []) p
  parameter_same p = λ k. and_then (attributes_same [] p.attributes k) (λ as'. (typed_past as') k)
    where
      typed_past : (as' : List Attr) → and_then {B = Param} (means.type_here steps w p.type) (λ t. Ok (record { attributes = as'; name = p.name; type = p.type }))
          ≡ and_then {B = Param} (code.type_here (s []) p.type) (λ t. Ok (record { attributes = as'; name = p.name; type = p.type }))
      typed_past as' =
          ap (λ o. and_then {B = Param} o (λ t. Ok (record { attributes = as'; name = p.name; type = p.type }))) (type_same p.type)
          ∙ past_type (code.type_here (s []) p.type) (Ok (record { attributes = as'; name = p.name; type = p.type }))

  parameters_same : (ps : List Param) → means.lowered_parameters steps w ps ≡ code.lowered_parameters (s []) ps
  parameters_same [] = refl
  parameters_same (p ∷ ps) = λ k. and_then (parameter_same p k) (λ q. and_then (parameters_same ps k) (λ more. Ok (q ∷ more)))

  locals_step : (x : Name) (r : Checked ScalarType) (o : Checked Types)
      → and_then (typed_or r) (λ t. and_then (hidden_or o) (λ more. Ok ((x, Hidden t) ∷ more)))
      ≡ hidden_or (and_then r (λ t. and_then o (λ more. Ok ((x, t) ∷ more))))
  locals_step x (Ok t) (Ok more) = refl
  locals_step x (Ok t) (Err f) = refl
  locals_step x (Err f) o = refl

  locals_same : (ps : List Param) → means.parameter_locals steps w ps ≡ hidden_or (code.parameter_types (s []) ps)
  locals_same [] = refl
  locals_same (p ∷ ps) =
      (λ k. and_then (type_same p.type k) (λ t. and_then (locals_same ps k) (λ more. Ok ((p.name, Hidden t) ∷ more))))
      ∙ locals_step p.name (code.type_here (s []) p.type) (code.parameter_types (s []) ps)

  checked_same : (t : Option Typ) → means.checked_type steps w t ≡ code.checked_type (s []) t
  checked_same None = refl
  checked_same (Some t) = ap (λ o. and_then o (λ u. Ok tt)) (type_same t) ∙ past_type (code.type_here (s []) t) (Ok tt)

  statement_same : (ts : Types) (t : Option Typ) (x : Stm) → means.lowered_statement steps w (hidden_locals ts) t x ≡ code.lowered_statement (s ts) t x
  statement_same ts t (returning attributes None) = ap (λ o. and_then o (λ more. Ok (returning more None))) (attributes_same ts attributes)
  statement_same ts t (returning attributes (Some e)) =
      λ k. and_then (attributes_same ts attributes k) (λ more. and_then (return_same ts t e k) (λ d. Ok (returning more (Some d))))

  statements_same : (ts : Types) (t : Option Typ) (xs : List Stm) → means.lowered_statements steps w (hidden_locals ts) t xs ≡ code.lowered_statements (s ts) t xs
  statements_same ts t [] = refl
  statements_same ts t (x ∷ rest) = λ k. and_then (statement_same ts t x k) (λ y. and_then (statements_same ts t rest k) (λ others. Ok (y ∷ others)))

  body_same : (ts : Types) (t : Option Typ) (b : Block) → means.lowered_body steps w (hidden_locals ts) t b ≡ code.lowered_body (s ts) t b
  body_same ts t b =
      λ k. and_then (attributes_same ts b.attributes k) (λ attributes. and_then (statements_same ts t b.statements k) (λ statements. Ok (record { attributes = attributes; statements = statements })))

  rest_same : (as' : List Attr) (f : Name) (ps : List Param) (ts : Types) (rs : List Attr) (t : Option Typ) (b : Block)
      → and_then (means.lowered_attributes steps w [] rs) (λ qs. and_then (means.checked_type steps w t) (λ u. and_then (means.lowered_body steps w (hidden_locals ts) t b) (λ c. Ok (function as' f ps qs t (cleared (does_nothing as' ps t) c)))))
      ≡ code.lowered_rest (s []) as' f ps ts rs t b
  rest_same as' f ps ts rs t b =
      λ k. and_then (attributes_same [] rs k) (λ qs. and_then (checked_same t k) (λ u. and_then (body_same ts t b k) (λ c. Ok (function as' f ps qs t (cleared (does_nothing as' ps t) c)))))

  abbrev under : Name → List Attr → Option Typ → Block → List Attr → List Param → Env → Checked Decl
  under f rs t b bs qs env =
      and_then (means.lowered_attributes steps w [] rs) (λ ys. and_then (means.checked_type steps w t) (λ u. and_then (means.lowered_body steps w env t b) (λ c. Ok (function bs f qs ys t (cleared (does_nothing bs qs t) c)))))

  inside_same : (f : Name) (ps : List Param) (rs : List Attr) (t : Option Typ) (b : Block) (bs : List Attr) (qs : List Param)
      → and_then (means.parameter_locals steps w ps) (under f rs t b bs qs) ≡ and_then (code.parameter_types (s []) ps) (λ ts. code.lowered_rest (s []) bs f qs ts rs t b)
  inside_same f ps rs t b bs qs =
      ap (λ o. and_then o (under f rs t b bs qs)) (locals_same ps) ∙ past_locals (code.parameter_types (s []) ps) (under f rs t b bs qs)
      ∙ (λ k. and_then (code.parameter_types (s []) ps) (λ ts. rest_same bs f qs ts rs t b k))

  function_same : (as' : List Attr) (f : Name) (ps : List Param) (rs : List Attr) (t : Option Typ) (b : Block) → means.lowered_function steps w as' f ps rs t b ≡ code.lowered_function (s []) as' f ps rs t b
  function_same as' f ps rs t b =
      λ k. and_then (attributes_same [] as' k) (λ bs. and_then (parameters_same ps k) (λ qs. (inside_same f ps rs t b bs qs) k))

  declarations_same : (xs : List Decl) → means.lowered_declarations steps w xs ≡ code.lowered_declarations (s []) xs
  declarations_same [] = refl
  declarations_same (variable attributes kind x type e ∷ xs) = declarations_same xs
  declarations_same (function as' f ps rs t b ∷ xs) =
      (λ k. then_more (in_declaration f (function_same as' f ps rs t b k)) (λ d. then_more (declarations_same xs k) (λ more. Ok (d ∷ more))))
      ∙ ap (λ o. then_more o (λ d. then_more (code.lowered_declarations (s []) xs) (λ more. Ok (d ∷ more)))) (in_declaration_is f (code.lowered_function (s []) as' f ps rs t b))

  -- ---- consts

  used_is : (e : Exp) → bind (value w Const [] e) used ≡ lift as_value (plain_meaning.value (stage (s [])) [] e)
  used_is e = ap (λ m. bind m used) (scope_means ds cs declared [] (suc steps) e) ∙ lift_used (plain_meaning.value (stage (s [])) [] e)

  lift_there : {A B C D : Type 0} (view : A → B) (see : C → D) (o : Outcome A) (f : A → Outcome C) (g : B → M D) → ((x : A) (n : ℕ) → o ≡ Done x n → g (view x) ≡ lift see (f x))
      → bind (lift view o) g ≡ lift see (plain.bind o f)
  lift_there view see (Done x n) f g h = h x n refl ∙ lift_after see n (f x)
  lift_there view see (Failed e) f g h = refl
  lift_there view see Deep f g h = refl

  type_came : (t : Typ) (u : ScalarType) (n : ℕ) → plain.at_once (code.type_here (s []) t) ≡ Done u n → code.type_here (s []) t ≡ Ok u
  type_came t u n = at (code.type_here (s []) t)
    where
      at : (r : Checked ScalarType) → plain.at_once r ≡ Done u n → r ≡ Ok u
      at (Ok y) e = let same : y ≡ u = cc in ap Ok same
      at (Err f) e = absurd (cc)

  converted_there : (t : Typ) (u : ScalarType) (n : ℕ) → plain.at_once (code.type_here (s []) t) ≡ Done u n → (x : LiteralInstance)
      → computed (converted (v.Literal x) (scalar_type u)) ≡ lift as_value (plain.computed (conversions.converted u x))
  converted_there t u n h x =
      let is = type_is ds cs [] t u (type_came t u n h) in
      let c = concrete_of is.name u is.built_in in
      ap computed (converted_scalar x u (subst (λ i. IsInRange i x) (sym c.1) (in_range c.0 c.2 x))) ∙ lift_computed (conversions.converted u x)

  typed_const : (t : Typ) (e : Exp) → bind (type_written w t) (λ u. bind (bind (value w Const [] e) used) (λ z. computed (converted z u))) ≡ lift as_value (plain_meaning.initial (stage (s [])) (Some t) e)
  typed_const t e =
      ap (λ m. bind m (λ u. bind (bind (value w Const [] e) used) (λ z. computed (converted z u)))) (type_written_is ds w (λ x. refl) (λ x. refl) t)
      ∙ lift_there scalar_type as_value (plain.at_once (code.type_here (s []) t)) (λ u. plain.bind (plain_meaning.value (stage (s [])) [] e) (λ x. plain.computed (conversions.converted u x)))
      (λ u. bind (bind (value w Const [] e) used) (λ z. computed (converted z u)))
      (λ u n h. ap (λ m. bind m (λ z. computed (converted z (scalar_type u)))) (used_is e)
      ∙ lift_bind as_value as_value (plain_meaning.value (stage (s [])) [] e) (λ x. plain.computed (conversions.converted u x)) (λ z. computed (converted z (scalar_type u))) (converted_there t u n h))

  untyped_const : (e : Exp) → bind (typed w [] e) (λ u. bind (value w Const [] e) used) ≡ lift as_value (plain_meaning.initial (stage (s [])) None e)
  untyped_const e =
      ap (λ m. bind m (λ u. bind (value w Const [] e) used)) (scope_types ds cs declared [] (suc steps) e)
      ∙ lift_bind scalar_type as_value (plain_meaning.typed (stage (s [])) [] e) (λ u. plain_meaning.value (stage (s [])) [] e) (λ u. bind (value w Const [] e) used) (λ u. used_is e)

  const_same : (x : Name) (attributes : List Attr) (kind : DeclarationKind) (y : Name) (t : Option Typ) (e : Option Exp) → x ≡ y
      → initialized w x t e ≡ lift as_value (plain_meaning.initialized (stage (s [])) y t e)
  const_same x attributes kind y (Some t) (Some e) same = typed_const t e
  const_same x attributes kind y None (Some e) same = untyped_const e
  const_same x attributes kind y t None same = ap (λ z. fail (OfName UninitConst z)) same

  added_same : (x : Name) (o : Outcome LiteralInstance) → then_more (in_declaration x (checked_of as_value o)) (λ z. Ok (known_of cs ++ (here x, z) ∷ [])) ≡ known_or (added cs x o)
  added_same x (Done z n) = ap Ok (known_more cs x z)
  added_same x (Failed f) = refl
  added_same x Deep = refl

  started_const_same : (x : Name) (d : Option Decl) → plain_names.find_decl x ds ≡ d → started_const steps ds (known_of cs) x d ≡ known_or (valued ds cs x d)
  started_const_same x (Some (variable attributes kind y t e)) h =
      ap (λ m. then_more (in_declaration x (given steps m)) (λ z. Ok (known_of cs ++ (here x, z) ∷ []))) (const_same x attributes kind y t e (name_of x ds (variable attributes kind y t e) h))
      ∙ ap (λ o. then_more (in_declaration x o) (λ z. Ok (known_of cs ++ (here x, z) ∷ []))) (given_is steps as_value (plain_meaning.initialized (stage (s [])) y t e))
      ∙ added_same x (plain_meaning.initialized (stage (s [])) y t e)
  started_const_same x (Some (function attributes f ps rs t b)) h = refl
  started_const_same x None h = refl

  started_at_same : (d : Option Decl) → started_at steps ds (known_of cs) d ≡ known_or (valued_at ds cs d)
  started_at_same (Some (variable attributes kind x t e)) =
      ap (started_const steps ds (known_of cs) x) (sym (same_decl x ds)) ∙ started_const_same x (plain_names.find_decl x ds) refl
  started_at_same (Some (function attributes f ps rs t b)) = refl
  started_at_same None = refl

-- ---- the start, and the unit

module _ (steps : ℕ) (ds : List Decl) where
  started_same : (order : List ℕ) (cs : Consts) → Settled ds cs → started_consts steps ds (known_of cs) order ≡ known_or (all_valued ds cs order)
  started_same [] cs is = refl
  started_same (i ∷ order) cs is =
      ap (λ o. then_more o (λ more. started_consts steps ds more order)) (started_at_same ds cs (declared_of ds cs is) steps (slice_get ds i))
      ∙ at (valued_at ds cs (slice_get ds i)) (λ more h. started_same order more (settled_at ds cs more (slice_get ds i) is h)) refl
    where
      at : (o : Result Consts DeclarationFault) → ((more : Consts) → valued_at ds cs (slice_get ds i) ≡ Ok more → started_consts steps ds (known_of more) order ≡ known_or (all_valued ds more order))
          → valued_at ds cs (slice_get ds i) ≡ o → then_more (known_or o) (λ more. started_consts steps ds more order) ≡ known_or (then_more o (λ more. all_valued ds more order))
      at (Ok more) go h = go more h
      at (Err r) go h = refl

pub computed_same : (steps : ℕ) (order : List ℕ) (u : Module) → means.lowered_after steps order u ≡ code.lowered_after order u
computed_same steps order u =
    ap (λ o. then_more o (λ known. then_more (means.lowered_declarations steps (unit_world steps u.declarations known) u.declarations) (λ low. Ok (record { imports = []; declarations = low }))))
    (started_same steps u.declarations order [] nothing)
    ∙ at (consts_of u.declarations order) refl
  where
    at : (o : Result Consts DeclarationFault) → consts_of u.declarations order ≡ o
        → then_more (known_or o) (λ known. then_more (means.lowered_declarations steps (unit_world steps u.declarations known) u.declarations) (λ low. Ok (record { imports = []; declarations = low })))
        ≡ then_more o (λ cs. code.lowered_under (module_scope u.declarations cs) u.declarations)
    at (Ok cs) h =
        ap (λ o. then_more o (λ low. Ok (record { imports = []; declarations = low })))
        (declarations_same u.declarations cs (declared_of u.declarations cs (settled u.declarations order cs h)) steps u.declarations)
    at (Err r) h = refl
