-- The scope of the const stage as a world: its consts are known, of its parameters only the types.
use Rattle.std.proofs.Common.{◌≡◌, ℕ, suc, List, [], ◌∷◌, map, Option, Some, None, Bool, true, false, Ok, Err, refl, sym, ap, ◌∙◌, subst}
use Rattle.std.specs.Prelude.{codes, pos, negsuc, nat_lt, nat_eq, if◌then◌else◌, ◌&&◌}
use Rattle.std.specs.Str.{bytes_eq}
use Rattle.wgsl_words.specs.declared.operators.UnaryOperator.TheVariants.{Negation}
use Rattle.core_syntax.specs.declared.expression.LiteralExpression.TheVariants as L
use Rattle.core_syntax.specs.Tree.{Exp, literal, unary, nil, cons, Typ, simple, templated, Decl, variable, function}
use Rattle.core_syntax.specs.Names.{declared_name}
use Rattle.wgsl_words.specs.declared.enumerations.words.ShaderStage.{ShaderStage}
use Rattle.wgsl_words.specs.declared.enumerations.words.ShaderStage.TheVariants.{Const}
use Rattle.wgsl_shader_type.specs.declared.literal.LiteralInstance.{LiteralInstance}
use Rattle.wgsl_shader_type.specs.declared.literal.LiteralInstance.TheVariants as V
use Rattle.wgsl_shader_type.specs.declared.tree.ShaderType.{ShaderType}
use Rattle.wgsl_shader_type.specs.declared.tree.ShaderType.TheVariants as type
use Rattle.wgsl_scalar.specs.declared.scalar.ScalarType.{ScalarType}
use Rattle.wgsl_scalar.specs.declared.scalar.ScalarType.TheVariants.{Integer}
use Rattle.wgsl_scalar.specs.declared.scalar.IntegerType.TheVariants.{I32, U32}
use Rattle.wgsl_scalar.specs.Scalars.{scalar_type}
use Rattle.wgsl_scalar.specs.Conversions.{constructed}
use Rattle.wgsl_instance.specs.declared.tree.Instance.{Instance}
use Rattle.wgsl_instance.specs.declared.tree.Instance.TheVariants as v
use Rattle.core_computations.specs.Machine.{pure, fail, bind}
use Rattle.core_meaning.specs.declared.fault.Fault.TheVariants.{Name as Named}
use Rattle.core_meaning.specs.declared.fault.NameFault.TheVariants as plain_fault
use Rattle.core_meaning.specs.Outcome.{Done, Failed, Deep}
use Rattle.core_meaning.specs.Outcome as plain
use Rattle.core_meaning.specs.Names as plain_names
use Rattle.core_meaning.specs.Values as plain_values
use Rattle.core_meaning.specs.Meaning as plain_meaning
use Rattle.core_meaning.specs.Meaning.{Types}
use Rattle.core_meaning.specs.ConstStage.{Consts, Scope, stage, hidden, const_known, result_written, call_type_at}
use Rattle.core_meaning.specs.Programs as plain_programs
use Rattle.core_meaning.specs.Written.{HasConstructor, written, negative, least_abstract, least_signed}
use Rattle.core_meaning.proofs.WrittenValue.{value-written}
use Rattle.core_lower_expressions.specs.Faults.{OfName, Todo, NotType, UnexpectedTemplate}
use Rattle.core_lower_expressions.specs.Computing.{computed, at_once}
use Rattle.core_lower_expressions.specs.Names.{Name, Symbol, Local, Hidden, Env, find, built_in_type}
use Rattle.core_lower_expressions.specs.Operations.{construct, construct_type}
use Rattle.core_lower_expressions.specs.Meaning.{World, shown, name_value, name_type, needed, call_value, call_type, denoted_type, type_written, value, values, typed}
use Rattle.core_lower_expressions.specs.Calls.{written_result, result_in}
use Rattle.core_lower_expressions.specs.Programs.{Known, find_known, known_value, known_type, function_world, world, root, here}
use Rattle.core_lower_expressions.specs.Runs.{find_decl, here_if}
use Rattle.core_lower_expressions.specs.Runs as runs
use Rattle.core_lower_expressions.proofs.Bodies.{name_here, callee_here}
use Rattle.core_lower_expressions.proofs.Scalars.{zero_of_scalar, built_of_scalar, type_of_literal}
use Rattle.core_lower.proofs.Computes.{as_value, lift, lift_bind, lift_computed, computes, name_type_here, call_type_here, types_compute}

-- ---- what stands under a name

pub same_find : {A : Type 0} (x : Name) (bs : List (Name × A)) → plain_names.find x bs ≡ find x bs
same_find x [] = refl
same_find x (b ∷ bs) = ap (λ o. if bytes_eq x b.0 then Some b.1 else o) (same_find x bs)

pub same_decl : (x : Name) (ds : List Decl) → plain_names.find_decl x ds ≡ find_decl x ds
same_decl x [] = refl
same_decl x (d ∷ ds) = ap (λ o. if bytes_eq x (declared_name d) then Some d else o) (same_decl x ds)

abbrev pub BothFound : {A B : Type 0} → Option A → Option B → Type 0
BothFound (Some x) (Some y) = Unit {0}
BothFound (Some x) None = ⊥
BothFound None (Some y) = ⊥
BothFound None None = Unit {0}

-- lists of the same names have something under the same names
pub both_found : {A B : Type 0} (one : List (Name × A)) (other : List (Name × B)) → map (λ b. b.0) one ≡ map (λ b. b.0) other → (x : Name) → BothFound (plain_names.find x one) (find x other)
both_found [] [] e x = tt
both_found [] (b ∷ bs) e x = absurd (cc)
both_found (a ∷ rest) [] e x = absurd (cc)
both_found (a ∷ rest) (b ∷ bs) e x =
    let first : a.0 ≡ b.0 = cc in
    let more : map (λ b. b.0) rest ≡ map (λ b. b.0) bs = cc in
    subst (λ y. BothFound (if bytes_eq x a.0 then Some a.1 else plain_names.find x rest) (if bytes_eq x y then Some b.1 else find x bs)) first (at (bytes_eq x a.0) (both_found rest bs more x))
  where
    at : (c : Bool) → BothFound (plain_names.find x rest) (find x bs) → BothFound (if c then Some a.1 else plain_names.find x rest) (if c then Some b.1 else find x bs)
    at true h = tt
    at false h = h

abbrev pub hide : Name × ScalarType → Name × Local
hide b = (b.0, Hidden (scalar_type b.1))

-- parameters of which only the types are known
abbrev pub hidden_locals : Types → Env
hidden_locals ts = map hide ts

abbrev pub if_hidden : Option ScalarType → Option Local
if_hidden (Some t) = Some (Hidden (scalar_type t))
if_hidden None = None

pub hidden_found : (x : Name) (ts : Types) → find x (hidden_locals ts) ≡ if_hidden (plain_names.find x ts)
hidden_found x [] = refl
hidden_found x (b ∷ ts) = at (bytes_eq x b.0) (hidden_found x ts)
  where
    at : (c : Bool) → find x (hidden_locals ts) ≡ if_hidden (plain_names.find x ts) → (if c then Some (Hidden (scalar_type b.1)) else find x (hidden_locals ts)) ≡ if_hidden (if c then Some b.1 else plain_names.find x ts)
    at true h = refl
    at false h = h

-- ---- known consts

abbrev pub as_known : Name × LiteralInstance → Symbol × Instance
as_known b = (here b.0, v.Literal b.1)

abbrev pub known_of : Consts → Known
known_of cs = map as_known cs

abbrev pub if_root : Bool → Option LiteralInstance → Option Instance
if_root true (Some x) = Some (v.Literal x)
if_root true None = None
if_root false o = None

pub known_found : (s : Symbol) (cs : Consts) → find_known s (known_of cs) ≡ if_root (bytes_eq s.home root) (plain_names.find s.called cs)
known_found s [] = none (bytes_eq s.home root)
  where
    none : (r : Bool) → None ≡ if_root r None
    none true = refl
    none false = refl
known_found s (b ∷ cs) = step (bytes_eq s.home root) (bytes_eq s.called b.0) (plain_names.find s.called cs) (find_known s (known_of cs)) (known_found s cs)
  where
    step : (r c : Bool) (o : Option LiteralInstance) (k : Option Instance) → k ≡ if_root r o → (if r && c then Some (v.Literal b.1) else k) ≡ if_root r (if c then Some b.1 else o)
    step true true o k e = refl
    step true false o k e = e
    step false c o k e = e

-- ---- built-in types

-- a type of scalars, or a fault
abbrev pub typed_or : plain_values.Checked ScalarType → plain_values.Checked ShaderType
typed_or (Ok t) = Ok (scalar_type t)
typed_or (Err f) = Err f

pub built_is : (x : Name) → built_in_type x ≡ typed_or (plain_names.built_in_type x)
built_is x = at (bytes_eq x (codes "i32")) (bytes_eq x (codes "u32"))
  where
    at : (b c : Bool) → (if b then Ok type.I32 else if c then Ok type.U32 else Err (OfName Todo x))
        ≡ typed_or (if b then Ok (Integer I32) else if c then Ok (Integer U32) else Err (Named plain_fault.Todo x))
    at true c = refl
    at false true = refl
    at false false = refl

pub built_same : (x : Name) (t : ScalarType) → plain_names.built_in_type x ≡ Ok t → built_in_type x ≡ Ok (scalar_type t)
built_same x t h = built_is x ∙ ap typed_or h

lift_type_or : (r : plain_values.Checked ScalarType) → at_once (typed_or r) ≡ lift scalar_type (plain.at_once r)
lift_type_or (Ok t) = refl
lift_type_or (Err f) = refl

built_of : (f : Name) (t : ScalarType) (xs : List LiteralInstance) → construct f (scalar_type t) (map as_value xs) ≡ lift as_value (plain_meaning.construct f t xs)
built_of f t [] = ap computed (zero_of_scalar t) ∙ lift_computed (constructed t (V.AbstractInt (pos 0)))
built_of f t (x ∷ []) = ap computed (built_of_scalar x t) ∙ lift_computed (constructed t x)
built_of f t (x ∷ z ∷ xs) = refl

-- a constructor by its name
pub constructs : (f : Name) (xs : List LiteralInstance)
    → bind (at_once (built_in_type f)) (λ t. construct f t (map as_value xs)) ≡ lift as_value (plain.bind (plain.at_once (plain_names.built_in_type f)) (λ t. plain_meaning.construct f t xs))
constructs f xs =
    ap (λ r. bind (at_once r) (λ t. construct f t (map as_value xs))) (built_is f)
    ∙ ap (λ m. bind m (λ t. construct f t (map as_value xs))) (lift_type_or (plain_names.built_in_type f))
    ∙ lift_bind scalar_type as_value (plain.at_once (plain_names.built_in_type f)) (λ t. plain_meaning.construct f t xs) (λ t. construct f t (map as_value xs)) (λ t. built_of f t xs)

construct_types : (f : Name) (t : ScalarType) (ts : List ScalarType) → construct_type f (scalar_type t) (map scalar_type ts) ≡ lift scalar_type (plain_meaning.construct_type f t ts)
construct_types f t [] = refl
construct_types f t (s ∷ []) = refl
construct_types f t (s ∷ u ∷ ts) = refl

constructs_type : (f : Name) (ts : List ScalarType)
    → bind (at_once (built_in_type f)) (λ t. construct_type f t (map scalar_type ts)) ≡ lift scalar_type (plain.bind (plain.at_once (plain_names.built_in_type f)) (λ t. plain_meaning.construct_type f t ts))
constructs_type f ts =
    ap (λ r. bind (at_once r) (λ t. construct_type f t (map scalar_type ts))) (built_is f)
    ∙ ap (λ m. bind m (λ t. construct_type f t (map scalar_type ts))) (lift_type_or (plain_names.built_in_type f))
    ∙ lift_bind scalar_type scalar_type (plain.at_once (plain_names.built_in_type f)) (λ t. plain_meaning.construct_type f t ts) (λ t. construct_type f t (map scalar_type ts)) (λ t. construct_types f t ts)

-- a written type: a plain name that isn't declared, of a built-in type
pub record IsType (ds : List Decl) (t : Typ) (to : ScalarType) : Type 0 where
  pub name : Name
  pub is : t ≡ simple None name
  pub undeclared : plain_names.find_decl name ds ≡ None
  pub built_in : plain_names.built_in_type name ≡ Ok to

pub type_means : (ds : List Decl) (w : World) → ((x : Name) → plain_names.find_decl x ds ≡ None → w.denotes x ≡ None) → (t : Typ) (to : ScalarType) → IsType ds t to → type_written w t ≡ pure (scalar_type to)
type_means ds w free t to h =
    ap (type_written w) h.is ∙ ap (denoted_type w h.name) (free h.name h.undeclared) ∙ ap at_once (built_same h.name to h.built_in)

-- ---- the scope

pub denotes_none : (x : Name) (ds : List Decl) → plain_names.find_decl x ds ≡ None → here_if x (find_decl x ds) ≡ None
denotes_none x ds e = ap (here_if x) (sym (same_decl x ds) ∙ e)

abbrev pub AreDeclared : List Decl → Consts → Type 0
AreDeclared ds cs = (x : Name) (y : LiteralInstance) → plain_names.find x cs ≡ Some y → (d : Decl) × (plain_names.find_decl x ds ≡ Some d)

-- a written type, in a world of these declarations
module _ (ds : List Decl) (w : World) (denoted : (x : Name) → w.denotes x ≡ here_if x (find_decl x ds)) (told : (x : Name) → w.printed (here x) ≡ x) where
  type_at_is : (x : Name) (d : Option Decl) → denoted_type w x (here_if x d) ≡ lift scalar_type (plain.at_once (plain_programs.type_at x (plain_programs.here_if x d)))
  type_at_is x (Some d) = ap (λ y. fail (OfName NotType y)) (told x)
  type_at_is x None = ap at_once (built_is x) ∙ lift_type_or (plain_names.built_in_type x)

  shown_is : (x : Name) (l : Option Local) (d : Option Decl) → shown w x l (here_if x d) ≡ x
  shown_is x (Some l) d = refl
  shown_is x None (Some d) = told x
  shown_is x None None = refl

  pub name_told : (x : Name) (env : Env) → shown w x (find x env) (w.denotes x) ≡ x
  name_told x env = ap (shown w x (find x env)) (denoted x) ∙ shown_is x (find x env) (find_decl x ds)

  pub type_written_is : (t : Typ)
      → type_written w t ≡ lift scalar_type (plain.at_once (plain_values.and_then (plain_names.plain_name t) (λ x. plain_programs.type_at x (plain_programs.here_if x (plain_names.find_decl x ds)))))
  type_written_is (simple None x) =
      ap (denoted_type w x) (denoted x) ∙ ap (λ d. denoted_type w x (here_if x d)) (sym (same_decl x ds)) ∙ type_at_is x (plain_names.find_decl x ds)
  type_written_is (simple (Some path) x) = refl
  type_written_is (templated None x arguments) = ap (λ y. fail (OfName UnexpectedTemplate y)) (name_told x [])
  type_written_is (templated (Some path) x arguments) = refl

module _ (ds : List Decl) (cs : Consts) (declared : AreDeclared ds cs) (ts : Types) (k : ℕ) where
  abbrev s : Scope
  s = record { declared = λ x. plain_names.find_decl x ds; known = λ x. plain_names.find x cs; parameters = ts }

  abbrev pub scope_world : World
  scope_world = world (runs.plain ds) (known_of cs) k root

  abbrev locals : Env
  locals = hidden_locals ts

  pub told_in : (x : Name) → shown scope_world x (find x locals) (here_if x (find_decl x ds)) ≡ x
  told_in = λ x. name_told ds scope_world (λ y. refl) (λ y. refl) x locals

  pub local_is : (x : Name) (t : Option ScalarType) → plain_names.find x ts ≡ t → find x locals ≡ if_hidden t
  local_is x t e = hidden_found x ts ∙ ap if_hidden e

  pub decl_is : (x : Name) (d : Option Decl) → plain_names.find_decl x ds ≡ d → find_decl x ds ≡ d
  decl_is x d e = sym (same_decl x ds) ∙ e

  known_is : (x : Name) (c : Option LiteralInstance) → plain_names.find x cs ≡ c → find_known (here x) (known_of cs) ≡ if_root true c
  known_is x c e = known_found (here x) cs ∙ ap (if_root true) e

  -- names as values

  name_at : (x : Name) (t : Option ScalarType) (c : Option LiteralInstance) (d : Option Decl) → plain_names.find x cs ≡ c → plain_names.find_decl x ds ≡ d
      → name_value scope_world Const x (if_hidden t) (here_if x d) ≡ lift as_value (hidden x t (const_known x c d))
  name_at x (Some t) c d f g = refl
  name_at x None (Some z) (Some d) f g = ap (λ o. known_value x o (find_decl x ds)) (known_is x (Some z) f)
  name_at x None (Some z) None f g = let there = declared x z f in absurd (none_and_some x there.0 (sym g ∙ there.1))
    where
      none_and_some : (x : Name) (d : Decl) → None ≡ Some d → ⊥
      none_and_some x d e = absurd (cc)
  name_at x None None (Some (variable attributes kind z type e)) f g =
      ap (λ o. known_value x o (find_decl x ds)) (known_is x None f) ∙ ap (known_value x None) (decl_is x (Some (variable attributes kind z type e)) g)
  name_at x None None (Some (function attributes h parameters return_attributes type body)) f g =
      ap (λ o. known_value x o (find_decl x ds)) (known_is x None f) ∙ ap (known_value x None) (decl_is x (Some (function attributes h parameters return_attributes type body)) g)
  name_at x None None None f g = refl

  by_name : (x : Typ) → name_here scope_world Const locals x ≡ lift as_value (plain_meaning.value_here (stage s) [] (plain_names.plain_name x))
  by_name (simple None x) =
      ap (λ l. name_value scope_world Const x l (here_if x (find_decl x ds))) (local_is x (plain_names.find x ts) refl)
      ∙ ap (λ d. name_value scope_world Const x (if_hidden (plain_names.find x ts)) (here_if x d)) (sym (same_decl x ds))
      ∙ name_at x (plain_names.find x ts) (plain_names.find x cs) (plain_names.find_decl x ds) refl refl
  by_name (simple (Some path) x) = refl
  by_name (templated None x arguments) = ap (λ y. fail (OfName UnexpectedTemplate y)) (told_in x)
  by_name (templated (Some path) x arguments) = refl

  -- callees

  callee_at : (f : Name) (xs : List LiteralInstance) (t : Option ScalarType) (d : Option Decl)
      → call_value scope_world Const f (if_hidden t) (here_if f d) (map as_value xs) ≡ lift as_value (plain_meaning.called_or f t (plain_programs.called_at Const f (plain_programs.here_if f d) (λ x zs. Deep) xs))
  callee_at f xs (Some t) d = refl
  callee_at f xs None (Some d) = refl
  callee_at f xs None None = constructs f xs

  by_call : (f : Typ) (xs : List LiteralInstance) → callee_here scope_world Const locals f (map as_value xs) ≡ lift as_value (plain_meaning.result_here (stage s) [] (plain_names.plain_name f) xs)
  by_call (simple None f) xs =
      ap (λ l. call_value scope_world Const f l (here_if f (find_decl f ds)) (map as_value xs)) (local_is f (plain_names.find f ts) refl)
      ∙ ap (λ d. call_value scope_world Const f (if_hidden (plain_names.find f ts)) (here_if f d) (map as_value xs)) (sym (same_decl f ds))
      ∙ callee_at f xs (plain_names.find f ts) (plain_names.find_decl f ds)
  by_call (simple (Some path) f) xs = refl
  by_call (templated None f arguments) xs = ap (λ y. fail (OfName UnexpectedTemplate y)) (told_in f)
  by_call (templated (Some path) f arguments) xs = refl

  -- what the const stage has for an expression in the scope, a value or a fault, is what it means in the scope's world
  pub scope_means : (e : Exp) → value scope_world Const locals e ≡ lift as_value (plain_meaning.value (stage s) [] e)
  scope_means = computes Const (stage s) [] scope_world locals refl by_name by_call

  -- types of names and callees

  type_at : (x : Name) (t : Option ScalarType) (c : Option LiteralInstance) (d : Option Decl) → plain_names.find x ts ≡ t → plain_names.find x cs ≡ c → plain_names.find_decl x ds ≡ d
      → name_type scope_world x (if_hidden t) (here_if x d) ≡ lift scalar_type (plain_meaning.local_or t (plain_meaning.type_in_world (hidden x t (const_known x c d))))
  type_at x (Some t) c d e f g = refl
  type_at x None (Some z) (Some d) e f g = ap (λ o. known_type x o (find_decl x ds)) (known_is x (Some z) f) ∙ ap pure (type_of_literal z)
  type_at x None (Some z) None e f g = let there = declared x z f in absurd (none_and_some x there.0 (sym g ∙ there.1))
    where
      none_and_some : (x : Name) (d : Decl) → None ≡ Some d → ⊥
      none_and_some x d e = absurd (cc)
  type_at x None None (Some (variable attributes kind z type i)) e f g =
      ap (λ o. known_type x o (find_decl x ds)) (known_is x None f) ∙ ap (known_type x None) (decl_is x (Some (variable attributes kind z type i)) g)
  type_at x None None (Some (function attributes h parameters return_attributes type body)) e f g =
      ap (λ o. known_type x o (find_decl x ds)) (known_is x None f) ∙ ap (known_type x None) (decl_is x (Some (function attributes h parameters return_attributes type body)) g)
  type_at x None None None e f g = refl

  type_by_name : (x : Typ) → name_type_here scope_world locals x ≡ lift scalar_type (plain_meaning.type_here (stage s) ts (plain_names.plain_name x))
  type_by_name (simple None x) =
      ap (λ l. name_type scope_world x l (here_if x (find_decl x ds))) (local_is x (plain_names.find x ts) refl)
      ∙ ap (λ d. name_type scope_world x (if_hidden (plain_names.find x ts)) (here_if x d)) (sym (same_decl x ds))
      ∙ type_at x (plain_names.find x ts) (plain_names.find x cs) (plain_names.find_decl x ds) refl refl refl
  type_by_name (simple (Some path) x) = refl
  type_by_name (templated None x arguments) = ap (λ y. fail (OfName UnexpectedTemplate y)) (told_in x)
  type_by_name (templated (Some path) x arguments) = refl

  -- what a function hands back has the type that is written
  result_needed : (f : Name) (type : Option Typ) → bind (written_result (function_world (runs.plain ds) (known_of cs) (here f)) type) (needed f) ≡ lift scalar_type (result_written s f type)
  result_needed f None = refl
  result_needed f (Some t) =
      ap (λ m. bind (bind m (λ u. pure (Some u))) (needed f)) (type_written_is ds (function_world (runs.plain ds) (known_of cs) (here f)) (λ x. refl) (λ x. refl) t)
      ∙ at (plain.at_once (plain_values.and_then (plain_names.plain_name t) (λ x. plain_programs.type_at x (plain_programs.here_if x (plain_names.find_decl x ds)))))
    where
      at : (o : plain.Outcome ScalarType) → bind (bind (lift scalar_type o) (λ u. pure (Some u))) (needed f) ≡ lift scalar_type o
      at (Done t n) = refl
      at (Failed e) = refl
      at Deep = refl

  result_at : (f : Name) (d : Option Decl) → plain_names.find_decl f ds ≡ d → (us : List ScalarType)
      → call_type scope_world f None (here_if f d) (map scalar_type us) ≡ lift scalar_type (call_type_at s f d us)
  result_at f (Some (function attributes g parameters return_attributes type body)) e us =
      ap (λ d. bind (result_in (function_world (runs.plain ds) (known_of cs) (here f)) f d) (needed f)) (decl_is f (Some (function attributes g parameters return_attributes type body)) e) ∙ result_needed f type
  result_at f (Some (variable attributes kind y type i)) e us =
      ap (λ d. bind (result_in (function_world (runs.plain ds) (known_of cs) (here f)) f d) (needed f)) (decl_is f (Some (variable attributes kind y type i)) e)
  result_at f None e us = constructs_type f us

  call_at : (f : Name) (t : Option ScalarType) (us : List ScalarType)
      → call_type scope_world f (if_hidden t) (here_if f (plain_names.find_decl f ds)) (map scalar_type us) ≡ lift scalar_type (plain_meaning.called_or f t (call_type_at s f (plain_names.find_decl f ds) us))
  call_at f (Some t) us = refl
  call_at f None us = result_at f (plain_names.find_decl f ds) refl us

  type_by_call : (f : Typ) (us : List ScalarType) → call_type_here scope_world locals f (map scalar_type us) ≡ lift scalar_type (plain_meaning.result_type_here (stage s) ts (plain_names.plain_name f) us)
  type_by_call (simple None f) us =
      ap (λ l. call_type scope_world f l (here_if f (find_decl f ds)) (map scalar_type us)) (local_is f (plain_names.find f ts) refl)
      ∙ ap (λ d. call_type scope_world f (if_hidden (plain_names.find f ts)) (here_if f d) (map scalar_type us)) (sym (same_decl f ds))
      ∙ call_at f (plain_names.find f ts) us
  type_by_call (simple (Some path) f) us = refl
  type_by_call (templated None f arguments) us = ap (λ y. fail (OfName UnexpectedTemplate y)) (told_in f)
  type_by_call (templated (Some path) f arguments) us = refl

  -- so it is with types
  pub scope_types : (e : Exp) → typed scope_world locals e ≡ lift scalar_type (plain_meaning.typed (stage s) ts e)
  scope_types = types_compute (stage s) ts scope_world locals type_by_name type_by_call

-- a const value of the scope is the value in its world
pub scope_computes : (ds : List Decl) (cs : Consts) (declared : AreDeclared ds cs) (ts : Types) (e : Exp) (y : LiteralInstance) (n : ℕ)
    → plain_meaning.value (stage (record { declared = λ x. plain_names.find_decl x ds; known = λ x. plain_names.find x cs; parameters = ts })) [] e ≡ Done y n
    → value (scope_world ds cs declared ts 0) Const (hidden_locals ts) e ≡ pure (v.Literal y)
scope_computes ds cs declared ts e y n h = scope_means ds cs declared ts 0 e ∙ ap (lift as_value) h

-- ---- written values

-- no declarations, and no values
abbrev empty : World
empty = world (runs.plain []) [] 0 root

-- the same on scalars: the constructors of the built-in types alone
abbrev bare : ShaderStage → plain_meaning.World
bare t = record {
  stage = t;
  value_of = λ x. Failed (Named plain_fault.UnknownDecl x);
  result_of = λ f xs. plain.bind (plain.at_once (plain_names.built_in_type f)) (λ u. plain_meaning.construct f u xs);
  result_type = λ f ts. Deep;
  type_named = plain_names.built_in_type;
}

no_name : (t : ShaderStage) (x : Typ) → name_here empty t [] x ≡ lift as_value (plain_meaning.value_here (bare t) [] (plain_names.plain_name x))
no_name t (simple None x) = refl
no_name t (simple (Some path) x) = refl
no_name t (templated None x arguments) = refl
no_name t (templated (Some path) x arguments) = refl

constructor : (t : ShaderStage) (f : Typ) (xs : List LiteralInstance) → callee_here empty t [] f (map as_value xs) ≡ lift as_value (plain_meaning.result_here (bare t) [] (plain_names.plain_name f) xs)
constructor t (simple None f) xs = constructs f xs
constructor t (simple (Some path) f) xs = refl
constructor t (templated None f arguments) xs = refl
constructor t (templated (Some path) f arguments) xs = refl

has_constructor : (t : ShaderStage) → HasConstructor (bare t) []
has_constructor t = record { least = refl }

module _ (t : ShaderStage) (u : World) (others : Env) (clear : (f : Name) (to : ScalarType) → plain_names.built_in_type f ≡ Ok to → (find f others ≡ None) × (u.denotes f ≡ None)) where
  least_same : value u t others least_signed ≡ value empty t [] least_signed
  least_same =
      let free = clear (codes "i32") (Integer I32) refl in
      ap (λ l. bind (values u t others (cons (unary Negation (literal (L.AbstractInt (pos 2147483648)))) nil)) (λ xs. call_value u t (codes "i32") l (u.denotes (codes "i32")) xs)) free.0
      ∙ ap (λ d. bind (values u t others (cons (unary Negation (literal (L.AbstractInt (pos 2147483648)))) nil)) (λ xs. call_value u t (codes "i32") None d xs)) free.1

  -- what is written for a value has no name but that of a constructor
  value_same : (y : LiteralInstance) → value u t others (written y) ≡ value empty t [] (written y)
  value_same (V.AbstractInt (pos n)) = refl
  value_same (V.AbstractInt (negsuc n)) = at (nat_eq n 9223372036854775807) (nat_lt n 9223372036854775807)
    where
      at : (b c : Bool) → value u t others (if b then least_abstract else if c then negative (literal (L.AbstractInt (pos (suc n)))) else literal (L.AbstractInt (negsuc n)))
          ≡ value empty t [] (if b then least_abstract else if c then negative (literal (L.AbstractInt (pos (suc n)))) else literal (L.AbstractInt (negsuc n)))
      at true c = refl
      at false true = refl
      at false false = refl
  value_same (V.I32 (pos n)) = refl
  value_same (V.I32 (negsuc n)) = at (nat_eq n 2147483647) (nat_lt n 2147483647)
    where
      at : (b c : Bool) → value u t others (if b then least_signed else if c then negative (literal (L.I32 (pos (suc n)))) else literal (L.I32 (negsuc n)))
          ≡ value empty t [] (if b then least_signed else if c then negative (literal (L.I32 (pos (suc n)))) else literal (L.I32 (negsuc n)))
      at true c = least_same
      at false true = refl
      at false false = refl
  value_same (V.U32 n) = refl
  value_same (V.Bool true) = refl
  value_same (V.Bool false) = refl

  -- what is written for a value means the value
  pub written_means : (y : LiteralInstance) → value u t others (written y) ≡ pure (v.Literal y)
  written_means y =
      value_same y ∙ computes t (bare t) [] empty [] refl (no_name t) (constructor t) (written y) ∙ ap (lift as_value) (value-written (bare t) [] (has_constructor t) y)
