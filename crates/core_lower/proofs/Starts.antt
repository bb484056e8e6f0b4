-- The start gives a const the value that the const stage has for it, in whichever order it goes.
use Rattle.std.proofs.Common.{◌≡◌, ℕ, List, [], ◌∷◌, ◌++◌, Option, Some, None, Bool, true, false, Ok, Err, refl, sym, ap, ◌∙◌, subst}
use Rattle.std.specs.Prelude.{if◌then◌else◌, ◌&&◌}
use Rattle.std.specs.Str.{bytes_eq}
use Rattle.std.specs.Cmp.Lexicographic.{same_text}
use Rattle.core_syntax.specs.Tree.{Exp, Typ, Decl, variable, function}
use Rattle.wgsl_words.specs.declared.enumerations.words.ShaderStage.TheVariants.{Const}
use Rattle.wgsl_shader_type.specs.declared.literal.LiteralInstance.{LiteralInstance}
use Rattle.wgsl_shader_type.specs.declared.tree.ShaderType.{ShaderType}
use Rattle.wgsl_scalar.specs.declared.scalar.ScalarType.{ScalarType}
use Rattle.wgsl_scalar.specs.declared.scalar.ScalarType.TheVariants.{Integer}
use Rattle.wgsl_scalar.specs.declared.scalar.IntegerType.{IntegerType}
use Rattle.wgsl_scalar.specs.declared.scalar.IntegerType.TheVariants.{AbstractInt, I32, U32}
use Rattle.wgsl_scalar.specs.Scalars.{scalar_type}
use Rattle.wgsl_scalar.specs.Conversions as conversions
use Rattle.wgsl_instance.specs.declared.tree.Instance.{Instance}
use Rattle.wgsl_instance.specs.declared.tree.Instance.TheVariants as v
use Rattle.wgsl_instance.specs.Converted.{converted}
use Rattle.core_lower_expressions.specs.Operators.{as_literal}
use Rattle.core_computations.specs.Machine.{State, Outcome, pure, bind, next_of}
use Rattle.core_computations.specs.Machine as machine
use Rattle.core_meaning.specs.Outcome.{Done, Failed, Deep}
use Rattle.core_meaning.specs.Outcome as plain
use Rattle.core_meaning.specs.Values as plain_values
use Rattle.core_meaning.specs.Names as plain_names
use Rattle.core_meaning.specs.Meaning as plain_meaning
use Rattle.core_meaning.specs.ConstStage.{Consts, stage, module_scope, Settled, nothing, another}
use Rattle.core_lower_expressions.specs.Faults.{Fault}
use Rattle.core_lower_expressions.specs.Computing.{M, computed, used}
use Rattle.core_lower_expressions.specs.Names.{Name, Symbol, is_same}
use Rattle.core_lower_expressions.specs.Meaning.{World, type_written, value, typed}
use Rattle.core_lower_expressions.specs.Calls.{const_in}
use Rattle.core_lower_expressions.specs.Programs.{Known, find_known, world, root}
use Rattle.core_lower_expressions.specs.Runs.{find_decl, here_if, started}
use Rattle.core_lower_expressions.specs.Runs as runs
use Rattle.core_lower_expressions.proofs.Agreeing.{KnownAgree, const_answer}
use Rattle.core_lower_expressions.proofs.Known.{or_if, find_behind}
use Rattle.core_lower_expressions.proofs.Scalars.{used_literal, IsInRange, converted_scalar}
use Rattle.core_lower_expressions.proofs.Converting.{IsConcrete}
use Rattle.core_lower_expressions.specs.Computed.{type_here}
use Rattle.core_lower.proofs.Units.{parts_of}
use Rattle.core_lower.proofs.Computes.{computed_done}
use Rattle.core_lower.proofs.Worlds.{same_decl, if_root, known_of, known_found, type_means, denotes_none, AreDeclared, scope_computes}
use Rattle.core_lower.proofs.Differs.{type_is}
use Rattle.core_lower.proofs.Meets.{concrete_of}

-- ---- one more at the end of a list

abbrev or_else : {A : Type 0} → Option A → Option A → Option A
or_else (Some x) o = Some x
or_else None o = o

find_last : {A : Type 0} (y : Name) (bs : List (Name × A)) (x : Name) (z : A) → plain_names.find y (bs ++ (x, z) ∷ []) ≡ or_else (plain_names.find y bs) (if bytes_eq y x then Some z else None)
find_last y [] x z = refl
find_last y (b ∷ bs) x z = step (bytes_eq y b.0) (find_last y bs x z)
  where
    step : (c : Bool) → plain_names.find y (bs ++ (x, z) ∷ []) ≡ or_else (plain_names.find y bs) (if bytes_eq y x then Some z else None)
        → (if c then Some b.1 else plain_names.find y (bs ++ (x, z) ∷ [])) ≡ or_else (if c then Some b.1 else plain_names.find y bs) (if bytes_eq y x then Some z else None)
    step true e = refl
    step false e = e

pub in_range : (t : IntegerType) → IsConcrete t → (x : LiteralInstance) → IsInRange (Integer t) x
in_range AbstractInt c x = absurd c
in_range I32 c x = tt
in_range U32 c x = tt

module _ (ds : List Decl) where
  -- a const of a settled list has its value by those before it
  pub record Came (cs : Consts) (x : Name) (y : LiteralInstance) : Type 0 where
    pub before : Consts
    pub settled : Settled ds before
    pub earlier : (z : Name) (u : LiteralInstance) → plain_names.find z before ≡ Some u → plain_names.find z cs ≡ Some u
    pub steps : ℕ
    pub gives : plain_meaning.const_in (stage (module_scope ds before)) x (plain_names.find_decl x ds) ≡ Done y steps

  came : (cs : Consts) → Settled ds cs → (x : Name) (y : LiteralInstance) → plain_names.find x cs ≡ Some y → Came cs x y
  came cs nothing x y h = absurd (cc)
  came cs (another some z u n rest gives) x y h =
      let go = came some rest x y in
      at go (plain_names.find x some) refl (sym (find_last x some z u) ∙ h)
    where
      stays : (w : Name) (a : LiteralInstance) → plain_names.find w some ≡ Some a → plain_names.find w (some ++ (z, u) ∷ []) ≡ Some a
      stays w a e = find_last w some z u ∙ ap (λ o. or_else o (if bytes_eq w z then Some u else None)) e

      last : (b : Bool) → bytes_eq x z ≡ b → (if b then Some u else None) ≡ Some y → Came (some ++ (z, u) ∷ []) x y
      last true e g =
          let to : x ≡ z = same_text x z (sym e) in
          let same : u ≡ y = cc in
          record { before = some; settled = rest; earlier = stays; steps = n; gives = ap (λ w. plain_meaning.const_in (stage (module_scope ds some)) w (plain_names.find_decl w ds)) to ∙ gives ∙ ap (λ a. Done a n) same }
      last false e g = absurd (cc)

      at : (plain_names.find x some ≡ Some y → Came some x y) → (o : Option LiteralInstance) → plain_names.find x some ≡ o → or_else o (if bytes_eq x z then Some u else None) ≡ Some y → Came (some ++ (z, u) ∷ []) x y
      at go (Some w) e g = let c = go (e ∙ g) in record { before = c.before; settled = c.settled; earlier = λ w a k. stays w a (c.earlier w a k); steps = c.steps; gives = c.gives }
      at go None e g = last (bytes_eq x z) refl g

  pub declared_of : (cs : Consts) → Settled ds cs → AreDeclared ds cs
  declared_of cs settled x y h = let c = came cs settled x y h in at c.before (plain_names.find_decl x ds) c.steps c.gives
    where
      at : (before : Consts) (d : Option Decl) (n : ℕ) → plain_meaning.const_in (stage (module_scope ds before)) x d ≡ Done y n → (e : Decl) × (d ≡ Some e)
      at before (Some d) n g = (d, refl)
      at before None n g = absurd (cc)

  -- ---- one const

  abbrev pub Agreed : Consts → Known → Type 0
  Agreed cs known = (s : Symbol) → KnownAgree (find_known s (known_of cs)) (find_known s known)

  narrower : (o p : Option LiteralInstance) (r : Bool) (q : Option Instance) → ((u : LiteralInstance) → o ≡ Some u → p ≡ Some u) → KnownAgree (if_root r p) q → KnownAgree (if_root r o) q
  narrower (Some u) p r q h g = subst (λ z. KnownAgree (if_root r z) q) (h u refl) g
  narrower None p true q h g = tt
  narrower None p false q h g = tt

  module _ (known : Known) (k : ℕ) where
    abbrev W : World
    W = world (runs.plain ds) known k root

    module _ (cs : Consts) (settled : Settled ds cs) (agreed : Agreed cs known) where
      value_is : (e : Exp) (z : LiteralInstance) (m : ℕ) → plain_meaning.value (stage (module_scope ds cs)) [] e ≡ Done z m → (w : Instance) (s r : State) → value W Const [] e s ≡ machine.Done w r → v.Literal z ≡ w
      value_is e z m h w s r g = const_answer (runs.plain ds) root (known_of cs) known 0 k Const [] [] agreed (λ x. tt) e (v.Literal z) w s r (scope_computes ds cs (declared_of cs settled) [] e z m h) g

      used_is : (e : Exp) (z : LiteralInstance) (m : ℕ) → plain_meaning.value (stage (module_scope ds cs)) [] e ≡ Done z m → (w : Instance) (s r : State) → bind (value W Const [] e) used s ≡ machine.Done w r → v.Literal z ≡ w
      used_is e z m h w s r g = at (value W Const [] e s) refl g
        where
          at : (o : Outcome Fault Instance) → value W Const [] e s ≡ o → next_of o used ≡ machine.Done w r → v.Literal z ≡ w
          at (machine.Done u q) is j =
              let same : used (v.Literal z) q ≡ machine.Done w r = ap (λ a. used a q) (value_is e z m h u s q is) ∙ j in
              let here_it : machine.Done (v.Literal z) q ≡ machine.Done w r = sym (ap (λ (n : M Instance). n q) (used_literal z)) ∙ same in
              cc
          at (machine.Failed f) is j = absurd (cc)
          at machine.Deep is j = absurd (cc)

      untyped : (e : Exp) (y : LiteralInstance) (n : ℕ) → plain_meaning.initial (stage (module_scope ds cs)) None e ≡ Done y n → (w : Instance) (s r : State)
          → bind (typed W [] e) (λ u. bind (value W Const [] e) used) s ≡ machine.Done w r → v.Literal y ≡ w
      untyped e y n h w s r g =
          let x = parts_of ScalarType LiteralInstance (plain_meaning.typed (stage (module_scope ds cs)) [] e) (λ u. plain_meaning.value (stage (module_scope ds cs)) [] e) y n h in
          at x.more x.then_is (typed W [] e s) g
        where
          at : (m : ℕ) → plain_meaning.value (stage (module_scope ds cs)) [] e ≡ Done y m → (o : Outcome Fault ShaderType) → next_of o (λ u. bind (value W Const [] e) used) ≡ machine.Done w r → v.Literal y ≡ w
          at m is (machine.Done u q) j = used_is e y m is w q r j
          at m is (machine.Failed f) j = absurd (cc)
          at m is machine.Deep j = absurd (cc)

      at_type : (t : Typ) (e : Exp) (y : LiteralInstance) (n : ℕ) → plain_meaning.initial (stage (module_scope ds cs)) (Some t) e ≡ Done y n → (w : Instance) (s r : State)
          → bind (type_written W t) (λ u. bind (bind (value W Const [] e) used) (λ x. computed (converted x u))) s ≡ machine.Done w r → v.Literal y ≡ w
      at_type t e y n h w s r g =
          let u = parts_of ScalarType LiteralInstance (plain_meaning.type_written (stage (module_scope ds cs)) t) (λ u. plain.bind (plain_meaning.value (stage (module_scope ds cs)) [] e) (λ x. plain.computed (conversions.converted u x))) y n h in
          let x = parts_of LiteralInstance LiteralInstance (plain_meaning.value (stage (module_scope ds cs)) [] e) (λ x. plain.computed (conversions.converted u.first x)) y u.more u.then_is in
          let is = type_is ds cs [] t u.first (at_once_done (type_here (module_scope ds cs) t) u.first u.steps u.first_is) in
          let c = concrete_of is.name u.first is.built_in in
          let means = type_means ds W (λ z e. denotes_none z ds e) t u.first is in
          let made = computed_done (conversions.converted u.first x.first) y x.more x.then_is in
          let to : converted (v.Literal x.first) (scalar_type u.first) ≡ Ok (v.Literal y) =
          converted_scalar x.first u.first (subst (λ i. IsInRange i x.first) (sym c.1) (in_range c.0 c.2 x.first)) ∙ ap as_literal made in
          at x.first x.steps x.first_is u.first to (bind (value W Const [] e) used s) refl (sym (ap (λ (m : M ShaderType). bind m (λ u. bind (bind (value W Const [] e) used) (λ x. computed (converted x u))) s) means) ∙ g)
        where
          at_once_done : (o : plain_values.Checked ScalarType) (x : ScalarType) (n : ℕ) → plain.at_once o ≡ Done x n → o ≡ Ok x
          at_once_done (Ok y) x n e = let same : y ≡ x = cc in ap Ok same
          at_once_done (Err f) x n e = absurd (cc)

          at : (x : LiteralInstance) (m : ℕ) → plain_meaning.value (stage (module_scope ds cs)) [] e ≡ Done x m → (u : ScalarType) → converted (v.Literal x) (scalar_type u) ≡ Ok (v.Literal y) → (o : Outcome Fault Instance)
              → bind (value W Const [] e) used s ≡ o → next_of o (λ z. computed (converted z (scalar_type u))) ≡ machine.Done w r → v.Literal y ≡ w
          at x m is u to (machine.Done z q) gives j =
              let same : computed (Ok (v.Literal y)) q ≡ machine.Done w r = (λ k. computed (sym to k) q) ∙ ap (λ a. computed (converted a (scalar_type u)) q) (used_is e x m is z s q gives) ∙ j in
              cc
          at x m is u to (machine.Failed f) gives j = absurd (cc)
          at x m is u to machine.Deep gives j = absurd (cc)

    module _ (cs : Consts) (settled : Settled ds cs) (agreed : Agreed cs known) where
      -- a const whose value the const stage has is given that value
      const_is : (x : Name) (y : LiteralInstance) → plain_names.find x cs ≡ Some y → (w : Instance) (s r : State) → const_in W x (find_decl x ds) s ≡ machine.Done w r → v.Literal y ≡ w
      const_is x y h w s r g =
          let c = came cs settled x y h in
          at c.before c.settled (λ z. agrees_before c z) (plain_names.find_decl x ds) c.steps c.gives (ap (λ d. const_in W x d s) (same_decl x ds) ∙ g)
        where
          agrees_before : (c : Came cs x y) → Agreed c.before known
          agrees_before c z =
              subst (λ o. KnownAgree o (find_known z known)) (sym (known_found z c.before))
              (narrower (plain_names.find z.called c.before) (plain_names.find z.called cs) (bytes_eq z.home root) (find_known z known) (λ u k. c.earlier z.called u k)
              (subst (λ o. KnownAgree o (find_known z known)) (known_found z cs) (agreed z)))

          at : (before : Consts) → Settled ds before → Agreed before known → (d : Option Decl) (n : ℕ) → plain_meaning.const_in (stage (module_scope ds before)) x d ≡ Done y n → const_in W x d s ≡ machine.Done w r → v.Literal y ≡ w
          at before se ag (Some (variable attributes kind z (Some t) (Some e))) n is j = at_type before se ag t e y n is w s r j
          at before se ag (Some (variable attributes kind z None (Some e))) n is j = untyped before se ag e y n is w s r j
          at before se ag (Some (variable attributes kind z t None)) n is j = absurd (cc)
          at before se ag (Some (function attributes f parameters return_attributes type body)) n is j = absurd (cc)
          at before se ag None n is j = absurd (cc)

  -- ---- the start

  module _ (cs : Consts) (settled : Settled ds cs) (k : ℕ) where
    -- the value of one more symbol
    extended : (known : Known) → Agreed cs known → (t : Symbol) (w : Instance) (s r : State) → const_in (world (runs.plain ds) known k t.home) t.called (find_decl t.called ds) s ≡ machine.Done w r → Agreed cs (known ++ (t, w) ∷ [])
    extended known agreed t w s r g z =
        subst (KnownAgree (find_known z (known_of cs))) (sym (find_behind z known t w)) (at (find_known z known) refl)
      where
        by_value : (b : Bool) → bytes_eq z.home root ≡ b → (o : Option LiteralInstance) → plain_names.find z.called cs ≡ o → z.called ≡ t.called → KnownAgree (if_root b o) (Some w)
        by_value true e (Some y) h same = const_is known k cs settled agreed t.called y (sym (ap (λ x. plain_names.find x cs) same) ∙ h) w s r g
        by_value true e None h same = tt
        by_value false e o h same = tt

        both_eq : (b c : Bool) → (b && c) ≡ true → c ≡ true
        both_eq true c e = e
        both_eq false c e = absurd (cc)

        by_name : (b : Bool) → is_same z t ≡ b → KnownAgree (find_known z (known_of cs)) (if b then Some w else None)
        by_name true e =
            subst (λ o. KnownAgree o (Some w)) (sym (known_found z cs))
            (by_value (bytes_eq z.home root) refl (plain_names.find z.called cs) refl (same_text z.called t.called (sym (both_eq (bytes_eq z.home t.home) (bytes_eq z.called t.called) e))))
        by_name false e = nothing_there (find_known z (known_of cs))
          where
            nothing_there : (o : Option Instance) → KnownAgree o None
            nothing_there (Some y) = tt
            nothing_there None = tt

        at : (o : Option Instance) → find_known z known ≡ o → KnownAgree (find_known z (known_of cs)) (or_if o (is_same z t) w)
        at (Some y) e = subst (KnownAgree (find_known z (known_of cs))) e (agreed z)
        at None e = by_name (is_same z t) refl

    pub starts_agree : (order : List Symbol) (known after : Known) (s r : State) → Agreed cs known → started (runs.plain ds) k known order s ≡ machine.Done after r → Agreed cs after
    starts_agree [] known after s r agreed g = let same : known ≡ after = cc in subst (Agreed cs) same agreed
    starts_agree (t ∷ rest) known after s r agreed g =
        let more = starts_agree rest in
        at more (const_in (world (runs.plain ds) known k t.home) t.called (find_decl t.called ds) s) refl g
      where
        at : ((known after : Known) (s r : State) → Agreed cs known → started (runs.plain ds) k known rest s ≡ machine.Done after r → Agreed cs after) → (o : Outcome Fault Instance)
            → const_in (world (runs.plain ds) known k t.home) t.called (find_decl t.called ds) s ≡ o → next_of o (λ w. started (runs.plain ds) k (known ++ (t, w) ∷ []) rest) ≡ machine.Done after r → Agreed cs after
        at more (machine.Done w q) is j = more (known ++ (t, w) ∷ []) after q r (extended known agreed t w s q is) j
        at more (machine.Failed f) is j = absurd (cc)
        at more machine.Deep is j = absurd (cc)
