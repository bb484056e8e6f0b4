-- A run of the lowered unit is as good as the run of the unit.
use Rattle.std.proofs.Common.{◌≡◌, ℕ, ◌≤◌, List, [], ◌∷◌, ◌++◌, map, Option, Some, None, Bool, true, false, Ok, Err, refl, sym, ap, ◌∙◌, subst}
use Rattle.std.specs.Prelude.{codes, if◌then◌else◌, slice_get, ◌⊎◌}
use Rattle.std.proofs.Common.{inl, inr}
use Rattle.std.specs.Str.{bytes_eq}
use Rattle.std.specs.Cmp.Lexicographic.{same_text}
use Rattle.core_syntax.specs.Tree.{Param, Decl, variable, function, UnitTree as Module}
use Rattle.core_syntax.specs.Names.{declared_name}
use Rattle.wgsl_words.specs.declared.enumerations.words.ShaderStage.TheVariants.{Const, Exec}
use Rattle.wgsl_shader_type.specs.declared.literal.LiteralInstance.{LiteralInstance}
use Rattle.wgsl_scalar.specs.declared.scalar.ScalarType.{ScalarType}
use Rattle.wgsl_scalar.specs.declared.scalar.ScalarType.TheVariants.{Integer}
use Rattle.wgsl_scalar.specs.declared.scalar.IntegerType.TheVariants.{I32, U32}
use Rattle.wgsl_instance.specs.declared.tree.Instance.{Instance}
use Rattle.core_computations.specs.Machine.{State, fail, next_of}
use Rattle.core_computations.specs.Machine as machine
use Rattle.core_computations.specs.Lift.{Same}
use Rattle.core_computations.specs.Compare.{LikewiseAt, Better}
use Rattle.core_meaning.specs.declared.fault.Fault.TheVariants.{Name as Named}
use Rattle.core_meaning.specs.declared.fault.NameFault.TheVariants.{Todo}
use Rattle.core_meaning.specs.Outcome.{Outcome, Done, Failed, Deep}
use Rattle.core_meaning.specs.Names.{Name, find_decl, built_in_type}
use Rattle.core_meaning.specs.Meaning.{Types, const_in}
use Rattle.core_meaning.specs.ConstStage.{Consts, stage, module_scope, Settled, nothing, another}
use Rattle.core_lower_expressions.specs.Faults.{Fault, OfName, NotEntrypoint}
use Rattle.core_lower_expressions.specs.Computing.{M}
use Rattle.core_lower_expressions.specs.Programs.{Known, find_known, Reaches, is_value, values_among, world, root, here}
use Rattle.core_lower_expressions.specs.Runs.{Handed, has_stage, entered, started, run, allowed, EndsWell, plain}
use Rattle.core_lower_expressions.specs.Runs as runs
use Rattle.core_lower_expressions.proofs.Bodies.{entered_meets}
use Rattle.core_lower_expressions.proofs.Agreeing.{KnownAgree}
use Rattle.core_lower_expressions.proofs.Cells.{IsLeft, Leaves, start_leaves}
use Rattle.core_order.specs.Order.{IsStartOrder, none_left}
use Rattle.core_eval.specs.Start.{then_more, added, valued, valued_at, all_valued, consts_of}
use Rattle.core_lower_expressions.specs.Computed.{parameter_types, lowered_declarations, lowered_after}
use Rattle.core_lower.specs.Keeps.{is_clear, ClearParameters, AreClear, Keeps}
use Rattle.core_lower.proofs.Units.{then_more_ok, gone_too, found_too, only_functions, clear_declaration, clear_found, clear_types}
use Rattle.core_lower.proofs.Worlds.{same_decl, known_of}
use Rattle.core_lower.proofs.Differs.{same_stage, entry_stays, AreClearTypes, lowering, declaration_goes}
use Rattle.core_lower.proofs.Meets.{BetterLift, kept, worlds_meet}
use Rattle.core_lower.proofs.Starts.{declared_of, Agreed, starts_agree}

-- ---- clear names

either_name : (x : Name) (t : ScalarType) → built_in_type x ≡ Ok t → (x ≡ codes "i32") ⊎ (x ≡ codes "u32")
either_name x t h = at (bytes_eq x (codes "i32")) (bytes_eq x (codes "u32")) refl refl h
  where
    at : (b c : Bool) → bytes_eq x (codes "i32") ≡ b → bytes_eq x (codes "u32") ≡ c → (if b then Ok (Integer I32) else if c then Ok (Integer U32) else Err (Named Todo x)) ≡ Ok t → (x ≡ codes "i32") ⊎ (x ≡ codes "u32")
    at true c i j e = inl (same_text x (codes "i32") (sym i))
    at false true i j e = inr (same_text x (codes "u32") (sym j))
    at false false i j e = absurd (cc)

-- what has no stage is not entered, whatever stands in its place
not_entered : (b : Bool) (f : Name) (m n : M (Option Instance)) → b ≡ false → Better Fault (Option Instance) (Option Instance) Same (if b then m else fail (OfName NotEntrypoint f)) n
not_entered true f m n h = absurd (cc)
not_entered false f m n h = record { from = λ s t begin. tt }

-- no clear name is that of a built-in type
never_clear : (x : Name) (t : ScalarType) → built_in_type x ≡ Ok t → (y : Name) → is_clear y → y ≡ x → ⊥
never_clear x t h y c e = at (either_name x t h)
  where
    at : (x ≡ codes "i32") ⊎ (x ≡ codes "u32") → ⊥
    at (inl i) = c.0 (e ∙ i)
    at (inr i) = c.1 (e ∙ i)

module _ (ds low : List Decl) (cs : Consts) (settled : Settled ds cs) (is_low : lowered_declarations (module_scope ds cs) ds ≡ Ok low) (clear : AreClear ds) where
  gone : (x : Name) → find_decl x ds ≡ None → find_decl x low ≡ None
  gone = gone_too (module_scope ds cs) ds low is_low

  undeclared : (x : Name) (t : ScalarType) → built_in_type x ≡ Ok t → find_decl x ds ≡ None
  undeclared x t h = clear_declaration x (never_clear x t h) ds clear

  clear_locals : (ps : List Param) → ClearParameters ps → (ts : Types) → parameter_types (module_scope ds cs) ps ≡ Ok ts → AreClearTypes ts
  clear_locals ps c ts h x t is = clear_types x (module_scope ds cs) ps ts (λ p k e. never_clear x t is p.name k e) c h

  -- ---- entry points

  module _ (known : Known) (agreed : Agreed ds cs known) (k : ℕ) where
    abbrev EntersBetter : Name → Option Decl → Option Decl → Handed → Type 0
    EntersBetter f d e handed =
        Better Fault (Option Instance) (Option Instance) Same (entered (world (plain ds) known k root) f d handed) (entered (world (plain low) [] k root) f e handed)

    enters : (f : Name) (handed : Handed) (d : Option Decl) → find_decl f ds ≡ d → EntersBetter f d (find_decl f low) handed
    enters f handed None e = record { from = λ s t begin. tt }
    enters f handed (Some (variable attributes kind x type i)) e = record { from = λ s t begin. tt }
    enters f handed (Some (function a g ps rs type b)) e = at (has_stage a) refl
      where
        at : (c : Bool) → has_stage a ≡ c → EntersBetter f (Some (function a g ps rs type b)) (find_decl f low) handed
        at false h = not_entered (has_stage a) f _ _ h
        at true h =
            let l = found_too (module_scope ds cs) ds low is_low f a g ps rs type b e in
            let stays : has_stage l.2.attributes ≡ true = sym (same_stage (module_scope ds cs) a l.2.attributes l.2.attributes_are) ∙ h in
            subst (λ z. EntersBetter f (Some (function a g ps rs type b)) z handed) (sym l.1)
            (entered_meets BetterLift kept (lowering ds cs) (world (plain ds) known k root) (world (plain low) [] k root)
            (worlds_meet ds low cs (declared_of ds cs settled) gone undeclared known agreed k Const) (worlds_meet ds low cs (declared_of ds cs settled) gone undeclared known agreed k Exec)
            f (function a g ps rs type b) l.0
            (declaration_goes ds cs a g ps rs type b l.0 l.2 (clear_locals ps (clear_found ds f a g ps rs type b clear e) l.2.types l.2.types_are) (entry_stays l.2.attributes l.2.parameters type stays)) handed)

    entered_better : (f : Name) (handed : Handed) → EntersBetter f (runs.find_decl f ds) (runs.find_decl f low) handed
    entered_better f handed = subst (λ d. EntersBetter f d (runs.find_decl f low) handed) (same_decl f ds) (subst (λ d. EntersBetter f (find_decl f ds) d handed) (same_decl f low) (enters f handed (find_decl f ds) refl))

  -- ---- runs

  -- the lowered unit has no values to start
  no_values : (l : List Decl) → values_among (plain low) (map (λ d. here (declared_name d)) l) ≡ []
  no_values [] = refl
  no_values (d ∷ l) =
      ap (λ b. if b then here (declared_name d) ∷ values_among (plain low) (map (λ e. here (declared_name e)) l) else values_among (plain low) (map (λ e. here (declared_name e)) l))
      (ap is_value (sym (same_decl (declared_name d) low)) ∙ only_functions (module_scope ds cs) ds low is_low (declared_name d)) ∙ no_values l

  starts_nothing : IsStartOrder (Reaches (plain low)) (values_among (plain low) (plain low).held) []
  starts_nothing = subst (λ l. IsStartOrder (Reaches (plain low)) l []) (sym (no_values low)) (record { progress = record { begun = []; started = [] }; comes = none_left; whole = refl })

  pub keeps : Keeps ds low
  keeps f handed n answer e = at (started (plain ds) e.bound [] e.order (allowed n)) refl e.ends
    where
      ends : (known : Known) (q : State) → started (plain ds) e.bound [] e.order (allowed n) ≡ machine.Done known q → entered (world (plain ds) known e.bound root) f (runs.find_decl f ds) handed q ≡ machine.Done answer e.last
          → EndsWell (plain low) (here f) handed n answer
      ends known q is j =
          let left : IsLeft (allowed n) q = subst (Leaves (allowed n)) is (start_leaves (plain ds) e.bound [] e.order (allowed n)) in
          let agreed : Agreed ds cs known = starts_agree ds cs settled e.bound e.order [] known (allowed n) q (nothing_known) is in
          let b = (entered_better known agreed e.bound f handed).from q (allowed n) (record { cells = left.cells; left = left.steps }) in
          let c = subst (λ o. LikewiseAt (λ a b. a ≤ b) Fault (Option Instance) (Option Instance) Same q (allowed n) o (entered (world (plain low) [] e.bound root) f (runs.find_decl f low) handed (allowed n))) j b in
          record { order = []; is_order = starts_nothing; bound = e.bound; last = c.state; ends = c.ends ∙ ap (λ a. machine.Done a c.state) (sym c.alike) }
        where
          nothing_known : Agreed ds cs []
          nothing_known s = none_agrees (find_known s (known_of cs))
            where
              none_agrees : (o : Option Instance) → KnownAgree o None
              none_agrees (Some y) = tt
              none_agrees None = tt

      at : (o : machine.Outcome Fault Known) → started (plain ds) e.bound [] e.order (allowed n) ≡ o → next_of o (λ known. entered (world (plain ds) known e.bound root) f (runs.find_decl f ds) handed) ≡ machine.Done answer e.last
          → EndsWell (plain low) (here f) handed n answer
      at (machine.Done known q) is j = ends known q is j
      at (machine.Failed w) is j = absurd (cc)
      at machine.Deep is j = absurd (cc)

-- ---- the consts of the start are settled

module _ (ds : List Decl) where
  settled_added : (cs more : Consts) (x : Name) (o : Outcome LiteralInstance) → Settled ds cs → const_in (stage (module_scope ds cs)) x (find_decl x ds) ≡ o → added cs x o ≡ Ok more → Settled ds more
  settled_added cs more x (Done v n) h e is = let same : cs ++ (x, v) ∷ [] ≡ more = cc in subst (Settled ds) same (another cs x v n h e)
  settled_added cs more x (Failed f) h e is = absurd (cc)
  settled_added cs more x Deep h e is = absurd (cc)

  settled_valued : (cs more : Consts) (x : Name) (d : Option Decl) → Settled ds cs → find_decl x ds ≡ d → valued ds cs x d ≡ Ok more → Settled ds more
  settled_valued cs more x (Some (variable attributes kind y type i)) h e is =
      settled_added cs more x (const_in (stage (module_scope ds cs)) x (Some (variable attributes kind y type i))) h (ap (const_in (stage (module_scope ds cs)) x) e) is
  settled_valued cs more x (Some (function attributes f ps rs t b)) h e is = let same : cs ≡ more = cc in subst (Settled ds) same h
  settled_valued cs more x None h e is = let same : cs ≡ more = cc in subst (Settled ds) same h

  pub settled_at : (cs more : Consts) (d : Option Decl) → Settled ds cs → valued_at ds cs d ≡ Ok more → Settled ds more
  settled_at cs more (Some (variable attributes kind x type i)) h is = settled_valued cs more x (find_decl x ds) h refl is
  settled_at cs more (Some (function attributes f ps rs t b)) h is = let same : cs ≡ more = cc in subst (Settled ds) same h
  settled_at cs more None h is = let same : cs ≡ more = cc in subst (Settled ds) same h

  settled_all : (order : List ℕ) (cs out : Consts) → Settled ds cs → all_valued ds cs order ≡ Ok out → Settled ds out
  settled_all [] cs out h is = let same : cs ≡ out = cc in subst (Settled ds) same h
  settled_all (i ∷ order) cs out h is =
      let more = then_more_ok (valued_at ds cs (slice_get ds i)) (λ more. all_valued ds more order) out is in
      settled_all order more.0 out (settled_at cs more.0 (slice_get ds i) h more.1) more.2

  pub settled : (order : List ℕ) (cs : Consts) → consts_of ds order ≡ Ok cs → Settled ds cs
  settled order cs is = settled_all order [] cs nothing is

-- ---- whole units

pub lowered_so : (u low : Module) → AreClear u.declarations → (order : List ℕ) → lowered_after order u ≡ Ok low → Keeps u.declarations low.declarations
lowered_so u low clear order is =
    let cs = then_more_ok (consts_of u.declarations order) (λ cs. then_more (lowered_declarations (module_scope u.declarations cs) u.declarations) (λ ds. Ok (record { imports = []; declarations = ds }))) low is in
    let ds = then_more_ok (lowered_declarations (module_scope u.declarations cs.0) u.declarations) (λ ds. Ok (record { imports = []; declarations = ds })) low cs.2 in
    let same : record { imports = []; declarations = ds.0 } ≡ low = cc in
    subst (Keeps u.declarations) (ap (λ (m : Module). m.declarations) same) (keeps u.declarations ds.0 cs.0 (settled u.declarations order cs.0 cs.1) ds.1 clear)
