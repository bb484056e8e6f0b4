-- A const that has no value was found under its name, and a function that isn't lowered stands in the unit.
use Rattle.std.proofs.Common.{◌≡◌, ◌⊎◌, inl, inr, ⊎_elim, ℕ, zero, suc, List, [], ◌∷◌, map, Bool, true, false, Option, Some, None, Result, Ok, Err, refl, sym, ap, ◌∙◌, subst, arith, Contains}
use Rattle.std.specs.Prelude.{if◌then◌else◌, slice_get}
use Rattle.std.specs.Str.{bytes_eq}
use Rattle.std.specs.Cmp.Lexicographic.{same_text}
use Rattle.core_syntax.specs.Tree.{Decl, variable, function}
use Rattle.core_syntax.specs.Names.{declared_name}
use Rattle.wgsl_shader_type.specs.declared.literal.LiteralInstance.{LiteralInstance}
use Rattle.core_meaning.specs.declared.fault.Fault.TheVariants.{StepLimit}
use Rattle.core_meaning.specs.Values.{Checked}
use Rattle.core_meaning.specs.Outcome.{Outcome, Done, Failed, Deep}
use Rattle.core_meaning.specs.Names.{Name, find_decl}
use Rattle.core_meaning.specs.Meaning.{const_in}
use Rattle.core_meaning.specs.ConstStage.{Consts, Scope, stage, module_scope}
use Rattle.core_eval.specs.declared.error.DeclarationFault.{DeclarationFault}
use Rattle.core_eval.specs.Start.{refused, added, valued, valued_at, then_more, all_valued, consts_of}
use Rattle.core_lower_expressions.specs.Computed.{lowered_function, refusing, lowered_declarations}
use Rattle.core_lower.specs.Located.{RefusalsAreInDeclarations}
use Rattle.core_lower.proofs.Same.{computed_same}

-- ---- members

first_in : (x : Name) (xs : List Name) → Contains (x ∷ xs) x
first_in x xs = (zero, omega arith, refl)

later_in : (x y : Name) (xs : List Name) → Contains xs x → Contains (y ∷ xs) x
later_in x y xs h = let less = h.1 in (suc h.0, omega arith, h.2)

-- a name under which a declaration is found is declared
found_in : (x : Name) (ds : List Decl) (d : Decl) → find_decl x ds ≡ Some d → Contains (map declared_name ds) x
found_in x [] d h = absurd (cc)
found_in x (e ∷ ds) d h = at (bytes_eq x (declared_name e)) (found_in x ds d) refl h
  where
    at : (b : Bool) → (find_decl x ds ≡ Some d → Contains (map declared_name ds) x) → bytes_eq x (declared_name e) ≡ b → (if b then Some e else find_decl x ds) ≡ Some d → Contains (map declared_name (e ∷ ds)) x
    at true behind same k = subst (Contains (declared_name e ∷ map declared_name ds)) (sym (same_text x (declared_name e) (sym same))) (first_in (declared_name e) (map declared_name ds))
    at false behind other k = later_in x (declared_name e) (map declared_name ds) (behind k)

-- ---- refusals

either_refused : {A B : Type 0} (o : Result A DeclarationFault) (f : A → Result B DeclarationFault) (r : DeclarationFault) → then_more o f ≡ Err r → (o ≡ Err r) ⊎ ((x : A) × (f x ≡ Err r))
either_refused (Ok x) f r h = inr (x, h)
either_refused (Err q) f r h = let same : q ≡ r = cc in inl (ap Err same)

added_here : (cs : Consts) (x : Name) (o : Outcome LiteralInstance) (r : DeclarationFault) → added cs x o ≡ Err r → r.declaration ≡ x
added_here cs x (Done v n) r h = absurd (cc)
added_here cs x (Failed f) r h = let same : refused x f ≡ r = cc in sym (ap (λ (q : DeclarationFault). q.declaration) same)
added_here cs x Deep r h = let same : refused x StepLimit ≡ r = cc in sym (ap (λ (q : DeclarationFault). q.declaration) same)

valued_in : (ds : List Decl) (cs : Consts) (x : Name) (o : Option Decl) (r : DeclarationFault) → find_decl x ds ≡ o → valued ds cs x o ≡ Err r → Contains (map declared_name ds) r.declaration
valued_in ds cs x (Some (variable attributes kind y type e)) r is h =
    subst (Contains (map declared_name ds)) (sym (added_here cs x (const_in (stage (module_scope ds cs)) x (Some (variable attributes kind y type e))) r h))
    (found_in x ds (variable attributes kind y type e) is)
valued_in ds cs x (Some (function attributes f parameters return_attributes type body)) r is h = absurd (cc)
valued_in ds cs x None r is h = absurd (cc)

valued_at_in : (ds : List Decl) (cs : Consts) (d : Option Decl) (r : DeclarationFault) → valued_at ds cs d ≡ Err r → Contains (map declared_name ds) r.declaration
valued_at_in ds cs (Some (variable attributes kind x type e)) r h = valued_in ds cs x (find_decl x ds) r refl h
valued_at_in ds cs (Some (function attributes f parameters return_attributes type body)) r h = absurd (cc)
valued_at_in ds cs None r h = absurd (cc)

all_valued_in : (ds : List Decl) (cs : Consts) (order : List ℕ) (r : DeclarationFault) → all_valued ds cs order ≡ Err r → Contains (map declared_name ds) r.declaration
all_valued_in ds cs [] r h = absurd (cc)
all_valued_in ds cs (i ∷ order) r h =
    ⊎_elim (valued_at_in ds cs (slice_get ds i) r) (λ later. all_valued_in ds later.0 order r later.1)
    (either_refused (valued_at ds cs (slice_get ds i)) (λ more. all_valued ds more order) r h)

refusing_here : {A : Type 0} (x : Name) (o : Checked A) (r : DeclarationFault) → refusing x o ≡ Err r → r.declaration ≡ x
refusing_here x (Ok v) r h = absurd (cc)
refusing_here x (Err f) r h = let same : refused x f ≡ r = cc in sym (ap (λ (q : DeclarationFault). q.declaration) same)

lowered_in : (s : Scope) (ds : List Decl) (r : DeclarationFault) → lowered_declarations s ds ≡ Err r → Contains (map declared_name ds) r.declaration
lowered_in s [] r h = absurd (cc)
lowered_in s (variable attributes kind x type e ∷ ds) r h = later_in r.declaration x (map declared_name ds) (lowered_in s ds r h)
lowered_in s (function attributes f parameters return_attributes type body ∷ ds) r h =
    ⊎_elim (λ here. subst (Contains (f ∷ map declared_name ds)) (sym (refusing_here f (lowered_function s attributes f parameters return_attributes type body) r here)) (first_in f (map declared_name ds)))
    (λ later. ⊎_elim (λ k. later_in r.declaration f (map declared_name ds) (lowered_in s ds r k)) (λ none. absurd (cc))
    (either_refused (lowered_declarations s ds) (λ more. Ok (later.0 ∷ more)) r later.1))
    (either_refused (refusing f (lowered_function s attributes f parameters return_attributes type body)) (λ d. then_more (lowered_declarations s ds) (λ more. Ok (d ∷ more))) r h)

-- ---- the law

pub refusals_are_in_declarations : RefusalsAreInDeclarations
refusals_are_in_declarations steps unit r l =
    ⊎_elim (all_valued_in unit.declarations [] l.order r)
    (λ later. ⊎_elim (lowered_in (module_scope unit.declarations later.0) unit.declarations r) (λ none. absurd (cc))
    (either_refused (lowered_declarations (module_scope unit.declarations later.0) unit.declarations) (λ low. Ok (record { imports = []; declarations = low })) r later.1))
    (either_refused (consts_of unit.declarations l.order) (λ cs. then_more (lowered_declarations (module_scope unit.declarations cs) unit.declarations) (λ low. Ok (record { imports = []; declarations = low }))) r
    (sym (computed_same steps l.order unit) ∙ l.comes))
