-- What the answers of single cases say of lists of faults.
use Rattle.std.proofs.Common.{◌≡◌, ℕ, ◌+◌, ◌<◌, List, [], ◌∷◌, ◌++◌, length, get_or, take, Option, Some, true, false, cond, Result, Ok, Err, sym, ap, ◌∙◌, subst, arith}
use Rattle.std.specs.Prelude.{position}
use Rattle.std.proofs.Common.{length-take-le}
use Rattle.std.specs.Result.{IsErrAnd}
use Rattle.std.specs.Str.{bytes_eq}
use Rattle.std.proofs.lemmas.List.{take_more, map-append, length-map}
use Rattle.wgsl_path.specs.declared.span.Spanned.{Spanned}
use Rattle.core_syntax.specs.declared.declaration.GlobalDeclaration.{GlobalDeclaration}
use Rattle.core_syntax.specs.View.{declaration_tree}
use Rattle.core_syntax.specs.Names.{declared_name}
use Rattle.core_validate.specs.declared.error.ValidateFault.{ValidateFault}
use Rattle.wgsl_base.specs.declared.items.error.OrOutOfMemory.{OrOutOfMemory}
use Rattle.wgsl_base.specs.Memory.{UnlessOutOfMemory}
use Rattle.core_validate.specs.Scopes.{Name, is_in}
use Rattle.core_validate.specs.Lookups.{declared}
use Rattle.core_validate.proofs.PositionLemmas.{position-push, position-again}
use Rattle.core_validate.specs.Faults.{IsFirstOf, Finds}

abbrev pub Refusal : Type 0
Refusal = OrOutOfMemory ValidateFault

-- the first of these faults, unless memory was refused
abbrev pub Refuses : List ValidateFault → Refusal → Type 0
Refuses fs = UnlessOutOfMemory (IsFirstOf fs)

-- through `?`
pub Finds-through : (U : Type 0) (fs : List ValidateFault) (e : Refusal) (r : Result U Refusal)
    → IsErrAnd r (λ x. x ≡ e) → Refuses fs e → Finds fs r
Finds-through U fs e (Ok x) p h = absurd p
Finds-through U fs e (Err x) p h = subst (Refuses fs) (sym p) h

-- ---- the index

abbrev nm : Spanned GlobalDeclaration → Name
nm n = declared_name (declaration_tree n.node)

module _ (ds : List (Spanned GlobalDeclaration)) (i : ℕ) (d : Spanned GlobalDeclaration) (within : i < length ds) (is : d ≡ get_or ds i d) where
  pub declared_more : declared (take (i + 1) ds) ≡ declared (take i ds) ++ nm d ∷ []
  declared_more =
      ap declared (take_more ds i d within ∙ ap (λ x. take i ds ++ x ∷ []) (sym is)) ∙ map-append nm (take i ds) (d ∷ [])

  pub before_length : length (declared (take i ds)) ≡ i
  before_length = length-map (take i ds) nm ∙ length-take-le i ds (omega arith)

  -- one more name, which was not there
  pub looks_up_more : (old new : Name → Option ℕ) (x : Name) → x ≡ nm d → is_in (nm d) (declared (take i ds)) ≡ false
      → ((q : Name) → old q ≡ position (bytes_eq q) (declared (take i ds)))
      → ((q : Name) → new q ≡ cond (bytes_eq x q) (Some i) (old q))
      → (q : Name) → new q ≡ position (bytes_eq q) (declared (take (i + 1) ds))
  looks_up_more old new x same fresh was is q =
      is q
      ∙ (λ k. cond (bytes_eq (same k) q) (Some (sym before_length k)) (was q k))
      ∙ sym (position-push (declared (take i ds)) (nm d) q fresh)
      ∙ sym (ap (position (bytes_eq q)) declared_more)

  -- one more name, which was there
  pub looks_up_same : (look : Name → Option ℕ) → is_in (nm d) (declared (take i ds)) ≡ true
      → ((q : Name) → look q ≡ position (bytes_eq q) (declared (take i ds)))
      → (q : Name) → look q ≡ position (bytes_eq q) (declared (take (i + 1) ds))
  looks_up_same look known was q =
      was q ∙ sym (position-again (declared (take i ds)) (nm d) q known) ∙ sym (ap (position (bytes_eq q)) declared_more)
