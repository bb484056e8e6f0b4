-- Laws of resolvers that are mounted.
use Rattle.std.specs.Prelude.{◌≡◌, ℕ, List}
use Rattle.std.proofs.Common.{sym, subst, ◌∙◌}
use Rattle.wgsl_path.specs.declared.path.ModulePath.{ModulePath}
use Rattle.wgsl_declarations.specs.Tree.{UnitTree}
use Rattle.wesl_resolvers.specs.Found.{Answer, unit_of, not_found, is_unit, IsSomeText}
use Rattle.wesl_router.specs.Routing.{Target, asks, nowhere, answered, texted}

module _ {M : Type 0} (found : M → ModulePath → Answer → Type 0) (texts : M → ModulePath → List ℕ → Type 0) where
  pub one_routed : ((m : M) (p : ModulePath) (a b : Answer) → found m p a → found m p b → a ≡ b) → (t : Target M) (a b : Answer) → answered found t a → answered found t b → a ≡ b
  one_routed one (asks m p) a b h k = one m p a b h k
  one_routed one nowhere a b h k = h ∙ sym k

  pub one_text_routed : ((m : M) (p : ModulePath) (a b : List ℕ) → texts m p a → texts m p b → a ≡ b) → (t : Target M) (a b : List ℕ) → texted texts t a → texted texts t b → a ≡ b
  one_text_routed one (asks m p) a b h k = one m p a b h k
  one_text_routed one nowhere a b h k = absurd h

  pub text_routed : ((m : M) (p : ModulePath) (u : UnitTree) → found m p (unit_of u) → IsSomeText (texts m p)) → (t : Target M) (u : UnitTree) → answered found t (unit_of u) → IsSomeText (texted texts t)
  text_routed there (asks m p) u h = there m p u h
  text_routed there nowhere u h = absurd (subst is_unit h tt)
