-- `==` of references tells the same reference.
use Rattle.std.proofs.Common.{◌≡◌, refl, sym, ap, ◌∙◌, ◌&&◌, ◌==◌, Bool, true, false, true≢false, Option, Some, None}
use Rattle.std.specs.Option.{option_eq}
use Rattle.std.proofs.lemmas.Bool.Decides.{Decides-eqb}
use Rattle.wgsl_path.specs.declared.path.ModulePath.{ModulePath}
use Rattle.wgsl_path.specs.contracts.path.ModulePathPartialEq.TheImpl as path
use Rattle.wgsl_path.specs.Equality.{same_paths}
use Rattle.wesl_mark.specs.declared.names.Reference.{Reference}
use Rattle.wesl_mark.specs.contracts.names.ReferencePartialEq.TheImpl as reference

both : (a b : Bool) → (a && b) ≡ true → (a ≡ true) × (b ≡ true)
both true b e = (refl, e)
both false b e = absurd (true≢false (sym e))

same_optional : (p q : Option ModulePath) → option_eq path.eq-value.it p q ≡ true → p ≡ q
same_optional None None h = refl
same_optional None (Some q) h = absurd (true≢false (sym h))
same_optional (Some p) None h = absurd (true≢false (sym h))
same_optional (Some p) (Some q) h = ap Some (same_paths p q h)

pub same_references : (x y : Reference) → reference.eq-value.it x y ≡ true → x ≡ y
same_references x y h =
    let parts = both (option_eq path.eq-value.it x.path y.path) (x.name == y.name) h in
    ap (λ p. record { path = p; name = x.name }) (same_optional x.path y.path parts.0) ∙ ap (λ n. record { path = y.path; name = n }) ((Decides-eqb x.name y.name).0 parts.1)
