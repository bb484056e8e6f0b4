-- Equality and hashes of paths, and the proofs of their laws that the impls cite.
use Rattle.std.specs.Prelude.{◌≡◌, ◌++◌, pos, true}
use Rattle.std.proofs.Common.{refl, sym, ap, ◌∙◌, subst, true≢false}
use Rattle.std.specs.Hash.{HashWrites, isize, usize, str, slice}
use Rattle.std.specs.Bool.{Decides}
use Rattle.std.specs.Cmp.{IsEquivalence, on_equiv}
use Rattle.std.specs.Cmp.Lexicographic.{pointwise, lists_equiv, nat_list_eq_equiv}
use Rattle.std.proofs.lemmas.Cmp.{and_equiv}
use Rattle.std.proofs.lemmas.Bool.Decides.{Decides-eqb, Decides-and}
use Rattle.std.proofs.lemmas.Slice.Eq.{slice_eq-Decides, bytes_eq-Decides}
use Rattle.std.specs.Str.{bytes_eq}
use Rattle.wgsl_path.specs.declared.path.PathOrigin.{PathOrigin}
use Rattle.wgsl_path.specs.declared.path.PathOrigin.TheVariants.{Absolute, Relative, Package}
use Rattle.wgsl_path.specs.declared.path.ModulePath.{ModulePath}
use Rattle.wgsl_path.specs.contracts.path.PathOriginPartialEq.TheImpl as origin
use Rattle.wgsl_path.specs.contracts.path.ModulePathPartialEq.TheImpl as path
use Rattle.wgsl_path.specs.contracts.path.PathOriginEq.TheImpl.Laws as origin_laws

-- what a hash reads of an origin: which of the three it is, and what that holds
abbrev pub origin_writes : PathOrigin → HashWrites
origin_writes Absolute = isize (pos 0)
origin_writes (Relative supers) = isize (pos 1) ++ usize supers
origin_writes (Package name) = isize (pos 2) ++ str name

-- what a hash reads of a path: its origin, and its names
abbrev pub path_writes : ModulePath → HashWrites
path_writes path = origin_writes path.origin ++ slice str path.components

-- `==` of paths is an equivalence
pub paths_equiv : IsEquivalence path.eq-value.it
paths_equiv = and_equiv (on_equiv (λ p. p.origin) origin_laws.laws-law) (on_equiv (λ p. p.components) (lists_equiv nat_list_eq_equiv))

pub same_origins : (x y : PathOrigin) → origin.eq-value.it x y ≡ true → x ≡ y
same_origins Absolute Absolute h = refl
same_origins Absolute (Relative n) h = absurd (true≢false (sym h))
same_origins Absolute (Package n) h = absurd (true≢false (sym h))
same_origins (Relative m) Absolute h = absurd (true≢false (sym h))
same_origins (Relative m) (Relative n) h = ap Relative ((Decides-eqb m n).0 h)
same_origins (Relative m) (Package n) h = absurd (true≢false (sym h))
same_origins (Package m) Absolute h = absurd (true≢false (sym h))
same_origins (Package m) (Relative n) h = absurd (true≢false (sym h))
same_origins (Package m) (Package n) h = ap Package ((bytes_eq-Decides m n).0 h)

origins_Decide : (x y : PathOrigin) → Decides (origin.eq-value.it x y) (x ≡ y)
origins_Decide x y = (same_origins x y, λ same. subst (λ z. origin.eq-value.it x z ≡ true) same (origin_laws.laws-law.refl x))

pub same_paths : (p q : ModulePath) → path.eq-value.it p q ≡ true → p ≡ q
same_paths p q h =
    let both = (Decides-and (origin.eq-value.it p.origin q.origin) (pointwise bytes_eq p.components q.components)
    (origins_Decide p.origin q.origin) (slice_eq-Decides bytes_eq-Decides p.components q.components (pointwise bytes_eq p.components q.components) refl)).0 h in
    ap (λ o. record { origin = o; components = p.components }) both.0 ∙ ap (λ n. record { origin = q.origin; components = n }) both.1

-- `==` of paths tells the same path
pub paths_Decide : (p q : ModulePath) → Decides (path.eq-value.it p q) (p ≡ q)
paths_Decide p q = (same_paths p q, λ same. subst (λ z. path.eq-value.it p z ≡ true) same (paths_equiv.refl p))
