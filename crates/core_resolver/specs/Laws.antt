-- At a printed path the part finds one thing at most, and a text where it finds a unit.
use Rattle.std.specs.Prelude.{◌≡◌, ⊤, ℕ, List, Ok, Err}
use Rattle.std.proofs.Common.{refl, sym, ap, subst, ◌∙◌}
use Rattle.wgsl_path.specs.declared.path.ModulePath.{ModulePath}
use Rattle.wgsl_path.specs.Reading.{PathResult, parts, path_of}
use Rattle.wgsl_token.specs.declared.fault.error.Error.{Error}
use Rattle.wgsl_declarations.specs.Tree as whole_trees
use Rattle.core_syntax.specs.Tree.{UnitTree}
use Rattle.core_narrowing.specs.Widening.{widen_unit}
use Rattle.core_narrowing.specs.InCore.{IsInCore}
use Rattle.core_narrowing.proofs.Lying.{one_unit}
use Rattle.wesl_resolvers.specs.Found as whole
use Rattle.wesl_resolve.specs.Found.{Answer, unit_of, not_found, faulty, unsupported, IsSomeText}
use Rattle.core_resolver.specs.Found.{IsBeyond, a_module, a_condition, left_open, IsCoreAnswer, at_text, part_found}

-- the module that is found, or another where none is
abbrev tree_or : whole_trees.UnitTree → whole.Answer → whole_trees.UnitTree
tree_or m (whole.unit_of n) = n
tree_or m whole.not_found = m
tree_or m (whole.faulty e) = m
tree_or m (whole.conditioned e) = m
tree_or m whole.left_open = m

-- the fault that is found, or another where none is
abbrev fault_or : Error → whole.Answer → Error
fault_or f (whole.unit_of n) = f
fault_or f whole.not_found = f
fault_or f (whole.faulty e) = e
fault_or f (whole.conditioned e) = f
fault_or f whole.left_open = f

-- there is no module
abbrev is_missing : whole.Answer → Type 0
is_missing (whole.unit_of n) = ⊥
is_missing whole.not_found = ⊤
is_missing (whole.faulty e) = ⊥
is_missing (whole.conditioned e) = ⊥
is_missing whole.left_open = ⊥

-- there is a fault
abbrev is_fault : whole.Answer → Type 0
is_fault (whole.unit_of n) = ⊥
is_fault whole.not_found = ⊥
is_fault (whole.faulty e) = ⊤
is_fault (whole.conditioned e) = ⊥
is_fault whole.left_open = ⊥

-- the path that is read, or another where none is
abbrev path_or : ModulePath → PathResult ModulePath → ModulePath
path_or p (Ok q) = q
path_or p (Err e) = p

module _ (found : whole.Answer → Type 0) (one : (a b : whole.Answer) → found a → found b → a ≡ b) where
  no_unit : (u : UnitTree) → found (whole.unit_of (widen_unit u)) → IsInCore u → IsBeyond found → ⊥
  no_unit u is inside (a_module m there none) =
      let same : whole.unit_of (widen_unit u) ≡ whole.unit_of m = one _ _ is there in
      let tree : widen_unit u ≡ m = ap (tree_or (widen_unit u)) same in none u tree inside
  no_unit u is inside (a_condition e there) = let same : whole.unit_of (widen_unit u) ≡ whole.conditioned e = one _ _ is there in absurd (subst whole.is_unit same tt)
  no_unit u is inside (left_open there) = let same : whole.unit_of (widen_unit u) ≡ whole.left_open = one _ _ is there in absurd (subst whole.is_unit same tt)

  none_beyond : found whole.not_found → IsBeyond found → ⊥
  none_beyond is (a_module m there none) = let same : whole.not_found ≡ whole.unit_of m = one _ _ is there in absurd (subst is_missing same tt)
  none_beyond is (a_condition e there) = let same : whole.not_found ≡ whole.conditioned e = one _ _ is there in absurd (subst is_missing same tt)
  none_beyond is (left_open there) = let same : whole.not_found ≡ whole.left_open = one _ _ is there in absurd (subst is_missing same tt)

  pub one_by_cases : (a b : Answer) → IsCoreAnswer found a → IsCoreAnswer found b → a ≡ b
  one_by_cases (unit_of u) (unit_of v) h k =
      let same : whole.unit_of (widen_unit u) ≡ whole.unit_of (widen_unit v) = one _ _ h.0 k.0 in
      let trees : widen_unit u ≡ widen_unit v = ap (tree_or (widen_unit u)) same in ap unit_of (one_unit u v trees)
  one_by_cases (unit_of u) not_found h k = let same : whole.unit_of (widen_unit u) ≡ whole.not_found = one _ _ h.0 k in absurd (subst whole.is_unit same tt)
  one_by_cases (unit_of u) (faulty e) h k = let same : whole.unit_of (widen_unit u) ≡ whole.faulty e = one _ _ h.0 k in absurd (subst whole.is_unit same tt)
  one_by_cases (unit_of u) unsupported h k = absurd (no_unit u h.0 h.1 k)
  one_by_cases not_found (unit_of v) h k = let same : whole.not_found ≡ whole.unit_of (widen_unit v) = one _ _ h k.0 in absurd (subst is_missing same tt)
  one_by_cases not_found not_found h k = refl
  one_by_cases not_found (faulty e) h k = let same : whole.not_found ≡ whole.faulty e = one _ _ h k in absurd (subst is_missing same tt)
  one_by_cases not_found unsupported h k = absurd (none_beyond h k)
  one_by_cases (faulty e) (unit_of v) h k = let same : whole.faulty e ≡ whole.unit_of (widen_unit v) = one _ _ h k.0 in absurd (subst is_fault same tt)
  one_by_cases (faulty e) not_found h k = let same : whole.faulty e ≡ whole.not_found = one _ _ h k in absurd (subst is_fault same tt)
  one_by_cases (faulty e) (faulty f) h k = ap faulty (ap (fault_or e) (one _ _ h k))
  one_by_cases (faulty e) unsupported h (a_module m there none) = let same : whole.faulty e ≡ whole.unit_of m = one _ _ h there in absurd (subst is_fault same tt)
  one_by_cases (faulty e) unsupported h (a_condition c there) = let same : whole.faulty e ≡ whole.conditioned c = one _ _ h there in absurd (subst is_fault same tt)
  one_by_cases (faulty e) unsupported h (left_open there) = let same : whole.faulty e ≡ whole.left_open = one _ _ h there in absurd (subst is_fault same tt)
  one_by_cases unsupported (unit_of v) h k = absurd (no_unit v k.0 k.1 h)
  one_by_cases unsupported not_found h k = absurd (none_beyond k h)
  one_by_cases unsupported (faulty e) (a_module m there none) k = let same : whole.faulty e ≡ whole.unit_of m = one _ _ k there in absurd (subst is_fault same tt)
  one_by_cases unsupported (faulty e) (a_condition c there) k = let same : whole.faulty e ≡ whole.conditioned c = one _ _ k there in absurd (subst is_fault same tt)
  one_by_cases unsupported (faulty e) (left_open there) k = let same : whole.faulty e ≡ whole.left_open = one _ _ k there in absurd (subst is_fault same tt)
  one_by_cases unsupported unsupported h k = refl

-- a text is read as one path at most
one_path : (r : PathResult ModulePath) (q s : ModulePath) → r ≡ Ok q → r ≡ Ok s → s ≡ q
one_path r q s h k = ap (path_or q) (sym k ∙ h)

pub one_part_answer : (found : ModulePath → whole.Answer → Type 0) → ((q : ModulePath) (a b : whole.Answer) → found q a → found q b → a ≡ b)
    → (p : List ℕ) (a b : Answer) → part_found found p a → part_found found p b → a ≡ b
one_part_answer found one p a b (q, read, h) (s, again, k) =
    one_by_cases (found q) (one q) a b h (subst (λ s. IsCoreAnswer (found s) b) (one_path _ q s read again) k)

pub one_part_text : (texts : ModulePath → List ℕ → Type 0) → ((q : ModulePath) (a b : List ℕ) → texts q a → texts q b → a ≡ b)
    → (p a b : List ℕ) → at_text texts p a → at_text texts p b → a ≡ b
one_part_text texts one p a b (q, read, h) (s, again, k) = one q a b h (subst (λ s. texts s b) (one_path _ q s read again) k)

pub text_of_part : (found : ModulePath → whole.Answer → Type 0) (texts : ModulePath → List ℕ → Type 0) → ((q : ModulePath) (u : whole_trees.UnitTree) → found q (whole.unit_of u) → whole.IsSomeText (texts q))
    → (p : List ℕ) (u : UnitTree) → part_found found p (unit_of u) → IsSomeText (at_text texts p)
text_of_part found texts there p u (q, read, is) = let t = there q (widen_unit u) is.0 in (t.0, (q, read, t.1))
