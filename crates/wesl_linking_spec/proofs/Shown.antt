-- What is held, written and refused in the examples.
use Rattle.std.specs.Prelude.{◌<◌, zero, suc, ◌∷◌, [], Some, None, false, codes, slice_get}
use Rattle.std.specs.List.{Contains}
use Rattle.std.specs.Option.{unwrap_or}
use Rattle.std.proofs.Common.{◌≡◌, refl, subst, ℕ, List, inl, inr, arith}
use Rattle.wesl_chains.proofs.Members.{in_cases, in_none}
use Rattle.wesl_chains.proofs.Loops.{same_some}
use Rattle.wgsl_skeleton.specs.DeclarationsTree.{UnitTree}
use Rattle.wgsl_skeleton.specs.Trees.{leaf}
use Rattle.wgsl_skeleton.specs.Skeleton.{Node, parts}
use Rattle.wesl_chains.specs.Outlines.{other, Entry, Outline}
use Rattle.wesl_chains.specs.Chains.{Denotes, declared_at, comes_to, here, by_own, by_item}
use Rattle.wesl_chains.specs.Reaching.{IsAt, Reached, IsPassedThrough, begins, a_directive, a_kept_name, any_place, onward, asserted, by_chain}
use Rattle.wesl_linking_spec.specs.Outlining.{outline_of, nodes_of}
use Rattle.wesl_linking_spec.specs.Sources.{canonical, finder}
use Rattle.wesl_linking_spec.specs.Linked.{none_yet, is_new, is_again}
use Rattle.wesl_linking_spec.specs.Clashing.{hidden, captured as is_captured}
use Rattle.wesl_linking_spec.specs.Valid.{duplicates_of, undefined_in, is_duplicate, is_undefined, itself, onward as along, a_count}
use Rattle.wesl_linking_spec.specs.Examples.{plain, faulty_unit}
use Rattle.wesl_linking_spec.specs.Packages.{root, m, root_tree, m_tree, both, with_attribute, directed, directed_tree, at_spot, undefined_unit, HeldExample, StrippedExample, DirectiveExample, ClashExample, FaultExample}

-- ---- what is held

abbrev no_entry : Entry
no_entry = record { kind = other; name = None; uses = [] }

abbrev body_outline : Outline
body_outline = unwrap_or (finder with_attribute root) (outline_of (canonical root) directed_tree)

abbrev body_entry : Entry
body_entry = unwrap_or (slice_get body_outline.entries 1) no_entry

at_body : IsAt (finder with_attribute) root 1 body_outline body_entry
at_body = record { is_module = refl; stands_there = refl }

a_held : Reached (finder with_attribute) root (codes "g" ∷ []) false root 0
a_held = onward {u = plain (codes "a")} {ps = root ∷ []} (begins (a_kept_name at_body refl (0, omega arith, refl) refl)) at_body (1, omega arith, refl) (by_own refl)

abbrev outline : Outline
outline = outline_of (canonical m) directed_tree

at_directed : (k : ℕ) (e : Entry) → slice_get outline.entries k ≡ Some e → IsAt (finder directed) m k outline e
at_directed k e stands = record { is_module = refl; stands_there = stands }

abbrev directive_there : Entry
directive_there = unwrap_or (slice_get outline.entries 0) no_entry

abbrev assertion_there : Entry
assertion_there = unwrap_or (slice_get outline.entries 2) no_entry

directive_held : Reached (finder directed) root [] false m 0
directive_held = begins (a_directive (at_directed 0 directive_there refl) refl)

k_denoted : Denotes (finder directed) m outline (plain (codes "k")) (m ∷ []) (declared_at m 1)
k_denoted = by_own refl

k_held : Reached (finder directed) root [] false m 1
k_held = onward {u = plain (codes "k")} directive_held (at_directed 0 directive_there refl) (0, omega arith, refl) k_denoted

m_passed : IsPassedThrough (finder directed) root [] false m
m_passed = by_chain {u = plain (codes "k")} directive_held (at_directed 0 directive_there refl) (0, omega arith, refl) k_denoted (0, omega arith, refl)

pub held : HeldExample
held = (a_held, k_held, asserted m_passed (at_directed 2 assertion_there refl) refl)

pub stripped : StrippedExample
stripped = (
  begins (any_place at_two refl),
  onward {u = plain (codes "two")} (begins (a_kept_name {x = codes "a"} at_a refl (0, omega arith, refl) refl)) at_a (0, omega arith, refl)
      (by_item {s = record { home = m; name = codes "two" }} refl (comes_to {t = record { home = m; name = codes "two" }} {ps = []} {more = m ∷ []} here refl)),
)
  where
    at_a : IsAt (finder both) root 0 (outline_of (canonical root) root_tree) (unwrap_or (slice_get (outline_of (canonical root) root_tree).entries 0) no_entry)
    at_a = record { is_module = refl; stands_there = refl }

    at_two : IsAt (finder both) m 0 (outline_of (canonical m) m_tree) (unwrap_or (slice_get (outline_of (canonical m) m_tree).entries 0) no_entry)
    at_two = record { is_module = refl; stands_there = refl }

-- ---- directives

pub directives : DirectiveExample
directives = (
  record { words = refl; attributes = refl },
  record { words = refl; attributes = refl },
  is_again (at_spot m) {xs = at_spot root ∷ []} {ys = at_spot root ∷ []} (is_new (at_spot root) {xs = []} {ys = []} none_yet (λ c. in_none (at_spot root).1 c)) (0, omega arith, refl),
)

-- ---- clashes

pub clashes : ClashExample
clashes = (
  refl,
  hidden {ps = root ∷ []} {n = root} {j = 0} refl (by_item {s = record { home = root; name = codes "y" }} refl (comes_to {t = record { home = root; name = codes "y" }} {ps = []} {more = root ∷ []} here refl)) refl refl,
  refl,
  is_captured refl refl (record {
    spot = (root, 0);
    is_held = begins (a_kept_name {x = codes "max"} (record { is_module = refl; stands_there = refl }) refl (0, omega arith, refl) refl);
    its_name = refl;
  }) refl,
)

-- ---- faults

-- of two nodes, what is true of both
two_nodes : (P : Node → Type 0) (x y : Node) → P x → P y → (n : Node) → Contains (x ∷ y ∷ []) n → P n
two_nodes P x y h k n c = elim (in_cases x (y ∷ []) n c) [
  | inl e ↦ subst P e h
  | inr d ↦ elim (in_cases y [] n d) [ inl e ↦ subst P e k | inr none ↦ absurd (in_none n none) ]
]

-- the first of a list is before the second alone
before_one : (P : Node → Type 0) (x : Node) (more : List Node) → P x → (j : ℕ) (at : Node) → j < 1 → slice_get (x ∷ more) j ≡ Some at → P at
before_one P x more h zero at less e = subst P (same_some e) h
before_one P x more h (suc j) at less e = absurd (omega arith)

abbrev node_at : UnitTree → ℕ → Node
node_at u k = unwrap_or (slice_get (nodes_of u) k) (leaf parts)

pub faults : FaultExample
faults = (
  is_duplicate (record { at = node_at faulty_unit 1; stands = refl; more = []; first = refl; none_before = before_one (λ n. duplicates_of n ≡ []) (node_at faulty_unit 0) (node_at faulty_unit 1 ∷ node_at faulty_unit 2 ∷ []) refl }),
  is_undefined (two_nodes (λ n. duplicates_of n ≡ []) (node_at undefined_unit 0) (node_at undefined_unit 1) refl refl)
      (record { at = node_at undefined_unit 1; stands = refl; more = []; first = refl; none_before = before_one (λ n. undefined_in undefined_unit (codes "u" ∷ []) n ≡ []) (node_at undefined_unit 0) (node_at undefined_unit 1 ∷ []) refl }),
  refl,
  a_count refl (along refl (itself refl refl)) refl,
)
