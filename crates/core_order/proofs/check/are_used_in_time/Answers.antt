use Rattle.std.proofs.Common.{ℕ, ◌≡◌, ◌⊎◌, ◌+◌, ◌<◌, ◌≤◌, [], ◌∷◌, ◌++◌, length, rules, refl, sym, subst}
use Rattle.std.specs.Prelude.{slice_index}
use Rattle.std.specs.List.{Contains}
use Rattle.core_order.specs.Checks.{IsUsedBy, AreOrdered}
use Rattle.core_order.proofs.Using.{ordered_push, covered_next, passed_next}
use Rattle.core_order.proofs.check.are_used_in_time.Goals as goal

pub loop-place-preserved : goal.loop-place-preserved
loop-place-preserved c =
    let order = c.args.order.now in
    let users = c.args.users.now in
    let at = c.loop-place.place in
    let v = slice_index order at in
    let mid = c.close.new.unused.items in
    let new : c.push.new.self.items ≡ mid ++ v ∷ [] = search rules in
    let ordered : AreOrdered mid = c.close.ensures.ordered c.loop-place.invariant.ordered in
    let last : (b : ℕ) → b + 1 ≡ length mid → slice_index mid b ≤ v =
    subst (λ l. (b : ℕ) → b + 1 ≡ length l → slice_index l b ≤ v) c.as_slice.ensures.value (c.if-not-ends_below.ensures refl) in
    record {
      ordered = subst AreOrdered (sym new) (ordered_push mid v ordered last);
      covered = subst (λ l. (i : ℕ) → i < at + 1 → IsUsedBy users (at + 1) (slice_index order i) ⊎ Contains l (slice_index order i)) (sym new)
          (covered_next order users at v refl c.loop-place.unused.items mid c.close.ensures c.loop-place.invariant.covered);
      passed = passed_next order users at v refl c.loop-place.unused.items mid c.close.ensures c.loop-place.invariant.covered ordered last c.loop-place.invariant.passed;
    }
