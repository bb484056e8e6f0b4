use denote.Ref.{Bor}
use Rattle.std.proofs.Common.{List, ℕ, Option, Some, ap, sym, subst}
use Rattle.wesl_resolve.specs.Unmangling.{IsFirstPart, behind}
use Rattle.wesl_resolve.proofs.Cutting.{AreLeft, no_more, one_more, all_done}
use Rattle.wesl_resolve.proofs.unmangle.read_parts.Goals as goal

pub returns-in_default-2 : goal.returns-in_default-2
returns-in_default-2 c parts plain is =
    let done = c.loop-rest.parts in
    let Left : Option (Bor (List ℕ)) → Type 0 = λ r. AreLeft parts done (behind r) in
    let left = subst Left c.in-Some.is (c.loop-rest.invariant parts plain is) in
    let Reads : Option (List ℕ × Option (Bor (List ℕ))) → Type 0 = λ a. IsFirstPart c.in-Some.more.now a in
    let reads = subst Reads c.in_default-2.is c.in_ok-part.ensures.reads in
    absurd (no_more parts done c.in-Some.more.now reads left)

pub loop-rest-preserved : goal.loop-rest-preserved
loop-rest-preserved c parts plain is =
    let done = c.loop-rest.parts in
    let Left : Option (Bor (List ℕ)) → Type 0 = λ r. AreLeft parts done (behind r) in
    let left = subst Left c.in-Some.is (c.loop-rest.invariant parts plain is) in
    let Reads : Option (List ℕ × Option (Bor (List ℕ))) → Type 0 = λ a. IsFirstPart c.in-Some.more.now a in
    let reads = subst Reads c.in-Some-2.is c.in_ok-part.ensures.reads in
    let After : List (List ℕ) → Type 0 = λ d. AreLeft parts d (behind c.in-Some-2.after) in
    subst After (sym c.in_ok-push.ensures.ok) (one_more parts done c.in-Some.more.now c.in-Some-2.part c.in-Some-2.after reads left)

pub returns : goal.returns
returns c parts plain is =
    let done = c.loop-rest.parts in
    let Left : Option (Bor (List ℕ)) → Type 0 = λ r. AreLeft parts done (behind r) in
    let left = subst Left c.in_default.is (c.loop-rest.invariant parts plain is) in
    ap (λ p. Some p) (sym (all_done parts done left))
