-- The table and the trail behind each step.
use Rattle.std.proofs.Common.{◌≡◌, sym, ◌∙◌, subst, arith, rules, ℕ, ◌<◌, ◌++◌, ◌∷◌, [], List, Option, Some, length, set}
use Rattle.wesl_mark.specs.declared.scopes.Shadowing.{Shadowing}
use Rattle.wesl_mark.specs.declared.scopes.Entry.{Entry}
use Rattle.wesl_mark.specs.declared.scopes.Entry.TheVariants.{Start, Bound}
use Rattle.wesl_mark.specs.Trail.{behind, nearest, AreKept, IsTable}
use Rattle.std.proofs.lemmas.Grind.{fold-append, common_steps}

pub nearest_more : (n : ℕ) (t : List Entry) (e : Entry) → nearest n (t ++ e ∷ []) ≡ behind n (nearest n t) e
nearest_more n t e = search (rules, fold-append)

pub table_start : (vs : List (Option ℕ)) (t : List Entry) → IsTable vs t → IsTable vs (t ++ Start ∷ [])
table_start vs t h n = h n ∙ sym (nearest_more n t Start)

pub kept_start : (t : List Entry) → AreKept t → AreKept (t ++ Start ∷ [])
kept_start t h k b lt is = let g = h k b in grind (arith, common_steps, g)

pub kept_bound : (t : List Entry) (b : Shadowing) → AreKept t → b.before ≡ nearest b.name t → AreKept (t ++ Bound b ∷ [])
kept_bound t b h was k d lt is = let g = h k d in grind (arith, common_steps, g)

pub kept_shorter : (t : List Entry) (e : Entry) → AreKept (t ++ e ∷ []) → AreKept t
kept_shorter t e h k b lt is = let g = h k b in grind (arith, common_steps, g)

pub table_bound : (vs : List (Option ℕ)) (t : List Entry) (b : Shadowing) → IsTable vs t → b.name < length vs → IsTable (set vs b.name (Some b.value)) (t ++ Bound b ∷ [])
table_bound vs t b h below n = let g = h n in grind (arith, common_steps, g, nearest_more)

pub table_undone : (vs : List (Option ℕ)) (t : List Entry) (b : Shadowing) → b.name < length vs → IsTable vs (t ++ Bound b ∷ []) → AreKept (t ++ Bound b ∷ []) → IsTable (set vs b.name b.before) t
table_undone vs t b below h kept n = let g = h n in let k = kept (length t) b in grind (arith, common_steps, g, k, nearest_more)

-- a declared name stands in the table
pub table_within : (vs : List (Option ℕ)) (t : List Entry) (b : Shadowing) → IsTable vs (t ++ Bound b ∷ []) → b.name < length vs
table_within vs t b h = let g = h b.name in grind (arith, common_steps, g, nearest_more)

pub kept_same : (t t' : List Entry) → t ≡ t' → AreKept t → AreKept t'
kept_same t t' f h = let Q : List Entry → Type 0 = λ u. AreKept u in subst Q f h

pub table_same : (vs : List (Option ℕ)) (t t' : List Entry) → t ≡ t' → IsTable vs t → IsTable vs t'
table_same vs t t' f h = let Q : List Entry → Type 0 = λ u. IsTable vs u in subst Q f h
