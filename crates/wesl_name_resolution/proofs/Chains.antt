-- Chains of published imports, by the tables of modules.
use Rattle.std.proofs.Common.{◌≡◌, refl, sym, ap, ◌∙◌, subst, ℕ, zero, suc, ◌+◌, ◌<◌, ◌≤◌, List, [], ◌∷◌, ◌++◌, map, length, Option, Some, None, Bool, true, false, arith, length-append}
use Rattle.std.specs.Prelude.{slice_get, string_bytes, if◌then◌else◌}
use Rattle.std.specs.Option.{option_map}
use Rattle.std.specs.List.{Contains}
use Rattle.std.specs.HashMap.{get_by_text}
use Rattle.std.specs.BTreeMap as b
use Rattle.std.proofs.lemmas.List.Elements.{Contains-append_left, Contains-append_right}
use Rattle.std.proofs.lemmas.Option.{none-some}
use Rattle.wesl_chains.proofs.Members.{to_contains, in_map}
use Rattle.wesl_chains.proofs.Loops.{same_some, leads_then, leads_more, loops_behind, loops_shift, long_loops}
use Rattle.wesl_chains.specs.Outlines.{Name, Path, Symbol, Finder}
use Rattle.wesl_chains.specs.Chains.{Step, stands, leads, lacks, hides, unknown, next, Leads, here, onto, Loops}
use Rattle.wesl_chains.specs.Laws.{AreTargets}
use Rattle.wesl_module_index.specs.declared.target.Target.{Target}
use Rattle.wesl_module_index.specs.declared.target.ImportItem.{ImportItem}
use Rattle.wesl_module_index.specs.declared.module.Meaning.{Meaning}
use Rattle.wesl_module_index.specs.declared.module.Meaning.TheVariants.{Declared, Imported}
use Rattle.wesl_module_index.specs.declared.module.Module.{Module}
use Rattle.wesl_module_index.specs.declared.modules.Modules.{Modules}
use Rattle.wesl_module_index.specs.Counts.{item_total}
use Rattle.wesl_module_index.specs.Tables.{Import, import_said, symbol_named, import_at}
use Rattle.wesl_module_index.specs.Loaded.{AreTabled, module_at, numbered_module}
use Rattle.wesl_name_resolution.specs.declared.ends.End.{End}
use Rattle.wesl_name_resolution.specs.declared.ends.End.TheVariants as end
use Rattle.wesl_name_resolution.specs.Links.{symbol_step, item_step, meaning_step, module_step, next_in}
use Rattle.wesl_name_resolution.specs.Ends.{IsEnd, IsRight, IsKnown}
use Rattle.wesl_name_resolution.proofs.Steps.{next_same}

-- ---- ends

module _ (ms : Modules) (find : Finder) where
  -- what ends so from a symbol on ends so from one that leads to it
  pub end_behind : {s t : Symbol} {ps : List Path} → Leads find s ps t → (e : End) → IsEnd ms find t e → IsEnd ms find s e
  end_behind l end.Unknown d = absurd d
  end_behind l end.ReferenceTarget d = absurd d
  end_behind {ps = ps} l (end.Declared spot) (u, qs, h, m, e) = (u, ps ++ qs, h, leads_then find l m, e)
  end_behind {ps = ps} l (end.Stops via) (u, qs, v, m, e) = (u, ps ++ qs, v, leads_then find l m, e)
  end_behind l end.Never d = loops_behind find l d

  pub right_end : (s : Symbol) (e : End) → IsKnown e → IsRight ms find s e → IsEnd ms find s e
  right_end s end.Unknown k r = k
  right_end s end.ReferenceTarget k r = k
  right_end s (end.Declared spot) k r = r
  right_end s (end.Stops via) k r = r
  right_end s end.Never k r = r

  pub end_right : (s : Symbol) (e : End) → IsEnd ms find s e → IsRight ms find s e
  end_right s end.Unknown d = tt
  end_right s end.ReferenceTarget d = tt
  end_right s (end.Declared spot) d = d
  end_right s (end.Stops via) d = d
  end_right s end.Never d = d

-- ---- how many imports there are

abbrev symbol_or : Name → Option Path → Symbol
symbol_or x None = record { home = []; name = x }
symbol_or x (Some p) = record { home = p; name = x }

abbrev import_target : Import → Symbol
import_target i = symbol_or i.last i.home

-- what the imports of a module name
abbrev targets_of : Module → List Symbol
targets_of m = map import_target (map (import_said m.targets.items) m.items.items)

module _ (targets : Module → List Symbol) (count : Module → ℕ) (counted : (m : Module) → length (targets m) ≡ count m) where
  abbrev all_of : List Module → List Symbol
  all_of [] = []
  all_of (m ∷ ms) = targets m ++ all_of ms

  abbrev sum_of : List Module → ℕ
  sum_of [] = 0
  sum_of (m ∷ ms) = count m + sum_of ms

  length_all : (ms : List Module) → length (all_of ms) ≡ sum_of ms
  length_all [] = refl
  length_all (m ∷ ms) = length-append (targets m) (all_of ms) ∙ (λ k. counted m k + length_all ms k)

  in_all : (ms : List Module) (i : ℕ) (m : Module) (x : Symbol) → slice_get ms i ≡ Some m → Contains (targets m) x → Contains (all_of ms) x
  in_all [] i m x is c = absurd (none-some m is)
  in_all (n ∷ ms) zero m x is c = Contains-append_left (targets n) (all_of ms) x (subst (λ v. Contains (targets v) x) (sym (same_some is)) c)
  in_all (n ∷ ms) (suc i) m x is c = Contains-append_right (targets n) (all_of ms) x (in_all ms i m x is c)

length_map : {X Y : Type 0} (f : X → Y) (xs : List X) → length (map f xs) ≡ length xs
length_map f [] = refl
length_map f (x ∷ xs) = ap suc (length_map f xs)

pub counted : (m : Module) → length (targets_of m) ≡ length m.items.items
counted m = length_map import_target (map (import_said m.targets.items) m.items.items) ∙ length_map (import_said m.targets.items) m.items.items

abbrev pub all_targets : List Module → List Symbol
all_targets ms = all_of targets_of (λ m. length m.items.items) counted ms

total_same : (ms : List Module) → sum_of targets_of (λ m. length m.items.items) counted ms ≡ item_total ms
total_same [] = refl
total_same (m ∷ ms) = ap (λ n. length m.items.items + n) (total_same ms)

pub length_targets : (ms : List Module) → length (all_targets ms) ≡ item_total ms
length_targets ms = length_all targets_of (λ m. length m.items.items) counted ms ∙ total_same ms

module _ (t : Symbol) where
  by_home : (x : Name) (h : Option Path) → symbol_step (option_map (λ p. let s : Symbol = record { home = p; name = x } in s) h) ≡ leads t → symbol_or x h ≡ t
  by_home x None e = absurd (cc)
  by_home x (Some p) e = let same : (let s : Symbol = record { home = p; name = x } in s) ≡ t = cc in same

  by_published : (p : Bool) (x : Name) (h : Option Path) → (if p then symbol_step (option_map (λ q. let s : Symbol = record { home = q; name = x } in s) h) else hides) ≡ leads t → symbol_or x h ≡ t
  by_published true x h e = by_home x h e
  by_published false x h e = absurd (cc)

  by_item : (targets : List Target) (items : List ImportItem) (n : ℕ) (i : Option ImportItem) → slice_get items n ≡ i → item_step (option_map (import_said targets) i) ≡ leads t
      → Contains (map import_target (map (import_said targets) items)) t
  by_item targets items n None is e = absurd (cc)
  by_item targets items n (Some i) is e =
      let said = import_said targets i in
      subst (λ x. Contains (map import_target (map (import_said targets) items)) x) (by_published said.is_published said.last said.home e)
      (in_map import_target (map (import_said targets) items) said (in_map (import_said targets) items i (to_contains items n i is)))

  by_meaning : (m : Module) (g : Option Meaning) → meaning_step m g ≡ leads t → Contains (targets_of m) t
  by_meaning m None e = absurd (cc)
  by_meaning m (Some (Declared k)) e = absurd (cc)
  by_meaning m (Some (Imported n)) e = by_item m.targets.items m.items.items n (slice_get m.items.items n) refl e

  by_module : (ms : List Module) (n : ℕ) (x : Name) (m : Option Module) → slice_get ms n ≡ m → module_step x m ≡ leads t → Contains (all_targets ms) t
  by_module ms n x None is e = absurd (cc)
  by_module ms n x (Some m) is e = in_all targets_of (λ v. length v.items.items) counted ms n m t is (by_meaning m (get_by_text m.scope x) e)

  by_number : (ms : Modules) (x : Name) (n : Option ℕ) → module_step x (numbered_module ms n) ≡ leads t → Contains (all_targets ms.list.items) t
  by_number ms x None e = absurd (cc)
  by_number ms x (Some n) e = by_module ms.list.items n x (slice_get ms.list.items n) refl e

pub bounded : (ms : Modules) (find : Finder) → AreTabled ms find → AreTargets find (all_targets ms.list.items)
bounded ms find tabled s t e = by_number t ms s.name (b.get_by_text ms.numbers s.home) (next_same ms find tabled s ∙ e)

loops_along : (find : Finder) {s t : Symbol} {ps : List Path} → Leads find s ps t → Loops find s → Loops find t
loops_along find here l = l
loops_along find (onto e c) l = loops_along find c (loops_shift find e l)

-- a chain with more links than there are imports never ends
pub exhausted : (ms : Modules) (find : Finder) → AreTabled ms find → (s t : Symbol) (ps : List Path) → Leads find s ps t → (count : ℕ) → item_total ms.list.items ≤ count → count < length ps → Loops find t
exhausted ms find tabled s t ps l count enough more =
    let e = length_targets ms.list.items in
    loops_along find l (long_loops find (all_targets ms.list.items) (bounded ms find tabled) l (omega (arith, e, enough, more)))
