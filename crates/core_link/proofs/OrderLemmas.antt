-- The modules in the order of the linked unit.
use Rattle.std.proofs.Common.{◌≡◌, refl, sym, ap, ◌∙◌, subst, ℕ, zero, suc, ◌⊎◌, inl, inr, ⊎_elim, List, [], ◌∷◌, map, Bool, true, false, Option, Some, None}
use Rattle.std.specs.Prelude.{if◌then◌else◌, slice_get}
use Rattle.std.specs.Str.{bytes_eq}
use Rattle.std.specs.List.{Contains, flat_map, AllByRecursion}
use Rattle.std.specs.List.Sorted.{IsStrictlySortedBy}
use Rattle.std.specs.Ordering.{nat_cmp}
use Rattle.std.specs.Cmp.Lexicographic.{slice_cmp}
use Rattle.std.specs.declared.cmp.Ordering.{Ordering}
use Rattle.std.specs.declared.cmp.Ordering.TheVariants.{Less}
use Rattle.wgsl_path.specs.declared.path.ModulePath.{ModulePath}
use Rattle.wgsl_path.specs.Paths.{path_text}
use Rattle.core_syntax.specs.Tree.{UnitTree}
use Rattle.core_link_spec.specs.Occurrences.{Name}
use Rattle.core_link_spec.specs.Modules.{Path, Modules}
use Rattle.core_link_spec.specs.Rounds.{IsAscending, no_path, one_path, one_before}
use Rattle.core_link_spec.specs.Linked.{IsInOrder, IsLinkedModule, AreLinkedModules, no_module, a_module, IsLinked}
use Rattle.core_scopes.specs.Outcomes.{Loaded}
use Rattle.core_scopes.specs.Tells.{IsFinder}
use Rattle.core_reach.specs.Reach.{Holding, IsSettled, KeepsAll, IsRooted}
use Rattle.core_link.specs.Assembling.{linked_module, linked_at, without, linked_unit}
use Rattle.core_reach.specs.Resolved.{NamesHeld, HoldsReached}
use Rattle.core_scopes.proofs.ScopeLemmas.{same_name, self_name}
use Rattle.core_link.proofs.LinkLemmas.{module_linked}
use Rattle.wgsl_base.proofs.Members.{in_cases, in_none as none_in, to_contains, from_contains, get_map}

first_in : {X : Type 0} (y : X) (ys : List X) → Contains (y ∷ ys) y
first_in y ys = to_contains (y ∷ ys) 0 y refl

later_in : {X : Type 0} (y : X) (ys : List X) (x : X) → Contains ys x → Contains (y ∷ ys) x
later_in y ys x c = let p = from_contains ys x c in to_contains (y ∷ ys) (suc p.0) x p.1

abbrev cmp_paths : Path → Path → Ordering
cmp_paths = slice_cmp nat_cmp

module _ (root : Path) where
  dropped : (P : Path → Type 0) (ps : List Path) → AllByRecursion P ps → AllByRecursion P (without root ps)
  dropped P [] a = a
  dropped P (p ∷ ps) a = at (bytes_eq p root) (dropped P ps a.1)
    where
      at : (b : Bool) → AllByRecursion P (without root ps) → AllByRecursion P (if b then without root ps else p ∷ without root ps)
      at true rest = rest
      at false rest = (a.0, rest)

  dropped_sorted : (ps : List Path) → IsStrictlySortedBy cmp_paths ps → IsStrictlySortedBy cmp_paths (without root ps)
  unfolding IsStrictlySortedBy
  dropped_sorted [] s = s
  dropped_sorted (p ∷ ps) s = at (bytes_eq p root) (dropped_sorted ps s.1)
    where
      at : (b : Bool) → IsStrictlySortedBy cmp_paths (without root ps) → IsStrictlySortedBy cmp_paths (if b then without root ps else p ∷ without root ps)
      at true rest = rest
      at false rest = (dropped (λ q. cmp_paths p q ≡ Less) ps s.0, rest)

  root_dropped : (ps : List Path) → Contains (without root ps) root → ⊥
  root_dropped [] c = none_in root c
  root_dropped (p ∷ ps) c = at (bytes_eq p root) refl c (root_dropped ps)
    where
      at : (b : Bool) → bytes_eq p root ≡ b → Contains (if b then without root ps else p ∷ without root ps) root → (Contains (without root ps) root → ⊥) → ⊥
      at true e c not = not c
      at false e c not = ⊎_elim (λ same. let yes : bytes_eq p root ≡ true = subst (λ t. bytes_eq t root ≡ true) (sym same) (self_name root) in absurd (cc)) not (in_cases p (without root ps) root c)

  still_in : (ps : List Path) (q : Path) → Contains (without root ps) q → Contains ps q
  still_in [] q c = c
  still_in (p ∷ ps) q c = at (bytes_eq p root) c (still_in ps q)
    where
      at : (b : Bool) → Contains (if b then without root ps else p ∷ without root ps) q → (Contains (without root ps) q → Contains ps q) → Contains (p ∷ ps) q
      at true c more = later_in p ps q (more c)
      at false c more = ⊎_elim (λ same. subst (Contains (p ∷ ps)) same (first_in p ps)) (λ d. later_in p ps q (more d)) (in_cases p (without root ps) q c)

  in_order : (ps : List Path) (q : Path) → Contains ps q → Contains (root ∷ without root ps) q
  in_order [] q c = absurd (none_in q c)
  in_order (p ∷ ps) q c = ⊎_elim (λ same. subst (Contains (root ∷ without root (p ∷ ps))) same (here (bytes_eq p root) refl)) (λ d. there (bytes_eq p root) (in_order ps q d)) (in_cases p ps q c)
    where
      here : (b : Bool) → bytes_eq p root ≡ b → Contains (root ∷ (if b then without root ps else p ∷ without root ps)) p
      here true e = subst (Contains (root ∷ without root ps)) (sym (same_name p root e)) (first_in root (without root ps))
      here false e = later_in root (p ∷ without root ps) p (first_in p (without root ps))

      there : (b : Bool) → Contains (root ∷ without root ps) q → Contains (root ∷ (if b then without root ps else p ∷ without root ps)) q
      there true d = d
      there false d = ⊎_elim (λ same. subst (Contains (root ∷ p ∷ without root ps)) same (first_in root (p ∷ without root ps))) (λ e. later_in root (p ∷ without root ps) q (later_in p (without root ps) q e)) (in_cases root (without root ps) q d)

  pub ascending : (ps : List Path) → IsStrictlySortedBy cmp_paths ps → IsAscending ps
  unfolding IsStrictlySortedBy
  ascending [] s = no_path
  ascending (p ∷ []) s = one_path
  ascending (p ∷ q ∷ ps) s = one_before s.0.0 (ascending (q ∷ ps) s.1)

  pub ordered : (modules : Modules) (ps : List Path) → map (λ m. path_text m.0) modules ≡ ps → IsStrictlySortedBy cmp_paths ps → Contains ps root → IsInOrder modules root (root ∷ without root ps)
  ordered modules ps same sorted has = record {
    others = without root ps;
    root_first = refl;
    ascending = ascending (without root ps) (dropped_sorted ps sorted);
    not_root = root_dropped ps;
    each = λ q. (
      (λ c. subst (λ l. Contains l q) (sym same) (⊎_elim (λ e. subst (Contains ps) e has) (still_in ps q) (in_cases root (without root ps) q c))),
      (λ c. in_order ps q (subst (λ l. Contains l q) same c)),
    );
  }

pub unit_linked : (modules : Modules) (find : Loaded) → IsFinder modules find → (root : Path) (keep : List Name) (held : Holding) → IsRooted modules root keep
    → NamesHeld modules root held → KeepsAll find root keep held → HoldsReached find root keep held → IsSettled find held
    → (ps : List Path) → map (λ m. path_text m.0) modules ≡ ps → IsStrictlySortedBy cmp_paths ps → ((p : Path) → Contains ps p → (m : Path × UnitTree) × (find p ≡ Some m))
    → IsLinked modules root keep (linked_unit find held root ps)
unit_linked modules find finder root keep held rooted names keeps sound settled ps same sorted each =
    record { no_imports = refl; order = root ∷ without root ps; in_order = order; declares = all (root ∷ without root ps) (λ p c. found p ((order.each p).0 c)) }
  where
    root_in : Contains ps root
    root_in =
        let p = from_contains modules (rooted.1.path, rooted.0) rooted.1.stands in
        subst (λ l. Contains l root) same
        (to_contains (map (λ m. path_text m.0) modules) p.0 root (get_map (λ (m : ModulePath × UnitTree). path_text m.0) modules p.0 (rooted.1.path, rooted.0) p.1 ∙ ap (λ q. Some q) rooted.1.printed))

    order : IsInOrder modules root (root ∷ without root ps)
    order = ordered root modules ps same sorted root_in

    found : (p : Path) → Contains (map (λ m. path_text m.0) modules) p → (m : Path × UnitTree) × (find p ≡ Some m)
    found p c = each p (subst (λ l. Contains l p) same c)

    one : (p : Path) (o : Option (Path × UnitTree)) → find p ≡ o → (m : Path × UnitTree) × (find p ≡ Some m) → IsLinkedModule modules root keep p (linked_at find held o)
    one p None e m = let both : None ≡ Some m.0 = sym e ∙ m.1 in absurd (cc)
    one p (Some h) e m =
        let at = finder.found p h e in
        subst (λ q. IsLinkedModule modules root keep q (linked_module find held h)) at.1
        (module_linked modules find finder root held names h (ap find at.1 ∙ e) settled keep rooted keeps sound)

    all : (qs : List Path) → ((p : Path) → Contains qs p → (m : Path × UnitTree) × (find p ≡ Some m)) → AreLinkedModules modules root keep qs (flat_map (λ p. linked_at find held (find p)) qs)
    all [] each = no_module
    all (q ∷ qs) each = a_module (one q (find q) refl (each q (first_in q qs))) (all qs (λ p c. each p (later_in q qs p c)))
