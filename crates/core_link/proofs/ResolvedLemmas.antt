-- The assembled unit is the linked unit.
use Rattle.std.proofs.Common.{◌≡◌, refl, sym, ap, ◌∙◌, subst, ℕ, suc, List, [], ◌∷◌, ◌++◌, map, Bool, true, false, Some}
use Rattle.std.specs.Prelude.{if◌then◌else◌, slice_get, string_bytes}
use Rattle.std.specs.Str.{bytes_eq}
use Rattle.std.specs.String.{string_cmp, string_cmp_total}
use Rattle.std.specs.Option.{option_map}
use Rattle.std.specs.Ordering.{nat_cmp}
use Rattle.std.specs.Cmp.Lexicographic.{slice_cmp}
use Rattle.std.specs.List.{Contains, flat_map, AllByRecursion}
use Rattle.std.specs.List.Sorted.{IsStrictlySortedBy}
use Rattle.std.specs.BTreeMap.{get_by_text, IsOrdered}
use Rattle.std.specs.declared.cmp.Ordering.TheVariants.{Less}
use Rattle.std.specs.declared.string.String.{String}
use Rattle.std.specs.declared.alloc.Global.{Global}
use Rattle.std.proofs.lemmas.List.{length-map}
use Rattle.std.proofs.lemmas.Map.Entries.{btree_map_get_place}
use Rattle.wgsl_path.specs.declared.path.ModulePath.{ModulePath}
use Rattle.wgsl_path.specs.Paths.{path_text}
use Rattle.core_syntax.specs.Tree.{UnitTree}
use Rattle.core_syntax.specs.View.{unit_tree}
use Rattle.core_link_spec.specs.Occurrences.{Name}
use Rattle.core_link_spec.specs.Modules.{Path}
use Rattle.core_link_spec.specs.Linked.{IsLinked}
use Rattle.core_scopes.specs.declared.module.Module.{Module}
use Rattle.core_scopes.specs.Outcomes.{loaded, home_of}
use Rattle.core_scopes.specs.Tells.{IsFinder}
use Rattle.core_reach.specs.Closing.{HeldNames, held_at}
use Rattle.core_link.specs.Assembling.{linked_module, linked_at, without, linked_unit}
use Rattle.core_reach.specs.Resolved.{LoadedModules, modules_of, IsKeyed, IsResolved}
use Rattle.core_link.specs.Assembling.{others_linked, assembled}
use Rattle.core_scopes.proofs.ScopeLemmas.{map_get}
use Rattle.core_reach.proofs.GoesLemmas.{tabled_finder}
use Rattle.core_link.proofs.OrderLemmas.{unit_linked}
use Rattle.wgsl_base.proofs.Members.{from_contains}

abbrev Entry : Type 0
Entry = String Global × Module

abbrev path_and_unit : Entry → ModulePath × UnitTree
path_and_unit e = (e.1.path, unit_tree e.1.unit)

module _ (ms : LoadedModules) (keyed : IsKeyed ms) (ordered : IsOrdered string_cmp ms) where
  -- an entry is what is found at its key
  pub found_entry : (i : ℕ) (k : String Global) (v : Module) → slice_get ms.entries i ≡ Some (k, v) → get_by_text ms (string_bytes k) ≡ Some v
  found_entry i k v is = btree_map_get_place string_cmp_total ms i k v ordered is

  pub key_is : (i : ℕ) (e : Entry) → slice_get ms.entries i ≡ Some e → path_text e.1.path ≡ string_bytes e.0
  key_is i e is = sym e.1.printed ∙ keyed (string_bytes e.0) e.1 (found_entry i e.0 e.1 is)

  pub found_home : (i : ℕ) (e : Entry) → slice_get ms.entries i ≡ Some e → loaded ms (string_bytes e.0) ≡ Some (home_of e.1)
  found_home i e is = ap (option_map home_of) (found_entry i e.0 e.1 is)

  pub finder : IsFinder (modules_of ms) (loaded ms)
  finder = tabled_finder ms (modules_of ms) (record { keyed = keyed; ordered = ordered; same = λ x. (λ c. c, λ c. c); many = length-map ms.entries path_and_unit })

  abbrev texts_of : List Entry → List Path
  texts_of es = map (λ e. string_bytes e.0) es

  abbrev Entries : List Entry → Type 0
  Entries es = (i : ℕ) (e : Entry) → slice_get es i ≡ Some e → (j : ℕ) × (slice_get ms.entries j ≡ Some e)

  pub printed_keys : (es : List Entry) → Entries es → map (λ m. path_text m.0) (map path_and_unit es) ≡ texts_of es
  printed_keys [] each = refl
  printed_keys (e ∷ es) each = let p = each 0 e refl in λ k. key_is p.0 e p.1 k ∷ printed_keys es (λ i d is. each (suc i) d is) k

  all_less : (x : String Global) (ks : List (String Global)) → AllByRecursion (λ y. string_cmp x y ≡ Less) ks → AllByRecursion (λ y. slice_cmp nat_cmp (string_bytes x) y ≡ Less) (map string_bytes ks)
  all_less x [] a = a
  all_less x (k ∷ ks) a = (a.0, all_less x ks a.1)

  pub sorted_texts : (es : List Entry) → IsStrictlySortedBy string_cmp (map (λ e. e.0) es) → IsStrictlySortedBy (slice_cmp nat_cmp) (texts_of es)
  unfolding IsStrictlySortedBy
  sorted_texts [] s = s
  sorted_texts (e ∷ es) s = (less es s.0, sorted_texts es s.1)
    where
      less : (ds : List Entry) → AllByRecursion (λ y. string_cmp e.0 y ≡ Less) (map (λ d. d.0) ds) → AllByRecursion (λ y. slice_cmp nat_cmp (string_bytes e.0) y ≡ Less) (texts_of ds)
      less [] a = a
      less (d ∷ ds) a = (a.0, less ds a.1)

  pub all_there : (es : List Entry) → Entries es → (p : Path) → Contains (texts_of es) p → (m : Path × UnitTree) × (loaded ms p ≡ Some m)
  all_there es each p c =
      let at = from_contains (texts_of es) p c in
      let e = map_get (λ (e : Entry). string_bytes e.0) es at.0 p at.1 in
      let i = each at.0 e.0 e.1 in
      (home_of e.0.1, subst (λ q. loaded ms q ≡ Some (home_of e.0.1)) e.2 (found_home i.0 e.0 i.1))

  module _ (held : HeldNames) (root : Path) where
    others_same : (es : List Entry) → Entries es → flat_map (λ p. linked_at (loaded ms) (held_at held) (loaded ms p)) (without root (texts_of es)) ≡ others_linked ms held root es
    others_same [] each = refl
    others_same (e ∷ es) each = at (bytes_eq (string_bytes e.0) root) (others_same es (λ i d is. each (suc i) d is)) (let p = each 0 e refl in found_home p.0 e p.1)
      where
        at : (b : Bool) → flat_map (λ p. linked_at (loaded ms) (held_at held) (loaded ms p)) (without root (texts_of es)) ≡ others_linked ms held root es
            → loaded ms (string_bytes e.0) ≡ Some (home_of e.1)
            → flat_map (λ p. linked_at (loaded ms) (held_at held) (loaded ms p)) (if b then without root (texts_of es) else string_bytes e.0 ∷ without root (texts_of es))
            ≡ (if b then [] else linked_module (loaded ms) (held_at held) (home_of e.1)) ++ others_linked ms held root es
        at true rest here = rest
        at false rest here = λ k. linked_at (loaded ms) (held_at held) (here k) ++ rest k

    whole : Entries ms.entries
    whole i e is = (i, is)

    pub unit_assembled : linked_unit (loaded ms) (held_at held) root (texts_of ms.entries) ≡ assembled ms held root
    unit_assembled = λ k. record { imports = []; declarations = linked_at (loaded ms) (held_at held) (loaded ms root) ++ others_same ms.entries whole k }

    pub assembled_linked : (keep : List Name) → IsResolved ms root keep held → IsLinked (modules_of ms) root keep (assembled ms held root)
    assembled_linked keep r =
        subst (IsLinked (modules_of ms) root keep) unit_assembled
        (unit_linked (modules_of ms) (loaded ms) finder root keep (held_at held) r.rooted r.named r.kept r.sound r.settled (texts_of ms.entries)
        (printed_keys ms.entries whole) (sorted_texts ms.entries ordered) (all_there ms.entries whole))
