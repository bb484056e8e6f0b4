-- The example's package is linked.
use Rattle.std.specs.Prelude.{◌∷◌, [], List, Some, None, Bool, true, false, codes, slice_get, length, if◌then◌else◌}
use Rattle.std.specs.List.{Contains}
use Rattle.std.specs.Option.{unwrap_or}
use Rattle.std.specs.Str.{bytes_eq}
use Rattle.std.proofs.Common.{◌≡◌, refl, ap, sym, ◌∙◌, subst, ℕ, zero, suc, ◌⊎◌, inl, inr, arith, true≢false}
use Rattle.std.proofs.lemmas.Option.{none-some}
use Rattle.std.proofs.lemmas.List.Elements.{Contains-append_right}
use Rattle.wesl_chains.proofs.Members.{first_in, in_cases, in_none}
use Rattle.wesl_chains.proofs.Loops.{same_some}
use Rattle.wgsl_skeleton.specs.DeclarationsTree.{UnitTree}
use Rattle.wgsl_skeleton.specs.Occurrences.{Occurrence}
use Rattle.wgsl_skeleton.specs.Renaming.{Naming}
use Rattle.wesl_chains.specs.Outlines.{Name, Path, Use, other, Entry, Outline}
use Rattle.wesl_chains.specs.Senses.{Sense, imported, free, sense}
use Rattle.wesl_chains.specs.Chains.{Outcome, declared_at, Denotes}
use Rattle.wesl_chains.specs.Reaching.{IsAt, begins, a_kept_name, onward}
use Rattle.wesl_linking_spec.specs.Outlining.{outline_of}
use Rattle.wesl_linking_spec.specs.Sources.{canonical, finder, unit_at}
use Rattle.wesl_linking_spec.specs.Loading.{one_path}
use Rattle.wesl_linking_spec.specs.Written.{IsNaming, printed, entry_printed}
use Rattle.wesl_linking_spec.specs.Linked.{takes, nothing_left, none_yet, IsInOrder, IsLinkedModule, no_module, a_module}
use Rattle.wesl_linking_spec.specs.Clashing.{Mention, occurs, declares, IsShared, IsTaken, Clashes, shared, hidden, captured, MentionClashes, an_occurrence, own_name, SpotClashes, NoneClashes, unit_mentions}
use Rattle.wesl_linking_spec.specs.Linking.{lazy, IsHeld}
use Rattle.wesl_linking_spec.specs.Examples.{plain, name, const_of, underlined}
use Rattle.wesl_linking_spec.specs.Packages.{root, m, root_tree, m_tree, both, request, LinkedExample}
use Rattle.wesl_linking_spec.proofs.Places.{at_place, printed_there}
use Rattle.wesl_linking_spec.proofs.Loaded.{root_outline, m_outline, keep, Case, is_two, is_u, each_of_both, case_of, ends, comes_so, free_denotes_none, both_loaded}

abbrev held : Path → ℕ → Type 0
held p k = IsHeld (request lazy keep 2) both p k

-- ---- new names

abbrev new_names : Naming
new_names path x = if bytes_eq x (codes "two") then codes "package_m_two" else x

abbrev home_of : Outcome → Path
home_of (declared_at n j) = n
home_of _ = []

abbrev place_of : Outcome → ℕ
place_of (declared_at n j) = j
place_of _ = 0

abbrev is_imported : Sense → Bool
is_imported (imported s) = true
is_imported _ = false

named_so : (p : Path) (k : ℕ) (o : Outline) (u : Use) → Case p k o u → (ps : List Path) (n : Path) (j : ℕ) → Denotes (finder both) p o u ps (declared_at n j) → printed both root underlined n j ≡ Some (new_names u.path u.name)
named_so p k o u c ps n j d =
    let same : declared_at n j ≡ declared_at m 0 = comes_so both (m ∷ []) (declared_at m 0) ends p k o u ps (declared_at n j) c d in
    ap (λ z. printed both root underlined (home_of z) (place_of z)) same ∙ ap Some (at c)
  where
    at : Case p k o u → codes "package_m_two" ≡ new_names u.path u.name
    at (is_two a b e is) = ap (λ v. new_names v.path v.name) is
    at (is_u a b e is) = absurd (free_denotes_none both p o u ps (declared_at n j) (subst (λ y. sense o y ≡ free) is (subst (λ y. sense y (plain (codes "u")) ≡ free) e refl)) d)

stays_so : (p : Path) (k : ℕ) (o : Outline) (u : Use) → Case p k o u → sense o u ≡ free → new_names u.path u.name ≡ u.name
stays_so p k o u (is_two a b e is) f =
    let g : sense o u ≡ imported (record { home = m; name = codes "two" }) = subst (λ y. sense o y ≡ imported (record { home = m; name = codes "two" })) is (subst (λ y. sense y (plain (codes "two")) ≡ imported (record { home = m; name = codes "two" })) e refl) in
    absurd (true≢false (ap is_imported (sym g ∙ f)))
stays_so p k o u (is_u a b e is) f = ap (λ v. new_names v.path v.name) (sym is) ∙ ap (λ v. v.name) is

naming : (p : Path) (o : Outline) → IsNaming both root underlined held p o new_names
naming p o = record {
  denoting = λ k e u h at used ps n j d. named_so p k o u (case_of both each_of_both p k o e u at used) ps n j d;
  staying = λ k e u h at used f. stays_so p k o u (case_of both each_of_both p k o e u at used) f;
}

-- ---- what is held

abbrev no_entry : Entry
no_entry = record { kind = other; name = None; uses = [] }

abbrev a_entry : Entry
a_entry = unwrap_or (slice_get root_outline.entries 0) no_entry

at_a : IsAt (finder both) root 0 root_outline a_entry
at_a = record { is_module = refl; stands_there = refl }

a_held : held root 0
a_held = begins (a_kept_name {x = codes "a"} at_a refl (0, omega arith, refl) refl)

two_held : held m 0
two_held = onward {u = plain (codes "two")} a_held at_a (0, omega arith, refl) ends

-- ---- the unit

root_part : IsLinkedModule both root underlined held root [] (((root, 0), const_of (codes "a") (name (codes "package_m_two"))) ∷ [])
root_part = record {
  unit = root_tree;
  is_module = refl;
  naming = new_names;
  names = naming root root_outline;
  directives = tt;
  held_there = ((root, 0), const_of (codes "a") (name (codes "two"))) ∷ [];
  selected = takes a_held nothing_left;
  declarations = ((refl, refl), tt);
}

m_part : IsLinkedModule both root underlined held m [] (((m, 0), const_of (codes "package_m_two") (name (codes "u"))) ∷ [])
m_part = record {
  unit = m_tree;
  is_module = refl;
  naming = new_names;
  names = naming m m_outline;
  directives = tt;
  held_there = ((m, 0), const_of (codes "two") (name (codes "u"))) ∷ [];
  selected = takes two_held nothing_left;
  declarations = ((refl, refl), tt);
}

m_is_no_root : m ≡ root → ⊥
m_is_no_root e = lengths (ap length e)
  where
    lengths : ◌≡◌ {A = ℕ} 10 7 → ⊥
    lengths h = omega arith

in_order : IsInOrder (root ∷ m ∷ []) root (root ∷ m ∷ [])
in_order = record {
  others = m ∷ [];
  root_first = refl;
  ascending = one_path;
  not_root = λ c. elim (in_cases m [] root c) [ inl e ↦ m_is_no_root e | inr none ↦ in_none root none ];
  each = λ p. ((λ c. c), (λ c. c));
}

-- ---- no name clashes

-- the places that have names, and their printed names
data Place (p : Path) (k : ℕ) (y : Name) : Type 0 where
  is_a : root ≡ p → 0 ≡ k → codes "a" ≡ y → Place p k y
  is_m_two : m ≡ p → 0 ≡ k → codes "package_m_two" ≡ y → Place p k y

abbrev Placed : Path → ℕ → Outline → Entry → Type 0
Placed p k o e = (y : Name) → entry_printed both root underlined p o.path (Some e) ≡ Some y → Place p k y

root_placed : (k : ℕ) (e : Entry) → slice_get root_outline.entries k ≡ Some e → Placed root k root_outline e
root_placed zero e h y is = is_a refl refl (same_some (subst (λ x. entry_printed both root underlined root root_outline.path (Some x) ≡ Some y) (sym (same_some h)) is))
root_placed (suc k) e h y is = absurd (none-some e h)

m_placed : (k : ℕ) (e : Entry) → slice_get m_outline.entries k ≡ Some e → Placed m k m_outline e
m_placed zero e h y is = is_m_two refl refl (same_some (subst (λ x. entry_printed both root underlined m m_outline.path (Some x) ≡ Some y) (sym (same_some h)) is))
m_placed (suc k) e h y is = absurd (none-some e h)

place_of_name : (p : Path) (k : ℕ) (y : Name) → printed both root underlined p k ≡ Some y → Place p k y
place_of_name p k y is =
    let there = printed_there both root underlined p k y is in
    at_place Placed both (root_placed, (m_placed, tt)) p there.outline k there.entry there.is_module there.stands_there y there.its_name

none_shared : (y : Name) → IsShared both root underlined held y → ⊥
none_shared y s = at (place_of_name s.one.0 s.one.1 y s.one_printed) (place_of_name s.another.0 s.another.1 y s.another_printed)
  where
    lengths : ◌≡◌ {A = ℕ} 1 13 → ⊥
    lengths h = omega arith

    at : Place s.one.0 s.one.1 y → Place s.another.0 s.another.1 y → ⊥
    at (is_a p k n) (is_a q j z) = s.differ (λ i. ((sym p ∙ q) i, (sym k ∙ j) i))
    at (is_a p k n) (is_m_two q j z) = lengths (ap length (n ∙ sym z))
    at (is_m_two p k n) (is_a q j z) = lengths (ap length (z ∙ sym n))
    at (is_m_two p k n) (is_m_two q j z) = s.differ (λ i. ((sym p ∙ q) i, (sym k ∙ j) i))

none_taken : IsTaken both root underlined held (codes "u") → ⊥
none_taken t = at (place_of_name t.spot.0 t.spot.1 (codes "u") t.its_name)
  where
    differ : ◌≡◌ {A = ℕ} 97 117 → ⊥
    differ h = omega arith

    lengths : ◌≡◌ {A = ℕ} 13 1 → ⊥
    lengths h = omega arith

    at : Place t.spot.0 t.spot.1 (codes "u") → ⊥
    at (is_a p k n) = differ (ap (λ x. unwrap_or (slice_get x 0) 0) n)
    at (is_m_two p k n) = lengths (ap length n)

abbrev use_alone : Name → Occurrence
use_alone x = record { path = None; name = x; locals = [] }

-- an occurrence at which no local is in scope clashes only where it is free and its name is taken
by_itself : (p : Path) (o : Outline) (x y : Name) → (sense o (plain x) ≡ free → x ≡ codes "u") → Clashes both root underlined held p o (use_alone x) y → ⊥
by_itself p o x y only (shared plain_name d is s) = none_shared y s
by_itself p o x y only (hidden plain_name d is among) = true≢false (sym among)
by_itself p o x y only (captured plain_name f t same) = none_taken (subst (IsTaken both root underlined held) (same ∙ only f) t)

abbrev occurrence_or : Name → Mention → Occurrence
occurrence_or x (occurs v) = v
occurrence_or x declares = use_alone x

mention_fine : (p : Path) (k : ℕ) (o : Outline) (x y : Name) → (sense o (plain x) ≡ free → x ≡ codes "u") → (one : Mention) → Contains (declares ∷ occurs (use_alone x) ∷ []) one
    → MentionClashes both root underlined held p k o one y → ⊥
mention_fine p k o x y only one c clash = elim (in_cases declares (occurs (use_alone x) ∷ []) one c) [
  | inl e ↦ at declares (subst (λ z. MentionClashes both root underlined held p k o z y) (sym e) clash) (inl refl)
  | inr d ↦ elim (in_cases (occurs (use_alone x)) [] one d) [ inl e ↦ at (occurs (use_alone x)) (subst (λ z. MentionClashes both root underlined held p k o z y) (sym e) clash) (inr refl) | inr none ↦ in_none one none ]
]
  where
    at : (z : Mention) → MentionClashes both root underlined held p k o z y → (z ≡ declares) ⊎ (z ≡ occurs (use_alone x)) → ⊥
    at z (own_name is s) which = none_shared y s
    at z (an_occurrence {c = v} h) which = by_itself p o x y only (subst (λ w. Clashes both root underlined held p o w y) (elim which [ inl e ↦ ap (occurrence_or x) e | inr e ↦ ap (occurrence_or x) e ]) h)

-- of a module with one declaration that uses one name
spot_fine : (p : Path) (u : UnitTree) (x y : Name) → unit_at both p ≡ Some u → slice_get (unit_mentions u) 0 ≡ Some (declares ∷ occurs (use_alone x) ∷ [])
    → (sense (outline_of (canonical p) u) (plain x) ≡ free → x ≡ codes "u") → SpotClashes both root underlined held (p, 0) y → ⊥
spot_fine p u x y is stands only s =
    let unit : u ≡ s.unit = same_some (sym is ∙ s.is_module) in
    let mentions : (declares ∷ occurs (use_alone x) ∷ []) ≡ s.mentions = same_some (sym stands ∙ ap (λ v. slice_get (unit_mentions v) 0) unit ∙ s.stands) in
    let among : Contains s.mentions s.first.one = subst (λ l. Contains l s.first.one) (sym s.first.whole) (Contains-append_right s.first.before (s.first.one ∷ s.first.behind) s.first.one (first_in s.first.one s.first.behind)) in
    mention_fine p 0 (outline_of (canonical p) u) x y only s.first.one (subst (λ l. Contains l s.first.one) (sym mentions) among)
    (subst (λ v. MentionClashes both root underlined held p 0 (outline_of (canonical p) v) s.first.one y) (sym unit) s.first.clashes)

root_fine : (y : Name) → SpotClashes both root underlined held (root, 0) y → ⊥
root_fine y s = spot_fine root root_tree (codes "two") y refl refl (λ f. absurd (true≢false (ap is_imported f))) s

m_fine : (y : Name) → SpotClashes both root underlined held (m, 0) y → ⊥
m_fine y s = spot_fine m m_tree (codes "u") y refl refl (λ f. refl) s

none_clashes : NoneClashes both root underlined held ((root, 0) ∷ (m, 0) ∷ [])
none_clashes p y c s = elim (in_cases (root, 0) ((m, 0) ∷ []) p c) [
  | inl e ↦ root_fine y (subst (λ q. SpotClashes both root underlined held q y) (sym e) s)
  | inr d ↦ elim (in_cases (m, 0) [] p d) [ inl e ↦ m_fine y (subst (λ q. SpotClashes both root underlined held q y) (sym e) s) | inr none ↦ in_none p none ]
]

pub linked : LinkedExample
linked = record {
  modules = both;
  loaded = both_loaded;
  origins = (root, 0) ∷ (m, 0) ∷ [];
  assembled = record {
    no_imports = refl;
    order = root ∷ m ∷ [];
    in_order = in_order;
    directives = [];
    taken = [];
    declarations = ((root, 0), const_of (codes "a") (name (codes "package_m_two"))) ∷ ((m, 0), const_of (codes "package_m_two") (name (codes "u"))) ∷ [];
    modules = a_module root_part (a_module m_part no_module);
    once = none_yet;
    all_directives = refl;
    all_declarations = refl;
    come_from = refl;
  };
  clear = none_clashes;
}
