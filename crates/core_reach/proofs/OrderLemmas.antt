-- What is held has its printed name, and what is asked for is what occurs and is not loaded.
use Rattle.std.proofs.Common.{◌≡◌, refl, sym, ap, ◌∙◌, subst, ℕ, Bool, true, false, Option, Some, None}
use Rattle.std.specs.Prelude.{if◌then◌else◌, slice_get, string_bytes, nat_eq}
use Rattle.std.specs.Str.{bytes_eq}
use Rattle.std.specs.Option.{option_map}
use Rattle.std.specs.String.{string_cmp}
use Rattle.std.specs.BTreeMap.{get_by_text, Updates}
use Rattle.std.specs.declared.string.String.{String}
use Rattle.std.specs.declared.alloc.Global.{Global}
use Rattle.std.proofs.lemmas.Bool.{eqb-true}
use Rattle.std.proofs.lemmas.Map.Text.{btree_map_updates_text}
use Rattle.wgsl_path.specs.Paths.{path_text}
use Rattle.core_syntax.specs.Tree.{Decl, UnitTree}
use Rattle.core_syntax.specs.View.{unit_tree}
use Rattle.core_syntax.specs.Names.{declared_name}
use Rattle.wesl_resolve.specs.Mangling.{mangled}
use Rattle.core_link_spec.specs.Occurrences.{Name}
use Rattle.core_link_spec.specs.Modules.{Path, Symbol}
use Rattle.core_scopes.specs.declared.module.Module.{Module}
use Rattle.core_scopes.specs.declared.denote.Symbol.{Symbol as Place}
use Rattle.core_scopes.specs.Meanings.{Known, declared, imported, bare, known}
use Rattle.core_scopes.specs.Outcomes.{symbol_at, Loaded, item_in, item_at, meant_as, outcome, home_of, loaded, IsInTable}
use Rattle.wgsl_base.proofs.Members.{same_bytes, bytes_same}
use Rattle.core_scopes.proofs.TellLemmas.{declares}
use Rattle.core_reach.specs.declared.linking.Linking.{Linking}
use Rattle.core_reach.specs.declared.linking.AskedModule.{AskedModule}
use Rattle.core_reach.specs.Closing.{HeldNames, held_at, Holds}
use Rattle.core_reach.specs.Stages.{AskedNames, name_asked, asks}
use Rattle.core_reach.specs.Resolved.{LoadedModules, IsKeyed}
use Rattle.core_reach.specs.Closed.{IsNamedAt, IsAskedAt, AreAskedByName, AreAskedByImport, IsNamedInTable}
use Rattle.core_reach.specs.Underway.{IsPlaced, NamesAll, IsConsistent}

-- ---- printed names

pub named_more : (l : Linking) (old new : HeldNames) (s : Place) (name : Name) → IsPlaced l.modules.now s → NamesAll l old → Holds old (string_bytes s.«module».now.printed_path) s.place name new
    → ((d : Decl) → slice_get (unit_tree s.«module».now.unit).declarations s.place ≡ Some d
    → name ≡ (if bytes_eq (string_bytes s.«module».now.printed_path) l.root.now then declared_name d else mangled s.«module».now.path (declared_name d)))
    → NamesAll l new
named_more l old new s name placed before holds is m k y e = at m k y (bytes_eq (string_bytes s.«module».now.printed_path) m) (nat_eq s.place k) refl refl (sym (holds m k) ∙ e)
  where
    here : IsNamedAt l.modules.now l.root.now (string_bytes s.«module».now.printed_path) s.place name
    here = record { home = s.«module».now; found = placed.home; declaration = placed.declaration; stands = placed.stands; named = is placed.declaration placed.stands }

    at : (m : Path) (k : ℕ) (y : Name) (b c : Bool) → bytes_eq (string_bytes s.«module».now.printed_path) m ≡ b → nat_eq s.place k ≡ c
        → (if b then (if c then Some name else held_at old m k) else held_at old m k) ≡ Some y → IsNamedAt l.modules.now l.root.now m k y
    at m k y true true same place e =
        let name_is : name ≡ y = cc in
        subst (λ n. IsNamedAt l.modules.now l.root.now n k y) (same_bytes (string_bytes s.«module».now.printed_path) m same)
        (subst (λ n. IsNamedAt l.modules.now l.root.now (string_bytes s.«module».now.printed_path) n y) (eqb-true s.place k place)
        (subst (λ z. IsNamedAt l.modules.now l.root.now (string_bytes s.«module».now.printed_path) s.place z) name_is here))
    at m k y true false same place e = before m k y e
    at m k y false c same place e = before m k y e

-- ---- where what is found stands

abbrev pub Keyed : Loaded → Type 0
Keyed find = (p : Path) (h : Path × UnitTree) → find p ≡ Some h → h.0 ≡ p

pub keyed_finds : (ms : LoadedModules) → IsKeyed ms → Keyed (loaded ms)
keyed_finds ms keyed p h e = at (get_by_text ms p) refl e
  where
    at : (o : Option Module) → get_by_text ms p ≡ o → option_map home_of o ≡ Some h → h.0 ≡ p
    at None is e = absurd (cc)
    at (Some m) is e = let same : home_of m ≡ h = cc in ap (λ (g : Path × UnitTree). g.0) (sym same) ∙ keyed p m is

abbrev pub StandsIn : Loaded → Path → ℕ → Type 0
StandsIn find m place = (h : Path × UnitTree) × (find m ≡ Some h) × ((d : Decl) × (slice_get h.1.declarations place ≡ Some d))

module _ (find : Loaded) (keyed : Keyed find) where
  declared_stands : (h : Path × UnitTree) (x : Name) (j : ℕ) (p m : Path) (place : ℕ) → find p ≡ Some h → known h.1 x ≡ Some (declared j) → symbol_at h.0 j ≡ symbol_at m place → StandsIn find m place
  declared_stands h x j p m place there is e =
      let home : h.0 ≡ m = cc in
      let here : j ≡ place = cc in
      let d = declares h.1 x j is in
      (h, ap find (sym home ∙ keyed p h there) ∙ there, (d.0, subst (λ n. slice_get h.1.declarations n ≡ Some d.0) here d.1))

  pub item_stands : (t : Symbol) (m : Path) (place : ℕ) (o : Option (Path × UnitTree)) → find t.home ≡ o → item_at t o ≡ symbol_at m place → StandsIn find m place
  item_stands t m place None is e = absurd (cc)
  item_stands t m place (Some h) is e = at (known h.1 t.name) refl e
    where
      at : (k : Option Known) → known h.1 t.name ≡ k → item_in h.0 t k ≡ symbol_at m place → StandsIn find m place
      at None f g = absurd (cc)
      at (Some (imported u)) f g = absurd (cc)
      at (Some (bare y)) f g = absurd (cc)
      at (Some (declared j)) f g = declared_stands h t.name j t.home m place is f g

  pub outcome_stands : (h : Path × UnitTree) (p : Path) (x : Name) (m : Path) (place : ℕ) → find p ≡ Some h → outcome find h x ≡ symbol_at m place → StandsIn find m place
  outcome_stands h p x m place there e = at (known h.1 x) refl e
    where
      at : (k : Option Known) → known h.1 x ≡ k → meant_as find h.0 k ≡ symbol_at m place → StandsIn find m place
      at None f g = absurd (cc)
      at (Some (bare y)) f g = absurd (cc)
      at (Some (imported u)) f g = item_stands u.1 m place (find u.1.home) refl g
      at (Some (declared j)) f g = declared_stands h x j p m place there f g

placed_there : (ms : LoadedModules) (s : Place) → get_by_text ms (string_bytes s.«module».now.printed_path) ≡ Some s.«module».now
    → StandsIn (loaded ms) (string_bytes s.«module».now.printed_path) s.place → IsPlaced ms s
placed_there ms s home there =
    let found : loaded ms (string_bytes s.«module».now.printed_path) ≡ Some (home_of s.«module».now) = ap (option_map home_of) home in
    let both : Some (home_of s.«module».now) ≡ Some there.0 = sym found ∙ there.1 in
    let same : there.0 ≡ home_of s.«module».now = cc in
    record { home = home; declaration = there.2.0; stands = subst (λ (h : Path × UnitTree). slice_get h.1.declarations s.place ≡ Some there.2.0) same there.2.1 }

under_text : (ms : LoadedModules) (p : Path) (m : Module) → IsKeyed ms → get_by_text ms p ≡ Some m → get_by_text ms (string_bytes m.printed_path) ≡ Some m
under_text ms p m keyed is = ap (get_by_text ms) (keyed p m is) ∙ is

pub placed_item : (ms : LoadedModules) (p : Path) (x : Name) (s : Place) → IsKeyed ms → get_by_text ms p ≡ Some s.«module».now
    → symbol_at (string_bytes s.«module».now.printed_path) s.place ≡ item_at (record { home = p; name = x }) (loaded ms p) → IsPlaced ms s
placed_item ms p x s keyed is e =
    placed_there ms s (under_text ms p s.«module».now keyed is)
    (item_stands (loaded ms) (keyed_finds ms keyed) (record { home = p; name = x }) (string_bytes s.«module».now.printed_path) s.place (loaded ms p) refl (sym e))

pub placed_denoted : (ms : LoadedModules) (home : Module) (p : Path) (x : Name) (s : Place) → IsKeyed ms → IsInTable ms s.«module».now → loaded ms p ≡ Some (home_of home)
    → symbol_at (string_bytes s.«module».now.printed_path) s.place ≡ outcome (loaded ms) (home_of home) x → IsPlaced ms s
placed_denoted ms home p x s keyed is there e =
    placed_there ms s (under_text ms is.0 s.«module».now keyed is.1)
    (outcome_stands (loaded ms) (keyed_finds ms keyed) (home_of home) p x (string_bytes s.«module».now.printed_path) s.place there (sym e))

pub same_order : (l : Linking) (old new : HeldNames) (asked : AskedNames) → IsConsistent l old asked → NamesAll l new → IsConsistent l new asked
same_order l old new asked before more = record { named = more; asked_at = before.asked_at; by_name = before.by_name; by_import = before.by_import }

-- ---- what is asked for

pub order_asked : (l : Linking) (held : HeldNames) (old new : AskedNames) (u : Symbol) → IsAskedAt (loaded l.modules.now) l.root.now l.keep.now u
    → ((s : Symbol) → asks new s ≡ (if bytes_eq u.home s.home then (if bytes_eq u.name s.name then true else asks old s) else asks old s))
    → (AreAskedByName old → AreAskedByName new) → (AreAskedByImport l.modules.now old → AreAskedByImport l.modules.now new) → IsConsistent l held old → IsConsistent l held new
order_asked l held old new u now more by_name by_import before = record {
  named = before.named;
  asked_at = λ s e. at s (bytes_eq u.home s.home) (bytes_eq u.name s.name) refl refl (sym (more s) ∙ e);
  by_name = by_name before.by_name;
  by_import = by_import before.by_import;
}
  where
    at : (s : Symbol) (b c : Bool) → bytes_eq u.home s.home ≡ b → bytes_eq u.name s.name ≡ c → (if b then (if c then true else asks old s) else asks old s) ≡ true
        → IsAskedAt (loaded l.modules.now) l.root.now l.keep.now s
    at s true true home name e =
        let same : u ≡ s = (λ k. record { home = same_bytes u.home s.home home k; name = same_bytes u.name s.name name k }) in
        subst (IsAskedAt (loaded l.modules.now) l.root.now l.keep.now) same now
    at s true false home name e = before.asked_at s e
    at s false c home name e = before.asked_at s e

pub asked_by_name : (old mid new : AskedNames) (took more : AskedModule) (key : String Global) (t x : Name)
    → ((n : Path) → get_by_text mid n ≡ (if bytes_eq t n then None else get_by_text old n))
    → ((y : Name) → name_asked (Some more) y ≡ (if bytes_eq x y then true else name_asked (Some took) y))
    → path_text more.path ≡ t
    → string_bytes key ≡ t → Updates string_cmp mid new key (Some more) → AreAskedByName old → AreAskedByName new
asked_by_name old mid new took more key t x others added path is put before p a e = at (bytes_eq t p) refl (sym (found p) ∙ e)
  where
    found : (n : Path) → get_by_text new n ≡ (if bytes_eq t n then Some more else (if bytes_eq t n then None else get_by_text old n))
    found n =
        btree_map_updates_text (string_bytes key) mid new (Some more) put n ∙ ap (λ u. if bytes_eq u n then Some more else get_by_text mid n) is
        ∙ ap (λ o. if bytes_eq t n then Some more else o) (others n)

    at : (b : Bool) → bytes_eq t p ≡ b → (if b then Some more else (if b then None else get_by_text old p)) ≡ Some a → (path_text a.path ≡ p) × ((y : Name) × (name_asked (Some a) y ≡ true))
    at true same e =
        let it : more ≡ a = cc in
        subst (λ (b : AskedModule). (path_text b.path ≡ p) × ((y : Name) × (name_asked (Some b) y ≡ true))) it
        (path ∙ same_bytes t p same, (x, added x ∙ ap (λ b. if b then true else name_asked (Some took) x) (bytes_same x)))
    at false same e = before p a e

pub asked_by_import : (ms : LoadedModules) (old mid new : AskedNames) (more : AskedModule) (key : String Global) (t : Name)
    → ((n : Path) → get_by_text mid n ≡ (if bytes_eq t n then None else get_by_text old n)) → IsNamedInTable ms more.path
    → string_bytes key ≡ t → Updates string_cmp mid new key (Some more) → AreAskedByImport ms old → AreAskedByImport ms new
asked_by_import ms old mid new more key t others named is put before p a e = at (bytes_eq t p) (sym (found p) ∙ e)
  where
    found : (n : Path) → get_by_text new n ≡ (if bytes_eq t n then Some more else (if bytes_eq t n then None else get_by_text old n))
    found n =
        btree_map_updates_text (string_bytes key) mid new (Some more) put n ∙ ap (λ u. if bytes_eq u n then Some more else get_by_text mid n) is
        ∙ ap (λ o. if bytes_eq t n then Some more else o) (others n)

    at : (b : Bool) → (if b then Some more else (if b then None else get_by_text old p)) ≡ Some a → IsNamedInTable ms a.path
    at true e = let it : more ≡ a = cc in subst (λ (b : AskedModule). IsNamedInTable ms b.path) it named
    at false e = before p a e
