-- What the tables say of names, in the words of the definitions.
use Rattle.std.proofs.Common.{◌≡◌, refl, sym, ap, ◌∙◌, subst, ℕ, zero, suc, ◌<◌, ◌⊎◌, inl, inr, ⊎_elim, List, [], ◌∷◌, map, Bool, true, false, ◌||◌, Option, Some, None, arith}
use Rattle.std.specs.Prelude.{if◌then◌else◌, is_some, slice_get, string_bytes, IsTrue}
use Rattle.std.specs.Str.{bytes_eq}
use Rattle.std.specs.String.{string_cmp}
use Rattle.std.specs.Option.{IsSome, unwrap_or}
use Rattle.std.specs.Ordering.{nat_cmp, is_eq}
use Rattle.std.specs.Cmp.Lexicographic.{slice_cmp}
use Rattle.std.specs.List.{Contains, AllByRecursion}
use Rattle.std.specs.List.Sorted.{IsStrictlySortedBy}
use Rattle.std.specs.BTreeMap.{IsOrdered, get_by_text}
use Rattle.std.specs.declared.cmp.Ordering.TheVariants.{Less}
use Rattle.std.proofs.lemmas.Map.Text.{is_eq-slice_cmp}
use Rattle.wgsl_path.specs.declared.path.ModulePath.{ModulePath}
use Rattle.wgsl_path.specs.Paths.{path_text}
use Rattle.core_syntax.specs.Tree.{UnitTree}
use Rattle.core_syntax.specs.View.{unit_tree}
use Rattle.wesl_resolve.specs.Mangling.{mangled}
use Rattle.core_link_spec.specs.Occurrences.{Name, is_among}
use Rattle.core_link_spec.specs.Modules.{Path, Symbol, Modules, IsModule, Denotes, IsFree, Reached}
use Rattle.core_link_spec.specs.Names.{IsPrinted, stays, is_mangled}
use Rattle.core_link_spec.specs.Linked.{IsShared, IsTaken, Clashes, shared, hidden, captured}
use Rattle.core_scopes.specs.declared.module.Module.{Module}
use Rattle.core_scopes.specs.Outcomes.{Outcome, symbol_at, unloaded, missing, private, free, loaded, outcome}
use Rattle.core_scopes.specs.Tells.{IsFinder, StandsAt, Tells}
use Rattle.core_reach.specs.Reach.{Settled}
use Rattle.core_reach.specs.Closing.{HeldNames, held_at}
use Rattle.core_names.specs.Naming.{printed_of}
use Rattle.core_reach.specs.Resolved.{LoadedModules, modules_of, IsResolved}
use Rattle.core_link.specs.Clashing.{is_twice, sharing_in, held_names, is_shared, name_clash}
use Rattle.core_scopes.proofs.ScopeLemmas.{map_get, self_name}
use Rattle.core_scopes.proofs.TellLemmas.{tells}
use Rattle.core_reach.proofs.ReachLemmas.{denoted, same_place, reached_there, there_reached, reached_held}
use Rattle.core_link.proofs.LinkLemmas.{one_symbol, free_outcome}
use Rattle.core_link.proofs.ResolvedLemmas.{finder, found_entry, key_is, sorted_texts}
use Rattle.core_link.proofs.ClashLemmas.{known_if, twice_among}
use Rattle.core_link.proofs.SharedLemmas.{Entry, NamedAt, among_of, twice_of, placed, placed_twice}
use Rattle.wgsl_base.proofs.Members.{from_contains, get_map}

-- ---- printed names

abbrev Mangled : Modules → Path → Symbol → Name → Type 0
Mangled modules root s y = (p : ModulePath) × (u : UnitTree) × (s.home ≡ root → ⊥) × Contains modules (p, u) × (path_text p ≡ s.home) × (y ≡ mangled p s.name)

printed_as : {modules : Modules} {root : Path} {s : Symbol} {y : Name} → IsPrinted modules root s y → ((s.home ≡ root) × (y ≡ s.name)) ⊎ Mangled modules root s y
printed_as (stays {x}) = inl (refl, refl)
printed_as (is_mangled {s} {path} {u} other stands home) = inr (path, u, other, stands, home, refl)

pub some_of : (o : Option Name) → IsSome o → (y : Name) × (o ≡ Some y)
some_of None is = absurd (cc)
some_of (Some y) is = (y, refl)

is_some_of : (o : Option Name) (y : Name) → o ≡ Some y → IsSome o
is_some_of None y e = absurd (cc)
is_some_of (Some z) y e = refl

-- ---- texts in order

all_at : (P : Path → Type 0) (ts : List Path) (j : ℕ) (b : Path) → AllByRecursion P ts → slice_get ts j ≡ Some b → P b
all_at P [] j b all at = absurd (cc)
all_at P (t ∷ ts) zero b all at = let same : t ≡ b = cc in subst P same all.0
all_at P (t ∷ ts) (suc j) b all at = all_at P ts j b all.1 at

not_before : (a b : Path) → slice_cmp nat_cmp a b ≡ Less → a ≡ b → ⊥
not_before a b less same =
    let no : bytes_eq a b ≡ false = sym (is_eq-slice_cmp a b) ∙ ap is_eq less in
    let yes : bytes_eq a b ≡ true = subst (λ t. bytes_eq a t ≡ true) same (self_name a) in
    absurd (cc)

texts_apart : (ts : List Path) → IsStrictlySortedBy (slice_cmp nat_cmp) ts → (i j : ℕ) (a b : Path) → i < j → slice_get ts i ≡ Some a → slice_get ts j ≡ Some b → a ≡ b → ⊥
unfolding IsStrictlySortedBy
texts_apart [] sorted i j a b less at on same = absurd (cc)
texts_apart (t ∷ ts) sorted zero zero a b less at on same = absurd (omega (arith, less))
texts_apart (t ∷ ts) sorted zero (suc j) a b less at on same =
    let first : t ≡ a = cc in
    not_before t b (all_at (λ y. slice_cmp nat_cmp t y ≡ Less) ts j b sorted.0 on) (first ∙ same)
texts_apart (t ∷ ts) sorted (suc i) zero a b less at on same = absurd (omega (arith, less))
texts_apart (t ∷ ts) sorted (suc i) (suc j) a b less at on same = let less : i < j = omega (arith, less) in texts_apart ts sorted.1 i j a b less at on same

-- ---- what is kept of shared names

pub shared_value : (names : List Name) (y : Name) → is_shared (sharing_in names) y ≡ is_twice y names
shared_value names y = at (is_among y names) (is_twice y names) (twice_among y names)
  where
    at : (a t : Bool) → (a || t) ≡ a → unwrap_or (if a then Some t else None) false ≡ t
    at true t e = refl
    at false true e = absurd (cc)
    at false false e = refl

pub taken_value : (names : List Name) (y : Name) → is_some (sharing_in names y) ≡ is_among y names
taken_value names y = sym (known_if (is_among y names) (is_twice y names))

-- what an answer says of names: the one that clashes, or that none does
abbrev pub Decides : Option Name → (Name → Type 0) → Type 0
Decides o C = ((y : Name) → o ≡ Some y → C y) × (o ≡ None → (y : Name) → C y → ⊥)

module _ (ms : LoadedModules) (root : Path) (keep : List Name) (held : HeldNames) (r : IsResolved ms root keep held) (ordered : IsOrdered string_cmp ms) where
  abbrev finds : IsFinder (modules_of ms) (loaded ms)
  finds = finder ms r.keyed ordered

  abbrev names : List Name
  names = held_names held ms.entries

  key_text : (i : ℕ) (e : Entry) → slice_get ms.entries i ≡ Some e → string_bytes e.1.printed_path ≡ string_bytes e.0
  key_text i e at = r.keyed (string_bytes e.0) e.1 (found_entry ms r.keyed ordered i e.0 e.1 at)

  -- modules that print alike are one
  one_path : (a b : ModulePath) (u v : UnitTree) → Contains (modules_of ms) (a, u) → Contains (modules_of ms) (b, v) → path_text a ≡ path_text b → a ≡ b
  one_path a b u v c d same =
      let i = from_contains (modules_of ms) (a, u) c in
      let j = from_contains (modules_of ms) (b, v) d in
      let e = map_get (λ (e : Entry). (e.1.path, unit_tree e.1.unit)) ms.entries i.0 (a, u) i.1 in
      let f = map_get (λ (e : Entry). (e.1.path, unit_tree e.1.unit)) ms.entries j.0 (b, v) j.1 in
      let path_a : e.0.1.path ≡ a = ap (λ (m : ModulePath × UnitTree). m.0) e.2 in
      let path_b : f.0.1.path ≡ b = ap (λ (m : ModulePath × UnitTree). m.0) f.2 in
      let keys : string_bytes e.0.0 ≡ string_bytes f.0.0 = sym (key_is ms r.keyed ordered i.0 e.0 e.1) ∙ ap path_text path_a ∙ same ∙ ap path_text (sym path_b) ∙ key_is ms r.keyed ordered j.0 f.0 f.1 in
      let one : Some e.0.1 ≡ Some f.0.1 = sym (found_entry ms r.keyed ordered i.0 e.0.0 e.0.1 e.1) ∙ ap (get_by_text ms) keys ∙ found_entry ms r.keyed ordered j.0 f.0.0 f.0.1 f.1 in
      let module_same : e.0.1 ≡ f.0.1 = cc in
      sym path_a ∙ ap (λ (m : Module). m.path) module_same ∙ path_b

  -- a symbol has one printed name
  pub printed_one : (s : Symbol) (y z : Name) → IsPrinted (modules_of ms) root s y → IsPrinted (modules_of ms) root s z → y ≡ z
  printed_one s y z p q =
      ⊎_elim
      (λ here. ⊎_elim (λ there. here.1 ∙ sym there.1) (λ there. absurd (there.2 here.0)) (printed_as q))
      (λ here.
      ⊎_elim
      (λ there. absurd (here.2 there.0))
      (λ there. here.5 ∙ ap (λ p. mangled p s.name) (one_path here.0 there.0 here.1 there.1 here.3 there.3 (here.4 ∙ sym there.4)) ∙ sym there.5)
      (printed_as q))
      (printed_as p)

  -- where a held symbol stands, its printed name is held
  pub named_place : (s : Symbol) (y : Name) → Reached (modules_of ms) root keep s → IsPrinted (modules_of ms) root s y
      → (k : ℕ) × StandsAt (modules_of ms) s.home k s × (held_at held s.home k ≡ Some y)
  named_place s y reached printed =
      let t = there_reached (modules_of ms) (loaded ms) finds root keep r.rooted reached in
      let o = some_of (held_at held s.home t.0) (reached_held (loaded ms) root keep (held_at held) r.kept r.settled t.2) in
      (t.0, t.1, o.1 ∙ ap (λ n. Some n) (printed_one s o.0 y (r.named s.home t.0 s o.0 t.1 o.1) printed))

  -- the entry of a module
  entry_of : (m : Path) (u : UnitTree) → IsModule (modules_of ms) m u → (i : ℕ) × (e : Entry) × (slice_get ms.entries i ≡ Some e) × (string_bytes e.1.printed_path ≡ m) × (unit_tree e.1.unit ≡ u)
  entry_of m u is =
      let c = from_contains (modules_of ms) (is.path, u) is.stands in
      let e = map_get (λ (e : Entry). (e.1.path, unit_tree e.1.unit)) ms.entries c.0 (is.path, u) c.1 in
      (c.0, e.0, e.1, e.0.1.printed ∙ ap (λ (x : ModulePath × UnitTree). path_text x.0) e.2 ∙ is.printed, ap (λ (x : ModulePath × UnitTree). x.1) e.2)

  -- the entry and the place of a held symbol
  pub record Standing (s : Symbol) (y : Name) : Type 0 where
    pub index : ℕ
    pub entry : Entry
    pub place : ℕ
    pub there : slice_get ms.entries index ≡ Some entry
    pub text : string_bytes entry.1.printed_path ≡ s.home
    pub at : StandsAt (modules_of ms) s.home place s
    pub named : NamedAt held y entry place

  pub standing : (s : Symbol) (y : Name) → Reached (modules_of ms) root keep s → IsPrinted (modules_of ms) root s y → Standing s y
  standing s y reached printed =
      let p = named_place s y reached printed in
      let e = entry_of s.home p.1.unit p.1.is_module in
      record {
        index = e.0;
        entry = e.1;
        place = p.0;
        there = e.2;
        text = e.3;
        at = p.1;
        named = record {
          declaration = p.1.declaration;
          stands = ap (λ (u : UnitTree). slice_get u.declarations p.0) e.4 ∙ p.1.stands;
          named = ap (λ t. held_at held t p.0) e.3 ∙ p.2;
        };
      }

  pub taken_told : (y : Name) → IsTaken (modules_of ms) root keep y → is_among y names ≡ true
  taken_told y t = let s = standing t.symbol y t.held t.printed in among_of held y ms.entries s.index s.entry s.place s.there s.named

  same_entry : (i j : ℕ) (e f : Entry) → slice_get ms.entries i ≡ Some e → slice_get ms.entries j ≡ Some f → i ≡ j → e ≡ f
  same_entry i j e f at on same = let both : Some e ≡ Some f = sym at ∙ ap (slice_get ms.entries) same ∙ on in cc

  pub shared_told : (y : Name) → IsShared (modules_of ms) root keep y → is_twice y names ≡ true
  shared_told y t =
      let s = standing t.one y t.one_held t.one_printed in
      let o = standing t.other y t.other_held t.other_printed in
      twice_of held y ms.entries s.index o.index s.entry o.entry s.place o.place s.there o.there s.named o.named
      (λ index place.
      let entry : s.entry ≡ o.entry = same_entry s.index o.index s.entry o.entry s.there o.there index in
      let home : t.one.home ≡ t.other.home = sym s.text ∙ ap (λ (e : Entry). string_bytes e.1.printed_path) entry ∙ o.text in
      t.differ (one_symbol (modules_of ms) (loaded ms) finds root (held_at held) r.named t.one.home s.place t.one t.other s.at
      (subst (λ h. StandsAt (modules_of ms) h s.place t.other) (sym home) (subst (λ k. StandsAt (modules_of ms) t.other.home k t.other) (sym place) o.at))))

  -- the symbol at a place that is held
  pub record Symbolic (m : Path) (k : ℕ) (y : Name) : Type 0 where
    pub symbol : Symbol
    pub at : StandsAt (modules_of ms) m k symbol
    pub held_there : Reached (modules_of ms) root keep symbol
    pub printed : IsPrinted (modules_of ms) root symbol y

  pub symbolic : (m : Path) (k : ℕ) (y : Name) → held_at held m k ≡ Some y → Symbolic m k y
  symbolic m k y e =
      let t = reached_there (modules_of ms) (loaded ms) finds root keep (r.sound m k (is_some_of (held_at held m k) y e)) in
      record { symbol = t.0; at = t.1; held_there = t.2; printed = r.named m k t.0 y t.1 e }

  pub taken_is : (y : Name) → is_among y names ≡ true → IsTaken (modules_of ms) root keep y
  taken_is y e =
      let p = placed held y ms.entries e in
      let s = symbolic (string_bytes p.entry.1.printed_path) p.place y p.named in
      record { symbol = s.symbol; held = s.held_there; printed = s.printed }

  pub shared_is : (y : Name) → is_twice y names ≡ true → IsShared (modules_of ms) root keep y
  shared_is y e =
      let p = placed_twice held y ms.entries e in
      let s = symbolic (string_bytes p.one.entry.1.printed_path) p.one.place y p.one.named in
      let t = symbolic (string_bytes p.other.entry.1.printed_path) p.other.place y p.other.named in
      record {
        one = s.symbol;
        other = t.symbol;
        differ = λ same.
            let texts : string_bytes p.one.entry.1.printed_path ≡ string_bytes p.other.entry.1.printed_path = sym s.at.home ∙ ap (λ (x : Symbol). x.home) same ∙ t.at.home in
            ⊎_elim
            (λ less.
            texts_apart (map (λ (e : Entry). string_bytes e.0) ms.entries) (sorted_texts ms r.keyed ordered ms.entries ordered) p.one.index p.other.index _ _ less
            (get_map (λ (e : Entry). string_bytes e.0) ms.entries p.one.index p.one.entry p.one.stands)
            (get_map (λ (e : Entry). string_bytes e.0) ms.entries p.other.index p.other.entry p.other.stands)
            (sym (key_text p.one.index p.one.entry p.one.stands) ∙ texts ∙ key_text p.other.index p.other.entry p.other.stands))
            (λ both.
            let place : p.other.place ≡ p.one.place =
            same_place (modules_of ms) (loaded ms) finds (string_bytes p.one.entry.1.printed_path) p.one.place p.other.place s.symbol t.at.unit t.at.declaration s.at
            (subst (λ m. IsModule (modules_of ms) m t.at.unit) (sym texts) t.at.is_module) t.at.stands (sym t.at.name ∙ sym (ap (λ (x : Symbol). x.name) same)) in
            let less : p.one.place < p.other.place = both.1 in
            absurd (omega (arith, place, less)))
            p.apart;
        one_held = s.held_there;
        other_held = t.held_there;
        one_printed = s.printed;
        other_printed = t.printed;
      }

  -- ---- one name

  module _ (m : Path × UnitTree) (here : loaded ms m.0 ≡ Some m) (locals : List Name) (x : Name) where
    abbrev ClashesAs : Name → Type 0
    ClashesAs y = Clashes (modules_of ms) root keep m.0 locals x y

    abbrev told_as : Outcome → Option Name
    told_as o = name_clash (sharing_in names) locals (printed_of (held_at held) o) x

    -- what the name denotes has the name that is held
    the_name : (n : Path) (k : ℕ) (y z : Name) (s : Symbol) → outcome (loaded ms) m x ≡ symbol_at n k → held_at held n k ≡ Some y → Denotes (modules_of ms) m.0 x s
        → IsPrinted (modules_of ms) root s z → z ≡ y
    the_name n k y z s is e d p =
        let f = denoted (modules_of ms) (loaded ms) finds m here x d in
        let both : symbol_at n k ≡ symbol_at s.home f.0 = sym is ∙ f.1 in
        let home : n ≡ s.home = cc in
        let place : k ≡ f.0 = cc in
        printed_one s z y p (r.named s.home f.0 s y f.2 (ap (λ h. held_at held h f.0) (sym home) ∙ ap (held_at held n) (sym place) ∙ e))

    denotes_is : (s : Symbol) → Denotes (modules_of ms) m.0 x s → outcome (loaded ms) m x ≡ free → ⊥
    denotes_is s d is =
        let f = denoted (modules_of ms) (loaded ms) finds m here x d in
        let both : symbol_at s.home f.0 ≡ free = sym f.1 ∙ is in
        absurd (cc)

    free_is : IsFree (modules_of ms) m.0 x → outcome (loaded ms) m x ≡ free
    free_is f = free_outcome (modules_of ms) (loaded ms) finds root (held_at held) r.named m here x f

    among_true : (b : Bool) → b ≡ true → IsTrue b
    among_true true e = refl
    among_true false e = absurd (cc)

    true_among : (b : Bool) → IsTrue b → b ≡ true
    true_among true e = refl
    true_among false e = absurd (cc)

    symbol_decides : (n : Path) (k : ℕ) (v : Name) → outcome (loaded ms) m x ≡ symbol_at n k → held_at held n k ≡ Some v → Tells (modules_of ms) m.0 x (symbol_at n k)
        → (a b : Bool) → is_shared (sharing_in names) v ≡ a → is_among v locals ≡ b → Decides (if a || b then Some v else None) ClashesAs
    symbol_decides n k v is e t true b shares hides = (
      λ z same. let one : v ≡ z = cc in subst ClashesAs one (shared t.2 (r.named n k t.0 v t.1 e) (shared_is v (sym (shared_value names v) ∙ shares))),
      λ none. absurd (cc),
    )
    symbol_decides n k v is e t false true shares hides = (
      λ z same. let one : v ≡ z = cc in subst ClashesAs one (hidden t.2 (r.named n k t.0 v t.1 e) (among_true (is_among v locals) hides)),
      λ none. absurd (cc),
    )
    symbol_decides n k v is e t false false shares hides = (λ z same. absurd (cc), λ none z c. not z c)
      where
        not : (z : Name) → ClashesAs z → ⊥
        not z (shared {s} {y} d p q) =
            let same : y ≡ v = the_name n k v y s is e d p in
            let yes : is_twice v names ≡ true = subst (λ l. is_twice l names ≡ true) same (shared_told y q) in
            let no : is_twice v names ≡ false = sym (shared_value names v) ∙ shares in
            absurd (cc)
        not z (hidden {s} {y} d p q) =
            let same : y ≡ v = the_name n k v y s is e d p in
            let yes : is_among v locals ≡ true = subst (λ l. is_among l locals ≡ true) same (true_among (is_among y locals) q) in
            absurd (cc)
        not z (captured f q) = let both : symbol_at n k ≡ free = sym is ∙ free_is f in absurd (cc)

    free_decides : outcome (loaded ms) m x ≡ free → IsFree (modules_of ms) m.0 x → (b : Bool) → is_some (sharing_in names x) ≡ b → Decides (if b then Some x else None) ClashesAs
    free_decides is f true taken = (
      λ z same. let one : x ≡ z = cc in subst ClashesAs one (captured f (taken_is x (sym (taken_value names x) ∙ taken))),
      λ none. absurd (cc),
    )
    free_decides is f false taken = (λ z same. absurd (cc), λ none z c. not z c)
      where
        not : (z : Name) → ClashesAs z → ⊥
        not z (shared {s} {y} d p q) = denotes_is s d is
        not z (hidden {s} {y} d p q) = denotes_is s d is
        not z (captured g q) = let yes = taken_told x q in let no : is_among x names ≡ false = sym (taken_value names x) ∙ taken in absurd (cc)

    decides_at : (o : Outcome) → outcome (loaded ms) m x ≡ o → Tells (modules_of ms) m.0 x o → Settled (held_at held) o → Decides (told_as o) ClashesAs
    decides_at (symbol_at n k) is t settled =
        let y = some_of (held_at held n k) settled in
        subst (λ o. Decides (name_clash (sharing_in names) locals o x) ClashesAs) (sym y.1)
        (symbol_decides n k y.0 is y.1 t (is_shared (sharing_in names) y.0) (is_among y.0 locals) refl refl)
    decides_at (unloaded s) is t settled = absurd settled
    decides_at (missing s) is t settled = absurd settled
    decides_at (private s) is t settled = absurd settled
    decides_at free is t settled = free_decides is t (is_some (sharing_in names x)) refl

    pub name_decides : Settled (held_at held) (outcome (loaded ms) m x) → Decides (told_as (outcome (loaded ms) m x)) ClashesAs
    name_decides settled = decides_at (outcome (loaded ms) m x) refl (tells (modules_of ms) (loaded ms) finds m here x) settled
