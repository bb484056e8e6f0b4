-- What holds of modules holds of those that differ at most in the root's path; and which modules do.
use Rattle.std.specs.Prelude.{◌↔◌}
use Rattle.std.proofs.Common.{◌≡◌, List, refl, sym, ◌∙◌, map, subst, Contains}
use Rattle.wgsl_path.specs.declared.path.ModulePath.{ModulePath}
use Rattle.wgsl_path.specs.Paths.{path_text}
use Rattle.core_syntax.specs.Tree.{Decl, UnitTree}
use Rattle.core_syntax.specs.Names.{declared_name}
use Rattle.core_link_spec.specs.Occurrences.{Name}
use Rattle.core_link_spec.specs.Modules.{Path, Symbol, Modules, Denotes, Reached}
use Rattle.core_link_spec.specs.Named.{AreNamedByImports, ImportsAreApart}
use Rattle.core_link_spec.specs.Names.{IsPrinted, stays, is_mangled}
use Rattle.core_link_spec.specs.Rounds.{Sources}
use Rattle.core_link_spec.specs.Linked.{IsNaming, Selects, nothing_left, takes, leaves, IsInOrder, IsLinkedModule, AreLinkedModules, no_module, a_module, IsLinked, IsShared, IsTaken, Clashes, shared, hidden, captured}
use Rattle.core_link_spec.specs.Loaded.{IsClashFree}
use Rattle.core_link_spec.specs.Clashing.{IsFirst, Mention, MentionClashes, occurrence, own, DeclarationClashes, ModuleClashes, IsFirstClash}
use Rattle.core_modules_meaning.specs.Agreement.{AreAlike, ListedModulesAreAlike, HoldsOfAlikeModules}
use Rattle.core_modules_meaning.specs.Declared.{IsHeldAs}
use Rattle.core_modules_meaning.specs.Runs.{AreFound}
use Rattle.wgsl_base.proofs.Members.{in_map, from_map}
use Rattle.core_modules_meaning.proofs.Moves.{SameUnits, turned, same_listed, denotes_moves, free_moves, declaration_moves, reached_moves}

-- ---- lists

selects_by : {A : Type 0} (P Q : A → Type 0) → ((x : A) → P x ↔ Q x) → (xs ys : List A) → Selects P xs ys → Selects Q xs ys
selects_by P Q e _ _ nothing_left = nothing_left
selects_by P Q e _ _ (takes {x = x} {xs = xs} {ys = ys} p rest) = takes ((e x).0 p) (selects_by P Q e xs ys rest)
selects_by P Q e _ ys (leaves {x = x} {xs = xs} n rest) = leaves (λ q. n ((e x).1 q)) (selects_by P Q e xs ys rest)

first_by : {A : Type 0} (C D : A → Name → Type 0) → ((x : A) (y : Name) → C x y ↔ D x y) → (xs : List A) (y : Name) → IsFirst C xs y → IsFirst D xs y
first_by C D e xs y f = record {
  before = f.before;
  one = f.one;
  behind = f.behind;
  whole = f.whole;
  none_before = λ a z c d. f.none_before a z c ((e a z).1 d);
  clashes = (e f.one y).0 f.clashes;
}

-- ---- the other way round

pub alike_turned : (root : Path) (a b : Modules) → AreAlike root a b → AreAlike root b a
alike_turned root a b e = record { same_units = turned a b e.same_units; same_paths = λ path u n. ((e.same_paths path u n).1, (e.same_paths path u n).0) }

-- ---- names and symbols

module _ (root : Path) (a b : Modules) (e : AreAlike root a b) (keep : List Name) where
  denotes_by : (m : Path) (x : Name) (s : Symbol) → Denotes a m x s → Denotes b m x s
  denotes_by = denotes_moves a b root keep e.same_units

  reached_by : (s : Symbol) → Reached a root keep s → Reached b root keep s
  reached_by = reached_moves a b root keep e.same_units

  printed_by : (s : Symbol) (y : Name) → IsPrinted a root s y → IsPrinted b root s y
  printed_by _ y stays = stays
  printed_by s _ (is_mangled {path = path} {u = u} n c p) = is_mangled n ((e.same_paths path u (λ q. n (sym p ∙ q))).0 c) p

  shared_by : (y : Name) → IsShared a root keep y → IsShared b root keep y
  shared_by y h = record {
    one = h.one;
    other = h.other;
    differ = h.differ;
    one_held = reached_by h.one h.one_held;
    other_held = reached_by h.other h.other_held;
    one_printed = printed_by h.one y h.one_printed;
    other_printed = printed_by h.other y h.other_printed;
  }

  taken_by : (y : Name) → IsTaken a root keep y → IsTaken b root keep y
  taken_by y h = record { symbol = h.symbol; held = reached_by h.symbol h.held; printed = printed_by h.symbol y h.printed }

  clashes_by : (m : Path) (locals : List Name) (x y : Name) → Clashes a root keep m locals x y → Clashes b root keep m locals x y
  clashes_by m locals x y (shared {s = s} d p h) = shared (denotes_by m x s d) (printed_by s y p) (shared_by y h)
  clashes_by m locals x y (hidden {s = s} d p h) = hidden (denotes_by m x s d) (printed_by s y p) h
  clashes_by m locals x _ (captured f t) = captured (free_moves a b root keep e.same_units m x f) (taken_by x t)

  -- ---- the first clash

  mention_by : (m : Path) (w : Mention) (y : Name) → MentionClashes a root keep m w y → MentionClashes b root keep m w y
  mention_by m _ y (occurrence {locals = locals} {x = x} c) = occurrence (clashes_by m locals x y c)
  mention_by m _ y (own {x = x} p h) = own (printed_by (record { home = m; name = x }) y p) (shared_by y h)

  in_order_by : (order : List Path) → IsInOrder a root order → IsInOrder b root order
  in_order_by order o = record {
    others = o.others;
    root_first = o.root_first;
    ascending = o.ascending;
    not_root = o.not_root;
    each = λ p. (λ c. there a b e.same_units p ((o.each p).0 c), λ c. (o.each p).1 (there b a (turned a b e.same_units) p c));
  }
    where
      there : (f g : Modules) → SameUnits f g → (p : Path) → Contains (map (λ z. path_text z.0) f) p → Contains (map (λ z. path_text z.0) g) p
      there f g h p c =
          let z = from_map (λ z. path_text z.0) f p c in
          let i = (h p z.0.1).0 (record { path = z.0.0; stands = z.1; printed = z.2 }) in
          subst (Contains (map (λ z. path_text z.0) g)) i.printed (in_map (λ z. path_text z.0) g (i.path, z.0.1) i.stands)

module _ (root : Path) (a b : Modules) (e : AreAlike root a b) (keep : List Name) where
  back : AreAlike root b a
  back = alike_turned root a b e

  reaches : (s : Symbol) → Reached a root keep s ↔ Reached b root keep s
  reaches s = (reached_by root a b e keep s, reached_by root b a back keep s)

  declaration_by : (m : Path) (d : Decl) (y : Name) → DeclarationClashes a root keep m d y → DeclarationClashes b root keep m d y
  declaration_by m d y h = record {
    reached = reached_by root a b e keep _ h.reached;
    first = first_by (MentionClashes a root keep m) (MentionClashes b root keep m) (λ w z. (mention_by root a b e keep m w z, mention_by root b a back keep m w z)) _ y h.first;
  }

module _ (root : Path) (a b : Modules) (e : AreAlike root a b) (keep : List Name) where
  module_clashes_by : (m : Path) (y : Name) → ModuleClashes a root keep m y → ModuleClashes b root keep m y
  module_clashes_by m y h = record {
    unit = h.unit;
    is_module = (e.same_units m h.unit).0 h.is_module;
    first = first_by (DeclarationClashes a root keep m) (DeclarationClashes b root keep m)
        (λ d z. (declaration_by root a b e keep m d z, declaration_by root b a (alike_turned root a b e) keep m d z)) _ y h.first;
  }

  -- ---- the linked unit

  naming_by : (m : Path) (new : Name → Name) → IsNaming a root m new → IsNaming b root m new
  naming_by m new h =
      let f = alike_turned root a b e in
      record {
        denoting = λ x s d. printed_by root a b e keep s (new x) (h.denoting x s (denotes_by root b a f keep m x s d));
        free = λ x n. h.free x (free_moves b a root keep f.same_units m x n);
      }

  linked_module_by : (m : Path) (ds : List Decl) → IsLinkedModule a root keep m ds → IsLinkedModule b root keep m ds
  linked_module_by m ds h = record {
    unit = h.unit;
    is_module = (e.same_units m h.unit).0 h.is_module;
    new = h.new;
    naming = naming_by m h.new h.naming;
    held = h.held;
    selected = selects_by (λ d. Reached a root keep (record { home = m; name = declared_name d })) (λ d. Reached b root keep (record { home = m; name = declared_name d }))
        (λ d. reaches root a b e keep (record { home = m; name = declared_name d })) h.unit.declarations h.held h.selected;
    whole = h.whole;
  }

  linked_modules_by : (ms : List Path) (ds : List Decl) → AreLinkedModules a root keep ms ds → AreLinkedModules b root keep ms ds
  linked_modules_by _ _ no_module = no_module
  linked_modules_by _ _ (a_module {m = m} {ms = ms} {ds = ds} {es = es} l rest) = a_module (linked_module_by m ds l) (linked_modules_by ms es rest)

  -- ---- what holds

  pub linked_alike : (unit : UnitTree) → IsLinked a root keep unit → IsLinked b root keep unit
  linked_alike unit h = record {
    no_imports = h.no_imports;
    order = h.order;
    in_order = in_order_by root a b e keep h.order h.in_order;
    declares = linked_modules_by h.order unit.declarations h.declares;
  }

  pub clash_free_alike : IsClashFree a root keep → IsClashFree b root keep
  clash_free_alike h =
      let f = alike_turned root a b e in
      record {
        unshared = λ x s. h.unshared x (shared_by root b a f keep x s);
        outside = λ s d x y r i o c. h.outside s d x y (reached_by root b a f keep s r) (declaration_moves b a root keep f.same_units s d i) o (clashes_by root b a f keep s.home _ x y c);
        inside = λ s d x y r i o c. h.inside s d x y (reached_by root b a f keep s r) (declaration_moves b a root keep f.same_units s d i) o (clashes_by root b a f keep s.home _ x y c);
      }

  pub held_alike : (s : Symbol) (y : Name) → IsHeldAs a root keep s y → IsHeldAs b root keep s y
  held_alike s y h = record { held = reached_by root a b e keep s h.held; printed = printed_by root a b e keep s y h.printed }

module _ (root : Path) (a b : Modules) (e : AreAlike root a b) (keep : List Name) where
  pub first_clash_alike : (y : Name) → IsFirstClash a root keep y → IsFirstClash b root keep y
  first_clash_alike y h = record {
    order = h.order;
    in_order = in_order_by root a b e keep h.order h.in_order;
    first = first_by (ModuleClashes a root keep) (ModuleClashes b root keep)
        (λ m z. (module_clashes_by root a b e keep m z, module_clashes_by root b a (alike_turned root a b e) keep m z)) h.order y h.first;
  }

pub holds_of_alike_modules : HoldsOfAlikeModules
holds_of_alike_modules = record {
  linked = λ unit root a b e keep. linked_alike root a b e keep unit;
  clash_free = λ root a b e keep. clash_free_alike root a b e keep;
  first_clash = λ y root a b e keep. first_clash_alike root a b e keep y;
  held = λ s y root a b e keep. held_alike root a b e keep s y;
}

-- ---- modules that are listed alike

module _ (found : Sources) (apart : ImportsAreApart found) (root : Path) (a b : Modules) (e : SameUnits a b) (a_found : AreFound found a) (b_found : AreFound found b) (a_named : AreNamedByImports a root) (b_named : AreNamedByImports b root) where
  -- the path that another has for the same unit is the same
  path_moves : (path : ModulePath) (u : UnitTree) → (path_text path ≡ root → ⊥) → Contains a (path, u) → Contains b (path, u)
  path_moves path u n c =
      let i = (e (path_text path) u).0 (record { path = path; stands = c; printed = refl }) in
      let here = a_named path u c n in
      let there = b_named i.path u i.stands (λ q. n (sym i.printed ∙ q)) in
      let here_found = a_found (path_text here.home) here.unit (record { path = here.home; stands = here.loaded; printed = refl }) in
      let there_found = b_found (path_text there.home) there.unit (record { path = there.home; stands = there.loaded; printed = refl }) in
      let same : path ≡ i.path = apart _ _ here.unit there.unit path i.path here_found there_found here.has there.has (sym i.printed) in
      subst (λ z. Contains b (z, u)) (sym same) i.stands

pub listed_modules_are_alike : (found : Sources) → ListedModulesAreAlike found
listed_modules_are_alike found root one other e one_found apart one_named other_named =
    let units = same_listed one other e in
    let back = turned one other units in
    let other_found : AreFound found other = λ m u i. one_found m u ((back m u).0 i) in
    record {
      same_units = units;
      same_paths = λ path u n. (
        path_moves found apart root one other units one_found other_found one_named other_named path u n,
        path_moves found apart root other one back other_found one_found other_named one_named path u n,
      );
    }
