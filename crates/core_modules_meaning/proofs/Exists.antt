-- Loaded modules have a program.
use Rattle.std.proofs.Common.{◌≡◌, ◌⊎◌, inl, inr, List, [], ◌∷◌, ◌++◌, map, Option, Some, None, Bool, true, false, refl, sym, ap, ◌∙◌, subst, Contains}
use Rattle.std.specs.Prelude.{if◌then◌else◌}
use Rattle.std.specs.Str.{bytes_eq}
use Rattle.wgsl_path.specs.declared.path.ModulePath.{ModulePath}
use Rattle.wgsl_path.specs.Paths.{path_text}
use Rattle.core_syntax.specs.Tree.{Decl, Imp, UnitTree}
use Rattle.core_syntax.specs.Names.{declared_name}
use Rattle.core_programs.specs.Names.{Name}
use Rattle.core_programs.specs.Runs.{find_decl}
use Rattle.core_modules_meaning.specs.SourcePrograms.{Symbol, Program}
use Rattle.core_link_spec.specs.Modules.{Path, Modules, IsModule, local_name, IsImport, IsDeclaration, Denotes, own, imported}
use Rattle.core_link_spec.specs.Modules.{Symbol as SourceSymbol}
use Rattle.core_link_spec.specs.Rounds.{scope_names}
use Rattle.core_link_spec.specs.Linked.{AreLinkedModules, no_module, a_module, IsLinked}
use Rattle.core_link_spec.specs.Loaded.{AreLoaded}
use Rattle.core_modules_meaning.specs.SourcePrograms.{source_symbol, declared_symbol, AreHeld, of_none, of_more, IsHeldList, IsProgramOf, unit_at, import_at, declared_at, item_of, if_declared, import_target, imported_symbol, own_or_imported, denoted_in, sources}
use Rattle.wgsl_base.proofs.Members.{first_in, later_in, in_cases, in_none, in_map, from_map, same_bytes, bytes_same}
use Rattle.core_modules_meaning.proofs.Distinct.{Once, once_of, once_left, once_right, once_same}
use Rattle.core_modules_meaning.proofs.Symbols.{found_in, finds_one, one_unit}

-- ---- look-ups

pub unit_is : (modules : Modules) (m : Path) (u : UnitTree) → unit_at modules m ≡ Some u → IsModule modules m u
unit_is [] m u e = absurd (cc)
unit_is (a ∷ rest) m u e = at (unit_is rest m u) (bytes_eq (path_text a.0) m) refl e
  where
    at : (unit_at rest m ≡ Some u → IsModule rest m u) → (b : Bool) → bytes_eq (path_text a.0) m ≡ b → (if b then Some a.1 else unit_at rest m) ≡ Some u → IsModule (a ∷ rest) m u
    at more true is f = let s : a.1 ≡ u = cc in record { path = a.0; stands = subst (λ z. Contains (a ∷ rest) (a.0, z)) s (first_in a rest); printed = same_bytes (path_text a.0) m is }
    at more false is f = let r = more f in record { path = r.path; stands = later_in (r.path, u) a rest r.stands; printed = r.printed }

pub unit_there : (modules : Modules) (m : Path) (path : ModulePath) (u : UnitTree) → Contains modules (path, u) → path_text path ≡ m → (v : UnitTree) × (unit_at modules m ≡ Some v)
unit_there [] m path u c e = absurd (in_none (path, u) c)
unit_there (a ∷ rest) m path u c e = at (λ d. unit_there rest m path u d e) (bytes_eq (path_text a.0) m) refl (in_cases a rest (path, u) c)
  where
    at : (Contains rest (path, u) → (v : UnitTree) × (unit_at rest m ≡ Some v)) → (b : Bool) → bytes_eq (path_text a.0) m ≡ b → (a ≡ (path, u)) ⊎ Contains rest (path, u) → (v : UnitTree) × ((if b then Some a.1 else unit_at rest m) ≡ Some v)
    at more true is cases = (a.1, refl)
    at more false is (inl s) = let t : bytes_eq (path_text a.0) m ≡ true = ap (λ z. bytes_eq (path_text z.0) m) s ∙ ap (λ z. bytes_eq z m) e ∙ bytes_same m in absurd (cc)
    at more false is (inr d) = more d

pub import_is : (x : Name) (is : List Imp) (i : Imp) → import_at x is ≡ Some i → Contains is i × (local_name i ≡ x)
import_is x [] i e = absurd (cc)
import_is x (j ∷ js) i e = at (import_is x js i) (bytes_eq x (local_name j)) refl e
  where
    at : (import_at x js ≡ Some i → Contains js i × (local_name i ≡ x)) → (b : Bool) → bytes_eq x (local_name j) ≡ b → (if b then Some j else import_at x js) ≡ Some i → Contains (j ∷ js) i × (local_name i ≡ x)
    at more true is f = let s : j ≡ i = cc in (subst (Contains (j ∷ js)) s (first_in j js), ap local_name (sym s) ∙ sym (same_bytes x (local_name j) is))
    at more false is f = let r = more f in (later_in i j js r.0, r.1)

pub import_there : (x : Name) (is : List Imp) (i : Imp) → Contains is i → local_name i ≡ x → (j : Imp) × (import_at x is ≡ Some j)
import_there x [] i c e = absurd (in_none i c)
import_there x (j ∷ js) i c e = at (λ d. import_there x js i d e) (bytes_eq x (local_name j)) refl (in_cases j js i c)
  where
    at : (Contains js i → (k : Imp) × (import_at x js ≡ Some k)) → (b : Bool) → bytes_eq x (local_name j) ≡ b → (j ≡ i) ⊎ Contains js i → (k : Imp) × ((if b then Some j else import_at x js) ≡ Some k)
    at more true is cases = (j, refl)
    at more false is (inl s) = let t : bytes_eq x (local_name j) ≡ true = ap (bytes_eq x) (ap local_name s ∙ e) ∙ bytes_same x in absurd (cc)
    at more false is (inr d) = more d

declares_if : (x : Name) (ds : List Decl) (d : Decl) → find_decl x ds ≡ Some d → Contains (map declared_name ds) x
declares_if x ds d e = let f = found_in x ds d e in subst (Contains (map declared_name ds)) f.1 (in_map declared_name ds d f.0)

declares_none : (x : Name) (ds : List Decl) → find_decl x ds ≡ None → Contains (map declared_name ds) x → ⊥
declares_none x ds e c =
    let d = from_map declared_name ds x c in
    let f = finds_one x ds d.0 d.1 d.2 in absurd (cc (e, f.1))

declares_some : (x : Name) (ds : List Decl) → Contains (map declared_name ds) x → (d : Decl) × (find_decl x ds ≡ Some d)
declares_some x ds c = let d = from_map declared_name ds x c in finds_one x ds d.0 d.1 d.2

none_cases : (x : Name) (ds : List Decl) → (Contains (map declared_name ds) x → ⊥) → (o : Option Decl) → find_decl x ds ≡ o → o ≡ None
none_cases x ds n None e = refl
none_cases x ds n (Some d) e = absurd (n (declares_if x ds d e))

module _ (modules : Modules) (root : Path) (keep : List Name) (loaded : AreLoaded modules root keep) where
  one : (m : Path) (u v : UnitTree) → IsModule modules m u → IsModule modules m v → u ≡ v
  one = one_unit modules root keep loaded

  pub unit_found : (m : Path) (u : UnitTree) → IsModule modules m u → unit_at modules m ≡ Some u
  unit_found m u i = let f = unit_there modules m i.path u i.stands i.printed in f.1 ∙ ap Some (one m f.0 u (unit_is modules m f.0 f.1) i)

  pub once_in : (m : Path) (u : UnitTree) → IsModule modules m u → Once (scope_names u)
  once_in m u i = once_of (scope_names u) (loaded.distinct (i.path, u) i.stands)

  -- ---- items

  item_declares : (s : Symbol) (d : Decl) (o : Option UnitTree) → unit_at modules (path_text s.home) ≡ o → declared_at s.called o ≡ Some d → IsDeclaration modules (source_symbol s) d
  item_declares s d None e f = absurd (cc)
  item_declares s d (Some u) e f = let there = found_in s.called u.declarations d f in
      record { unit = u; is_module = unit_is modules (path_text s.home) u e; stands = there.0; name = there.1 }

  declared_item : (s : Symbol) (d : Decl) → IsDeclaration modules (source_symbol s) d → item_of modules s ≡ Some d
  declared_item s d i =
      let f = finds_one s.called i.unit.declarations d i.stands i.name in
      let there = found_in s.called i.unit.declarations f.0 f.1 in
      let o = once_right (map local_name i.unit.imports) (map declared_name i.unit.declarations) (once_in (path_text s.home) i.unit i.is_module) in
      let same : f.0 ≡ d = once_same declared_name i.unit.declarations o f.0 d there.0 i.stands (there.1 ∙ sym i.name) in
      ap (declared_at s.called) (unit_found (path_text s.home) i.unit i.is_module) ∙ f.1 ∙ ap Some same

  -- ---- what names denote

  target_denotes : (m : ModulePath) (x : Name) (i : Imp) → IsImport modules (path_text m) x i → (path : Option ModulePath) → i.path ≡ path → (s : Symbol) → import_target modules i path ≡ Some s → Denotes modules (path_text m) x (source_symbol s)
  target_denotes m x i im None e s f = absurd (cc)
  target_denotes m x i im (Some path) e s f = at (item_of modules (record { home = path; called = i.item })) refl f
    where
      at : (o : Option Decl) → item_of modules (record { home = path; called = i.item }) ≡ o → if_declared (record { home = path; called = i.item }) o ≡ Some s → Denotes modules (path_text m) x (source_symbol s)
      at None is g = absurd (cc)
      at (Some d) is g =
          let to : record { home = path; called = i.item } ≡ s = cc in
          let declares = item_declares (record { home = path; called = i.item }) d (unit_at modules (path_text path)) refl is in
          subst (λ z. Denotes modules (path_text m) x (source_symbol z)) to
          (imported (record { import = i; is_import = im; path = path; is_path = e; home = refl; item = refl }) declares.is_module
          (subst (Contains (map declared_name declares.unit.declarations)) declares.name (in_map declared_name declares.unit.declarations d declares.stands)))

  own_denotes : (m : ModulePath) (x : Name) (u : UnitTree) → IsModule modules (path_text m) u → (o : Option Decl) → find_decl x u.declarations ≡ o → (s : Symbol) → own_or_imported modules m x u o ≡ Some s → Denotes modules (path_text m) x (source_symbol s)
  own_denotes m x u i (Some d) e s f =
      let to : record { home = m; called = x } ≡ s = cc in
      subst (λ z. Denotes modules (path_text m) x (source_symbol z)) to (own i (declares_if x u.declarations d e))
  own_denotes m x u i None e s f = at (import_at x u.imports) refl f
    where
      at : (o : Option Imp) → import_at x u.imports ≡ o → imported_symbol modules o ≡ Some s → Denotes modules (path_text m) x (source_symbol s)
      at None is g = absurd (cc)
      at (Some j) is g = let there = import_is x u.imports j is in
          target_denotes m x j (record { unit = u; is_module = i; undeclared = declares_none x u.declarations e; stands = there.0; local = there.1 }) j.path refl s g

  found_denotes : (m : ModulePath) (x : Name) (s : Symbol) (o : Option UnitTree) → unit_at modules (path_text m) ≡ o → denoted_in modules m x o ≡ Some s → Denotes modules (path_text m) x (source_symbol s)
  found_denotes m x s None e f = absurd (cc)
  found_denotes m x s (Some u) e f = own_denotes m x u (unit_is modules (path_text m) u e) (find_decl x u.declarations) refl s f

  denoted_at : (m : ModulePath) (x : Name) (u : UnitTree) → IsModule modules (path_text m) u → denoted_in modules m x (unit_at modules (path_text m)) ≡ own_or_imported modules m x u (find_decl x u.declarations)
  denoted_at m x u i = ap (denoted_in modules m x) (unit_found (path_text m) u i)

  if_there : (s : Symbol) (o : Option Decl) (d : Decl) → o ≡ Some d → if_declared s o ≡ Some s
  if_there s o d e = ap (if_declared s) e

  denotes_found : (m : ModulePath) (x : Name) (t : SourceSymbol) → Denotes modules (path_text m) x t → (s : Symbol) × (denoted_in modules m x (unit_at modules (path_text m)) ≡ Some s) × (source_symbol s ≡ t)
  denotes_found m x _ (own {u = u} i d) =
      let f = declares_some x u.declarations d in
      (record { home = m; called = x }, denoted_at m x u i ∙ ap (own_or_imported modules m x u) f.1, refl)
  denotes_found m x t (imported {u = v} ii j d) =
      let i = ii.is_import in
      let u : UnitTree = i.unit in
      let none : find_decl x u.declarations ≡ None = none_cases x u.declarations i.undeclared (find_decl x u.declarations) refl in
      let f = import_there x u.imports ii.import i.stands i.local in
      let there = import_is x u.imports f.0 f.1 in
      let o = once_left (map local_name u.imports) (map declared_name u.declarations) (once_in (path_text m) u i.is_module) in
      let same : f.0 ≡ ii.import = once_same local_name u.imports o f.0 ii.import there.0 i.stands (there.1 ∙ sym i.local) in
      let s : Symbol = record { home = ii.path; called = ii.import.item } in
      let to : source_symbol s ≡ t = ap (λ z. record { home = z; name = ii.import.item }) ii.home ∙ ap (λ z. record { home = t.home; name = z }) ii.item in
      let e = from_map declared_name v.declarations t.name d in
      let declares : IsDeclaration modules t e.0 = record { unit = v; is_module = j; stands = e.1; name = e.2 } in
      let item : item_of modules s ≡ Some e.0 = declared_item s e.0 (subst (λ z. IsDeclaration modules z e.0) (sym to) declares) in
      (s, denoted_at m x u i.is_module ∙ ap (own_or_imported modules m x u) none ∙ ap (imported_symbol modules) (f.1 ∙ ap Some same) ∙ ap (import_target modules ii.import) ii.is_path ∙ if_there s (item_of modules s) e.0 item, to)

  -- a name denotes one symbol
  pub denotes_once : (m : Path) (x : Name) (s t : SourceSymbol) → Denotes modules m x s → Denotes modules m x t → s ≡ t
  denotes_once m x s t a b = let i = (scope_of s a).1 in at_path i.path (subst (λ z. Denotes modules z x s) (sym i.printed) a) (subst (λ z. Denotes modules z x t) (sym i.printed) b)
    where
      scope_of : (y : SourceSymbol) → Denotes modules m x y → (u : UnitTree) × IsModule modules m u
      scope_of _ (own {u = u} i d) = (u, i)
      scope_of y (imported i j d) = (i.is_import.unit, i.is_import.is_module)

      at_path : (path : ModulePath) → Denotes modules (path_text path) x s → Denotes modules (path_text path) x t → s ≡ t
      at_path path c d =
          let f = denotes_found path x s c in
          let g = denotes_found path x t d in
          let e : f.0 ≡ g.0 = cc (f.1, g.1) in sym f.2 ∙ ap source_symbol e ∙ g.2

  pub sources_are : (held : List Symbol) → IsHeldList modules root keep (map source_symbol held) → IsProgramOf modules root keep (sources modules held)
  sources_are held h = record {
    items = λ s d. (λ e. item_declares s d (unit_at modules (path_text s.home)) refl e, declared_item s d);
    found = λ m x s e. found_denotes m x s (unit_at modules (path_text m)) refl e;
    finds = denotes_found;
    held = h;
  }

  -- ---- what is held

  module_symbols : (path : ModulePath) (ds : List Decl) (ss : List Symbol) → (hs : List Symbol) × (map source_symbol hs ≡ map (declared_symbol (path_text path)) ds ++ map source_symbol ss)
  module_symbols path [] ss = (ss, refl)
  module_symbols path (d ∷ ds) ss = let r = module_symbols path ds ss in (record { home = path; called = declared_name d } ∷ r.0, ap (λ l. record { home = path_text path; name = declared_name d } ∷ l) r.1)

  held_symbols : (order : List Path) (ds : List Decl) → AreLinkedModules modules root keep order ds → (hs : List Symbol) × AreHeld modules root keep order (map source_symbol hs)
  held_symbols [] _ no_module = ([], of_none)
  held_symbols (m ∷ ms) _ (a_module {ds = ds} {es = es} l rest) =
      let r = held_symbols ms es rest in
      let hs = module_symbols l.is_module.path l.held r.0 in
      let to : map (declared_symbol (path_text l.is_module.path)) l.held ++ map source_symbol r.0 ≡ map (declared_symbol m) l.held ++ map source_symbol r.0 = ap (λ z. map (declared_symbol z) l.held ++ map source_symbol r.0) l.is_module.printed in
      (hs.0, subst (AreHeld modules root keep (m ∷ ms)) (sym (hs.1 ∙ to)) (of_more l.unit l.held l.is_module l.selected r.1))

  pub have_a_program : (unit : UnitTree) → IsLinked modules root keep unit → (p : Program) × IsProgramOf modules root keep p
  have_a_program unit linked =
      let h = held_symbols linked.order unit.declarations linked.declares in
      (sources modules h.0, sources_are h.0 (record { order = linked.order; in_order = linked.in_order; are_held = h.1 }))
