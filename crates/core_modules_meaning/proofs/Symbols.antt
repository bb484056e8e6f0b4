-- Symbols of loaded modules: their declarations, their printed names, and where they stand in the linked unit.
use Rattle.std.proofs.Common.{◌≡◌, ◌≢◌, ◌⊎◌, inl, inr, List, [], ◌∷◌, ◌++◌, map, Some, Bool, true, false, refl, sym, ap, ◌∙◌, subst, Contains}
use Rattle.std.specs.Prelude.{if◌then◌else◌}
use Rattle.std.specs.Str.{bytes_eq}
use Rattle.std.proofs.lemmas.List.Elements.{Contains-append_left, Contains-append_right, Contains-append_cases}
use Rattle.wgsl_path.specs.declared.path.ModulePath.{ModulePath}
use Rattle.wgsl_path.specs.Paths.{path_text}
use Rattle.core_syntax.specs.Tree.{Decl, variable, function, UnitTree}
use Rattle.core_syntax.specs.Names.{declared_name}
use Rattle.core_programs.specs.Names.{Name}
use Rattle.core_programs.specs.Runs.{find_decl}
use Rattle.core_link_spec.specs.Modules.{Path, Symbol, Modules, IsModule, Declares, Imports, local_name, IsFree, IsDeclaration, Denotes, own, imported, Reached, kept, onto}
use Rattle.wesl_resolve.specs.Mangling.{mangled}
use Rattle.core_link_spec.specs.Names.{IsPrinted, stays, is_mangled}
use Rattle.core_link_spec.specs.Linked.{renamed_declaration, IsNaming, Selects, nothing_left, takes, leaves, IsInOrder, IsLinkedModule, AreLinkedModules, no_module, a_module, IsLinked}
use Rattle.core_link_spec.specs.Loaded.{AreLoaded}
use Rattle.core_modules_meaning.specs.SourcePrograms.{declared_symbol}
use Rattle.wgsl_base.proofs.Members.{first_in, later_in, in_cases, in_none, in_map, from_map, same_bytes, bytes_same}

-- ---- names of declarations

pub name_renamed : (new : Name → Name) (d : Decl) → declared_name (renamed_declaration new d) ≡ new (declared_name d)
name_renamed new (variable attributes kind x t e) = refl
name_renamed new (function attributes x ps return_attributes t body) = refl

-- ---- symbols are equal or not

pub symbol_cases : (s t : Symbol) → (s ≡ t) ⊎ (s ≢ t)
symbol_cases s t = at (bytes_eq s.home t.home) (bytes_eq s.name t.name) refl refl
  where
    at : (a b : Bool) → bytes_eq s.home t.home ≡ a → bytes_eq s.name t.name ≡ b → (s ≡ t) ⊎ (s ≢ t)
    at true true h n = inl (ap (λ z. record { home = z; name = s.name }) (same_bytes s.home t.home h) ∙ ap (λ z. record { home = t.home; name = z }) (same_bytes s.name t.name n))
    at false b h n = inr (λ e. let c : bytes_eq s.home t.home ≡ true = ap (λ z. bytes_eq s.home z.home) (sym e) ∙ bytes_same s.home in absurd (cc))
    at true false h n = inr (λ e. let c : bytes_eq s.name t.name ≡ true = ap (λ z. bytes_eq s.name z.name) (sym e) ∙ bytes_same s.name in absurd (cc))

-- ---- what a list selects

pub selected_from : {A : Type 0} (P : A → Type 0) (xs ys : List A) → Selects P xs ys → (x : A) → Contains ys x → Contains xs x × P x
selected_from P [] [] nothing_left x c = absurd (in_none x c)
selected_from P _ _ (takes {x = y} {xs = xs} {ys = ys} p rest) x c = at (selected_from P xs ys rest x) (in_cases y ys x c)
  where
    at : (Contains ys x → Contains xs x × P x) → (y ≡ x) ⊎ Contains ys x → Contains (y ∷ xs) x × P x
    at more (inl e) = (subst (Contains (y ∷ xs)) e (first_in y xs), subst P e p)
    at more (inr d) = let r = more d in (later_in x y xs r.0, r.1)
selected_from P _ ys (leaves {x = y} {xs = xs} n rest) x c = let r = selected_from P xs ys rest x c in (later_in x y xs r.0, r.1)

pub selected_to : {A : Type 0} (P : A → Type 0) (xs ys : List A) → Selects P xs ys → (x : A) → Contains xs x → P x → Contains ys x
selected_to P [] [] nothing_left x c p = absurd (in_none x c)
selected_to P _ _ (takes {x = y} {xs = xs} {ys = ys} q rest) x c p = at (λ d. selected_to P xs ys rest x d p) (in_cases y xs x c)
  where
    at : (Contains xs x → Contains ys x) → (y ≡ x) ⊎ Contains xs x → Contains (y ∷ ys) x
    at more (inl e) = subst (Contains (y ∷ ys)) e (first_in y ys)
    at more (inr d) = later_in x y ys (more d)
selected_to P _ ys (leaves {x = y} {xs = xs} n rest) x c p = at (λ d. selected_to P xs ys rest x d p) (in_cases y xs x c)
  where
    at : (Contains xs x → Contains ys x) → (y ≡ x) ⊎ Contains xs x → Contains ys x
    at more (inl e) = absurd (n (subst P (sym e) p))
    at more (inr d) = more d

pub selected_once : {A : Type 0} (P : A → Type 0) (xs ys zs : List A) → Selects P xs ys → Selects P xs zs → ys ≡ zs
selected_once P [] [] [] a b = refl
selected_once P [] [] (z ∷ zs) a b = elim b [ ]
selected_once P [] (y ∷ ys) zs a b = elim a [ ]
selected_once P (x ∷ xs) _ _ (takes {ys = ys} p a) (takes {ys = zs} q b) = ap (λ l. x ∷ l) (selected_once P xs ys zs a b)
selected_once P (x ∷ xs) _ _ (takes p a) (leaves n b) = absurd (n p)
selected_once P (x ∷ xs) _ _ (leaves n a) (takes p b) = absurd (n p)
selected_once P (x ∷ xs) ys zs (leaves n a) (leaves k b) = selected_once P xs ys zs a b

-- ---- what is found by name

pub found_in : (y : Name) (ds : List Decl) (e : Decl) → find_decl y ds ≡ Some e → Contains ds e × (declared_name e ≡ y)
found_in y [] e f = absurd (cc)
found_in y (d ∷ ds) e f = at (found_in y ds e) (bytes_eq y (declared_name d)) refl f
  where
    at : (find_decl y ds ≡ Some e → Contains ds e × (declared_name e ≡ y)) → (b : Bool) → bytes_eq y (declared_name d) ≡ b → (if b then Some d else find_decl y ds) ≡ Some e → Contains (d ∷ ds) e × (declared_name e ≡ y)
    at more true is g = let s : d ≡ e = cc in (subst (Contains (d ∷ ds)) s (first_in d ds), ap declared_name (sym s) ∙ sym (same_bytes y (declared_name d) is))
    at more false is g = let r = more g in (later_in e d ds r.0, r.1)

pub finds_one : (y : Name) (ds : List Decl) (e : Decl) → Contains ds e → declared_name e ≡ y → (f : Decl) × (find_decl y ds ≡ Some f)
finds_one y [] e c n = absurd (in_none e c)
finds_one y (d ∷ ds) e c n = at (λ r. finds_one y ds e r n) (bytes_eq y (declared_name d)) refl (in_cases d ds e c)
  where
    at : (Contains ds e → (f : Decl) × (find_decl y ds ≡ Some f)) → (b : Bool) → bytes_eq y (declared_name d) ≡ b → (d ≡ e) ⊎ Contains ds e → (f : Decl) × ((if b then Some d else find_decl y ds) ≡ Some f)
    at more true is cases = (d, refl)
    at more false is (inl s) = let t : bytes_eq y (declared_name d) ≡ true = ap (bytes_eq y) (ap declared_name s ∙ n) ∙ bytes_same y in absurd (cc)
    at more false is (inr r) = more r

-- ---- modules

module _ (modules : Modules) (root : Path) (keep : List Name) (loaded : AreLoaded modules root keep) where
  pub one_unit : (m : Path) (u v : UnitTree) → IsModule modules m u → IsModule modules m v → u ≡ v
  one_unit m u v i j = ap (λ z. z.1) (loaded.apart (i.path, u) (j.path, v) i.stands j.stands (i.printed ∙ sym j.printed))

  -- a name of a symbol is the only one
  data NameCases (s : Symbol) (y : Name) : Type 0 where
    at_root : s.home ≡ root → y ≡ s.name → NameCases s y
    elsewhere : (s.home ≡ root → ⊥) → (path : ModulePath) (u : UnitTree) → Contains modules (path, u) → path_text path ≡ s.home → y ≡ mangled path s.name → NameCases s y

  name_cases : (s : Symbol) (y : Name) → IsPrinted modules root s y → NameCases s y
  name_cases s y stays = at_root refl refl
  name_cases s y (is_mangled {path = path} {u = u} n c e) = elsewhere n path u c e refl

  pub printed_once : (s : Symbol) (y z : Name) → IsPrinted modules root s y → IsPrinted modules root s z → y ≡ z
  printed_once s y z a b = at (name_cases s y a) (name_cases s z b)
    where
      at : NameCases s y → NameCases s z → y ≡ z
      at (at_root h e) (at_root k f) = e ∙ sym f
      at (at_root h e) (elsewhere n path u c p f) = absurd (n h)
      at (elsewhere n path u c p f) (at_root h e) = absurd (n h)
      at (elsewhere n path u c p e) (elsewhere k path' u' c' p' f) =
          e ∙ ap (λ z. mangled z s.name) (ap (λ z. z.0) (loaded.apart (path, u) (path', u') c c' (p ∙ sym p'))) ∙ sym f

  -- what is free denotes nothing
  pub free_denotes_none : (m : Path) (x : Name) (s : Symbol) → IsFree modules m x → Denotes modules m x s → ⊥
  free_denotes_none m x _ f (own {u = u} i d) = f.undeclared (subst (λ v. Declares v x) (one_unit m u f.unit i f.is_module) d)
  free_denotes_none m x s f (imported {u = u} i j d) =
      let there : Imports i.is_import.unit x = subst (Contains (map local_name i.is_import.unit.imports)) i.is_import.local (in_map local_name i.is_import.unit.imports i.import i.is_import.stands) in
      f.unimported (subst (λ v. Imports v x) (one_unit m i.is_import.unit f.unit i.is_import.is_module f.is_module) there)

  -- ---- declarations

  declared_in : (m : Path) (x : Name) (u : UnitTree) → IsModule modules m u → Declares u x → (d : Decl) × IsDeclaration modules (record { home = m; name = x }) d
  declared_in m x u i h = let d = from_map declared_name u.declarations x h in (d.0, record { unit = u; is_module = i; stands = d.1; name = d.2 })

  denoted_declared : (m : Path) (x : Name) (s : Symbol) → Denotes modules m x s → (d : Decl) × IsDeclaration modules s d
  denoted_declared m x _ (own {u = u} i d) = declared_in m x u i d
  denoted_declared m x s (imported {u = u} i j d) = declared_in s.home s.name u j d

  pub reached_declared : (s : Symbol) → Reached modules root keep s → (d : Decl) × IsDeclaration modules s d
  reached_declared _ (kept {x = x} c) = let k = loaded.kept x c in declared_in root x k.0 k.1 k.2
  reached_declared t (onto {s = s} {x = x} r i o den) = denoted_declared s.home x t den

  -- the name of a declaration in its module's naming is its symbol's
  pub named_as : (m : Path) (u : UnitTree) (new : Name → Name) (d : Decl) → IsModule modules m u → IsNaming modules root m new → Contains u.declarations d → IsPrinted modules root (declared_symbol m d) (new (declared_name d))
  named_as m u new d i n c = n.denoting (declared_name d) (declared_symbol m d) (own i (in_map declared_name u.declarations d c))

  -- ---- the linked unit

  -- where a declaration of the linked unit comes from
  pub record Origin (e : Decl) : Type 0 where
    pub home : Path
    pub unit : UnitTree
    pub is_module : IsModule modules home unit
    pub new : Name → Name
    pub naming : IsNaming modules root home new
    pub declaration : Decl
    pub stands : Contains unit.declarations declaration
    pub reached : Reached modules root keep (declared_symbol home declaration)
    pub is : renamed_declaration new declaration ≡ e

  in_module : (m : Path) (ds : List Decl) → IsLinkedModule modules root keep m ds → (e : Decl) → Contains ds e → Origin e
  in_module m ds l e c =
      let d = from_map (renamed_declaration l.new) l.held e (subst (λ z. Contains z e) l.whole c) in
      let s = selected_from (λ z. Reached modules root keep (declared_symbol m z)) l.unit.declarations l.held l.selected d.0 d.1 in
      record { home = m; unit = l.unit; is_module = l.is_module; new = l.new; naming = l.naming; declaration = d.0; stands = s.0; reached = s.1; is = d.2 }

  pub origin_of : (order : List Path) (ds : List Decl) → AreLinkedModules modules root keep order ds → (e : Decl) → Contains ds e → Origin e
  origin_of [] _ no_module e c = absurd (in_none e c)
  origin_of (m ∷ ms) _ (a_module {ds = ds} {es = es} l rest) e c = at (origin_of ms es rest e) (Contains-append_cases ds es e c)
    where
      at : (Contains es e → Origin e) → Contains ds e ⊎ Contains es e → Origin e
      at more (inl d) = in_module m ds l e d
      at more (inr d) = more d

  -- a reached declaration stands there, renamed
  pub record Copied (m : Path) (ds : List Decl) (d : Decl) : Type 0 where
    pub new : Name → Name
    pub naming : IsNaming modules root m new
    pub stands : Contains ds (renamed_declaration new d)

  copied_in : (m : Path) (ds : List Decl) → IsLinkedModule modules root keep m ds → (u : UnitTree) (d : Decl) → IsModule modules m u → Contains u.declarations d → Reached modules root keep (declared_symbol m d) → Copied m ds d
  copied_in m ds l u d i c r =
      let here = subst (λ v. Contains v.declarations d) (one_unit m u l.unit i l.is_module) c in
      let held = selected_to (λ z. Reached modules root keep (declared_symbol m z)) l.unit.declarations l.held l.selected d here r in
      record { new = l.new; naming = l.naming; stands = subst (λ z. Contains z (renamed_declaration l.new d)) (sym l.whole) (in_map (renamed_declaration l.new) l.held d held) }

  copied : (order : List Path) (ds : List Decl) → AreLinkedModules modules root keep order ds → (m : Path) (u : UnitTree) (d : Decl) → Contains order m → IsModule modules m u → Contains u.declarations d → Reached modules root keep (declared_symbol m d) → Copied m ds d
  copied [] _ no_module m u d at i c r = absurd (in_none m at)
  copied (n ∷ ns) _ (a_module {ds = ds} {es = es} l rest) m u d at i c r = by (λ b. copied ns es rest m u d b i c r) (in_cases n ns m at)
    where
      by : (Contains ns m → Copied m es d) → (n ≡ m) ⊎ Contains ns m → Copied m (ds ++ es) d
      by more (inl e) = let k = copied_in m ds (subst (λ z. IsLinkedModule modules root keep z ds) e l) u d i c r in
          record { new = k.new; naming = k.naming; stands = Contains-append_left ds es (renamed_declaration k.new d) k.stands }
      by more (inr b) = let k = more b in
          record { new = k.new; naming = k.naming; stands = Contains-append_right ds es (renamed_declaration k.new d) k.stands }

  module_in_order : (order : List Path) → IsInOrder modules root order → (m : Path) (u : UnitTree) → IsModule modules m u → Contains order m
  module_in_order order o m u i = (o.each m).1 (subst (Contains (map (λ z. path_text z.0) modules)) i.printed (in_map (λ z. path_text z.0) modules (i.path, u) i.stands))

  module _ (unit : UnitTree) (linked : IsLinked modules root keep unit) where
    pub origin : (e : Decl) → Contains unit.declarations e → Origin e
    origin e c = origin_of linked.order unit.declarations linked.declares e c

    -- a reached symbol's name is declared there
    pub name_there : (s : Symbol) (y : Name) → Reached modules root keep s → IsPrinted modules root s y → (f : Decl) × (find_decl y unit.declarations ≡ Some f)
    name_there s y r print =
        let d = reached_declared s r in
        let same : declared_symbol s.home d.0 ≡ s = ap (λ z. record { home = s.home; name = z }) d.1.name in
        let k = copied linked.order unit.declarations linked.declares s.home d.1.unit d.0 (module_in_order linked.order linked.in_order s.home d.1.unit d.1.is_module) d.1.is_module d.1.stands (subst (Reached modules root keep) (sym same) r) in
        let named = subst (λ z. IsPrinted modules root z (k.new (declared_name d.0))) same (named_as s.home d.1.unit k.new d.0 d.1.is_module k.naming d.1.stands) in
        finds_one y unit.declarations (renamed_declaration k.new d.0) k.stands (name_renamed k.new d.0 ∙ printed_once s (k.new (declared_name d.0)) y named print)
