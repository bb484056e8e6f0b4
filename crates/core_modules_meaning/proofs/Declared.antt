-- The linked unit declares what is held.
use Rattle.std.proofs.Common.{◌≡◌, ◌⊎◌, inl, inr, List, [], ◌∷◌, ◌++◌, map, Some, refl, sym, ap, ◌∙◌, subst, Contains, append_assoc, append-nil}
use Rattle.std.proofs.lemmas.List.Elements.{Contains-append_right, Contains-append_cases}
use Rattle.wgsl_base.proofs.Bools.{none_if, false_if}
use Rattle.core_syntax.specs.Tree.{Decl, UnitTree}
use Rattle.core_syntax.specs.Names.{declared_name}
use Rattle.core_programs.specs.Names.{Name}
use Rattle.core_programs.specs.Runs.{find_decl}
use Rattle.core_link_spec.specs.Occurrences.{is_among, occurrences, names_before, names_behind, names_in_body, locals}
use Rattle.core_link_spec.specs.Modules.{Path, Symbol, Modules, Declares, local_name, IsDeclaration, Reached, onto}
use Rattle.core_link_spec.specs.Names.{IsPrinted}
use Rattle.core_link_spec.specs.Rounds.{AreDistinct, no_names, another, IsAscending, scope_names}
use Rattle.core_link_spec.specs.Linked.{renamed_declaration, IsNaming, Selects, takes, leaves, IsLinkedModule, AreLinkedModules, no_module, a_module, Clashes, hidden, captured}
use Rattle.core_modules_meaning.specs.SourcePrograms.{declared_symbol}
use Rattle.core_modules_meaning.specs.Runs.{AreLinkedWell}
use Rattle.core_modules_meaning.specs.Declared.{IsHeldAs, StandsAs, DeclaresWhatIsHeld, LinkedUnitsDeclareWhatIsHeld}
use Rattle.wgsl_base.proofs.Members.{first_in, later_in, in_cases, in_none, in_map, from_map}
use Rattle.core_modules_meaning.proofs.Order.{behind_first, rest_ascends, not_before}
use Rattle.core_modules_meaning.proofs.Distinct.{Once, once_of, once_right}
use Rattle.core_modules_meaning.proofs.Symbols.{name_renamed, selected_from, found_in, named_as, origin, name_there}
use Rattle.core_modules_meaning.proofs.Held.{From, symbol_of, origin_printed, held_once, origin_same, taken}

-- ---- lists in which each name stands once

pub away : (xs : List Name) (y : Name) (ys : List Name) → Once (xs ++ y ∷ ys) → Contains xs y → ⊥
away [] y ys o c = in_none y c
away (x ∷ xs) y ys o c = at (away xs y ys o.1) (in_cases x xs y c)
  where
    at : (Contains xs y → ⊥) → (x ≡ y) ⊎ Contains xs y → ⊥
    at more (inl e) = o.0 (subst (Contains (xs ++ y ∷ ys)) (sym e) (Contains-append_right xs (y ∷ ys) y (first_in y ys)))
    at more (inr d) = more d

distinct_onto : (xs ys : List Name) → AreDistinct xs → Once (xs ++ ys) → AreDistinct (xs ++ ys)
distinct_onto xs [] d o = subst AreDistinct (sym (append-nil xs)) d
distinct_onto xs (y ∷ ys) d o =
    subst AreDistinct (append_assoc xs (y ∷ []) ys)
    (distinct_onto (xs ++ y ∷ []) ys (another d (away xs y ys o)) (subst Once (sym (append_assoc xs (y ∷ []) ys)) o))

pub distinct_of : (xs : List Name) → Once xs → AreDistinct xs
distinct_of xs o = distinct_onto [] xs no_names o

once_append : (xs ys : List Name) → Once xs → Once ys → ((x : Name) → Contains xs x → Contains ys x → ⊥) → Once (xs ++ ys)
once_append [] ys a b n = b
once_append (x ∷ xs) ys a b n = (λ c. at (Contains-append_cases xs ys x c), once_append xs ys a.1 b (λ z c d. n z (later_in z x xs c) d))
  where
    at : Contains xs x ⊎ Contains ys x → ⊥
    at (inl c) = a.0 c
    at (inr c) = n x (first_in x xs) c

-- a selection of a list has its names once, too
once_selected : {A : Type 0} (f : A → Name) (P : A → Type 0) (xs ys : List A) → Selects P xs ys → Once (map f xs) → Once (map f ys)
once_selected f P [] [] s o = tt
once_selected f P [] (y ∷ ys) s o = elim s [ ]
once_selected f P (x ∷ xs) _ (takes {ys = ys} p s) o = (λ c. out (from_map f ys (f x) c), once_selected f P xs ys s o.1)
  where
    out : (z : _) × Contains ys z × (f z ≡ f x) → ⊥
    out r = o.0 (subst (Contains (map f xs)) r.2 (in_map f xs r.0 (selected_from P xs ys s r.0 r.1).0))
once_selected f P (x ∷ xs) ys (leaves n s) o = once_selected f P xs ys s o.1

-- what is one where new names are one
once_mapped : {A : Type 0} (f g : A → Name) (xs : List A) → Once (map f xs) → ((a b : A) → Contains xs a → Contains xs b → g a ≡ g b → f a ≡ f b) → Once (map g xs)
once_mapped f g [] o h = tt
once_mapped f g (x ∷ xs) o h = (λ c. out (from_map g xs (g x) c), once_mapped f g xs o.1 (λ a b c d. h a b (later_in a x xs c) (later_in b x xs d)))
  where
    out : (z : _) × Contains xs z × (g z ≡ g x) → ⊥
    out r = o.0 (subst (Contains (map f xs)) (h r.0 x (later_in r.0 x xs r.1) (first_in x xs) r.2) (in_map f xs r.0 r.1))

map_map : {A B : Type 0} (f : B → Name) (g : A → B) (h : A → Name) → ((x : A) → f (g x) ≡ h x) → (xs : List A) → map f (map g xs) ≡ map h xs
map_map f g h e [] = refl
map_map f g h e (x ∷ xs) = ap (λ z. z ∷ map f (map g xs)) (e x) ∙ ap (λ l. h x ∷ l) (map_map f g h e xs)

pub map-append : {A : Type 0} (f : A → Name) (xs ys : List A) → map f (xs ++ ys) ≡ map f xs ++ map f ys
map-append f [] ys = refl
map-append f (x ∷ xs) ys = ap (λ l. f x ∷ l) (map-append f xs ys)

-- the paths of an order differ: each is a name that stands once
ascending_differ : (ps : List Path) → IsAscending ps → Once ps
ascending_differ [] a = tt
ascending_differ (p ∷ ps) a = (λ c. not_before p (behind_first p ps a p c), ascending_differ ps (rest_ascends p ps a))

module _ (modules : Modules) (root : Path) (keep : List Name) (unit : UnitTree) (well : AreLinkedWell modules root keep unit) where
  -- ---- each

  module _ (s : Symbol) (d : Decl) (reached : Reached modules root keep s) (declares : IsDeclaration modules s d) where
    unclashed : (x y : Name) → Contains (occurrences d) x → ((hiding : List Name) → Clashes modules root keep s.home hiding x y) → ⊥
    unclashed x y c k = at (Contains-append_cases (names_before d ++ names_behind d) (names_in_body d) x c)
      where
        at : Contains (names_before d ++ names_behind d) x ⊎ Contains (names_in_body d) x → ⊥
        at (inl b) = well.clash_free.outside s d x y reached declares b (k [])
        at (inr b) = well.clash_free.inside s d x y reached declares b (k (locals d))

  stands_as : (s : Symbol) (y : Name) → IsHeldAs modules root keep s y → (e : Decl) → find_decl y unit.declarations ≡ Some e → (o : From modules root keep unit well e) → symbol_of modules root keep unit well e o ≡ s → StandsAs modules root keep unit s y
  stands_as s y h e f o same =
      let home : o.home ≡ s.home = ap (λ z. z.home) same in
      let declares : IsDeclaration modules s o.declaration =
      subst (λ z. IsDeclaration modules z o.declaration) same (record { unit = o.unit; is_module = o.is_module; stands = o.stands; name = refl }) in
      let naming = subst (λ m. IsNaming modules root m o.new) home o.naming in
      record {
        declaration = o.declaration;
        declares = declares;
        new = o.new;
        found = f ∙ ap Some (sym o.is);
        denoting = λ x t c den. record { held = onto h.held declares c den; printed = naming.denoting x t den };
        unhidden = λ x t c den. false_if (is_among (o.new x) (locals o.declaration)) (λ b. well.clash_free.inside s o.declaration x (o.new x) h.held declares c (hidden den (naming.denoting x t den) b));
        free = λ x c free. (naming.free x free, none_if (find_decl x unit.declarations) (λ d g. unclashed s o.declaration h.held declares x x c (λ hiding. captured free (taken modules root keep unit well x d g))));
      }

  each_stands : (s : Symbol) (y : Name) → IsHeldAs modules root keep s y → StandsAs modules root keep unit s y
  each_stands s y h =
      let f = name_there modules root keep well.loaded unit well.linked s y h.held h.printed in
      let there = found_in y unit.declarations f.0 f.1 in
      let o = origin modules root keep well.loaded unit well.linked f.0 there.0 in
      stands_as s y h f.0 f.1 o (origin_same modules root keep unit well s f.0 h.held (subst (IsPrinted modules root s) (sym there.1) h.printed) o)

  -- ---- only

  only_held : (y : Name) → Declares unit y → (s : Symbol) × IsHeldAs modules root keep s y
  only_held y c =
      let d = from_map declared_name unit.declarations y c in
      let o = origin modules root keep well.loaded unit well.linked d.0 d.1 in
      (symbol_of modules root keep unit well d.0 o, record { held = o.reached; printed = subst (IsPrinted modules root (symbol_of modules root keep unit well d.0 o)) d.2 (origin_printed modules root keep unit well d.0 o) })

  -- ---- once

  -- a declaration of a module of the unit is held, and comes from that module
  record Comes (m : Path) (y : Name) : Type 0 where
    name : Name
    reached : Reached modules root keep (record { home = m; name = name })
    printed : IsPrinted modules root (record { home = m; name = name }) y

  comes_from : (m : Path) (ds : List Decl) → IsLinkedModule modules root keep m ds → (y : Name) → Contains (map declared_name ds) y → Comes m y
  comes_from m ds l y c =
      let e = from_map declared_name ds y c in
      let d = from_map (renamed_declaration l.new) l.held e.0 (subst (λ z. Contains z e.0) l.whole e.1) in
      let s = selected_from (λ z. Reached modules root keep (declared_symbol m z)) l.unit.declarations l.held l.selected d.0 d.1 in
      record {
        name = declared_name d.0;
        reached = s.1;
        printed = subst (IsPrinted modules root (declared_symbol m d.0)) (sym (name_renamed l.new d.0) ∙ ap declared_name d.2 ∙ e.2)
            (named_as modules root keep well.loaded m l.unit l.new d.0 l.is_module l.naming s.0);
      }

  comes_from_one : (order : List Path) (ds : List Decl) → AreLinkedModules modules root keep order ds → (y : Name) → Contains (map declared_name ds) y → (m : Path) × Contains order m × Comes m y
  comes_from_one [] _ no_module y c = absurd (in_none y c)
  comes_from_one (m ∷ ms) _ (a_module {ds = ds} {es = es} l rest) y c = at (comes_from_one ms es rest y) (Contains-append_cases (map declared_name ds) (map declared_name es) y (subst (λ z. Contains z y) (map-append declared_name ds es) c))
    where
      at : (Contains (map declared_name es) y → (n : Path) × Contains ms n × Comes n y) → Contains (map declared_name ds) y ⊎ Contains (map declared_name es) y → (n : Path) × Contains (m ∷ ms) n × Comes n y
      at more (inl d) = (m, first_in m ms, comes_from m ds l y d)
      at more (inr d) = let r = more d in (r.0, later_in r.0 m ms r.1, r.2)

  once_module : (m : Path) (ds : List Decl) → IsLinkedModule modules root keep m ds → Once (map declared_name ds)
  once_module m ds l =
      let P : Decl → Type 0 = λ d. Reached modules root keep (declared_symbol m d) in
      let names : Once (map declared_name l.unit.declarations) = once_right (map local_name l.unit.imports) (map declared_name l.unit.declarations) (once_of (scope_names l.unit) (well.loaded.distinct (l.is_module.path, l.unit) l.is_module.stands)) in
      let held : Once (map declared_name l.held) = once_selected declared_name P l.unit.declarations l.held l.selected names in
      let new_names : Once (map (λ d. l.new (declared_name d)) l.held) = once_mapped declared_name (λ d. l.new (declared_name d)) l.held held (λ a b c d e. one_name a b c d e) in
      subst (λ z. Once (map declared_name z)) (sym l.whole) (subst Once (sym (map_map declared_name (renamed_declaration l.new) (λ d. l.new (declared_name d)) (λ d. name_renamed l.new d) l.held)) new_names)
    where
      one_name : (a b : Decl) → Contains l.held a → Contains l.held b → l.new (declared_name a) ≡ l.new (declared_name b) → declared_name a ≡ declared_name b
      one_name a b c d e =
          let p = selected_from (λ z. Reached modules root keep (declared_symbol m z)) l.unit.declarations l.held l.selected a c in
          let q = selected_from (λ z. Reached modules root keep (declared_symbol m z)) l.unit.declarations l.held l.selected b d in
          ap (λ z. z.name) (held_once modules root keep unit well (declared_symbol m a) (declared_symbol m b) (l.new (declared_name b)) p.1 q.1
          (subst (IsPrinted modules root (declared_symbol m a)) e (named_as modules root keep well.loaded m l.unit l.new a l.is_module l.naming p.0))
          (named_as modules root keep well.loaded m l.unit l.new b l.is_module l.naming q.0))

  once_modules : (order : List Path) (ds : List Decl) → Once order → AreLinkedModules modules root keep order ds → Once (map declared_name ds)
  once_modules [] _ o no_module = tt
  once_modules (m ∷ ms) _ o (a_module {ds = ds} {es = es} l rest) =
      subst Once (sym (map-append declared_name ds es)) (once_append (map declared_name ds) (map declared_name es) (once_module m ds l) (once_modules ms es o.1 rest) apart)
    where
      apart : (y : Name) → Contains (map declared_name ds) y → Contains (map declared_name es) y → ⊥
      apart y c d =
          let a = comes_from m ds l y c in
          let b = comes_from_one ms es rest y d in
          let same = held_once modules root keep unit well (record { home = m; name = a.name }) (record { home = b.0; name = b.2.name }) y a.reached b.2.reached a.printed b.2.printed in
          o.0 (subst (Contains ms) (sym (ap (λ z. z.home) same)) b.1)

  order_differs : Once well.linked.order
  order_differs = let i = well.linked.in_order in subst Once (sym i.root_first) (i.not_root, ascending_differ i.others i.ascending)

  pub declares_what_is_held : DeclaresWhatIsHeld modules root keep unit
  declares_what_is_held = record {
    each = each_stands;
    only = only_held;
    once = distinct_of (map declared_name unit.declarations) (once_modules well.linked.order unit.declarations order_differs well.linked.declares);
  }

pub linked_units_declare_what_is_held : LinkedUnitsDeclareWhatIsHeld
linked_units_declare_what_is_held modules root keep unit well = declares_what_is_held modules root keep unit well
