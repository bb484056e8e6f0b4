-- What loading comes to is loaded.
use Rattle.std.proofs.Common.{◌≡◌, ℕ, zero, suc, ◌+◌, ◌⊎◌, inl, inr, ⊎_elim, List, [], ◌∷◌, ◌++◌, map, length, Option, Some, None, Bool, true, false, Ok, refl, sym, ap, ◌∙◌, subst, Contains, slice_get}
use Rattle.std.specs.Str.{bytes_eq}
use Rattle.std.proofs.lemmas.List.Elements.{Contains-append_left, Contains-append_cases}
use Rattle.wgsl_path.specs.declared.path.ModulePath.{ModulePath}
use Rattle.wgsl_path.specs.Paths.{path_text}
use Rattle.core_syntax.specs.Tree.{Decl, Imp, UnitTree}
use Rattle.core_syntax.specs.Names.{declared_name}
use Rattle.wesl_resolve.specs.Found.{unit_of}
use Rattle.core_link_spec.specs.Occurrences.{Name, occurrences}
use Rattle.core_link_spec.specs.Modules.{Path, Symbol, Modules, IsModule, Declares, Imports, local_name, IsImport, IsImported, IsMissing, lacking, bare, IsPrivate, IsFree, IsDeclaration, Denotes, own, imported, Reached}
use Rattle.core_link_spec.specs.Rounds.{Sources, LoadError, missing_decl, private, scope_names, AreDistinct, Loads, all_loaded, loaded, IsAscending, IsNextRound, NoneRefused, LoadsRounds, nothing_asked, a_round, IsLoadingResult, goes_on}
use Rattle.core_link_spec.specs.Loaded.{AreLoaded}
use Rattle.wgsl_base.proofs.Members.{first_in, later_in, in_cases, in_none, from_map, same_bytes, bytes_same}
use Rattle.core_modules_meaning.proofs.Order.{behind_first, rest_ascends, not_before}
use Rattle.core_modules_meaning.proofs.Exists.{unit_is, unit_there, import_is, import_there}
use Rattle.core_modules_meaning.specs.Runs.{AreFound, WhatIsLoaded}
use Rattle.core_modules_meaning.specs.SourcePrograms.{unit_at, import_at}

-- ---- members by place

place_of : {A : Type 0} (xs : List A) (x : A) → Contains xs x → (k : ℕ) × (slice_get xs k ≡ Some x)
place_of [] x c = absurd (in_none x c)
place_of (y ∷ ys) x c = at (place_of ys x) (in_cases y ys x c)
  where
    at : (Contains ys x → (k : ℕ) × (slice_get ys k ≡ Some x)) → (y ≡ x) ⊎ Contains ys x → (k : ℕ) × (slice_get (y ∷ ys) k ≡ Some x)
    at more (inl e) = (zero, ap Some e)
    at more (inr d) = let r = more d in (suc r.0, r.1)

decide_in : (x : Name) (xs : List Name) → Contains xs x ⊎ (Contains xs x → ⊥)
decide_in x [] = inr (in_none x)
decide_in x (y ∷ ys) = at (bytes_eq x y) refl (decide_in x ys)
  where
    at : (b : Bool) → bytes_eq x y ≡ b → Contains ys x ⊎ (Contains ys x → ⊥) → Contains (y ∷ ys) x ⊎ (Contains (y ∷ ys) x → ⊥)
    at true e later = inl (subst (Contains (y ∷ ys)) (sym (same_bytes x y e)) (first_in y ys))
    at false e (inl c) = inl (later_in x y ys c)
    at false e (inr n) = inr (λ c. neither (in_cases y ys x c))
      where
        neither : (y ≡ x) ⊎ Contains ys x → ⊥
        neither (inl s) = let t : bytes_eq x y ≡ true = ap (bytes_eq x) s ∙ bytes_same x in absurd (cc)
        neither (inr c) = n c

-- ---- modules that are loaded one after another

pub record Apart (modules : Modules) : Type 0 where
  pub apart : (a b : ModulePath × UnitTree) → Contains modules a → Contains modules b → path_text a.0 ≡ path_text b.0 → a ≡ b
  pub distinct : (a : ModulePath × UnitTree) → Contains modules a → AreDistinct (scope_names a.1)

-- their paths are those that were asked for
pub record Loading (ps : List Path) (more : Modules) : Type 0 where
  pub asked : (a : ModulePath × UnitTree) → Contains more a → Contains ps (path_text a.0)
  pub names : (a : ModulePath × UnitTree) → Contains more a → AreDistinct (scope_names a.1)

pub loading : (sources : Sources) (max n : ℕ) (ps : List Path) (more : Modules) → Loads sources max n ps (Ok more) → Loading ps more
loading sources max n [] (m ∷ ms) h = elim h [ ]
loading sources max n [] [] all_loaded = record { asked = λ a c. absurd (in_none a c); names = λ a c. absurd (in_none a c) }
loading sources max n (p ∷ ps) _ (loaded {u = u} {path = path} {modules = more} lt is d e rest) =
    let r = loading sources max (n + 1) ps more rest in
    record {
      asked = λ a c. asked_of r a (in_cases (path, u) more a c);
      names = λ a c. names_of r a (in_cases (path, u) more a c);
    }
  where
    asked_of : Loading ps more → (a : ModulePath × UnitTree) → ((path, u) ≡ a) ⊎ Contains more a → Contains (p ∷ ps) (path_text a.0)
    asked_of r a (inl s) = subst (Contains (p ∷ ps)) (sym e ∙ ap (λ z. path_text z.0) s) (first_in p ps)
    asked_of r a (inr c) = later_in (path_text a.0) p ps (r.asked a c)

    names_of : Loading ps more → (a : ModulePath × UnitTree) → ((path, u) ≡ a) ⊎ Contains more a → AreDistinct (scope_names a.1)
    names_of r a (inl s) = subst (λ z. AreDistinct (scope_names z.1)) s d
    names_of r a (inr c) = r.names a c

pub loading_apart : (sources : Sources) (max n : ℕ) (ps : List Path) (more : Modules) → IsAscending ps → Loads sources max n ps (Ok more) → (a b : ModulePath × UnitTree) → Contains more a → Contains more b → path_text a.0 ≡ path_text b.0 → a ≡ b
loading_apart sources max n [] (m ∷ ms) asc h a b c d e = elim h [ ]
loading_apart sources max n [] [] asc all_loaded a b c d e = absurd (in_none a c)
loading_apart sources max n (p ∷ ps) _ asc (loaded {u = u} {path = path} {modules = more} lt is ds to rest) a b c d e = at (λ k l. loading_apart sources max (n + 1) ps more (rest_ascends p ps asc) rest a b k l e) (in_cases (path, u) more a c) (in_cases (path, u) more b d)
  where
    clash : (z : ModulePath × UnitTree) → Contains more z → path_text z.0 ≡ p → ⊥
    clash z k s = not_before p (behind_first p ps asc p (subst (Contains ps) s ((loading sources max (n + 1) ps more rest).asked z k)))

    at : (Contains more a → Contains more b → a ≡ b) → ((path, u) ≡ a) ⊎ Contains more a → ((path, u) ≡ b) ⊎ Contains more b → a ≡ b
    at later (inl s) (inl t) = sym s ∙ t
    at later (inl s) (inr k) = absurd (clash b k (sym e ∙ ap (λ z. path_text z.0) (sym s) ∙ to))
    at later (inr k) (inl t) = absurd (clash a k (e ∙ ap (λ z. path_text z.0) (sym t) ∙ to))
    at later (inr k) (inr l) = later k l

module _ (root : Path) (keep : List Name) where
  -- a round adds modules that weren't there
  pub next_apart : (sources : Sources) (max n : ℕ) (modules more : Modules) (ps : List Path) → Apart modules → IsNextRound modules root keep ps → Loads sources max n ps (Ok more) → Apart (modules ++ more)
  next_apart sources max n modules more ps old round loads = record {
    apart = λ a b c d e. both a b (Contains-append_cases modules more a c) (Contains-append_cases modules more b d) e;
    distinct = λ a c. names a (Contains-append_cases modules more a c);
  }
    where
      facts : Loading ps more
      facts = loading sources max n ps more loads

      new_is_new : (a b : ModulePath × UnitTree) → Contains modules a → Contains more b → path_text a.0 ≡ path_text b.0 → ⊥
      new_is_new a b c d e =
          let q = (round.asked (path_text b.0)).0 (facts.asked b d) in
          q.unloaded.unloaded a.1 (record { path = a.0; stands = c; printed = e ∙ sym q.home })

      both : (a b : ModulePath × UnitTree) → Contains modules a ⊎ Contains more a → Contains modules b ⊎ Contains more b → path_text a.0 ≡ path_text b.0 → a ≡ b
      both a b (inl c) (inl d) e = old.apart a b c d e
      both a b (inl c) (inr d) e = absurd (new_is_new a b c d e)
      both a b (inr c) (inl d) e = absurd (new_is_new b a d c (sym e))
      both a b (inr c) (inr d) e = loading_apart sources max n ps more round.ascending loads a b c d e

      names : (a : ModulePath × UnitTree) → Contains modules a ⊎ Contains more a → AreDistinct (scope_names a.1)
      names a (inl c) = old.distinct a c
      names a (inr c) = facts.names a c

  abbrev RootKeeps : Modules → Type 0
  RootKeeps modules = (x : Name) → Contains keep x → (u : UnitTree) × IsModule modules root u × Declares u x

  -- ---- nothing is refused and nothing is asked for

  module _ (modules : Modules) (apart : Apart modules) (none : NoneRefused modules root keep) (round : IsNextRound modules root keep []) where
    module _ (s : Symbol) (d : Decl) (x : Name) (reached : Reached modules root keep s) (declares : IsDeclaration modules s d) (occurs : Contains (occurrences d) x) where
      refused : (t : Symbol) (r : LoadError) → (IsMissing modules s.home x t × (r ≡ missing_decl t.home t.name)) ⊎ (IsPrivate modules s.home x t × (r ≡ private t.home t.name)) → ⊥
      refused t r why =
          let place = place_of declares.unit.declarations d declares.stands in
          let at = place_of (occurrences d) x occurs in
          none s.home place.0 at.0 r (record {
            unit = declares.unit;
            is_module = declares.is_module;
            stands = d;
            is_there = place.1;
            reached = subst (λ z. Reached modules root keep (record { home = s.home; name = z })) (sym declares.name) reached;
            name = x;
            occurs = at.1;
            target = t;
            why = why;
          })

      loaded_target : (t : Symbol) → IsImported modules s.home x t → (o : Option UnitTree) → unit_at modules t.home ≡ o → (u : UnitTree) × IsModule modules t.home u
      loaded_target t i (Some u) e = (u, unit_is modules t.home u e)
      loaded_target t i None e = absurd (in_none t.home ((round.asked t.home).1 (record {
        from = s;
        declaration = d;
        name = x;
        target = t;
        reached = reached;
        declares = declares;
        occurs = occurs;
        home = refl;
        unloaded = record { imported = i; unloaded = λ u m. let f = unit_there modules t.home m.path u m.stands m.printed in absurd (cc (e, f.1)) };
      })))

      target_denotes : (t : Symbol) → IsImported modules s.home x t → (u : UnitTree) → IsModule modules t.home u → Denotes modules s.home x t
      target_denotes t i u m = at (decide_in t.name (map declared_name u.declarations)) (decide_in t.name (map local_name u.imports))
        where
          at : Declares u t.name ⊎ (Declares u t.name → ⊥) → Imports u t.name ⊎ (Imports u t.name → ⊥) → Denotes modules s.home x t
          at (inl c) j = imported i m c
          at (inr n) (inl c) = absurd (refused t (private t.home t.name) (inr (record { imported = i; unit = u; is_module = m; undeclared = n; only_imported = c }, refl)))
          at (inr n) (inr k) = absurd (refused t (missing_decl t.home t.name) (inl (lacking i m n k, refl)))

      import_denotes : (i : Imp) → IsImport modules s.home x i → (o : Option ModulePath) → i.path ≡ o → (t : Symbol) × Denotes modules s.home x t
      import_denotes i im None e = absurd (refused (record { home = s.home; name = i.item }) (missing_decl s.home i.item) (inl (bare im e, refl)))
      import_denotes i im (Some path) e =
          let t : Symbol = record { home = path_text path; name = i.item } in
          let imp : IsImported modules s.home x t = record { import = i; is_import = im; path = path; is_path = e; home = refl; item = refl } in
          let m = loaded_target t imp (unit_at modules t.home) refl in
          (t, target_denotes t imp m.0 m.1)

      resolved : ((t : Symbol) × Denotes modules s.home x t) ⊎ IsFree modules s.home x
      resolved = at (decide_in x (map declared_name u.declarations)) (import_at x u.imports) refl
        where
          u : UnitTree
          u = declares.unit

          i : IsModule modules s.home declares.unit
          i = declares.is_module

          at : Declares declares.unit x ⊎ (Declares declares.unit x → ⊥) → (o : Option Imp) → import_at x declares.unit.imports ≡ o → ((t : Symbol) × Denotes modules s.home x t) ⊎ IsFree modules s.home x
          at (inl c) o e = inl (record { home = s.home; name = x }, own declares.is_module c)
          at (inr n) (Some j) e =
              let there = import_is x declares.unit.imports j e in
              inl (import_denotes j (record { unit = declares.unit; is_module = declares.is_module; undeclared = n; stands = there.0; local = there.1 }) j.path refl)
          at (inr n) None e = inr (record { unit = declares.unit; is_module = declares.is_module; undeclared = n; unimported = λ c. unimported c })
            where
              unimported : Imports declares.unit x → ⊥
              unimported c =
                  let f = from_map local_name declares.unit.imports x c in
                  let g = import_there x declares.unit.imports f.0 f.1 f.2 in absurd (cc (e, g.1))

    all_loaded_here : RootKeeps modules → AreLoaded modules root keep
    all_loaded_here keeps = record { apart = apart.apart; distinct = apart.distinct; kept = keeps; resolved = resolved }

  module_stays : (modules more : Modules) (m : Path) (u : UnitTree) → IsModule modules m u → IsModule (modules ++ more) m u
  module_stays modules more m u i = record { path = i.path; stands = Contains-append_left modules more (i.path, u) i.stands; printed = i.printed }

  going : (sources : Sources) (max : ℕ) (before after : Modules) → LoadsRounds sources root keep max before (Ok after) → Apart before → RootKeeps before → AreLoaded after root keep
  going sources max before _ (nothing_asked none round) apart keeps = all_loaded_here before apart none round keeps
  going sources max before after (a_round {more = more} {ps = ps} none round some loads rest) apart keeps =
      going sources max (before ++ more) after rest (next_apart sources max (length before) before more ps apart round loads)
      (λ x c. let k = keeps x c in (k.0, module_stays before more root k.0 k.1, k.2))

pub loaded_modules : (sources : Sources) (root : Path) (keep : List Name) (max : ℕ) (modules : Modules) → IsLoadingResult sources root keep max (Ok modules) → AreLoaded modules root keep
loaded_modules sources root keep max modules (goes_on {path = path} {u = u} loads keeps goes) =
    let facts = loading sources max 0 (root ∷ []) ((path, u) ∷ []) loads in
    let at_root : path_text path ≡ root = only (in_cases root [] (path_text path) (facts.asked (path, u) (first_in (path, u) []))) in
    going root keep sources max ((path, u) ∷ []) modules goes
    (record {
      apart = λ a b c d e. alone a b (in_cases (path, u) [] a c) (in_cases (path, u) [] b d);
      distinct = λ a c. facts.names a c;
    })
    (λ x c. (u, record { path = path; stands = first_in (path, u) []; printed = at_root }, keeps x c))
  where
    only : (root ≡ path_text path) ⊎ Contains [] (path_text path) → path_text path ≡ root
    only (inl e) = sym e
    only (inr c) = absurd (in_none (path_text path) c)

    alone : (a b : ModulePath × UnitTree) → ((path, u) ≡ a) ⊎ Contains [] a → ((path, u) ≡ b) ⊎ Contains [] b → a ≡ b
    alone a b (inl e) (inl f) = sym e ∙ f
    alone a b (inl e) (inr c) = absurd (in_none b c)
    alone a b (inr c) f = absurd (in_none a c)

-- ---- what is loaded is found

module _ (sources : Sources) where
  abbrev AllFound : Modules → Type 0
  AllFound modules = (a : ModulePath × UnitTree) → Contains modules a → sources (path_text a.0) (unit_of a.1)

  found_loading : (max n : ℕ) (ps : List Path) (more : Modules) → Loads sources max n ps (Ok more) → AllFound more
  found_loading max n [] (m ∷ ms) h a c = elim h [ ]
  found_loading max n [] [] all_loaded a c = absurd (in_none a c)
  found_loading max n (p ∷ ps) _ (loaded {u = u} {path = path} {modules = more} lt is d e rest) a c = at (found_loading max (n + 1) ps more rest) (in_cases (path, u) more a c)
    where
      at : AllFound more → ((path, u) ≡ a) ⊎ Contains more a → sources (path_text a.0) (unit_of a.1)
      at later (inl s) = subst (λ z. sources (path_text z.0) (unit_of z.1)) s (subst (λ z. sources z (unit_of u)) (sym e) is)
      at later (inr b) = later a b

  found_going : (root : Path) (keep : List Name) (max : ℕ) (before after : Modules) → LoadsRounds sources root keep max before (Ok after) → AllFound before → AllFound after
  found_going root keep max before _ (nothing_asked none round) found = found
  found_going root keep max before after (a_round {more = more} {ps = ps} none round some loads rest) found =
      found_going root keep max (before ++ more) after rest (λ a c. ⊎_elim (found a) (found_loading max (length before) ps more loads a) (Contains-append_cases before more a c))

  pub found_modules : (root : Path) (keep : List Name) (max : ℕ) (modules : Modules) → IsLoadingResult sources root keep max (Ok modules) → AreFound sources modules
  found_modules root keep max modules (goes_on {path = path} {u = u} loads keeps goes) m v i =
      subst (λ z. sources z (unit_of v)) i.printed (found_going root keep max ((path, u) ∷ []) modules goes (found_loading max 0 (root ∷ []) ((path, u) ∷ []) loads) (i.path, v) i.stands)

pub what_is_loaded : (sources : Sources) → WhatIsLoaded sources
what_is_loaded sources root keep max modules loads = (loaded_modules sources root keep max modules loads, found_modules sources root keep max modules loads)
