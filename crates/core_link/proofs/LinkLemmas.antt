-- What is linked by places is the linked unit.
use Rattle.std.proofs.Common.{◌≡◌, refl, sym, ap, ◌∙◌, subst, ℕ, zero, suc, ◌+◌, arith, List, [], ◌∷◌, map, Bool, true, false, Option, Some, None}
use Rattle.std.specs.Prelude.{if◌then◌else◌, slice_get, is_some}
use Rattle.std.specs.Option.{IsSome}
use Rattle.std.specs.Str.{bytes_eq}
use Rattle.core_syntax.specs.Tree.{Decl, UnitTree}
use Rattle.wesl_resolve.specs.Mangling.{mangled}
use Rattle.core_link_spec.specs.Occurrences.{Name, declared_name}
use Rattle.core_link_spec.specs.Modules.{Path, Symbol, Modules, IsModule, Declares, Imports, IsFree, Reached}
use Rattle.core_link_spec.specs.Names.{IsPrinted, stays, is_mangled}
use Rattle.core_link_spec.specs.Linked.{renamed_declaration, IsNaming, Selects, nothing_left, takes, leaves, IsLinkedModule}
use Rattle.core_scopes.specs.Meanings.{Known, declared, imported, bare, known}
use Rattle.core_scopes.specs.Outcomes.{Outcome, symbol_at, unloaded, missing, private, free, Loaded, meant_as, outcome}
use Rattle.core_scopes.specs.Tells.{IsFinder, StandsAt, Tells}
use Rattle.core_reach.specs.Reach.{Holding, Settled, IsSettled, KeepsAll, IsRooted}
use Rattle.core_names.specs.Naming.{printed_of, named_or, naming}
use Rattle.core_link.specs.Assembling.{held_among, linked_module}
use Rattle.core_reach.specs.Resolved.{NamesHeld, HoldsReached}
use Rattle.core_scopes.proofs.ScopeLemmas.{same_name, self_name, value_means}
use Rattle.core_scopes.proofs.TellLemmas.{has_declared, has_imported, tells}
use Rattle.core_reach.proofs.ReachLemmas.{found_unit, denoted, same_place, the_declaration, reached_there, there_reached, reached_held}
use Rattle.core_link.proofs.AgreeLemmas.{same_declaration}

not_same : (x y : Name) → bytes_eq x y ≡ false → x ≡ y → ⊥
not_same x y e same = let yes : bytes_eq x y ≡ true = subst (λ t. bytes_eq x t ≡ true) same (self_name x) in absurd (cc)

module _ (modules : Modules) (find : Loaded) (finder : IsFinder modules find) (root : Path) (held : Holding) (names : NamesHeld modules root held) where
  -- two symbols at one place are one
  pub one_symbol : (p : Path) (i : ℕ) (s t : Symbol) → StandsAt modules p i s → StandsAt modules p i t → s ≡ t
  one_symbol p i s t at on =
      let unit : (p, on.unit) ≡ (p, at.unit) = found_unit modules find finder p at.unit (p, on.unit) at.is_module (finder.finds p on.unit on.is_module) in
      let there : slice_get at.unit.declarations i ≡ Some on.declaration = subst (λ (h : Path × UnitTree). slice_get h.1.declarations i ≡ Some on.declaration) unit on.stands in
      let same : at.declaration ≡ on.declaration = the_declaration (slice_get at.unit.declarations i) at.declaration on.declaration at.stands there in
      λ k. record { home = (at.home ∙ sym on.home) k; name = (at.name ∙ ap declared_name same ∙ sym on.name) k }

  -- the printed name of a symbol, held or not
  abbrev own_name : (p : Path) (i : ℕ) (s : Symbol) → StandsAt modules p i s → Bool → Name
  own_name p i s at true = s.name
  own_name p i s at false = mangled at.is_module.path s.name

  own_printed : (p : Path) (i : ℕ) (s : Symbol) (at : StandsAt modules p i s) (b : Bool) → bytes_eq s.home root ≡ b → IsPrinted modules root s (own_name p i s at b)
  own_printed p i s at true e =
      let same : record { home = root; name = s.name } ≡ s = ap (λ h. record { home = h; name = s.name }) (sym (same_name s.home root e)) in
      subst (λ t. IsPrinted modules root t s.name) same stays
  own_printed p i s at false e = is_mangled (not_same s.home root e) at.is_module.stands (at.is_module.printed ∙ sym at.home)

  abbrev name_at : (p : Path) (i : ℕ) (s : Symbol) → StandsAt modules p i s → Option Name → Name
  name_at p i s at (Some y) = y
  name_at p i s at None = own_name p i s at (bytes_eq s.home root)

  printed_at : (p : Path) (i : ℕ) (s : Symbol) (at : StandsAt modules p i s) (o : Option Name) → held p i ≡ o → IsPrinted modules root s (name_at p i s at o)
  printed_at p i s at (Some y) e = names p i s y at e
  printed_at p i s at None e = own_printed p i s at (bytes_eq s.home root) refl

  -- the naming that also names what is not held
  abbrev ideal_of : (m x : Name) (o : Outcome) → Tells modules m x o → Name
  ideal_of m x (symbol_at n i) t = name_at n i t.0 t.1 (held n i)
  ideal_of m x (unloaded s) t = x
  ideal_of m x (missing s) t = x
  ideal_of m x (private s) t = x
  ideal_of m x free t = x

  ideal_denoting : (m x : Name) (o : Outcome) (t : Tells modules m x o) (n : Path) (i : ℕ) (s : Symbol) → o ≡ symbol_at n i → StandsAt modules n i s → IsPrinted modules root s (ideal_of m x o t)
  ideal_denoting m x (symbol_at p j) t n i s e at =
      let home : p ≡ n = cc in let place : j ≡ i = cc in
      let there : StandsAt modules p j s = subst (λ q. StandsAt modules q j s) (sym home) (subst (λ l. StandsAt modules n l s) (sym place) at) in
      subst (λ u. IsPrinted modules root u (name_at p j t.0 t.1 (held p j))) (one_symbol p j t.0 s t.1 there) (printed_at p j t.0 t.1 (held p j) refl)
  ideal_denoting m x (unloaded u) t n i s e at = absurd (cc)
  ideal_denoting m x (missing u) t n i s e at = absurd (cc)
  ideal_denoting m x (private u) t n i s e at = absurd (cc)
  ideal_denoting m x free t n i s e at = absurd (cc)

  ideal_free : (m x : Name) (o : Outcome) (t : Tells modules m x o) → o ≡ free → ideal_of m x o t ≡ x
  ideal_free m x (symbol_at p j) t e = absurd (cc)
  ideal_free m x (unloaded u) t e = refl
  ideal_free m x (missing u) t e = refl
  ideal_free m x (private u) t e = refl
  ideal_free m x free t e = refl

  ideal_settled : (m x : Name) (o : Outcome) (t : Tells modules m x o) → Settled held o → named_or (printed_of held o) x ≡ ideal_of m x o t
  ideal_settled m x (symbol_at p j) t s = at (held p j) s
    where
      at : (o : Option Name) → IsSome o → named_or o x ≡ name_at p j t.0 t.1 o
      at None s = absurd (cc)
      at (Some y) s = refl
  ideal_settled m x (unloaded u) t s = absurd s
  ideal_settled m x (missing u) t s = absurd s
  ideal_settled m x (private u) t s = absurd s
  ideal_settled m x free t s = refl

  module _ (m : Path × UnitTree) (here : find m.0 ≡ Some m) where
    abbrev ideal : Name → Name
    ideal x = ideal_of m.0 x (outcome find m x) (tells modules find finder m here x)

    pub free_outcome : (x : Name) → IsFree modules m.0 x → outcome find m x ≡ free
    free_outcome x is = at (known m.1 x) refl
      where
        unit : m ≡ (m.0, is.unit)
        unit = found_unit modules find finder m.0 is.unit m is.is_module here

        undeclared : Declares m.1 x → ⊥
        undeclared d = is.undeclared (subst (λ (h : Path × UnitTree). Declares h.1 x) unit d)

        unimported : Imports m.1 x → ⊥
        unimported d = is.unimported (subst (λ (h : Path × UnitTree). Imports h.1 x) unit d)

        at : (o : Option Known) → known m.1 x ≡ o → meant_as find m.0 o ≡ free
        at None e = refl
        at (Some (declared j)) e = absurd (undeclared (has_declared m.1 x j e))
        at (Some (imported t)) e = absurd (unimported (has_imported m.1 x (imported t) (λ j both. absurd (cc)) e))
        at (Some (bare t)) e = absurd (unimported (has_imported m.1 x (bare t) (λ j both. absurd (cc)) e))

    ideal_naming : IsNaming modules root m.0 ideal
    ideal_naming = record {
      denoting = λ x s d.
          let f = denoted modules find finder m here x d in
          ideal_denoting m.0 x (outcome find m x) (tells modules find finder m here x) s.home f.0 s f.1 f.2;
      free = λ x is. ideal_free m.0 x (outcome find m x) (tells modules find finder m here x) (free_outcome x is);
    }

    module _ (settled : IsSettled find held) where
      -- a held declaration is renamed as the ideal naming renames it
      held_same : (k : ℕ) (d : Decl) → IsSome (held m.0 k) → slice_get m.1.declarations k ≡ Some d → renamed_declaration (naming find held m) d ≡ renamed_declaration ideal d
      held_same k d is there =
          same_declaration (naming find held m) ideal d
          (ideal_settled m.0 (declared_name d) (outcome find m (declared_name d)) (tells modules find finder m here (declared_name d))
          (subst (Settled held) (sym (ap (meant_as find m.0) (value_means m.1 k d (finder.fresh m.0 m here) there))) is))
          (λ x c. ideal_settled m.0 x (outcome find m x) (tells modules find finder m here x) (settled m.0 k m d x is here there c))

      abbrev StandsFrom : ℕ → List Decl → Type 0
      StandsFrom place ds = (i : ℕ) (d : Decl) → slice_get ds i ≡ Some d → slice_get m.1.declarations (place + i) ≡ Some d

      front : (d : Decl) (ds : List Decl) (place : ℕ) → StandsFrom place (d ∷ ds) → slice_get m.1.declarations place ≡ Some d
      front d ds place there = let n : place + zero ≡ place = omega arith in subst (λ l. slice_get m.1.declarations l ≡ Some d) n (there zero d refl)

      behind : (d : Decl) (ds : List Decl) (place : ℕ) → StandsFrom place (d ∷ ds) → StandsFrom (place + 1) ds
      behind d ds place there = λ i e is. let n : place + suc i ≡ (place + 1) + i = omega arith in subst (λ l. slice_get m.1.declarations l ≡ Some e) n (there (suc i) e is)

      abbrev both_named : List Decl → Type 0
      both_named ds = map (renamed_declaration (naming find held m)) ds ≡ map (renamed_declaration ideal) ds

      one_more_same : (d : Decl) (ds : List Decl) (place : ℕ) (b : Bool) → is_some (held m.0 place) ≡ b → slice_get m.1.declarations place ≡ Some d → both_named ds
          → both_named (if b then d ∷ ds else ds)
      one_more_same d ds place true e there rest = λ k. held_same place d e there k ∷ rest k
      one_more_same d ds place false e there rest = rest

      all_same : (ds : List Decl) (place : ℕ) → StandsFrom place ds → both_named (held_among (λ k. is_some (held m.0 k)) place ds)
      all_same [] place there = refl
      all_same (d ∷ ds) place there =
          one_more_same d (held_among (λ k. is_some (held m.0 k)) (place + 1) ds) place (is_some (held m.0 place)) refl (front d ds place there) (all_same ds (place + 1) (behind d ds place there))

      module _ (keep : List Name) (rooted : IsRooted modules root keep) (keeps : KeepsAll find root keep held) (sound : HoldsReached find root keep held) where
        abbrev IsHeld : Decl → Type 0
        IsHeld d = Reached modules root keep (record { home = m.0; name = declared_name d })

        home : IsModule modules m.0 m.1
        home = (finder.found m.0 m here).0

        stands : (k : ℕ) (d : Decl) → slice_get m.1.declarations k ≡ Some d → StandsAt modules m.0 k (record { home = m.0; name = declared_name d })
        stands k d there = record { unit = m.1; declaration = d; is_module = home; stands = there; home = refl; name = refl }

        held_reached : (k : ℕ) (d : Decl) → slice_get m.1.declarations k ≡ Some d → IsSome (held m.0 k) → IsHeld d
        held_reached k d there is =
            let r = reached_there modules find finder root keep (sound m.0 k is) in
            subst (Reached modules root keep) (one_symbol m.0 k r.0 (record { home = m.0; name = declared_name d }) r.1 (stands k d there)) r.2

        reached_is_held : (k : ℕ) (d : Decl) → slice_get m.1.declarations k ≡ Some d → IsHeld d → IsSome (held m.0 k)
        reached_is_held k d there r =
            let t = there_reached modules find finder root keep rooted r in
            let place : k ≡ t.0 = same_place modules find finder m.0 t.0 k (record { home = m.0; name = declared_name d }) m.1 d t.1 home there refl in
            subst (λ l. IsSome (held m.0 l)) (sym place) (reached_held find root keep held keeps settled t.2)

        one_more_selected : (d : Decl) (ds es : List Decl) (place : ℕ) (b : Bool) → is_some (held m.0 place) ≡ b → slice_get m.1.declarations place ≡ Some d → Selects IsHeld ds es
            → Selects IsHeld (d ∷ ds) (if b then d ∷ es else es)
        one_more_selected d ds es place true e there rest = takes (held_reached place d there e) rest
        one_more_selected d ds es place false e there rest = leaves (λ r. let yes : is_some (held m.0 place) ≡ true = reached_is_held place d there r in absurd (cc)) rest

        selected : (ds : List Decl) (place : ℕ) → StandsFrom place ds → Selects IsHeld ds (held_among (λ k. is_some (held m.0 k)) place ds)
        selected [] place there = nothing_left
        selected (d ∷ ds) place there =
            one_more_selected d ds (held_among (λ k. is_some (held m.0 k)) (place + 1) ds) place (is_some (held m.0 place)) refl (front d ds place there) (selected ds (place + 1) (behind d ds place there))

        pub module_linked : IsLinkedModule modules root keep m.0 (linked_module find held m)
        module_linked =
            let there : StandsFrom 0 m.1.declarations = λ i d is. let n : i ≡ 0 + i = omega arith in subst (λ l. slice_get m.1.declarations l ≡ Some d) n is in
            record {
              unit = m.1;
              is_module = home;
              new = ideal;
              naming = ideal_naming;
              held = held_among (λ k. is_some (held m.0 k)) 0 m.1.declarations;
              selected = selected m.1.declarations 0 there;
              whole = all_same m.1.declarations 0 there;
            }
