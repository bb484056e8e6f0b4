-- The linked unit runs as its modules do, in the second form of meaning.
use Rattle.std.proofs.Common.{◌≡◌, ◌↔◌, ℕ, ◌⊎◌, inl, inr, List, [], ◌∷◌, ◌++◌, map, Option, Some, Bool, true, false, refl, sym, ap, ◌∙◌, subst, Contains}
use Rattle.std.specs.Prelude.{IsTrue}
use Rattle.std.proofs.lemmas.List.Elements.{Contains-append_left, Contains-append_right}
use Rattle.wgsl_base.proofs.Bools.{none_if, false_if}
use Rattle.wgsl_base.proofs.Members.{first_in}
use Rattle.core_syntax.specs.Tree.{Decl, UnitTree}
use Rattle.core_syntax.specs.Names.{declared_name}
use Rattle.wgsl_instance.specs.declared.tree.Instance.{Instance}
use Rattle.core_programs.specs.Names.{Symbol}
use Rattle.core_programs.specs.Programs.{Program, here}
use Rattle.core_programs.specs.Runs.{Handed, EndsWell, find_decl, program_of}
use Rattle.core_link_spec.specs.Occurrences.{Name, is_among, occurrences, names_before, names_behind, names_in_body, locals}
use Rattle.core_link_spec.specs.Modules.{Path, Modules, IsModule, IsFree, IsDeclaration, Denotes, Reached, kept, onto}
use Rattle.core_link_spec.specs.Modules.{Symbol as SourceSymbol}
use Rattle.core_link_spec.specs.Names.{IsPrinted, stays}
use Rattle.core_link_spec.specs.Linked.{renamed_declaration, IsNaming, Selects, AreLinkedModules, no_module, a_module, Clashes, hidden, captured}
use Rattle.core_modules_meaning.specs.SourcePrograms.{declared_symbol, AreHeld, of_none, of_more}
use Rattle.core_modules_meaning.specs.Runs.{AreLinkedWell}
use Rattle.core_modules_meaning.specs.Executions.{source, IsProgramIn, LinkedUnitsEndLikewise}
use Rattle.core_modules_meaning.proofs.Order.{order_once}
use Rattle.core_modules_meaning.proofs.Held.{origin_same, held_once, taken}
use Rattle.core_modules_meaning.proofs.Symbols.{name_renamed, selected_from, selected_once, found_in, one_unit, free_denotes_none, named_as, printed_once, Origin, origin, name_there}
use Rattle.core_modules_meaning.proofs.Orders.{Both, no_more, one_more}
use Rattle.core_modules_meaning.proofs.Renaming.{DeclFits, Means, of_symbol, of_none as of_no_symbol, Stands}
use Rattle.core_modules_meaning.proofs.Started.{Named, ends_there, ends_back}

is_true : (b : Bool) → b ≡ true → IsTrue b
is_true true e = refl
is_true false e = absurd (cc)

module _ (modules : Modules) (root : Path) (keep : List Name) (unit : UnitTree) (p : Program) (well : AreLinkedWell modules root keep unit) (program : IsProgramIn modules root keep p) where
  -- a symbol is reached, and has this printed name
  pub record IsHeld (s : Symbol) (y : Name) : Type 0 where
    pub reached : Reached modules root keep (source s)
    pub printed : IsPrinted modules root (source s) y

  abbrev From : Decl → Type 0
  From e = Origin modules root keep well.loaded e

  abbrev symbol_of : SourceSymbol → Symbol
  symbol_of t = record { home = t.home; called = t.name }

  -- ---- occurrences

  module _ (s : Symbol) (d : Decl) (new : Name → Name) (naming : IsNaming modules root s.home new)
      (reached : Reached modules root keep (source s)) (declares : IsDeclaration modules (source s) d) where
    -- no occurrence with these locals clashes
    abbrev Unclashed : List Name → Name → Type 0
    Unclashed hiding x = (y : Name) → Clashes modules root keep s.home hiding x y → ⊥

    means_symbol : (x : Name) (t : SourceSymbol) → Contains (occurrences d) x → Denotes modules s.home x t → Means p unit.declarations IsHeld s.home new x
    means_symbol x t c den = of_symbol (symbol_of t) ((program.denotes s.home x (symbol_of t)).1 den) (record { reached = onto reached declares c den; printed = naming.denoting x t den })

    means_nothing : (hiding : List Name) (x : Name) → Unclashed hiding x → IsFree modules s.home x → Means p unit.declarations IsHeld s.home new x
    means_nothing hiding x clear free = of_no_symbol
        (none_if (p.denotes s.home x) (λ t e. free_denotes_none modules root keep well.loaded s.home x (source t) free ((program.denotes s.home x t).0 e)))
        (none_if (find_decl x unit.declarations) (λ e f. clear x (captured free (taken modules root keep unit well x e f))))
        (naming.free x free)

    fits_one : (hiding : List Name) (x : Name) → Contains (occurrences d) x → Unclashed hiding x → Means p unit.declarations IsHeld s.home new x × (is_among x hiding ≡ false → is_among (new x) hiding ≡ false)
    fits_one hiding x c clear = at (well.loaded.resolved (source s) d x reached declares c)
      where
        at : ((t : SourceSymbol) × Denotes modules s.home x t) ⊎ IsFree modules s.home x → Means p unit.declarations IsHeld s.home new x × (is_among x hiding ≡ false → is_among (new x) hiding ≡ false)
        at (inl r) = (means_symbol x r.0 c r.1, λ e. false_if (is_among (new x) hiding) (λ t. clear (new x) (hidden r.1 (naming.denoting x r.0 r.1) (is_true (is_among (new x) hiding) t))))
        at (inr free) = (means_nothing hiding x clear free, λ e. ap (λ z. is_among z hiding) (naming.free x free) ∙ e)

    fits : DeclFits new (Means p unit.declarations IsHeld s.home new) d
    fits = record {
      before = λ x c. fits_one [] x (Contains-append_left (names_before d ++ names_behind d) (names_in_body d) x (Contains-append_left (names_before d) (names_behind d) x c))
          (λ y k. well.clash_free.outside (source s) d x y reached declares (Contains-append_left (names_before d) (names_behind d) x c) k);
      behind = λ x c. fits_one [] x (Contains-append_left (names_before d ++ names_behind d) (names_in_body d) x (Contains-append_right (names_before d) (names_behind d) x c))
          (λ y k. well.clash_free.outside (source s) d x y reached declares (Contains-append_right (names_before d) (names_behind d) x c) k);
      in_body = λ x c. fits_one (locals d) x (Contains-append_right (names_before d ++ names_behind d) (names_in_body d) x c)
          (λ y k. well.clash_free.inside (source s) d x y reached declares c k);
    }

  -- ---- held symbols stand in the unit

  stands_from : (s : Symbol) (y : Name) (h : IsHeld s y) (e : Decl) → find_decl y unit.declarations ≡ Some e → declared_name e ≡ y → (o : From e) → declared_symbol o.home o.declaration ≡ source s → Stands p unit.declarations IsHeld s y
  stands_from s y h e f n o same =
      let home : o.home ≡ s.home = ap (λ z. z.home) same in
      let declares : IsDeclaration modules (source s) o.declaration =
      subst (λ z. IsDeclaration modules z o.declaration) same (record { unit = o.unit; is_module = o.is_module; stands = o.stands; name = refl }) in
      record {
        printed = printed_once modules root keep well.loaded (source s) (p.printed s) y (program.printed s h.reached) h.printed;
        declaration = o.declaration;
        new = o.new;
        item = (program.items s o.declaration).1 declares;
        found = f ∙ ap Some (sym o.is);
        fits = fits s o.declaration o.new (subst (λ m. IsNaming modules root m o.new) home o.naming) h.reached declares;
      }

  stands : (s : Symbol) (y : Name) → IsHeld s y → Stands p unit.declarations IsHeld s y
  stands s y h =
      let f = name_there modules root keep well.loaded unit well.linked (source s) y h.reached h.printed in
      let there = found_in y unit.declarations f.0 f.1 in
      let o = origin modules root keep well.loaded unit well.linked f.0 there.0 in
      stands_from s y h f.0 f.1 there.1 o (origin_same modules root keep unit well (source s) f.0 h.reached (subst (IsPrinted modules root (source s)) (sym there.1) h.printed) o)

  unique : (s t : Symbol) (y : Name) → IsHeld s y → IsHeld t y → s ≡ t
  unique s t y h k = ap symbol_of (held_once modules root keep unit well (source s) (source t) y h.reached k.reached h.printed k.printed)

  -- ---- the start

  -- symbols, each with its declaration in the unit
  data Paired : List SourceSymbol → List Decl → Type 0 where
    no_pairs : Paired [] []
    one_pair : {ss : List SourceSymbol} {es : List Decl} (s : SourceSymbol) (e : Decl) → Reached modules root keep s → IsPrinted modules root s (declared_name e) → Paired ss es → Paired (s ∷ ss) (e ∷ es)

  paired_module : (m : Path) (u : UnitTree) (new : Name → Name) → IsModule modules m u → IsNaming modules root m new → (held : List Decl)
      → ((d : Decl) → Contains held d → Contains u.declarations d × Reached modules root keep (declared_symbol m d)) → (ss : List SourceSymbol) (es : List Decl) → Paired ss es
      → Paired (map (declared_symbol m) held ++ ss) (map (renamed_declaration new) held ++ es)
  paired_module m u new i n [] all ss es rest = rest
  paired_module m u new i n (d ∷ ds) all ss es rest =
      let own = all d (first_in d ds) in
      one_pair (declared_symbol m d) (renamed_declaration new d) own.1
      (subst (IsPrinted modules root (declared_symbol m d)) (sym (name_renamed new d)) (named_as modules root keep well.loaded m u new d i n own.0))
      (paired_module m u new i n ds (λ z c. all z (Contains-append_right (d ∷ []) ds z c)) ss es rest)

  paired : (order : List Path) (ss : List SourceSymbol) (ds : List Decl) → AreHeld modules root keep order ss → AreLinkedModules modules root keep order ds → Paired ss ds
  paired [] _ _ of_none no_module = no_pairs
  paired (m ∷ ms) _ _ (of_more {ss = ss} u held i selected rest) (a_module {ds = ds} {es = es} l others) =
      let P : Decl → Type 0 = λ d. Reached modules root keep (declared_symbol m d) in
      let units : u ≡ l.unit = one_unit modules root keep well.loaded m u l.unit i l.is_module in
      let same : held ≡ l.held = selected_once P l.unit.declarations held l.held (subst (λ v. Selects P v.declarations held) units selected) l.selected in
      let whole : map (renamed_declaration l.new) held ≡ ds = ap (map (renamed_declaration l.new)) same ∙ sym l.whole in
      subst (λ z. Paired (map (declared_symbol m) held ++ ss) (z ++ es)) whole
      (paired_module m u l.new i l.naming held (λ d c. selected_from P u.declarations held selected d c) ss es (paired ms ss es rest others))

  named : (hs : List Symbol) (ts : List SourceSymbol) (es : List Decl) → map source hs ≡ ts → Paired ts es → Both (Named p unit.declarations IsHeld stands unique) hs (map (λ d. here (declared_name d)) es)
  named [] _ _ e no_pairs = no_more
  named [] _ _ e (one_pair s d r q rest) = absurd (cc)
  named (h ∷ hs) _ _ e no_pairs = absurd (cc)
  named (h ∷ hs) _ _ e (one_pair {ss = ss} {es = es} s d r q rest) =
      let first : source h ≡ s = cc in
      let others : map source hs ≡ ss = cc in
      one_more (record { name = declared_name d; is = refl; held = record { reached = subst (Reached modules root keep) (sym first) r; printed = subst (λ z. IsPrinted modules root z (declared_name d)) (sym first) q } }) (named hs ss es others rest)

  all_named : Both (Named p unit.declarations IsHeld stands unique) p.held (map (λ d. here (declared_name d)) unit.declarations)
  all_named =
      let same = order_once modules root program.held.order well.linked.order program.held.in_order well.linked.in_order in
      named p.held (map source p.held) unit.declarations refl
      (paired well.linked.order (map source p.held) unit.declarations (subst (λ z. AreHeld modules root keep z (map source p.held)) same program.held.are_held) well.linked.declares)

  pub end_likewise : (x : Name) → Contains keep x → (handed : Handed) (n : ℕ) (answer : Option Instance)
      → EndsWell p (record { home = root; called = x }) handed n answer ↔ EndsWell (program_of unit) (here x) handed n answer
  end_likewise x k handed n answer =
      let held : IsHeld (record { home = root; called = x }) x = record { reached = kept k; printed = stays } in (
        ends_there p unit.declarations IsHeld stands unique all_named (record { home = root; called = x }) x held handed n answer,
        ends_back p unit.declarations IsHeld stands unique all_named (record { home = root; called = x }) x held handed n answer,
      )

pub linked_units_end_likewise : LinkedUnitsEndLikewise
linked_units_end_likewise modules root keep unit p well program x k handed n answer = end_likewise modules root keep unit p well program x k handed n answer
