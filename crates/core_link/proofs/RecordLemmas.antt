-- What is recorded of held symbols, and what that tells of names.
use Rattle.std.proofs.Common.{◌≡◌, refl, sym, ap, ◌∙◌, subst, ℕ, zero, suc, ◌+◌, ◌<◌, ◌≤◌, ◌⊎◌, inl, inr, ⊎_elim, List, [], ◌∷◌, ◌++◌, map, drop, length, get_or, Bool, true, false, Option, Some, None, drop-cons, add-one, Contains, slice_index_or, arith}
use Rattle.std.specs.Prelude.{if◌then◌else◌, slice_get, string_bytes}
use Rattle.std.specs.Str.{bytes_eq}
use Rattle.std.specs.String.{string_cmp}
use Rattle.std.specs.Option.{IsSome}
use Rattle.std.specs.BTreeMap.{IsOrdered}
use Rattle.std.proofs.lemmas.List.{drop_all}
use Rattle.std.proofs.lemmas.List.Elements.{Contains-append_left, Contains-append_right, Contains-append_cases}
use Rattle.wgsl_path.specs.declared.path.ModulePath.{ModulePath}
use Rattle.wgsl_path.specs.declared.span.Spanned.{Spanned}
use Rattle.core_syntax.specs.declared.declaration.GlobalDeclaration.{GlobalDeclaration}
use Rattle.core_syntax.specs.Tree.{Decl}
use Rattle.core_syntax.specs.View.{unit_tree, declaration_tree}
use Rattle.wesl_resolve.specs.SourceMaps.{IsSet}
use Rattle.core_link_spec.specs.Occurrences.{Name, declared_name}
use Rattle.core_link_spec.specs.Modules.{Path, Symbol, IsModule, Reached}
use Rattle.core_link_spec.specs.Names.{IsPrinted}
use Rattle.core_scopes.specs.Outcomes.{loaded}
use Rattle.core_scopes.specs.Tells.{StandsAt}
use Rattle.core_reach.specs.Closing.{HeldNames, held_at}
use Rattle.core_reach.specs.Resolved.{LoadedModules, modules_of, IsResolved}
use Rattle.core_link.specs.Assembling.{declaration_trees}
use Rattle.core_link.specs.Recording.{Source, Telling, source_symbol, record_of, records_among, records_in, records_of, AreRecorded, IsHeldAs, IsSourceOf, AreTold}
use Rattle.core_scopes.proofs.ScopeLemmas.{same_name, self_name}
use Rattle.core_link.proofs.LinkLemmas.{one_symbol}
use Rattle.core_link.proofs.ResolvedLemmas.{finder}
use Rattle.core_link.proofs.SharedLemmas.{Entry}
use Rattle.core_link.proofs.MeansLemmas.{standing, symbolic}
use Rattle.wgsl_base.proofs.Members.{in_cases, in_none, first_in, to_contains, get_map}

-- ---- members

-- ---- recording

pub none_recorded : (f : Telling) → AreRecorded [] f f
none_recorded f = record {
  only = λ y v e. inl e;
  each = λ y v c. absurd (in_none (y, v) c);
  stays = λ y is. is;
}

pub both_recorded : (first_part last_part : List (Name × Source)) (old mid new : Telling) → AreRecorded first_part old mid → AreRecorded last_part mid new → AreRecorded (first_part ++ last_part) old new
both_recorded first_part last_part old mid new a b = record {
  only = λ y v e.
      ⊎_elim
      (λ before. ⊎_elim (λ first. inl first) (λ c. inr (Contains-append_left first_part last_part (y, v) c)) (a.only y v before))
      (λ c. inr (Contains-append_right first_part last_part (y, v) c))
      (b.only y v e);
  each = λ y v c.
      ⊎_elim (λ first. b.stays y (a.each y v first)) (λ second. b.each y v second) (Contains-append_cases first_part last_part (y, v) c);
  stays = λ y is. b.stays y (a.stays y is);
}

pub one_recorded : (old new : Telling) (x : Name) (v : Source) → IsSet old x (Some v) new → AreRecorded ((x, v) ∷ []) old new
one_recorded old new x v set = record {
  only = λ y w e. told y w (bytes_eq x y) refl (sym (set y) ∙ e);
  each = λ y w c. ⊎_elim (λ same. here y (ap (λ (r : Name × Source). r.0) same)) (λ none. absurd (in_none (the_record y w) none)) (in_cases the_first [] (the_record y w) c);
  stays = λ y is. subst IsSome (sym (set y)) (kept y (bytes_eq x y) is);
}
  where
    the_record : Name → Source → Name × Source
    the_record y w = (y, w)

    the_first : Name × Source
    the_first = (x, v)

    told : (y : Name) (w : Source) (b : Bool) → bytes_eq x y ≡ b → (if b then Some v else old y) ≡ Some w → (old y ≡ Some w) ⊎ Contains (the_first ∷ []) (the_record y w)
    told y w true e is =
        let same : v ≡ w = cc in
        inr (subst (Contains (the_first ∷ [])) (λ k. (same_name x y e k, same k)) (first_in the_first []))
    told y w false e is = inl is

    kept : (y : Name) (b : Bool) → IsSome (old y) → IsSome (if b then Some v else old y)
    kept y true is = refl
    kept y false is = is

    here : (y : Name) → x ≡ y → IsSome (new y)
    here y same =
        let yes : bytes_eq x y ≡ true = subst (λ t. bytes_eq x t ≡ true) same (self_name x) in
        subst IsSome (sym (set y ∙ ap (λ b. if b then Some v else old y) yes)) refl

-- what is left to record gives what all gives
abbrev pub Leads : List (Name × Source) → Telling → List (Name × Source) → Telling → Type 0
Leads rest now all old = (new : Telling) → AreRecorded rest now new → AreRecorded all old new

-- ---- the declarations of a module, one more at a time

front : (ds : List (Spanned GlobalDeclaration)) (k : ℕ) (d : Spanned GlobalDeclaration) → k < length ds → d ≡ get_or ds k d → drop k ds ≡ d ∷ drop (k + 1) ds
front ds k d h is = drop-cons ds k d h ∙ ap (λ x. x ∷ drop (suc k) ds) (sym is) ∙ ap (λ n. d ∷ drop n ds) (sym (add-one k))

abbrev RestFrom : (ℕ → Option Name) → ModulePath → ℕ → List (Spanned GlobalDeclaration) → List (Name × Source)
RestFrom h p place ds = records_among h p place (declaration_trees (drop place ds))

pub record_step : (h : ℕ → Option Name) (p : ModulePath) (ds : List (Spanned GlobalDeclaration)) (place : ℕ) (d : Spanned GlobalDeclaration) (all : List (Name × Source)) (old now next : Telling)
    → place < length ds → d ≡ get_or ds place d → AreRecorded (record_of p (declaration_tree d.node) (h place)) now next
    → Leads (RestFrom h p place ds) now all old → Leads (RestFrom h p (place + 1) ds) next all old
record_step h p ds place d all old now next less is one before new rest =
    before new
    (subst (λ l. AreRecorded (records_among h p place (declaration_trees l)) now new) (sym (front ds place d less is))
    (both_recorded (record_of p (declaration_tree d.node) (h place)) (RestFrom h p (place + 1) ds) now next new one rest))

pub record_end : (h : ℕ → Option Name) (p : ModulePath) (ds : List (Spanned GlobalDeclaration)) (place : ℕ) (all : List (Name × Source)) (old now : Telling) → length ds ≤ place
    → Leads (RestFrom h p place ds) now all old → AreRecorded all old now
record_end h p ds place all old now more before =
    before now (subst (λ l. AreRecorded (records_among h p place (declaration_trees l)) now now) (sym (drop_all place ds more)) (none_recorded now))

-- ---- the modules, one more at a time

pub module_step : (held : HeldNames) (e : Entry) (es : List Entry) (all : List (Name × Source)) (old now next : Telling) → AreRecorded (records_in held e.1) now next
    → Leads (records_of held (e ∷ es)) now all old → Leads (records_of held es) next all old
module_step held e es all old now next one before new rest = before new (both_recorded (records_in held e.1) (records_of held es) now next new one rest)

-- ---- where a record comes from

record RecordAt (h : ℕ → Option Name) (p : ModulePath) (ds : List Decl) (y : Name) (v : Source) : Type 0 where
  pub place : ℕ
  pub declaration : Decl
  pub stands : slice_get ds place ≡ Some declaration
  pub is : v ≡ (p, declared_name declaration)
  pub named : h place ≡ Some y

among_in : (h : ℕ → Option Name) (p : ModulePath) (place : ℕ) (ds : List Decl) (k : ℕ) (d : Decl) (y : Name) → slice_get ds k ≡ Some d → h (place + k) ≡ Some y
    → Contains (records_among h p place ds) (y, (p, declared_name d))
among_in h p place [] k d y there is = absurd (cc)
among_in h p place (c ∷ ds) zero d y there is =
    let n : place + zero ≡ place = omega arith in
    let same : c ≡ d = cc in
    Contains-append_left (record_of p c (h place)) (records_among h p (place + 1) ds) (y, (p, declared_name d)) (own (h place) (ap h (sym n) ∙ is) same)
  where
    own : (o : Option Name) → o ≡ Some y → c ≡ d → Contains (record_of p c o) (y, (p, declared_name d))
    own None e same = absurd (cc)
    own (Some z) e same =
        let name : z ≡ y = cc in
        subst (λ (r : Name × Source). Contains ((z, (p, declared_name c)) ∷ []) r) (λ i. (name i, (p, declared_name (same i)))) (first_in (z, (p, declared_name c)) [])
among_in h p place (c ∷ ds) (suc k) d y there is =
    let n : place + suc k ≡ (place + 1) + k = omega arith in
    Contains-append_right (record_of p c (h place)) (records_among h p (place + 1) ds) (y, (p, declared_name d)) (among_in h p (place + 1) ds k d y there (ap h (sym n) ∙ is))

abbrev PlacedAfter : (ℕ → Option Name) → ModulePath → ℕ → List Decl → Name → Source → Type 0
PlacedAfter h p place ds y v = (k : ℕ) × (d : Decl) × (slice_get ds k ≡ Some d) × (v ≡ (p, declared_name d)) × (h (place + k) ≡ Some y)

in_among : (h : ℕ → Option Name) (p : ModulePath) (place : ℕ) (ds : List Decl) (y : Name) (v : Source) → Contains (records_among h p place ds) (y, v) → PlacedAfter h p place ds y v
in_among h p place [] y v c = absurd (in_none (y, v) c)
in_among h p place (d ∷ ds) y v c =
    ⊎_elim
    (λ here. own (h place) refl here)
    (λ rest.
    let r = in_among h p (place + 1) ds y v rest in
    let n : (place + 1) + r.0 ≡ place + suc r.0 = omega arith in
    (suc r.0, r.1, r.2, r.3, ap h (sym n) ∙ r.4))
    (Contains-append_cases (record_of p d (h place)) (records_among h p (place + 1) ds) (y, v) c)
  where
    own : (o : Option Name) → h place ≡ o → Contains (record_of p d o) (y, v) → PlacedAfter h p place (d ∷ ds) y v
    own None e c = absurd (in_none (y, v) c)
    own (Some z) e c =
        let n : place + zero ≡ place = omega arith in
        ⊎_elim
        (λ same. (zero, d, refl, sym (ap (λ (r : Name × Source). r.1) same), ap h n ∙ e ∙ ap (λ (r : Name × Source). Some r.0) same))
        (λ none. absurd (in_none (y, v) none))
        (in_cases (z, (p, declared_name d)) [] (y, v) c)

module _ (held : HeldNames) where
  -- a record's module
  record RecordOf (es : List Entry) (y : Name) (v : Source) : Type 0 where
    pub index : ℕ
    pub entry : Entry
    pub there : slice_get es index ≡ Some entry
    pub at : PlacedAfter (held_at held (string_bytes entry.1.printed_path)) entry.1.path 0 (unit_tree entry.1.unit).declarations y v

  of_entries : (es : List Entry) (y : Name) (v : Source) → Contains (records_of held es) (y, v) → RecordOf es y v
  of_entries [] y v c = absurd (in_none (y, v) c)
  of_entries (e ∷ es) y v c =
      ⊎_elim
      (λ here. record { index = zero; entry = e; there = refl; at = in_among (held_at held (string_bytes e.1.printed_path)) e.1.path 0 (unit_tree e.1.unit).declarations y v here })
      (λ rest. let r = of_entries es y v rest in record { index = suc r.index; entry = r.entry; there = r.there; at = r.at })
      (Contains-append_cases (records_in held e.1) (records_of held es) (y, v) c)

  in_entries : (es : List Entry) (i : ℕ) (e : Entry) (y : Name) (v : Source) → slice_get es i ≡ Some e → Contains (records_in held e.1) (y, v) → Contains (records_of held es) (y, v)
  in_entries [] i e y v there c = absurd (cc)
  in_entries (f ∷ es) zero e y v there c =
      let same : e ≡ f = cc in
      Contains-append_left (records_in held f.1) (records_of held es) (y, v) (subst (λ (g : Entry). Contains (records_in held g.1) (y, v)) same c)
  in_entries (f ∷ es) (suc i) e y v there c = Contains-append_right (records_in held f.1) (records_of held es) (y, v) (in_entries es i e y v there c)

-- ---- what the records tell

module _ (ms : LoadedModules) (root : Path) (keep : List Name) (held : HeldNames) (r : IsResolved ms root keep held) (ordered : IsOrdered string_cmp ms) where
  -- a record is of a held symbol
  of_held : (y : Name) (v : Source) → Contains (records_of held ms.entries) (y, v) → IsSourceOf (modules_of ms) root keep y v
  of_held y v c =
      let f = of_entries held ms.entries y v c in
      let m = f.entry.1 in
      let home = string_bytes m.printed_path in
      let k = f.at.0 in
      let d = f.at.1 in
      let n : 0 + k ≡ k = omega arith in
      let named : held_at held home k ≡ Some y = ap (held_at held home) (sym n) ∙ f.at.4 in
      let s = symbolic ms root keep held r ordered home k y named in
      let there = to_contains (modules_of ms) f.index (m.path, unit_tree m.unit) (get_map (λ (e : Entry). (e.1.path, unit_tree e.1.unit)) ms.entries f.index f.entry f.there) in
      let is : IsModule (modules_of ms) home (unit_tree m.unit) = record { path = m.path; stands = there; printed = sym m.printed } in
      let at : StandsAt (modules_of ms) home k (record { home = home; name = declared_name d }) = record { unit = unit_tree m.unit; declaration = d; is_module = is; stands = f.at.2; home = refl; name = refl } in
      let one : s.symbol ≡ record { home = home; name = declared_name d }
      = one_symbol (modules_of ms) (loaded ms) (finder ms r.keyed ordered) root (held_at held) r.named home k s.symbol (record { home = home; name = declared_name d }) s.at at in
      let printed : record { home = home; name = declared_name d } ≡ source_symbol (m.path, declared_name d) = ap (λ h. record { home = h; name = declared_name d }) m.printed in
      let all : s.symbol ≡ source_symbol (m.path, declared_name d) = one ∙ printed in
      let ds = (unit_tree m.unit).declarations in
      let source : IsSourceOf (modules_of ms) root keep y (m.path, declared_name d) = record {
        unit = unit_tree m.unit;
        loaded = there;
        declares = to_contains (map declared_name ds) k (declared_name d) (get_map declared_name ds k d f.at.2);
        held = record { reached = subst (Reached (modules_of ms) root keep) all s.held_there; printed = subst (λ t. IsPrinted (modules_of ms) root t y) all s.printed };
      } in
      subst (IsSourceOf (modules_of ms) root keep y) (sym f.at.3) source

  -- each held symbol has a record
  has_record : (y : Name) (s : Symbol) → IsHeldAs (modules_of ms) root keep y s → (v : Source) × Contains (records_of held ms.entries) (y, v)
  has_record y s h =
      let t = standing ms root keep held r ordered s y h.reached h.printed in
      let v : Source = (t.entry.1.path, declared_name t.named.declaration) in
      let n : 0 + t.place ≡ t.place = omega arith in (
        v,
        in_entries held ms.entries t.index t.entry y v t.there
            (among_in (held_at held (string_bytes t.entry.1.printed_path)) t.entry.1.path 0 (unit_tree t.entry.1.unit).declarations t.place t.named.declaration y t.named.stands
            (ap (held_at held (string_bytes t.entry.1.printed_path)) n ∙ t.named.named)),
      )

  pub all_told : (old new : Telling) → AreRecorded (records_of held ms.entries) old new → AreTold (modules_of ms) root keep old new
  all_told old new a = record {
    held = λ y v e. ⊎_elim (λ before. inl before) (λ c. inr (of_held y v c)) (a.only y v e);
    each = λ y s h. let f = has_record y s h in a.each y f.0 f.1;
  }
