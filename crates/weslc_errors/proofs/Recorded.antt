-- What the source map tells of the names of the linked unit.
use Rattle.std.proofs.Common.{◌≡◌, refl, sym, ap, ◌∙◌, subst, ◌⊎◌, inl, inr, ⊎_elim, List, Bool, true, false, Option, Some, None}
use Rattle.std.specs.Str.{bytes_eq}
use Rattle.std.specs.Option.{IsSome, option_map}
use Rattle.std.specs.HashMap.{get_by_text}
use Rattle.wesl_resolve.specs.SourceMaps.{decl_at}
use Rattle.wesl_resolve.specs.declared.source_map.BasicSourceMap.{BasicSourceMap}
use Rattle.core_link_spec.specs.Occurrences.{Name}
use Rattle.core_link_spec.specs.Modules.{Path, Symbol, Modules, Declares}
use Rattle.core_link_spec.specs.Names.{IsPrinted, stays, is_mangled}
use Rattle.core_link_spec.specs.Loaded.{IsClashFree}
use Rattle.core_link_spec.specs.Same.{SameModules}
use Rattle.core_scopes.proofs.ScopeLemmas.{same_name, self_name}
use Rattle.core_laws.proofs.Same.{same_turned, same_units}
use Rattle.core_laws.proofs.Moves.{reached_moves}
use Rattle.core_link.specs.Recording.{Source, Telling, source_symbol, IsHeldAs, IsSourceOf, AreTold}
use Rattle.weslc_errors.specs.Mapped.{nothing_told, TellsHeld}

-- ---- the map's declarations alone count

same_decls : (a b : BasicSourceMap) → a.decls ≡ b.decls → decl_at a ≡ decl_at b
same_decls a b e = λ k y. option_map (λ d. (d.«module», d.item)) (get_by_text (e k) y)

pub told_kept : (modules : Modules) (root : Path) (keep : List Name) (empty first last : BasicSourceMap) → ((y : Name) → decl_at empty y ≡ None) → last.decls ≡ first.decls
    → AreTold modules root keep (decl_at empty) (decl_at first) → AreTold modules root keep nothing_told (decl_at last)
told_kept modules root keep empty first last none same told =
    let before : decl_at empty ≡ nothing_told = λ k y. none y k in
    subst (λ (tell : Telling). AreTold modules root keep tell (decl_at last)) before (subst (AreTold modules root keep (decl_at empty)) (sym (same_decls last first same)) told)

-- ---- in any order of the modules

module _ (a b : Modules) (e : SameModules a b) (root : Path) (keep : List Name) where
  printed_moves : (s : Symbol) (y : Name) → IsPrinted a root s y → IsPrinted b root s y
  printed_moves _ y stays = stays
  printed_moves s _ (is_mangled {path = path} {u = u} n c p) = is_mangled n ((e (path, u)).0 c) p

  held_moves : (y : Name) (s : Symbol) → IsHeldAs a root keep y s → IsHeldAs b root keep y s
  held_moves y s h = record { reached = reached_moves a b root keep (same_units a b e) s h.reached; printed = printed_moves s y h.printed }

source_moves : (a b : Modules) → SameModules a b → (root : Path) (keep : List Name) (y : Name) (v : Source) → IsSourceOf a root keep y v → IsSourceOf b root keep y v
source_moves a b e root keep y v h = record {
  unit = h.unit;
  loaded = (e (v.0, h.unit)).0 h.loaded;
  declares = h.declares;
  held = held_moves a b e root keep y (source_symbol v) h.held;
}

told_moves : (a b : Modules) → SameModules a b → (root : Path) (keep : List Name) (old new : Telling) → AreTold a root keep old new → AreTold b root keep old new
told_moves a b e root keep old new t = record {
  held = λ y v is. ⊎_elim (λ before. inl before) (λ h. inr (source_moves a b e root keep y v h)) (t.held y v is);
  each = λ y s h. t.each y s (held_moves b a (same_turned a b e) root keep y s h);
}

-- ---- where no name is shared

not_same : (x y : Name) → bytes_eq x y ≡ false → x ≡ y → ⊥
not_same x y e same = let yes : bytes_eq x y ≡ true = subst (λ t. bytes_eq x t ≡ true) same (self_name x) in absurd (cc)

same_or_not : (s t : Symbol) → (s ≡ t) ⊎ (s ≡ t → ⊥)
same_or_not s t = by (bytes_eq s.home t.home) (bytes_eq s.name t.name) refl refl
  where
    by : (b c : Bool) → bytes_eq s.home t.home ≡ b → bytes_eq s.name t.name ≡ c → (s ≡ t) ⊎ (s ≡ t → ⊥)
    by true true e f = inl (λ k. record { home = same_name s.home t.home e k; name = same_name s.name t.name f k })
    by true false e f = inr (λ same. not_same s.name t.name f (ap (λ (x : Symbol). x.name) same))
    by false c e f = inr (λ same. not_same s.home t.home e (ap (λ (x : Symbol). x.home) same))

module _ (modules : Modules) (root : Path) (keep : List Name) (free : IsClashFree modules root keep) where
  one_held : (y : Name) (s t : Symbol) → IsHeldAs modules root keep y s → IsHeldAs modules root keep y t → s ≡ t
  one_held y s t h k =
      ⊎_elim (λ same. same)
      (λ differ. absurd (free.unshared y (record { one = s; other = t; differ = differ; one_held = h.reached; other_held = k.reached; one_printed = h.printed; other_printed = k.printed })))
      (same_or_not s t)

  some_told : (o : Option Source) → IsSome o → (v : Source) × (o ≡ Some v)
  some_told None is = absurd (cc)
  some_told (Some v) is = (v, refl)

  told_held : (tell : Telling) → AreTold modules root keep nothing_told tell → (y : Name) (v : Source) → tell y ≡ Some v → IsSourceOf modules root keep y v
  told_held tell t y v is = ⊎_elim (λ before. absurd (cc)) (λ h. h) (t.held y v is)

  tells_held : (tell : Telling) → AreTold modules root keep nothing_told tell → TellsHeld modules root keep tell
  tells_held tell t = record {
    each = λ y s h.
        let v = some_told (tell y) (t.each y s h) in
        let source = told_held tell t y v.0 v.1 in
        let same : source_symbol v.0 ≡ s = one_held y (source_symbol v.0) s source.held h in
        record {
          path = v.0.0;
          unit = source.unit;
          loaded = source.loaded;
          home = ap (λ (x : Symbol). x.home) same;
          declares = subst (λ (x : Symbol). Declares source.unit x.name) same source.declares;
          stands = v.1 ∙ ap (λ (x : Symbol). Some (v.0.0, x.name)) same;
        };
    only = told_held tell t;
  }

-- the tables tell what is held in the modules, whatever their order
pub held_told : (tables modules : Modules) → SameModules modules tables → (root : Path) (keep : List Name) → IsClashFree modules root keep → (tell : Telling)
    → AreTold tables root keep nothing_told tell → TellsHeld modules root keep tell
held_told tables modules same root keep free tell t =
    tells_held modules root keep free tell (told_moves tables modules (same_turned modules tables same) root keep nothing_told tell t)
