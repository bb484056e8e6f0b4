-- What is recorded of the modules' texts.
use Rattle.std.specs.Prelude.{slice_get, if◌then◌else◌}
use Rattle.std.specs.Option.{IsSome, is_some, option_map, option_and_then}
use Rattle.std.specs.Str.{bytes_eq}
use Rattle.std.specs.HashMap.{get_by_text}
use Rattle.std.proofs.Common.{◌≡◌, ℕ, zero, suc, ◌+◌, ◌<◌, ◌⊎◌, inl, inr, ⊎_elim, List, [], ◌∷◌, Contains, map, get_or, length, Bool, true, false, Option, Some, None, Err, Bor, refl, sym, ap, ◌∙◌, subst, arith}
use Rattle.std.proofs.lemmas.Option.{slice_get_read, slice_get_within}
use Rattle.wgsl_path.specs.Paths.{path_text}
use Rattle.wgsl_path.specs.declared.path.ModulePath.{ModulePath}
use Rattle.wesl_resolve.specs.declared.source_map.BasicSourceMap.{BasicSourceMap}
use Rattle.wesl_resolve.specs.Found.{Answer, unit_of, not_found, SameAnswers, SameTexts, TellsText}
use Rattle.wesl_resolve.specs.declared.error.ResolveError.{ResolveError}
use Rattle.wesl_resolve.specs.declared.error.ResolveError.TheVariants as resolve
use Rattle.core_scopes.proofs.ScopeLemmas.{map_get, same_name}
use Rattle.core_link_spec.specs.Rounds.{Sources}
use Rattle.core_syntax.specs.Tree.{UnitTree}
use Rattle.weslc_errors.specs.declared.error.CompileError.TheVariants.{OutOfMemory}
use Rattle.weslc_errors.specs.Told.{of_resolving}
use Rattle.wesl_resolve.specs.SourceMaps.{source_at, display_name_at, IsSet}
use Rattle.wesl_resolve.specs.declared.source_map.Source.{Source}
use Rattle.weslc_errors.specs.Mapped.{Texts, Names, HasText, HaveTexts, HasOnly, AddsOnly, IsPathOf, HasNames, HasDefault, IsFound, AreAllFound}
use Rattle.wgsl_base.proofs.Members.{to_contains, from_contains, get_map}

pub same_before : (a b c : Sources) → SameAnswers a b → SameAnswers b c → SameAnswers a c
same_before a b c one two p x = (λ h. (two p x).0 ((one p x).0 h), λ h. (one p x).1 ((two p x).1 h))

pub texts_before : (a b c : Texts) → SameTexts a b → SameTexts b c → SameTexts a c
texts_before a b c one two p x = (λ h. (two p x).0 ((one p x).0 h), λ h. (one p x).1 ((two p x).1 h))

pub text_moved : (a b : Texts) → SameTexts a b → (m : BasicSourceMap) (p : ModulePath) → HasText b m p → HasText a m p
text_moved a b same m p h = record { text = h.text; is_text = (same _ h.text).1 h.is_text; stands = h.stands }

pub text_back : (a b : Texts) → SameTexts a b → (m : BasicSourceMap) (p : ModulePath) → HasText a m p → HasText b m p
text_back a b same m p h = record { text = h.text; is_text = (same _ h.text).0 h.is_text; stands = h.stands }

at_or_before : (k i : ℕ) → k < i + 1 → (k < i) ⊎ (k ≡ i)
at_or_before k i less = grind (arith, less)

-- one more text is recorded
pub texts_more : (texts : Texts) (old new : BasicSourceMap) (ps : List (Bor ModulePath)) (i : ℕ) (item : Bor ModulePath) → i < length ps → item ≡ get_or ps i item
    → ((k : ℕ) (q : Bor ModulePath) → k < i → slice_get ps k ≡ Some q → HasText texts old q.now) → HasText texts new item.now → ((p : ModulePath) → HasText texts old p → HasText texts new p)
    → (k : ℕ) (q : Bor ModulePath) → k < i + 1 → slice_get ps k ≡ Some q → HasText texts new q.now
texts_more texts old new ps i item inside is so_far here stays k q less at = by (at_or_before k i less)
  where
    by : (k < i) ⊎ (k ≡ i) → HasText texts new q.now
    by (inl before) = stays q.now (so_far k q before at)
    by (inr same) =
        let e : slice_get ps i ≡ Some q = subst (λ j. slice_get ps j ≡ Some q) same at in
        let f : slice_get ps i ≡ Some item = slice_get_read ps (length ps) i item refl inside is in
        let s : item ≡ q = cc in
        subst (λ (b : Bor ModulePath). HasText texts new b.now) s here

pub texts_all : (texts : Texts) (m : BasicSourceMap) (ps : List (Bor ModulePath))
    → ((k : ℕ) (q : Bor ModulePath) → k < length ps → slice_get ps k ≡ Some q → HasText texts m q.now) → HaveTexts texts m (map (λ p. p.now) ps)
texts_all texts m ps each p among =
    let at = from_contains (map (λ p. p.now) ps) p among in
    let q = map_get (λ (p : Bor ModulePath). p.now) ps at.0 p at.1 in
    subst (HasText texts m) q.2 (each at.0 q.0 (slice_get_within ps at.0 q.0 q.1) q.1)

-- ---- where texts are recorded, and under which display names

first_path : (q : ModulePath) (ps : List ModulePath) → Contains (q ∷ ps) q
first_path q ps = to_contains (q ∷ ps) 0 q refl

-- one entry is set
pub adds_one : (old new : BasicSourceMap) (path : ModulePath) (text : List ℕ) → IsSet (source_at old) (path_text path) (Some text) (source_at new) → AddsOnly (path ∷ []) old new
adds_one old new path text set p some = by (bytes_eq (path_text path) p) refl
  where
    by : (b : Bool) → bytes_eq (path_text path) p ≡ b → IsSome (source_at old p) ⊎ IsPathOf (path ∷ []) p
    by true is = inr (path, first_path path [], same_name (path_text path) p is)
    by false is = inl (subst (λ (o : Option (List ℕ)). IsSome o) (set p ∙ ap (λ b. if b then Some text else source_at old p) is) some)

-- one more of a list of paths
pub adds_more : (first old new : BasicSourceMap) (ps : List (Bor ModulePath)) (i : ℕ) (item : Bor ModulePath) → i < length ps → item ≡ get_or ps i item
    → AddsOnly (map (λ p. p.now) ps) first old → AddsOnly (item.now ∷ []) old new → AddsOnly (map (λ p. p.now) ps) first new
adds_more first old new ps i item inside is before here p some = ⊎_elim
    (λ earlier. before p earlier)
    (λ now.
    let at = slice_get_read ps (length ps) i item refl inside is in
    inr (item.now, to_contains (map (λ p. p.now) ps) i item.now (get_map (λ (p : Bor ModulePath). p.now) ps i item at), ap path_text (only_one item.now now.0 now.1) ∙ now.2))
    (here p some)
  where
    only_one : (x y : ModulePath) → Contains (x ∷ []) y → x ≡ y
    only_one x y c = let at = from_contains (x ∷ []) y c in by at.0 at.1
      where
        by : (i : ℕ) → slice_get (x ∷ []) i ≡ Some y → x ≡ y
        by zero e = cc
        by (suc i) e = absurd (cc)

-- an entry is set to a text, and to the display name that its module has
pub names_more : (names : Names) (old new : BasicSourceMap) (x : List ℕ) (text : List ℕ) (name : Option (List ℕ)) → name ≡ names x → IsSet (source_at old) x (Some text) (source_at new)
    → IsSet (display_name_at old) x name (display_name_at new) → HasNames names old → HasNames names new
names_more names old new x text name is texts_set names_set before p = by (bytes_eq x p) refl
  where
    by : (b : Bool) → bytes_eq x p ≡ b → display_name_at new p ≡ (if is_some (source_at new p) then names p else None)
    by true e =
        names_set p ∙ ap (λ b. if b then name else display_name_at old p) e ∙ is ∙ ap names (same_name x p e)
        ∙ sym (ap (λ (o : Option (List ℕ)). if is_some o then names p else None) (texts_set p ∙ ap (λ b. if b then Some text else source_at old p) e))
    by false e =
        names_set p ∙ ap (λ b. if b then name else display_name_at old p) e ∙ before p
        ∙ sym (ap (λ (o : Option (List ℕ)). if is_some o then names p else None) (texts_set p ∙ ap (λ b. if b then Some text else source_at old p) e))

-- an empty map has no names, and none but the paths at which texts were added to it have texts
pub no_names : (names : Names) (empty : BasicSourceMap) → ((p : List ℕ) → source_at empty p ≡ None) → HasNames names empty
no_names names empty none p = by (get_by_text empty.sources p) (none p)
  where
    by : (o : Option Source) → option_map (λ s. s.text) o ≡ None → option_and_then (λ s. s.display_name) o ≡ (if is_some (option_map (λ s. s.text) o) then names p else None)
    by None is = refl
    by (Some s) is = absurd (cc)

none_there : (o : Option (List ℕ)) → o ≡ None → IsSome o → ⊥
none_there None is some = absurd (cc)
none_there (Some text) is some = absurd (cc)

pub only_added : (empty first last : BasicSourceMap) (paths : List ModulePath) → ((p : List ℕ) → source_at empty p ≡ None) → first.sources ≡ empty.sources → AddsOnly paths first last → HasOnly last paths
only_added empty first last paths none same adds p some = ⊎_elim
    (λ before. absurd (none_there (source_at first p) (ap (λ m. option_map (λ s. s.text) (get_by_text m p)) same ∙ none p) before))
    (λ there. there)
    (adds p some)

-- only the texts and names count
pub names_kept : (names : Names) (old new : BasicSourceMap) → new.sources ≡ old.sources → HasNames names old → HasNames names new
names_kept names old new same has p =
    subst (λ sources. option_and_then (λ s. s.display_name) (get_by_text sources p) ≡ (if is_some (option_map (λ s. s.text) (get_by_text sources p)) then names p else None)) (sym same) (has p)

pub only_kept : (old new : BasicSourceMap) (paths : List ModulePath) → new.sources ≡ old.sources → HasOnly old paths → HasOnly new paths
only_kept old new paths same only p some = only p (subst (λ sources. IsSome (option_map (λ s. s.text) (get_by_text sources p))) same some)

-- a path of the list is found
pub found_item : (found : Sources) (ps : List (Bor ModulePath)) (i : ℕ) (item : Bor ModulePath) → i < length ps → item ≡ get_or ps i item
    → AreAllFound found (map (λ p. p.now) ps) → IsFound found (path_text item.now)
found_item found ps i item inside is all =
    let at = slice_get_read ps (length ps) i item refl inside is in
    all item.now (to_contains (map (λ p. p.now) ps) i item.now (get_map (λ (p : Bor ModulePath). p.now) ps i item at))

pub found_moved : (a b : Sources) → SameAnswers a b → (p : List ℕ) → IsFound a p → IsFound b p
found_moved a b same p f = (f.0, (same p _).0 f.1)

-- where a unit is found, a text is refused for want of memory alone
pub refused_for_memory : (found : Answer → Type 0) (texts : List ℕ → Type 0) (path : ModulePath) (u : UnitTree) → found (unit_of u)
    → ((a b : Answer) → found a → found b → a ≡ b) → (e : ResolveError) → TellsText found texts path (Err e) → of_resolving e ≡ OutOfMemory
refused_for_memory found texts path u is one resolve.OutOfMemory told = refl
refused_for_memory found texts path u is one (resolve.ModuleNotFound p) told = let same : unit_of u ≡ not_found = one (unit_of u) not_found is told.1 in absurd (cc)
refused_for_memory found texts path u is one (resolve.Syntax p f) told = absurd told
refused_for_memory found texts path u is one (resolve.GaveUp p f) told = absurd told
refused_for_memory found texts path u is one (resolve.Unsupported p) told = absurd told

-- another default text leaves the modules' texts
pub text_kept : (texts : Texts) (old new : BasicSourceMap) (text : List ℕ) → new ≡ record old { default_source = Some text } → (p : ModulePath) → HasText texts old p → HasText texts new p
text_kept texts old new text is p h =
    let kept : HasText texts (record old { default_source = Some text }) p = record { text = h.text; is_text = h.is_text; stands = h.stands } in
    subst (λ m. HasText texts m p) (sym is) kept

pub default_moved : (a b : Texts) → SameTexts a b → (root : List ℕ) (m : BasicSourceMap) → HasDefault b root m → HasDefault a root m
default_moved a b same root m h = record { text = h.text; is_text = (same root h.text).1 h.is_text; stands = h.stands }
