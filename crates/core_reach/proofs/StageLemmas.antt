-- One more place that is held, and one more item that is asked for.
use Rattle.std.proofs.Common.{◌≡◌, refl, sym, ap, ◌∙◌, subst, ℕ, ◌+◌, ◌<◌, ◌≤◌, ◌⊎◌, inl, inr, ⊎_elim, List, [], ◌∷◌, ◌++◌, length, map, get_or, Bool, true, false, Option, Some, None, arith}
use Rattle.std.specs.Prelude.{if◌then◌else◌, slice_get, string_bytes, nat_eq}
use Rattle.std.specs.Str.{bytes_eq}
use Rattle.std.specs.Option.{IsSome}
use Rattle.std.specs.List.{Contains}
use Rattle.std.proofs.lemmas.Option.{slice_get_within}
use Rattle.std.proofs.lemmas.Bool.{eqb-true, eq-eqb}
use Rattle.std.proofs.lemmas.Map.Text.{btree_map_updates_text}
use Rattle.std.specs.String.{string_cmp}
use Rattle.std.specs.BTreeMap.{get_by_text, Updates}
use Rattle.std.specs.declared.string.String.{String}
use Rattle.std.specs.declared.alloc.Global.{Global}
use Rattle.core_reach.specs.declared.linking.AskedModule.{AskedModule}
use Rattle.std.proofs.lemmas.List.{map-append, append-nil}
use denote.Ref.{Bor}
use Rattle.core_syntax.specs.Tree.{Decl, UnitTree}
use Rattle.core_link_spec.specs.Occurrences.{Name, occurrences}
use Rattle.core_link_spec.specs.Modules.{Path, Symbol}
use Rattle.core_scopes.specs.declared.denote.Symbol.{Symbol as Place}
use Rattle.core_rename.specs.Scopes.{texts}
use Rattle.core_scopes.specs.Outcomes.{Loaded, outcome}
use Rattle.core_reach.specs.Closing.{HeldNames, held_at, Holds}
use Rattle.core_reach.specs.Reach.{KeepsOne, KeepsAll}
use Rattle.core_reach.specs.Following.{Stage, Handled, IsFollowed, Moves, FollowedTo}
use Rattle.core_reach.specs.Stages.{place_of, stage, AskedNames, name_asked, asks}
use Rattle.wgsl_base.proofs.Members.{same_bytes, bytes_same, from_contains, get_map, at_place}
use Rattle.core_scopes.proofs.ScopeLemmas.{map_get}
use Rattle.core_reach.proofs.ClosingLemmas.{at_default}
use Rattle.core_reach.proofs.FollowLemmas.{handled_moves}

self_place : (k : ℕ) → nat_eq k k ≡ true
self_place k = eq-eqb k k refl

last_place : (xs : List Place) (s : Place) → slice_get (map place_of (xs ++ s ∷ [])) (length (map place_of xs)) ≡ Some (place_of s)
last_place [] s = refl
last_place (x ∷ xs) s = last_place xs s

pub now_held : (old new : HeldNames) (m : Path) (k : ℕ) (name : Name) → Holds old m k name new → IsSome (held_at new m k)
now_held old new m k name holds =
    let is : held_at new m k ≡ Some name =
    holds m k ∙ ap (λ b. if b then (if nat_eq k k then Some name else held_at old m k) else held_at old m k) (bytes_same m)
    ∙ ap (λ b. if b then Some name else held_at old m k) (self_place k) in
    subst IsSome (sym is) refl

pub moves_more : (old new : HeldNames) (asked : Symbol → Bool) (missing : Bool) (xs ys : List Place) (s : Place) (name : Name)
    → Holds old (place_of s).0 (place_of s).1 name new → ys ≡ xs ++ s ∷ [] → Moves (stage old asked missing xs) (stage new asked missing ys)
moves_more old new asked missing xs ys s name holds e = record {
  stays_held = λ m k h. subst IsSome (sym (holds m k)) (stays m k (bytes_eq (place_of s).0 m) (nat_eq s.place k) h);
  stays_asked = λ t h. h;
  stays_missing = λ h. h;
  more = place_of s ∷ [];
  behind = ap (map place_of) e ∙ map-append place_of xs (s ∷ []);
  tracked = λ m k h. from m k (bytes_eq (place_of s).0 m) (nat_eq s.place k) refl refl (subst IsSome (holds m k) h);
}
  where
    stays : (m : Path) (k : ℕ) (b c : Bool) → IsSome (held_at old m k) → IsSome (if b then (if c then Some name else held_at old m k) else held_at old m k)
    stays m k true true h = refl
    stays m k true false h = h
    stays m k false c h = h

    from : (m : Path) (k : ℕ) (b c : Bool) → bytes_eq (place_of s).0 m ≡ b → nat_eq s.place k ≡ c → IsSome (if b then (if c then Some name else held_at old m k) else held_at old m k)
        → IsSome (held_at old m k) ⊎ ((i : ℕ) × (length (map place_of xs) ≤ i) × (slice_get (map place_of ys) i ≡ Some (m, k)))
    from m k true true is here h =
        let home : (place_of s).0 ≡ m = same_bytes (place_of s).0 m is in
        let there : s.place ≡ k = eqb-true s.place k here in
        inr (length (map place_of xs), omega arith, ap (λ l. slice_get (map place_of l) (length (map place_of xs))) e ∙ last_place xs s ∙ (λ j. Some (home j, there j)))
    from m k true false is here h = inl h
    from m k false c is here h = inl h

-- the occurrences below an index are handled
abbrev pub HandledBelow : Loaded → Stage → Path × UnitTree → List (Bor (List ℕ)) → ℕ → Type 0
HandledBelow find s h names n = (i : ℕ) (x : Name) → i < n → slice_get (texts names) i ≡ Some x → Handled s (outcome find h x)

pub none_below : (find : Loaded) (s : Stage) (h : Path × UnitTree) (names : List (Bor (List ℕ))) → HandledBelow find s h names 0
none_below find s h names i x less is = absurd (omega arith)

pub one_below : (find : Loaded) (s t : Stage) (h : Path × UnitTree) (names : List (Bor (List ℕ))) (n : ℕ) (x : Name) → slice_get (texts names) n ≡ Some x
    → Moves s t → HandledBelow find s h names n → Handled t (outcome find h x) → HandledBelow find t h names (n + 1)
one_below find s t h names n x is moves below now i y less there = ⊎_elim
    (λ before. handled_moves s t (outcome find h y) moves (below i y before there))
    (λ e. let both : Some x ≡ Some y = sym is ∙ ap (slice_get (texts names)) (sym e) ∙ there in let same : x ≡ y = cc in subst (λ z. Handled t (outcome find h z)) same now)
    (either i n less)
  where
    either : (i n : ℕ) → i < n + 1 → (i < n) ⊎ (i ≡ n)
    either i n h = grind arith

pub followed_below : (find : Loaded) (s : Stage) (m : Path) (k : ℕ) (h : Path × UnitTree) (d : Decl) (names : List (Bor (List ℕ))) (n : ℕ)
    → find m ≡ Some h → slice_get h.1.declarations k ≡ Some d → texts names ≡ occurrences d → length names ≤ n → HandledBelow find s h names n → IsFollowed find s m k
followed_below find s m k h d names n here there whole all below g e x is at c =
    let both : Some h ≡ Some g = sym here ∙ is in
    let same : h ≡ g = cc in
    let at_home : slice_get h.1.declarations k ≡ Some e = subst (λ (f : Path × UnitTree). slice_get f.1.declarations k ≡ Some e) (sym same) at in
    let two : Some d ≡ Some e = sym there ∙ at_home in
    let declared : d ≡ e = cc in
    let p = from_contains (occurrences d) x (subst (λ f. Contains (occurrences f) x) (sym declared) c) in
    let found : slice_get (texts names) p.0 ≡ Some x = ap (λ l. slice_get l p.0) whole ∙ p.1 in
    let inside = map_get (λ (t : Bor (List ℕ)). t.now) names p.0 x found in
    let less : p.0 < n = (let within : p.0 < length names = slice_get_within names p.0 inside.0 inside.1 in omega arith) in
    subst (λ (f : Path × UnitTree). Handled s (outcome find f x)) same (below p.0 x less found)

pub place_there : (xs ys : List Place) (at : ℕ) (x : Place) → xs ≡ ys → at < length xs → x ≡ get_or xs at x → slice_get (map place_of ys) at ≡ Some (place_of x)
place_there xs ys at x same less is = ap (λ l. slice_get (map place_of l) at) (sym same) ∙ get_map place_of xs at x (at_place xs at x less (sym is))

pub text_there : (names : List (Bor (List ℕ))) (xs : List (Bor (List ℕ))) (i : ℕ) (d : Bor (List ℕ)) → xs ≡ names → i < length xs → slice_get (texts names) i ≡ Some (get_or xs i d).now
text_there names xs i d same less =
    ap (λ l. slice_get (texts l) i) (sym same) ∙ get_map (λ (t : Bor (List ℕ)). t.now) xs i (get_or xs i d) (at_default xs i d less)

pub none_there : (find : Loaded) (s : Stage) (m : Path) (k : ℕ) (g : Path × UnitTree) → find m ≡ Some g → slice_get g.1.declarations k ≡ None → IsFollowed find s m k
none_there find s m k g here none h d x is there c =
    let both : Some g ≡ Some h = sym here ∙ is in
    let same : g ≡ h = cc in
    let two : None ≡ Some d = sym none ∙ subst (λ (f : Path × UnitTree). slice_get f.1.declarations k ≡ Some d) (sym same) there in
    absurd (cc)

-- ---- one more item that is asked for

pub asked_more : (old mid new : AskedNames) (took more : AskedModule) (key : String Global) (t x : Name)
    → ((y : Name) → name_asked (Some took) y ≡ asks old (record { home = t; name = y }))
    → ((n : Path) → get_by_text mid n ≡ (if bytes_eq t n then None else get_by_text old n))
    → ((y : Name) → name_asked (Some more) y ≡ (if bytes_eq x y then true else name_asked (Some took) y))
    → string_bytes key ≡ t → Updates string_cmp mid new key (Some more)
    → (s : Symbol) → asks new s ≡ (if bytes_eq t s.home then (if bytes_eq x s.name then true else asks old s) else asks old s)
asked_more old mid new took more key t x has others added is put s = at (bytes_eq t s.home) refl
  where
    found : (n : Path) → get_by_text new n ≡ (if bytes_eq t n then Some more else get_by_text mid n)
    found n = btree_map_updates_text (string_bytes key) mid new (Some more) put n ∙ ap (λ u. if bytes_eq u n then Some more else get_by_text mid n) is

    at : (b : Bool) → bytes_eq t s.home ≡ b → asks new s ≡ (if b then (if bytes_eq x s.name then true else asks old s) else asks old s)
    at true e =
        ap (λ o. name_asked o s.name) (found s.home ∙ ap (λ b. if b then Some more else get_by_text mid s.home) e)
        ∙ added s.name
        ∙ ap (λ u. if bytes_eq x s.name then true else u) (has s.name ∙ ap (λ h. asks old (record { home = h; name = s.name })) (same_bytes t s.home e))
    at false e =
        ap (λ o. name_asked o s.name)
        (found s.home ∙ ap (λ b. if b then Some more else get_by_text mid s.home) e ∙ others s.home ∙ ap (λ b. if b then None else get_by_text old s.home) e)

abbrev Asks : (Symbol → Bool) → (Symbol → Bool) → Symbol → Type 0
Asks old new t = (s : Symbol) → new s ≡ (if bytes_eq t.home s.home then (if bytes_eq t.name s.name then true else old s) else old s)

pub now_asked : (old new : Symbol → Bool) (t : Symbol) → Asks old new t → new t ≡ true
now_asked old new t a = a t ∙ ap (λ b. if b then (if bytes_eq t.name t.name then true else old t) else old t) (bytes_same t.home) ∙ ap (λ b. if b then true else old t) (bytes_same t.name)

pub moves_asked : (held : HeldNames) (old new : Symbol → Bool) (missing : Bool) (reached : List Place) (t : Symbol) → Asks old new t → Moves (stage held old missing reached) (stage held new missing reached)
moves_asked held old new missing reached t a = record {
  stays_held = λ m k h. h;
  stays_asked = λ s h. a s ∙ stays (bytes_eq t.home s.home) (bytes_eq t.name s.name) (old s) h;
  stays_missing = λ h. h;
  more = [];
  behind = sym (append-nil (map place_of reached));
  tracked = λ m k h. inl h;
}
  where
    stays : (b c o : Bool) → o ≡ true → (if b then (if c then true else o) else o) ≡ true
    stays true true o e = refl
    stays true false o e = e
    stays false c o e = e

-- ---- the kept names, one more at a time

abbrev pub KeptBelow : Loaded → Path → List Name → HeldNames → ℕ → Type 0
KeptBelow find root keep held n = (i : ℕ) (x : Name) → i < n → slice_get keep i ≡ Some x → KeepsOne find root x (held_at held)

pub kept_more : (find : Loaded) (root : Path) (keep : List Name) (old new : HeldNames) (n : ℕ) (x : Name) → slice_get keep n ≡ Some x
    → ((m : Path) (k : ℕ) → IsSome (held_at old m k) → IsSome (held_at new m k)) → KeptBelow find root keep old n → KeepsOne find root x (held_at new) → KeptBelow find root keep new (n + 1)
kept_more find root keep old new n x is stays below now i y less there = ⊎_elim
    (λ before. let k = below i y before there in (k.0, k.1, k.2, stays k.0 k.1 k.3))
    (λ e. let both : Some x ≡ Some y = sym is ∙ ap (slice_get keep) (sym e) ∙ there in let same : x ≡ y = cc in subst (λ z. KeepsOne find root z (held_at new)) same now)
    (either i n less)
  where
    either : (i n : ℕ) → i < n + 1 → (i < n) ⊎ (i ≡ n)
    either i n h = grind arith

pub kept_all : (find : Loaded) (root : Path) (keep : List Name) (old new : HeldNames) (n : ℕ) → length keep ≤ n
    → ((m : Path) (k : ℕ) → IsSome (held_at old m k) → IsSome (held_at new m k)) → KeptBelow find root keep old n → KeepsAll find root keep (held_at new)
kept_all find root keep old new n long stays below x c =
    let p = from_contains keep x c in
    let within : p.0 < length keep = slice_get_within keep p.0 x p.1 in
    let less : p.0 < n = omega arith in
    let k = below p.0 x less p.1 in
    (k.0, k.1, k.2, stays k.0 k.1 k.3)

pub from_nothing : (find : Loaded) (s t : Stage) → ((m : Path) (k : ℕ) → s.held m k ≡ None) → Moves s t → FollowedTo find t 0
from_nothing find s t empty moves = λ m k h. ⊎_elim
    (λ old. absurd (none_held (s.held m k) (empty m k) old))
    (λ l. inr (l.0, omega arith, l.2))
    (moves.tracked m k h)
  where
    none_held : (o : Option Name) → o ≡ None → IsSome o → ⊥
    none_held None e h = absurd (cc)
    none_held (Some y) e h = absurd (cc)
