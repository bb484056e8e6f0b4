-- What was asked for while loading goes on.
use Rattle.std.proofs.Common.{◌≡◌, ◌≢◌, sym, ap, ◌∙◌, subst, ℕ, zero, suc, ◌+◌, ◌<◌, ◌⊎◌, inl, inr, ⊎_elim, List, [], ◌∷◌, ◌++◌, length, Some, None, Result, Ok, arith, append_assoc}
use Rattle.std.specs.Prelude.{string_bytes, slice_get}
use Rattle.std.specs.Option.{option_map}
use Rattle.std.specs.List.{Contains}
use Rattle.std.specs.String.{string_cmp}
use Rattle.std.specs.BTreeMap.{get_by_text, IsOrdered}
use Rattle.std.proofs.lemmas.List.{length-append, append-nil, map-append}
use Rattle.wgsl_path.specs.declared.path.ModulePath.{ModulePath}
use Rattle.wgsl_path.specs.Paths.{path_text}
use Rattle.core_syntax.specs.Tree.{UnitTree}
use Rattle.core_syntax.specs.declared.unit.TranslationUnit.{TranslationUnit}
use Rattle.wesl_resolve.specs.Found.{unit_of, Asked, HasAsked, AsksFor, SameAnswers}
use Rattle.wesl_resolve.specs.declared.error.ResolveError.{ResolveError}
use Rattle.core_link_spec.specs.Occurrences.{Name}
use Rattle.core_link_spec.specs.Modules.{Path, Modules}
use Rattle.core_link_spec.specs.Rounds.{Sources, AreDistinct, no_names, another}
use Rattle.core_link_spec.specs.Asks.{printed_paths, Asks, AsksAmong, asks_first, asks_next, in_this_round, in_a_later_round, onward}
use Rattle.core_scopes.proofs.ScopeLemmas.{map_get}
use Rattle.core_reach.specs.declared.rounds.Reached.{Reached}
use Rattle.core_reach.specs.Closed.{IsClosed}
use Rattle.core_reach.specs.Resolved.{LoadedModules}
use Rattle.core_reach.specs.Stages.{AskedNames}
use Rattle.core_reach.specs.Loading.{AreTabled, AreSought, paths_of, IsLoadedOne}
use Rattle.core_reach.specs.Asking.{AsksForOne, AreAskedAmong, AreAllAsked, IsAskedEnd, AreAskedBehind, AreThoseLoaded}
use Rattle.std.proofs.lemmas.List.Elements.{Contains-append_cases}
use Rattle.core_reach.proofs.LoadLemmas.{AskedEntry, texts_of, path_and_unit, listed_found, IsLoadedTo, none_loaded, one_loaded, all_are_loaded, same_all_loaded}
use Rattle.core_reach.proofs.GoesLemmas.{none, next, not_empty, all_ended, one_round, there, kept_there, root_ended}
use Rattle.wgsl_base.proofs.Members.{to_contains, from_contains}

-- ---- lists of what was asked for

pub asked_more : (before : Asked) (ps qs : List Path) (between after : Asked) → HasAsked before ps between → HasAsked between qs after → HasAsked before (ps ++ qs) after
asked_more None ps qs between after one two = two ∙ ap (option_map (λ l. l ++ qs)) one
asked_more (Some l) ps qs between after one two = two ∙ ap (option_map (λ l. l ++ qs)) one ∙ ap Some (append_assoc l ps qs)

pub nothing_more : (before after : Asked) → after ≡ before → HasAsked before [] after
nothing_more None after same = same
nothing_more (Some l) after same = same ∙ ap Some (sym (append-nil l))

pub no_member : (p : Path) → Contains [] p → ⊥
no_member p c = let at = from_contains [] p c in let e : slice_get [] at.0 ≡ Some p = at.1 in absurd (cc)

pub first_or_later : (x : Path) (xs : List Path) (y : Path) → Contains (x ∷ xs) y → (x ≡ y) ⊎ Contains xs y
first_or_later x xs y c = let at = from_contains (x ∷ xs) y c in by at.0 at.1
  where
    by : (i : ℕ) → slice_get (x ∷ xs) i ≡ Some y → (x ≡ y) ⊎ Contains xs y
    by zero e = inl (cc)
    by (suc i) e = inr (to_contains xs i y e)

pub one_member : (p q : Path) → Contains (p ∷ []) q → p ≡ q
one_member p q c = ⊎_elim (λ e. e) (λ d. absurd (no_member q d)) (first_or_later p [] q c)

-- ---- one module

-- a call that answers a unit asked for it
pub asked_it : (before : Asked) (p : Path) (unit : TranslationUnit) (after : Asked) → AsksFor before p (Ok unit) after → HasAsked before (p ∷ []) after
asked_it before p unit after asks = ⊎_elim (λ h. h) (λ refused. let e = refused.0 in absurd (cc)) asks

pub asks_for_one : (before : Asked) (n max : ℕ) (p : Path) (result : Result TranslationUnit ResolveError) (after : Asked) → n < max → AsksFor before p result after → AsksForOne before n max p after
asks_for_one before n max p result after less asks = ⊎_elim (λ h. inr (less, h)) (λ refused. inl refused.1) asks

-- ---- what is found is the same

asks_moves : (a b : Sources) (max n : ℕ) (ps : List Path) (p : Path) → SameAnswers a b → AsksAmong b max n ps p → AsksAmong a max n ps p
asks_moves a b max n ps p same (asks_first less) = asks_first less
asks_moves a b max n ps p same (asks_next {n = k} {p = q} {ps = qs} {u = u} less f d rest) = asks_next less ((same q (unit_of u)).1 f) d (asks_moves a b max (k + 1) qs p same rest)

pub among_moves : (a b : Sources) (max : ℕ) (before after : Asked) (modules : Modules) (ps these : List Path) → SameAnswers a b → AreAskedAmong b max before after modules ps these → AreAskedAmong a max before after modules ps these
among_moves a b max before after modules ps these same t = record { has = t.has; each = λ p c. asks_moves a b max (length modules) ps p same (t.each p c); once = t.once }

pub all_asked_moves : (a b : Sources) (max : ℕ) (before after : Asked) (old : LoadedModules) (modules : Modules) (asked : AskedNames) (new : LoadedModules) → SameAnswers a b
    → AreAllAsked b max before after old modules asked new → AreAllAsked a max before after old modules asked new
unfolding same_all_loaded
all_asked_moves a b max before after old modules asked new same t = record {
  loaded = same_all_loaded a b max old modules asked new same t.loaded;
  among = among_moves a b max before after modules (paths_of asked) (printed_paths t.loaded.more) same t.among;
}

-- ---- one module after another

asks_then : (sources : Sources) (max n : ℕ) (old : LoadedModules) {path : ModulePath} (p : Path) (new : LoadedModules) → IsLoadedOne sources max old path p new → n ≡ length old.entries
    → (ps : List Path) (q : Path) → AsksAmong sources max (n + 1) ps q → AsksAmong sources max n (p ∷ ps) q
asks_then sources max n old p new l same ps q rest = let less : n < max = omega (arith, same, l.within) in asks_next less l.found l.distinct rest

-- a module that a table lacks is at none of the paths of those that it has
not_listed : (now : LoadedModules) (modules : Modules) (p : Path) → AreTabled now modules → get_by_text now p ≡ None → Contains (printed_paths modules) p → ⊥
not_listed now modules p t missing c =
    let at = from_contains (printed_paths modules) p c in
    let m = map_get (λ (m : ModulePath × UnitTree). path_text m.0) modules at.0 p at.1 in
    let f = listed_found now t.ordered m.0 ((t.same m.0).0 (to_contains modules at.0 m.0 m.1)) in
    let key : f.0 ≡ p = sym (t.keyed f.0 f.1 f.2) ∙ f.1.printed ∙ ap (λ (x : ModulePath × UnitTree). path_text x.0) f.3 ∙ m.2 in
    let both : Some f.1 ≡ None = sym f.2 ∙ ap (get_by_text now) key ∙ missing in
    absurd (cc)

-- so far, and what is asked for among those that are left is asked for among all
pub record IsAskedTo (sources : Sources) (max : ℕ) (old : LoadedModules) (modules : Modules) (asked : AskedNames) (before after : Asked) (now : LoadedModules) (left : List AskedEntry) : Type 0 where
  pub to : IsLoadedTo sources max old modules asked now left
  pub asks : (p : Path) → AsksAmong sources max (length (modules ++ to.more)) (texts_of left) p → AsksAmong sources max (length modules) (paths_of asked) p
  pub among : AreAskedAmong sources max before after modules (paths_of asked) (printed_paths to.more)

pub none_asked : (sources : Sources) (max : ℕ) (old : LoadedModules) (modules : Modules) (asked : AskedNames) (before after : Asked) → after ≡ before → AreTabled old modules → AreSought old asked
    → IsOrdered string_cmp asked → IsAskedTo sources max old modules asked before after old asked.entries
unfolding none_loaded
none_asked sources max old modules asked before after same t sought ordered = record {
  to = none_loaded sources max old modules asked t sought ordered;
  asks = λ p a. subst (λ (ms : Modules). AsksAmong sources max (length ms) (paths_of asked) p) (append-nil modules) a;
  among = record {
    has = nothing_more before after same;
    each = λ p c. absurd (no_member p c);
    once = λ d. subst AreDistinct (sym (append-nil (printed_paths modules))) d;
  };
}

module _ (sources : Sources) (max : ℕ) (old : LoadedModules) (modules : Modules) (asked : AskedNames) (before between after : Asked) (now : LoadedModules) (left rest : List AskedEntry) (e : AskedEntry)
    (is : left ≡ e ∷ rest) (t : IsAskedTo sources max old modules asked before between now left) where
  abbrev p : Path
  p = string_bytes e.0

  missing : get_by_text now p ≡ None
  missing = (t.to.new 0 e (ap (λ l. slice_get l 0) is)).1

  away : Contains (printed_paths modules ++ printed_paths t.to.more) p → ⊥
  away c = not_listed now (modules ++ t.to.more) p t.to.tabled missing (subst (λ l. Contains l p) (sym (map-append (λ m. path_text m.0) modules t.to.more)) c)

  asked_here : length now.entries < max → HasAsked between (p ∷ []) after → AreAskedAmong sources max before after modules (paths_of asked) (printed_paths t.to.more ++ p ∷ [])
  asked_here less has = record {
    has = asked_more before (printed_paths t.to.more) (p ∷ []) between after t.among.has has;
    each = λ q c. ⊎_elim
        (λ before. t.among.each q before)
        (λ here.
        let room : length (modules ++ t.to.more) < max = omega (arith, t.to.tabled.many, less) in
        subst (AsksAmong sources max (length modules) (paths_of asked)) (one_member p q here)
        (t.asks p (subst (λ es. AsksAmong sources max (length (modules ++ t.to.more)) (texts_of es) p) (sym is) (asks_first room))))
        (Contains-append_cases (printed_paths t.to.more) (p ∷ []) q c);
    once = λ d. subst AreDistinct (append_assoc (printed_paths modules) (printed_paths t.to.more) (p ∷ [])) (another (t.among.once d) away);
  }

  -- the module there is refused: it was asked for, or one too many
  pub one_refused : (q : Path) → q ≡ p → AsksForOne between (length now.entries) max q after → (these : List Path) × AreAskedAmong sources max before after modules (paths_of asked) these
  one_refused q same one = ⊎_elim
      (λ nothing. (
        printed_paths t.to.more,
        record { has = subst (HasAsked before (printed_paths t.to.more)) (sym nothing) t.among.has; each = t.among.each; once = t.among.once },
      ))
      (λ asks. (printed_paths t.to.more ++ p ∷ [], asked_here asks.0 (subst (λ q. HasAsked between (q ∷ []) after) same asks.1)))
      one

  pub one_asked : (new : LoadedModules) → IsLoadedOne sources max now e.1.path (string_bytes e.0) new → (q : Path) → q ≡ p → HasAsked between (q ∷ []) after
      → IsAskedTo sources max old modules asked before after new rest
  unfolding one_loaded
  one_asked new l q same has = record {
    to = one_loaded sources max old modules asked now left rest e is t.to new l;
    asks = λ r a.
        let one = path_and_unit l.one in
        let many : length (modules ++ (t.to.more ++ one ∷ [])) ≡ length (modules ++ t.to.more) + 1 = ap length (sym (append_assoc modules t.to.more (one ∷ []))) ∙ length-append (modules ++ t.to.more) (one ∷ []) in
        t.asks r
        (subst (λ es. AsksAmong sources max (length (modules ++ t.to.more)) (texts_of es) r) (sym is)
        (asks_then sources max (length (modules ++ t.to.more)) now p new l t.to.tabled.many (texts_of rest) r
        (subst (λ n. AsksAmong sources max n (texts_of rest) r) many a)));
    among =
        let one = path_and_unit l.one in
        let these : printed_paths t.to.more ++ p ∷ [] ≡ printed_paths (t.to.more ++ one ∷ [])
        = ap (λ r. printed_paths t.to.more ++ r ∷ []) (sym l.printed) ∙ sym (map-append (λ m. path_text m.0) t.to.more (one ∷ [])) in
        subst (AreAskedAmong sources max before after modules (paths_of asked)) these (asked_here l.within (subst (λ q. HasAsked between (q ∷ []) after) same has));
  }

pub all_are_asked : (sources : Sources) (max : ℕ) (old : LoadedModules) (modules : Modules) (asked : AskedNames) (before after : Asked) (now : LoadedModules) (left : List AskedEntry)
    → left ≡ [] → IsAskedTo sources max old modules asked before after now left → AreAllAsked sources max before after old modules asked now
unfolding all_are_loaded
all_are_asked sources max old modules asked before after now left is t = record { loaded = all_are_loaded sources max old modules asked now left is t.to; among = t.among }

-- ---- the rounds

module _ (sources : Sources) (max : ℕ) (root : Path) (keep : List Name) (before between : Asked) (r : Reached) (asked : AskedNames) (n : ℕ)
    (e : IsAskedEnd sources root keep max before between r asked n) where
  pub end_asked : AreAskedBehind sources root keep max before between
  end_asked = record { behind = e.behind; has = e.has; each = e.each; once = subst AreDistinct e.are e.once }

  pub end_loaded : asked.entries ≡ [] → AreThoseLoaded sources root keep max before between
  unfolding all_ended
  end_loaded empty =
      let tables = all_ended sources max root keep r asked n e.end empty in
      record { modules = tables.modules; loaded = tables.loaded; named = tables.named; behind = e.behind; are = e.are; has = e.has }

  module _ (ordered : IsOrdered string_cmp asked) (after : Asked) where
    asked_now : (these : List Path) → AreAskedAmong sources max between after e.end.modules (paths_of asked) these → (p : Path) → Contains (e.behind ++ these) p → Asks sources root keep max p
    asked_now these a p c = ⊎_elim
        (λ earlier. e.each p earlier)
        (λ now. e.onward p (in_this_round (none sources max root keep r asked n e.end) (next sources max root keep r asked n e.end ordered) (a.each p now)))
        (Contains-append_cases e.behind these p c)

    -- these of the round were asked for, and then something is refused
    pub round_refused : (these : List Path) → AreAskedAmong sources max between after e.end.modules (paths_of asked) these → AreAskedBehind sources root keep max before after
    round_refused these a = record {
      behind = e.behind ++ these;
      has = asked_more before e.behind these between after e.has a.has;
      each = asked_now these a;
      once = subst AreDistinct (ap (λ l. l ++ these) e.are) (a.once e.once);
    }

    pub round_asked : (some : asked.entries ≢ []) (new : LoadedModules) → AreAllAsked sources max between after r.modules e.end.modules asked new → (then : Reached) (more : AskedNames)
        → then.modules ≡ new → IsClosed new root keep then.held more → IsAskedEnd sources root keep max before after then more (n + 1)
    unfolding one_round
    round_asked some new a then more same closed =
        let these = printed_paths a.loaded.more in
        let whole = map-append (λ (m : ModulePath × UnitTree). path_text m.0) e.end.modules a.loaded.more in
        record {
          end = one_round sources max root keep r asked n e.end ordered some new a.loaded then more same closed;
          behind = e.behind ++ these;
          has = asked_more before e.behind these between after e.has a.among.has;
          each = asked_now these a.among;
          are = whole ∙ ap (λ l. l ++ these) e.are;
          once = subst AreDistinct (sym whole) (a.among.once e.once);
          onward = λ p x.
              e.onward p
              (in_a_later_round (none sources max root keep r asked n e.end) (next sources max root keep r asked n e.end ordered)
              (not_empty sources max root keep r asked n e.end ordered some new a.loaded asked.entries some) a.loaded.loads x);
        }

-- ---- the root's round

module _ (sources : Sources) (max : ℕ) (root : Path) (keep : List Name) (before after : Asked) (same : after ≡ before) where
  once_alone : AreDistinct (root ∷ [])
  once_alone = another no_names (no_member root)

  -- behind the root nothing was asked for
  pub none_behind : AreAskedBehind sources root keep max before after
  none_behind = record { behind = []; has = nothing_more before after same; each = λ p c. absurd (no_member p c); once = once_alone }

  pub root_asked : (path : ModulePath) (old new : LoadedModules) (empty : old.entries ≡ []) (l : IsLoadedOne sources max old path root new) (r : Reached) (asked : AskedNames) → r.modules ≡ new
      → IsClosed new root keep r.held asked → IsAskedEnd sources root keep max before after r asked 1
  unfolding root_ended
  root_asked path old new empty l r asked is closed = record {
    end = root_ended sources max root keep path old new empty l r asked is closed;
    behind = [];
    has = nothing_more before after same;
    each = λ p c. absurd (no_member p c);
    are = ap (λ q. q ∷ []) l.printed;
    once = subst AreDistinct (ap (λ q. q ∷ []) (sym l.printed)) once_alone;
    onward = λ p a.
        onward (there sources max root keep path old new empty l) (kept_there sources max root keep path old new empty l r.held closed.kept) a;
  }
