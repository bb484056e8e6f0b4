-- References are followed.
use Rattle.std.proofs.Common.{◌≡◌, refl, sym, ap, ◌∙◌, subst, ℕ, zero, suc, ◌+◌, ◌<◌, ◌≤◌, ◌⊎◌, inl, inr, List, [], ◌∷◌, ◌++◌, length, take, Option, Some, None, Bool, true, false, is_some, arith}
use Rattle.std.specs.Prelude.{slice_get, get_or, Vec}
use Rattle.wgsl_path.specs.Paths.{path_text}
use Rattle.std.specs.List.{Contains}
use Rattle.std.specs.declared.alloc.Global.{Global}
use Rattle.std.proofs.lemmas.List.{append-nil}
use Rattle.std.proofs.lemmas.List.Elements.{Contains-push_cases}
use Rattle.wgsl_base.proofs.Members.{first_in, later_in, in_none}
use Rattle.wesl_chains.specs.Outlines.{Name, Path, Symbol, Use, Outline, Finder}
use Rattle.wesl_chains.specs.Senses.{Sense, own, imported, bare, free, sense}
use Rattle.wesl_chains.specs.Chains.{unknown, next, outcome_at, declared_at, here, comes_to, by_item}
use Rattle.wesl_chains.specs.Chains as outcome
use Rattle.wesl_chains.specs.Reaching.{IsAsked}
use Rattle.wesl_chains.proofs.Loops.{same_some}
use Rattle.wesl_module_index.specs.declared.module.Module.{Module}
use Rattle.wesl_module_index.specs.declared.module.ReferenceTarget.{ReferenceTarget}
use Rattle.wesl_module_index.specs.declared.module.ReferenceTarget.TheVariants as target
use Rattle.wesl_module_index.specs.declared.modules.Modules.{Modules}
use Rattle.wesl_module_index.specs.declared.modules.DeclarationId.{DeclarationId}
use Rattle.wesl_module_index.specs.Loaded.{home_of, place_at, AreTabled, IsUse}
use Rattle.wesl_name_resolution.specs.declared.denote.Denoted.{Denoted}
use Rattle.wesl_name_resolution.specs.declared.denote.Denoted.TheVariants as denoted
use Rattle.wesl_name_resolution.specs.Links.{symbol_of, sought_in, declared_in, outcome_of, Beginning, known, seeks, begins, IsBegunAs}
use Rattle.wesl_name_resolution.specs.declared.denote.Start.TheVariants as start
use Rattle.wesl_reachability.specs.declared.closing.Closing.{Closing}
use Rattle.wesl_reachability.specs.declared.holding.Holding.{Holding}
use Rattle.wesl_reachability.specs.Cells.{Rows, cell, IsSet, HasRoom, Sets}
use Rattle.wesl_reachability.specs.Holding.{Holds, IsPassed, Grows, HasAll, Asserts, Arrives}
use Rattle.wesl_reachability.specs.Asking.{Waiting, waiting}
use Rattle.wesl_reachability.specs.Searching.{IsHandled, Searched}
use Rattle.wesl_reachability.specs.Held.{AreUnloaded, HoldsAt, IsPassedAt, HoldsAll}
use Rattle.wesl_reachability.specs.Uses.{uses_in}
use Rattle.wesl_reachability.specs.Sound.{Comes, RefusesSome, IsReference, Sound, IsSound, KeepsSound}
use Rattle.wesl_reachability.specs.Closing.{ClosesExactly, LacksOne, IsUnderway, Keeps, Seeks, FollowsOne, ArrivesAlone, EndsAs, KeepsFlags, Searches, AreFollowed, IsFollowed, AreDone, IsClosed, IsOpen, ReachesMore}
use Rattle.wesl_reachability.proofs.Cells.{cell_now, some_put, kept_set, kept_room, set_there, same_cells}
use Rattle.wesl_reachability.proofs.Held.{grows_same, grows_then}
use Rattle.wesl_reachability.proofs.Linking.{adds_at}
use Rattle.wesl_reachability.proofs.Searching.{Moves, searched_on, handled_on}
use Rattle.wesl_reachability.proofs.Arriving.{arrives_grows, arrives_asserts, arrives_there, searched_asks, searched_flags, searched_same_flags, handled_seeks, handled_declared, handled_free, handled_unloaded}
use Rattle.wesl_reachability.proofs.Reaching.{holds_all}
use Rattle.wesl_reachability.proofs.Sound.{own_reached, bare_refused, place_references, sound_waits, sound_more, sound_missing, sound_arrives, sound_same}

-- what begins so
begins_seeks : (p : Path) (s : Symbol) (x : Sense) → seeks s ≡ begins p x → x ≡ imported s
begins_seeks p s (own k) e = absurd (cc)
begins_seeks p s (imported t) e = let f : s ≡ t = cc in ap imported (sym f)
begins_seeks p s (bare x) e = absurd (cc)
begins_seeks p s free e = absurd (cc)

begins_declared : (p q : Path) (k : ℕ) (x : Sense) → known (Some (declared_at q k)) ≡ begins p x → x ≡ own k
begins_declared p q k (own j) e = let f : k ≡ j = cc in ap own (sym f)
begins_declared p q k (imported t) e = absurd (cc)
begins_declared p q k (bare x) e = absurd (cc)
begins_declared p q k free e = absurd (cc)

begins_missing : (p : Path) (s : Symbol) (x : Sense) → known (Some (outcome.missing s)) ≡ begins p x → (y : Name) × (x ≡ bare y)
begins_missing p s (own k) e = absurd (cc)
begins_missing p s (imported t) e = absurd (cc)
begins_missing p s (bare x) e = (x, refl)
begins_missing p s free e = absurd (cc)

not_private : (p : Path) (s : Symbol) (x : Sense) → known (Some (outcome.private s)) ≡ begins p x → ⊥
not_private p s (own k) e = absurd (cc)
not_private p s (imported t) e = absurd (cc)
not_private p s (bare x) e = absurd (cc)
not_private p s free e = absurd (cc)

module _ (ms : Modules) (m r : ℕ) (old new : Closing) where
  -- a symbol is sought
  pub follows_seeks : (s : Symbol) → ((find : Finder) → AreTabled ms find → (p : Path) (o : Outline) (u : Use) → IsUse ms find m r p o u → seeks s ≡ begins p (sense o u)) → Seeks ms (s, None) [] old new → FollowsOne ms m r old new
  follows_seeks s starts k = record {
    keeps = k.keeps;
    followed = λ flags now rest sets u. k.sought now rest (λ find t e.
        let w = waiting old.asked ++ (s, None) ∷ rest in
        let a = adds_at (waiting old.asked) rest (s, None) in
        searched_flags ms find old.holding old.chains flags now w m r sets (handled_seeks ms find old.holding old.chains w m r (seeks s) (starts find t) s refl a.there)
        (searched_asks ms find flags old.holding old.chains s (waiting old.asked ++ rest) w a (u find t e)));
    sound = λ root kept all_begin used u. k.sound root kept all_begin [] (λ find t.
        let d = used find t in
        let w = waiting old.asked in
        let comes : Comes find root kept all_begin s = record {
          home = d.path;
          outline = d.outline;
          occurring = d.occurring;
          used = d.used;
          first = s;
          is_meant = begins_seeks d.path s (sense d.outline d.occurring) (starts find t d.path d.outline d.occurring d.is_use);
          passed = [];
          chain = here;
        } in
        let a = sound_more ms find t root kept all_begin old.holding old.chains old.is_missing (w ++ []) (u find t) s comes in
        sound_waits ms find t root kept all_begin old.holding old.chains old.is_missing ((s, None) ∷ (w ++ [])) a (w ++ (s, None) ∷ [])
        (λ x c. elim ((adds_at w [] (s, None)).back x c) [
          | inl e ↦ subst (λ y. Contains ((s, None) ∷ (w ++ [])) y) (sym e) (first_in (s, None) (w ++ []))
          | inr y ↦ later_in x (s, None) (w ++ []) y
        ]));
  }

  -- nothing is to be reached
  follows_none : new ≡ old → ((find : Finder) → AreTabled ms find → (waits : List Waiting) → IsHandled ms find old.holding old.chains waits m r) → FollowsOne ms m r old new
  follows_none same handled = subst (λ x. FollowsOne ms m r old x) (sym same) (record {
    keeps = record { holding = grows_same old.holding; followed = refl; missing = λ e. e; unloaded = λ find t u. u };
    followed = λ flags now rest sets u find t e. searched_flags ms find old.holding old.chains flags now (waiting old.asked ++ rest) m r sets (handled find t (waiting old.asked ++ rest)) (u find t e);
    sound = λ root kept all_begin used u. u;
  })

  sought_module : (g : ReferenceTarget) → sought_in (slice_get ms.list.items m) r ≡ Some g → (one : Module) × (slice_get ms.list.items m ≡ Some one) × (slice_get one.sought.items r ≡ Some g)
  sought_module g is = at (slice_get ms.list.items m) refl is
    where
      at : (o : Option Module) → slice_get ms.list.items m ≡ o → sought_in o r ≡ Some g → (one : Module) × (slice_get ms.list.items m ≡ Some one) × (slice_get one.sought.items r ≡ Some g)
      at None e f = absurd (cc)
      at (Some one) e f = (one, e, f)

  -- a declaration is known at once
  follows_declared : (spot : DeclarationId) → ((find : Finder) → AreTabled ms find → (p : Path) (o : Outline) (u : Use) → IsUse ms find m r p o u → known (declared_in (place_at ms spot) (home_of ms spot.«module»)) ≡ begins p (sense o u))
      → spot.«module» ≡ m → sought_in (slice_get ms.list.items m) r ≡ Some (target.Declared spot.place) → ArrivesAlone ms spot old new → Keeps ms old new → FollowsOne ms m r old new
  follows_declared spot starts same is a k = record {
    keeps = k;
    followed = λ flags now rest sets u find t e.
        let w = waiting old.asked ++ rest in
        let x = u find t (k.missing e) in
        let grows = arrives_grows ms spot old.holding new.holding a.arrives in
        let moves : Moves ms find old.holding old.chains w new.holding old.chains w = record { grows = grows; known = λ v z. z; gone = λ v z. z; before = λ v y z. z; waits_or = λ y z q. inl q } in
        let y = searched_on ms find old.holding new.holding old.chains old.chains w w moves flags x (arrives_asserts ms spot old.holding new.holding a.arrives x.all x.asserts) x.linked (λ v z q f. inl q) x.closed (λ v g. grows.keeps v.«module» (x.gone v g)) in
        let one = sought_module (target.Declared spot.place) is in
        let there : slice_get ms.list.items spot.«module» ≡ Some one.0 = ap (slice_get ms.list.items) same ∙ one.1 in
        let h = arrives_there ms spot old.holding new.holding a.arrives x.all one.0 there (x.declared.targets m r spot.place one.0 one.1 one.2) in
        subst (λ c. Searched ms find new.holding c now (waiting new.asked ++ rest)) (sym a.chains)
        (subst (λ z. Searched ms find new.holding old.chains now (waiting z ++ rest)) (sym a.asked)
        (searched_flags ms find new.holding old.chains flags now w m r sets
        (handled_declared ms find new.holding old.chains w m r (known (declared_in (place_at ms spot) (home_of ms spot.«module»))) (starts find t) spot (home_of ms spot.«module») refl same is h.0 h.1) y));
    sound = λ root kept all_begin used u find t.
        let d = used find t in
        let w = waiting old.asked ++ [] in
        let home : home_of ms spot.«module» ≡ Some d.path = ap (home_of ms) same ∙ ms.keyed d.path m d.is_use.is_numbered in
        let meant = begins_declared d.path d.path (place_at ms spot) (sense d.outline d.occurring)
        (ap (λ q. known (declared_in (place_at ms spot) q)) (sym home) ∙ starts find t d.path d.outline d.occurring d.is_use) in
        let there = own_reached ms find t root kept all_begin d.path d.outline d.occurring (place_at ms spot) d.used meant in
        let b = sound_arrives ms find t root kept all_begin old.holding old.chains old.is_missing w (u find t) spot new.holding a.arrives d.path (d.is_use.is_numbered ∙ ap Some (sym same)) there.0 there.1 in
        subst (λ x. Sound ms find root kept all_begin new.holding new.chains new.is_missing (waiting x ++ [])) (sym a.asked)
        (sound_same ms find t root kept all_begin new.holding new.holding old.chains new.chains old.is_missing new.is_missing w refl a.chains a.missing b);
  }

  follows_missing : LacksOne old new
      → ((find : Finder) → AreTabled ms find → (root : Path) (kept : List Name) (all_begin : Bool) → IsReference find root kept all_begin ms m r → RefusesSome find root kept all_begin) → Keeps ms old new → FollowsOne ms m r old new
  follows_missing l refuses k = record {
    keeps = k;
    followed = λ flags now rest sets u find t e. let f : true ≡ false = sym l.missing ∙ e in absurd (cc);
    sound = λ root kept all_begin used u find t.
        let w = waiting old.asked ++ [] in
        let b = sound_missing ms find t root kept all_begin old.holding old.chains old.is_missing w (u find t) (refuses find t root kept all_begin (used find t)) in
        subst (λ x. Sound ms find root kept all_begin new.holding new.chains new.is_missing (waiting x ++ [])) (sym l.asked)
        (sound_same ms find t root kept all_begin old.holding new.holding old.chains new.chains true new.is_missing w l.holding l.chains l.missing b);
  }

  pub follows_ends : (d : Denoted) → ((find : Finder) → AreTabled ms find → (p : Path) (o : Outline) (u : Use) → IsUse ms find m r p o u → known (outcome_of ms d) ≡ begins p (sense o u)) → IsBegunAs ms m r (start.Ends d) → EndsAs ms d old new → Keeps ms old new
      → FollowsOne ms m r old new
  follows_ends (denoted.Declared spot) starts is e k = follows_declared spot starts is.0 is.1 e k
  follows_ends (denoted.Unloaded link) starts is e k = follows_none e (λ find t waits. handled_unloaded ms find old.holding old.chains waits m r (outcome_known (denoted.Unloaded link)) (starts find t) (symbol_of link) refl)
    where
      outcome_known : Denoted → Beginning
      outcome_known d = known (outcome_of ms d)
  follows_ends (denoted.Missing path name) starts is e k = follows_missing e (λ find t root kept all_begin d.
      let y = begins_missing d.path (record { home = path_text path.now; name = name.now }) (sense d.outline d.occurring) (starts find t d.path d.outline d.occurring d.is_use) in
      bare_refused ms find t root kept all_begin d.path d.outline d.occurring y.0 d.used y.1) k
  follows_ends (denoted.Private path name) starts is e k = follows_missing e (λ find t root kept all_begin d.
      absurd (not_private d.path (record { home = path_text path.now; name = name.now }) (sense d.outline d.occurring) (starts find t d.path d.outline d.occurring d.is_use))) k
  follows_ends denoted.Free starts is e k = follows_none e (λ find t waits. handled_free ms find old.holding old.chains waits m r (known None) (starts find t) refl)

-- ---- searching on

pub searches_same : (ms : Modules) (cl : Closing) → Searches ms cl cl
searches_same ms cl = record { keeps = record { holding = grows_same cl.holding; set = λ m r x. x; room = λ m r. refl; missing = λ e. e; unloaded = λ find t u. u }; underway = λ rest u. u }

pub searches_then : (ms : Modules) (a b c : Closing) → Searches ms a b → Searches ms b c → Searches ms a c
searches_then ms a b c x y = record {
  keeps = record {
    holding = grows_then x.keeps.holding y.keeps.holding;
    set = λ m r z. y.keeps.set m r (x.keeps.set m r z);
    room = λ m r. y.keeps.room m r ∙ x.keeps.room m r;
    missing = λ e. x.keeps.missing (y.keeps.missing e);
    unloaded = λ find t u. y.keeps.unloaded find t (x.keeps.unloaded find t u);
  };
  underway = λ rest u. y.underway rest (x.underway rest u);
}

-- ---- references, one by one

pub followed_none : (flags : Rows Bool) (m : ℕ) → AreFollowed flags m []
followed_none flags m r c = absurd (in_none r c)

pub followed_more : (flags now : Rows Bool) (m : ℕ) (xs : List ℕ) (x : ℕ) → AreFollowed flags m xs → ((r : ℕ) → IsSet flags m r → IsSet now m r) → ((r : ℕ) → is_some (cell now m r) ≡ is_some (cell flags m r)) → (HasRoom flags m x → IsSet now m x)
    → AreFollowed now m (xs ++ x ∷ [])
followed_more flags now m xs x a keeps room one r c h = elim (Contains-push_cases xs x r c) [
  | inl d ↦ keeps r (a r d (sym (room r) ∙ h))
  | inr e ↦ subst (λ y. IsSet now m y) e (one (sym (room x) ∙ subst (λ y. HasRoom now m y) (sym e) h))
]

-- ---- a reference is followed

-- where only flags of references change, what is sound stays so
pub sound_moved : (ms : Modules) (old new : Closing) → new.holding ≡ old.holding → new.chains ≡ old.chains → new.asked ≡ old.asked → new.is_missing ≡ old.is_missing → KeepsSound ms old new
sound_moved ms old new holding chains asked missing root kept all_begin u find t =
    subst (λ x. Sound ms find root kept all_begin new.holding new.chains new.is_missing (waiting x ++ [])) (sym asked)
    (sound_same ms find t root kept all_begin old.holding new.holding old.chains new.chains old.is_missing new.is_missing (waiting old.asked ++ []) holding chains missing (u find t))

-- its flag is set first
pub searches_first : (ms : Modules) (m r : ℕ) (old mid new : Closing) → Sets old.followed.items m r mid.followed.items true → mid.holding ≡ old.holding → mid.chains ≡ old.chains → mid.asked ≡ old.asked → mid.is_missing ≡ old.is_missing
    → FollowsOne ms m r mid new → Searches ms old new × (HasRoom old.followed.items m r → IsSet new.followed.items m r)
searches_first ms m r old mid new s holding chains asked missing f =
    let same : (x : Rows Bool) → x ≡ mid.followed.items → x ≡ new.followed.items = λ x e. e ∙ sym (ap (λ v. v.items) f.keeps.followed) in (
      record {
        keeps = record {
          holding = subst (λ h. Grows h new.holding) holding f.keeps.holding;
          set = λ n j x. ap (λ v. cell v.items n j) f.keeps.followed ∙ kept_set old.followed.items m r mid.followed.items s.puts n j x;
          room = λ n j. ap (λ v. is_some (cell v.items n j)) f.keeps.followed ∙ same_room n j;
          missing = λ e. sym missing ∙ f.keeps.missing e;
          unloaded = λ find t u. f.keeps.unloaded find t (subst (λ a. AreUnloaded find (waiting a)) (sym asked) u);
        };
        underway = λ rest u. subst (λ x. IsUnderway ms new x rest) (ap (λ v. v.items) (sym f.keeps.followed))
            (f.followed old.followed.items mid.followed.items rest s (λ find t e.
            subst (λ h. Searched ms find h mid.chains old.followed.items (waiting mid.asked ++ rest)) (sym holding)
            (subst (λ c. Searched ms find old.holding c old.followed.items (waiting mid.asked ++ rest)) (sym chains)
            (subst (λ a. Searched ms find old.holding old.chains old.followed.items (waiting a ++ rest)) (sym asked) (u find t (sym missing ∙ e))))));
      },
      λ room. ap (λ v. cell v.items m r) f.keeps.followed ∙ set_there old.followed.items m r mid.followed.items s.puts room,
    )
  where
    same_room : (n j : ℕ) → is_some (cell mid.followed.items n j) ≡ is_some (cell old.followed.items n j)
    same_room n j = elim (cell_now old.followed.items m r true mid.followed.items s.puts n j) [
      | inl e ↦ ap is_some e.2 ∙ some_put true (cell old.followed.items n j)
      | inr e ↦ ap is_some e
    ]

-- it was set before, or there is none
pub searches_again : (ms : Modules) (m r : ℕ) (old new : Closing) → Sets old.followed.items m r new.followed.items false → new.holding ≡ old.holding → new.chains ≡ old.chains → new.asked ≡ old.asked → new.is_missing ≡ old.is_missing
    → Searches ms old new × (HasRoom old.followed.items m r → IsSet new.followed.items m r)
searches_again ms m r old new s holding chains asked missing = (
  record {
    keeps = record {
      holding = subst (λ h. Grows old.holding h) (sym holding) (grows_same old.holding);
      set = λ n j x. same_cells old.followed.items m r new.followed.items s n j ∙ x;
      room = λ n j. ap is_some (same_cells old.followed.items m r new.followed.items s n j);
      missing = λ e. sym missing ∙ e;
      unloaded = λ find t u. subst (λ a. AreUnloaded find (waiting a)) (sym asked) u;
    };
    underway = λ rest u find t e.
        subst (λ h. Searched ms find h new.chains new.followed.items (waiting new.asked ++ rest)) (sym holding)
        (subst (λ c. Searched ms find old.holding c new.followed.items (waiting new.asked ++ rest)) (sym chains)
        (subst (λ a. Searched ms find old.holding old.chains new.followed.items (waiting a ++ rest)) (sym asked)
        (searched_same_flags ms find old.holding old.chains old.followed.items new.followed.items (waiting old.asked ++ rest) (same_cells old.followed.items m r new.followed.items s) (u find t (sym missing ∙ e)))));
  },
  λ room. set_there old.followed.items m r new.followed.items s.puts room,
)

-- ---- places, one by one

pub done_more : (ms : Modules) (old new : Closing) (at : ℕ) (spot : DeclarationId) → AreDone ms old at → slice_get old.holding.work.items at ≡ Some spot → Searches ms old new → IsFollowed ms new.followed.items spot → AreDone ms new (at + 1)
done_more ms old new at spot d is s f i x less there = by (less_or i at less)
  where
    less_or : (a b : ℕ) → a < b + 1 → (a < b) ⊎ (a ≡ b)
    less_or zero zero h = inr refl
    less_or zero (suc b) h = inl (omega arith)
    less_or (suc a) zero h = absurd (omega (arith, h))
    less_or (suc a) (suc b) h = elim (less_or a b (omega (arith, h))) [ inl f ↦ inl (omega (arith, f)) | inr f ↦ inr (ap suc f) ]

    within : (y : DeclarationId) (j : ℕ) → slice_get old.holding.work.items at ≡ Some y → j < at → (z : DeclarationId) × (slice_get old.holding.work.items j ≡ Some z)
    within y j e l = some_below old.holding.work.items at y j e l
      where
        some_below : (xs : List DeclarationId) (n : ℕ) (y : DeclarationId) (j : ℕ) → slice_get xs n ≡ Some y → j < n → (z : DeclarationId) × (slice_get xs j ≡ Some z)
        some_below [] n y j e l = absurd (cc)
        some_below (x ∷ xs) zero y j e l = absurd (omega (arith, l))
        some_below (x ∷ xs) (suc n) y zero e l = (x, refl)
        some_below (x ∷ xs) (suc n) y (suc j) e l = some_below xs n y j e (omega (arith, l))

    by : (i < at) ⊎ (i ≡ at) → IsFollowed ms new.followed.items x
    by (inl l) =
        let z = within spot i is l in
        let same : z.0 ≡ x = same_some (sym (s.keeps.holding.behind i z.0 z.1) ∙ there) in
        λ one uses o u r c room. s.keeps.set x.«module» r (d i x l (z.1 ∙ ap Some same) one uses o u r c (sym (s.keeps.room x.«module» r) ∙ room))
    by (inr e) =
        let same : spot ≡ x = same_some (sym (s.keeps.holding.behind at spot is) ∙ ap (slice_get new.holding.work.items) (sym e) ∙ there) in
        subst (λ y. IsFollowed ms new.followed.items y) same f

-- ---- the end

pub is_closed : (ms : Modules) (old new : Closing) → Searches ms old new → (AreDone ms old old.done → AreDone ms new (length new.holding.work.items)) → new.done ≤ length new.holding.work.items → IsOpen ms old → IsClosed ms new × IsOpen ms new
is_closed ms old new s done bounded o =
    let all = done o.done in
    let under = s.underway [] o.underway in
    let unloaded = λ (find : Finder) (t : AreTabled ms find). s.keeps.unloaded find t (o.unloaded find t) in (
      λ find t e root kept all_begin begun rooted.
          holds_all ms find t new.holding new.chains new.followed.items (waiting new.asked) (subst (λ l. Searched ms find new.holding new.chains new.followed.items l) (append-nil (waiting new.asked)) (under find t e))
          (unloaded find t) (λ i n j is. all i (record { «module» = n; place = j }) (get_less new.holding.work.items i (record { «module» = n; place = j }) is) is) root kept all_begin begun rooted,
      record { underway = under; done = λ i x less there. all i x (get_less new.holding.work.items i x there) there; bounded = bounded; unloaded = unloaded },
    )
  where
    get_less : (xs : List DeclarationId) (i : ℕ) (x : DeclarationId) → slice_get xs i ≡ Some x → i < length xs
    get_less [] i x is = absurd (cc)
    get_less (y ∷ xs) zero x is = omega arith
    get_less (y ∷ xs) (suc i) x is = let h = get_less xs i x is in omega (arith, h)

-- ---- more places are reached

pub open_more : (ms : Modules) (old new : Closing) → ReachesMore old new → Grows old.holding new.holding → (HasAll ms.list.items old.holding → Asserts ms.list.items old.holding → Asserts ms.list.items new.holding) → IsOpen ms old → IsOpen ms new
open_more ms old new m grows asserts o = record {
  underway = λ find t e.
      let w = waiting old.asked ++ [] in
      let x = o.underway find t (sym m.missing ∙ e) in
      let moves : Moves ms find old.holding old.chains w new.holding old.chains w = record { grows = grows; known = λ v z. z; gone = λ v z. z; before = λ v y z. z; waits_or = λ y z q. inl q } in
      let y = searched_on ms find old.holding new.holding old.chains old.chains w w moves old.followed.items x (asserts x.all x.asserts) x.linked (λ v z q f. inl q) x.closed (λ v g. grows.keeps v.«module» (x.gone v g)) in
      subst (λ c. Searched ms find new.holding c new.followed.items (waiting new.asked ++ [])) (sym m.chains)
      (subst (λ f. Searched ms find new.holding old.chains f (waiting new.asked ++ [])) (ap (λ v. v.items) (sym m.followed))
      (subst (λ a. Searched ms find new.holding old.chains old.followed.items (waiting a ++ [])) (sym m.asked) y));
  done = λ i spot less there.
      let before : i < old.done = subst (λ n. i < n) m.done less in
      let b = o.bounded in
      let was = some_there old.holding.work.items i (omega (arith, before, b)) in
      let same : was.0 ≡ spot = same_some (sym (grows.behind i was.0 was.1) ∙ there) in
      subst (λ f. IsFollowed ms f spot) (ap (λ v. v.items) (sym m.followed)) (o.done i spot before (was.1 ∙ ap Some same));
  bounded = (let b = o.bounded in let d = m.done in let l = grows.longer in omega (arith, b, d, l));
  unloaded = λ find t. subst (λ a. AreUnloaded find (waiting a)) (sym m.asked) (o.unloaded find t);
}
  where
    some_there : (xs : List DeclarationId) (i : ℕ) → i < length xs → (x : DeclarationId) × (slice_get xs i ≡ Some x)
    some_there [] i less = absurd (omega (arith, less))
    some_there (x ∷ xs) zero less = (x, refl)
    some_there (x ∷ xs) (suc i) less = some_there xs i (omega (arith, less))

-- ---- only the count of places that were followed changes

pub searches_to : (ms : Modules) (a b c : Closing) → Searches ms a b → c.holding ≡ b.holding → c.chains ≡ b.chains → c.asked ≡ b.asked → c.followed ≡ b.followed → c.is_missing ≡ b.is_missing → Searches ms a c
searches_to ms a b c s holding chains asked followed missing = record {
  keeps = record {
    holding = subst (λ h. Grows a.holding h) (sym holding) s.keeps.holding;
    set = λ m r x. ap (λ v. cell v.items m r) followed ∙ s.keeps.set m r x;
    room = λ m r. ap (λ v. is_some (cell v.items m r)) followed ∙ s.keeps.room m r;
    missing = λ e. s.keeps.missing (sym missing ∙ e);
    unloaded = λ find t u. subst (λ x. AreUnloaded find (waiting x)) (sym asked) (s.keeps.unloaded find t u);
  };
  underway = λ rest u find t e.
      subst (λ h. Searched ms find h c.chains c.followed.items (waiting c.asked ++ rest)) (sym holding)
      (subst (λ x. Searched ms find b.holding x c.followed.items (waiting c.asked ++ rest)) (sym chains)
      (subst (λ x. Searched ms find b.holding b.chains c.followed.items (waiting x ++ rest)) (sym asked)
      (subst (λ f. Searched ms find b.holding b.chains f (waiting b.asked ++ rest)) (ap (λ v. v.items) (sym followed)) (s.underway rest u find t (sym missing ∙ e)))));
}

pub all_done : (ms : Modules) (cl : Closing) (at : ℕ) → AreDone ms cl at → length cl.holding.work.items ≤ at → AreDone ms cl (length cl.holding.work.items)
all_done ms cl at d enough i spot less there = d i spot (omega (arith, less, enough)) there

pub none_behind : {X : Type 0} (xs : List X) (i : ℕ) → slice_get xs i ≡ None → length xs ≤ i
none_behind [] i is = omega arith
none_behind (x ∷ xs) zero is = absurd (cc)
none_behind (x ∷ xs) (suc i) is = let h = none_behind xs i is in omega (arith, h)

pub some_before : {X : Type 0} (xs : List X) (i : ℕ) (x : X) → slice_get xs i ≡ Some x → i < length xs
some_before [] i x is = absurd (cc)
some_before (y ∷ xs) zero x is = omega arith
some_before (y ∷ xs) (suc i) x is = let h = some_before xs i x is in omega (arith, h)

pub asserts_same : (ms : List Module) (h now : Holding) → now.passed ≡ h.passed → Grows h now → HasAll ms h → Asserts ms h → Asserts ms now
asserts_same ms h now passed grows all a m k p is = grows.stays m k (a m k (ap (λ v. slice_get v.items m) (sym passed) ∙ p) is)

-- ---- what is reached, exactly

pub closes_exactly : (ms : Modules) (old new : Closing) → Grows old.holding new.holding → (IsOpen ms old → IsClosed ms new × IsOpen ms new) → KeepsSound ms old new → ClosesExactly ms old new
closes_exactly ms old new grows closed sound opened find t root kept all_begin u begun rooted =
    let s = sound root kept all_begin u find t in
    let c = closed opened in (
      record {
        holds = s.held;
        passes = s.passed;
        asks = λ p a. asked (a.one) (subst (λ l. Contains l a.one) (sym (append-nil (waiting new.asked))) a.is_there) p a.is_home (c.1.unloaded find t a.one a.is_there) s;
        refuses = s.missing;
      },
      λ e. c.0 find t e root kept all_begin (λ m k b. held_on (begun m k b)) (record { number = rooted.number; is_numbered = rooted.is_numbered; passed = grows.keeps rooted.number rooted.passed }),
    )
  where
    held_on : {m : Path} {k : ℕ} → HoldsAt ms old.holding m k → HoldsAt ms new.holding m k
    held_on x = record { number = x.number; place = x.place; table = x.table; is_numbered = x.is_numbered; is_module = x.is_module; entry = x.entry; at = x.at; held = grows.stays x.number x.place x.held }

    asked : (x : Waiting) → Contains (waiting new.asked ++ []) x → (p : Path) → x.0.home ≡ p → next find x.0 ≡ unknown → Sound ms find root kept all_begin new.holding new.chains new.is_missing (waiting new.asked ++ []) → IsAsked find root kept all_begin p
    asked x there p home none s =
        let c = s.waiting x.0 x.1 there in
        record {
          home = c.home;
          place = c.used.place;
          outline = c.outline;
          entry = c.used.entry;
          is_at = c.used.is_at;
          reached = c.used.reached;
          occurring = c.occurring;
          used = c.used.used;
          target = x.0;
          passed = c.passed ++ [];
          unfinished = by_item c.is_meant (comes_to c.chain (ap (outcome_at x.0) none));
          is_home = home;
        }

pub contains_at : {X : Type 0} (xs : List X) (i : ℕ) (d : X) → i < length xs → Contains xs (get_or xs i d)
contains_at [] i d less = absurd (omega (arith, less))
contains_at (x ∷ xs) zero d less = first_in x xs
contains_at (x ∷ xs) (suc i) d less = later_in (get_or xs i d) x xs (contains_at xs i d (omega (arith, less)))

-- references of a place that was reached
pub place_used : (ms : Modules) (old : Closing) (root : Path) (kept : List Name) (all_begin : Bool) (spot : DeclarationId) → Contains old.holding.work.items spot → IsSound ms root kept all_begin old []
    → (find : Finder) → AreTabled ms find → (r : ℕ) → Contains (uses_in (slice_get ms.list.items spot.«module») spot.place) r → IsReference find root kept all_begin ms spot.«module» r
place_used ms old root kept all_begin spot there u find t r c =
    let s = u find t in
    place_references ms find t root kept all_begin old.holding old.chains old.is_missing (waiting old.asked ++ []) s spot.«module» spot.place (s.works spot there) r c

pub take_all : {X : Type 0} (xs : List X) (n : ℕ) → length xs ≤ n → take n xs ≡ xs
take_all [] zero less = refl
take_all [] (suc n) less = refl
take_all (x ∷ xs) zero less = absurd (omega (arith, less))
take_all (x ∷ xs) (suc n) less = ap (λ l. x ∷ l) (take_all xs n (omega (arith, less)))
