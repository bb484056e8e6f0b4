-- Modules are taken in, one by one.
use Rattle.std.proofs.Common.{◌≡◌, refl, sym, ap, ◌∙◌, subst, ℕ, zero, suc, ◌+◌, ◌<◌, ◌≤◌, ◌⊎◌, inl, inr, List, [], ◌∷◌, ◌++◌, length, length-append, Option, Some, None, Bool, true, false, is_some, arith}
use Rattle.std.specs.Prelude.{slice_get, replicate, unwrap_or, Vec}
use Rattle.std.specs.List.{Contains}
use Rattle.std.specs.declared.alloc.Global.{Global}
use Rattle.wgsl_base.proofs.Members.{in_none}
use Rattle.wesl_chains.specs.Outlines.{Name, Path, Symbol, Finder}
use Rattle.wesl_chains.specs.Reaching.{Reached, begins, a_directive}
use Rattle.wesl_chains.proofs.Loops.{same_some}
use Rattle.wesl_mark.specs.declared.place.Place.{Place}
use Rattle.wesl_mark.specs.declared.place.Kind.TheVariants.{Directive}
use Rattle.wesl_module_index.specs.declared.module.Module.{Module}
use Rattle.wesl_module_index.specs.declared.target.ImportItem.{ImportItem}
use Rattle.wesl_module_index.specs.declared.modules.Modules.{Modules}
use Rattle.wesl_module_index.specs.Tables.{kind_said, import_said}
use Rattle.wesl_module_index.specs.Loaded.{AreTabled}
use Rattle.std.specs.Option.{option_map}
use Rattle.wesl_name_resolution.specs.declared.denote.Via.{Via}
use Rattle.wesl_name_resolution.specs.Links.{symbol_via, published_symbol, import_in}
use Rattle.wesl_reachability.specs.declared.chains.Chains.{Chains}
use Rattle.wesl_reachability.specs.declared.chains.State.{State}
use Rattle.wesl_reachability.specs.declared.chains.State.TheVariants.{New, Met, Passed}
use Rattle.wesl_reachability.specs.declared.closing.Closing.{Closing}
use Rattle.wesl_reachability.specs.declared.holding.Holding.{Holding}
use Rattle.wesl_reachability.specs.Cells.{Rows, cell, HasRoom, IsSet}
use Rattle.wesl_reachability.specs.Holding.{spot_of, Holds, IsPassed, StandsAt}
use Rattle.wesl_reachability.specs.Joining.{state_at, onward_of, list_of, before_at}
use Rattle.wesl_reachability.specs.Asking.{Waiting, waiting}
use Rattle.wesl_reachability.specs.Searching.{AreDeclared, is_met, is_known, IsKnown, IsGone, Linked, Searched}
use Rattle.wesl_reachability.specs.Held.{HoldsAt}
use Rattle.wesl_reachability.specs.Sound.{AreApart, Sound, IsSound}
use Rattle.wesl_reachability.specs.Closing.{IsOpen}
use Rattle.wesl_reachability.specs.Taking.{TakesModule, HasTakenAt, HasRows, HasTaken, HasTakenAll}
use Rattle.wesl_reachability.proofs.Cells.{get_push}
use Rattle.wesl_reachability.proofs.Follows.{some_before}
use Rattle.wesl_reachability.proofs.Sound.{stood}

-- ---- a row more

pub cell_keeps : {X : Type 0} (rows : Rows X) (row : Vec X Global) (m k : ℕ) (y : X) → cell rows m k ≡ Some y → cell (rows ++ row ∷ []) m k ≡ Some y
cell_keeps [] row m k y is = absurd (cc)
cell_keeps (r ∷ rows) row zero k y is = is
cell_keeps (r ∷ rows) row (suc m) k y is = cell_keeps rows row m k y is

pub cell_or : {X : Type 0} (rows : Rows X) (row : Vec X Global) (m k : ℕ) (y : X) → cell (rows ++ row ∷ []) m k ≡ Some y → (cell rows m k ≡ Some y) ⊎ ((m ≡ length rows) × (slice_get row.items k ≡ Some y))
cell_or [] row zero k y is = inr (refl, is)
cell_or [] row (suc m) k y is = absurd (cc)
cell_or (r ∷ rows) row zero k y is = inl is
cell_or (r ∷ rows) row (suc m) k y is = elim (cell_or rows row m k y is) [ inl e ↦ inl e | inr e ↦ inr (ap suc e.0, e.1) ]

pub cell_last : {X : Type 0} (rows : Rows X) (row : Vec X Global) (k : ℕ) → cell (rows ++ row ∷ []) (length rows) k ≡ slice_get row.items k
cell_last [] row k = refl
cell_last (r ∷ rows) row k = cell_last rows row k

is_there : {X : Type 0} (o : Option X) → is_some o ≡ true → (y : X) × (o ≡ Some y)
is_there None e = absurd (cc)
is_there (Some y) e = (y, refl)

pub room_keeps : {X : Type 0} (rows : Rows X) (row : Vec X Global) (m k : ℕ) → HasRoom rows m k → HasRoom (rows ++ row ∷ []) m k
room_keeps rows row m k h = let y = is_there (cell rows m k) h in ap is_some (cell_keeps rows row m k y.0 y.1)

some_within : {X : Type 0} (xs : List X) (k : ℕ) → k < length xs → is_some (slice_get xs k) ≡ true
some_within [] k less = absurd (omega (arith, less))
some_within (x ∷ xs) zero less = refl
some_within (x ∷ xs) (suc k) less = some_within xs k (omega (arith, less))

pub room_last : {X : Type 0} (rows : Rows X) (row : Vec X Global) (m k : ℕ) → m ≡ length rows → k < length row.items → HasRoom (rows ++ row ∷ []) m k
room_last rows row m k e less = ap (λ n. is_some (cell (rows ++ row ∷ []) n k)) e ∙ ap is_some (cell_last rows row k) ∙ some_within row.items k less

one_more : {X : Type 0} (xs : List X) (x : X) (n : ℕ) → length xs ≡ n → length (xs ++ x ∷ []) ≡ n + 1
one_more xs x n e = let f = length-append xs (x ∷ []) in omega (arith, e, f)

length_replicate : (n : ℕ) → length (replicate n false) ≡ n
length_replicate zero = refl
length_replicate (suc n) = ap suc (length_replicate n)

never_true : (n k : ℕ) → slice_get (replicate n false) k ≡ Some true → ⊥
never_true zero k e = absurd (cc)
never_true (suc n) zero e = absurd (cc)
never_true (suc n) (suc k) e = never_true n k e

less_or : (a b : ℕ) → a < b + 1 → (a < b) ⊎ (a ≡ b)
less_or zero zero h = inr refl
less_or zero (suc b) h = inl (omega arith)
less_or (suc a) zero h = absurd (omega (arith, h))
less_or (suc a) (suc b) h = elim (less_or a b (omega (arith, h))) [ inl f ↦ inl (omega (arith, f)) | inr f ↦ inr (ap suc f) ]

-- a flag that is pushed
flag_there : (xs : List Bool) (b : Bool) (m : ℕ) → m ≡ length xs → is_some (slice_get (xs ++ b ∷ []) m) ≡ true
flag_there xs b m e = let f = length-append xs (b ∷ []) in some_within (xs ++ b ∷ []) m (omega (arith, e, f))

flag_stays : (xs : List Bool) (b : Bool) (m : ℕ) → is_some (slice_get xs m) ≡ true → is_some (slice_get (xs ++ b ∷ []) m) ≡ true
flag_stays [] b m e = absurd (cc)
flag_stays (x ∷ xs) b zero e = refl
flag_stays (x ∷ xs) b (suc m) e = flag_stays xs b m e

pub got_within : {X : Type 0} (xs : List X) (k : ℕ) → k < length xs → (x : X) × (slice_get xs k ≡ Some x)
got_within [] k less = absurd (omega (arith, less))
got_within (x ∷ xs) zero less = (x, refl)
got_within (x ∷ xs) (suc k) less = got_within xs k (omega (arith, less))

-- ---- no module

no_cell : {X : Type 0} (rows : Rows X) (m k : ℕ) (y : X) → rows ≡ [] → cell rows m k ≡ Some y → ⊥
no_cell [] m k y e f = absurd (cc)
no_cell (r ∷ rows) m k y e f = absurd (cc)

module _ (ms : List Module) (cl : Closing) (reached : cl.holding.reached.items ≡ []) (work : cl.holding.work.items ≡ []) (passed : cl.holding.passed.items ≡ []) (followed : cl.followed.items ≡ [])
    (states : cl.chains.states.items ≡ []) (befores : cl.chains.before.items ≡ []) (onwards : onward_of cl.chains ≡ []) (done : cl.done ≡ 0) (none_waits : waiting cl.asked ≡ []) (missing : cl.is_missing ≡ false) where
  pub taken_none : HasTaken ms 0 cl
  taken_none = record {
    rows = record { reached = ap length reached; passed = ap length passed; followed = ap length followed; states = ap length states; befores = ap length befores; onwards = ap length onwards };
    works = λ m k h. absurd (no_cell cl.holding.reached.items m k true reached h);
    works_only = λ s c. absurd (in_none s (subst (λ l. Contains l s) work c));
    none_passed = λ m p. let f : None ≡ Some true = ap (λ l. slice_get l m) (sym passed) ∙ p in absurd (cc);
    held = λ m k h. absurd (no_cell cl.holding.reached.items m k true reached h);
    none_followed = λ m r h. no_cell cl.followed.items m r true followed h;
    none_known = λ v. ap (λ l. is_met (cell l v.«module» v.item)) states;
    no_steps = λ v w c. in_none w (subst (λ l. Contains (list_of (cell l v.«module» v.item)) w) befores c);
    alone = λ v. ap (λ l. unwrap_or (cell l v.«module» v.item) v) onwards;
    all = λ m one less. absurd (omega (arith, less));
    done = done;
    none_waits = none_waits;
    missing = missing;
  }

-- ---- a module more

module _ (ms : List Module) (n : ℕ) (one : Module) (is : slice_get ms n ≡ Some one) (old new : Closing) (t : HasTaken ms n old) (a : TakesModule n one old new) where
  held_before : (m k : ℕ) → Holds a.mid m k → Holds old.holding m k
  held_before m k h = elim (cell_or old.holding.reached.items a.taken.row m k true (subst (λ l. cell l m k ≡ Some true) a.taken.reached h)) [
    | inl e ↦ e
    | inr e ↦ absurd (never_true (length one.places.items) k (subst (λ l. slice_get l k ≡ Some true) a.taken.unset e.1))
  ]

  held_still : (m k : ℕ) → Holds old.holding m k → Holds a.mid m k
  held_still m k h = subst (λ l. cell l m k ≡ Some true) (sym a.taken.reached) (cell_keeps old.holding.reached.items a.taken.row m k true h)

  passed_same : new.holding.passed.items ≡ old.holding.passed.items ++ false ∷ []
  passed_same = ap (λ v. v.items) a.directives.passed ∙ a.taken.passed

  reached_at : (m k : ℕ) → HasRoom (old.holding.reached.items ++ a.taken.row ∷ []) m k → HasRoom new.holding.reached.items m k
  reached_at m k h = a.directives.grows.room m k (subst (λ l. HasRoom l m k) (sym a.taken.reached) h)

  row_length : length a.taken.row.items ≡ length one.places.items
  row_length = ap length a.taken.unset ∙ length_replicate (length one.places.items)

  flags_length : length a.flags.items ≡ length one.list.references.keys
  flags_length = ap length a.unset ∙ length_replicate (length one.list.references.keys)

  before_at_m : (m : ℕ) (x : Module) → HasTakenAt old m x → HasTakenAt new m x
  before_at_m m x h = record {
    wide = subst (λ l. is_some (slice_get l m) ≡ true) (sym passed_same) (flag_stays old.holding.passed.items false m h.wide);
    places = λ k less. reached_at m k (room_keeps old.holding.reached.items a.taken.row m k (h.places k less));
    directives = λ k st. a.directives.grows.stays m k (held_still m k (h.directives k st));
    references = λ r less. subst (λ l. HasRoom l m r) (sym a.followed) (room_keeps old.followed.items a.flags m r (h.references r less));
    states = λ k less. subst (λ l. HasRoom l m k) (sym a.imports.states.1) (room_keeps old.chains.states.items a.imports.states.0 m k (h.states k less));
    befores = λ k less. subst (λ l. HasRoom l m k) (sym a.imports.before.1) (room_keeps old.chains.before.items a.imports.before.0 m k (h.befores k less));
    onwards = λ k less. subst (λ l. HasRoom l m k) (sym a.imports.links.rows) (room_keeps (onward_of old.chains) a.imports.links.row m k (h.onwards k less));
  }

  now_at : (m : ℕ) → m ≡ n → HasTakenAt new m one
  now_at m e = record {
    wide = subst (λ l. is_some (slice_get l m) ≡ true) (sym passed_same) (flag_there old.holding.passed.items false m (e ∙ sym t.rows.passed));
    places = λ k less. reached_at m k (room_last old.holding.reached.items a.taken.row m k (e ∙ sym t.rows.reached) (subst (λ l. k < l) (sym row_length) less));
    directives = λ k st. subst (λ j. Holds new.holding j k) (sym e) (a.directives.held k (some_before one.places.items k st.place st.is_there) st
        (subst (λ l. HasRoom l n k) (sym a.taken.reached) (room_last old.holding.reached.items a.taken.row n k (sym t.rows.reached) (subst (λ l. k < l) (sym row_length) (some_before one.places.items k st.place st.is_there)))));
    references = λ r less. subst (λ l. HasRoom l m r) (sym a.followed) (room_last old.followed.items a.flags m r (e ∙ sym t.rows.followed) (subst (λ l. r < l) (sym flags_length) less));
    states = λ k less. subst (λ l. HasRoom l m k) (sym a.imports.states.1) (room_last old.chains.states.items a.imports.states.0 m k (e ∙ sym t.rows.states) (subst (λ l. k < l) (sym a.imports.states.2.0) less));
    befores = λ k less. subst (λ l. HasRoom l m k) (sym a.imports.before.1) (room_last old.chains.before.items a.imports.before.0 m k (e ∙ sym t.rows.befores) (subst (λ l. k < l) (sym a.imports.before.2.0) less));
    onwards = λ k less. subst (λ l. HasRoom l m k) (sym a.imports.links.rows) (room_last (onward_of old.chains) a.imports.links.row m k (e ∙ sym t.rows.onwards) (subst (λ l. k < l) (sym a.imports.links.alone.0) less));
  }

  unknown_still : (v : Via) (o : Option State) → state_at new.chains v ≡ o → is_met o ≡ false
  unknown_still v None e = refl
  unknown_still v (Some New) e = refl
  unknown_still v (Some Met) e = elim (cell_or old.chains.states.items a.imports.states.0 v.«module» v.item Met (subst (λ l. cell l v.«module» v.item ≡ Some Met) a.imports.states.1 e)) [
    | inl f ↦ (let g : true ≡ false = ap is_met (sym f) ∙ t.none_known v in absurd (cc))
    | inr f ↦ (let g : Met ≡ New = a.imports.states.2.1 v.item Met f.1 in absurd (cc))
  ]
  unknown_still v (Some Passed) e = elim (cell_or old.chains.states.items a.imports.states.0 v.«module» v.item Passed (subst (λ l. cell l v.«module» v.item ≡ Some Passed) a.imports.states.1 e)) [
    | inl f ↦ (let g : true ≡ false = ap is_met (sym f) ∙ t.none_known v in absurd (cc))
    | inr f ↦ (let g : Passed ≡ New = a.imports.states.2.1 v.item Passed f.1 in absurd (cc))
  ]

  no_steps_still : (v w : Via) (o : Option (Vec Via Global)) → cell new.chains.before.items v.«module» v.item ≡ o → Contains (list_of o) w → ⊥
  no_steps_still v w None e c = in_none w c
  no_steps_still v w (Some x) e c = elim (cell_or old.chains.before.items a.imports.before.0 v.«module» v.item x (subst (λ l. cell l v.«module» v.item ≡ Some x) a.imports.before.1 e)) [
    | inl f ↦ t.no_steps v w (subst (λ o. Contains (list_of o) w) (sym f) c)
    | inr f ↦ in_none w (subst (λ l. Contains l w) (a.imports.before.2.1 v.item x f.1) c)
  ]

  alone_still : (v : Via) (o : Option Via) → cell (onward_of new.chains) v.«module» v.item ≡ o → unwrap_or o v ≡ v
  alone_still v None e = refl
  alone_still v (Some x) e = elim (cell_or (onward_of old.chains) a.imports.links.row v.«module» v.item x (subst (λ l. cell l v.«module» v.item ≡ Some x) a.imports.links.rows e)) [
    | inl f ↦ ap (λ o. unwrap_or o v) (sym f) ∙ t.alone v
    | inr f ↦ (let g = f.0 ∙ t.rows.onwards in a.imports.links.alone.1 v.item x f.1 ∙ (λ i. record { «module» = sym g i; item = v.item }))
  ]

  pub takes_one : HasTaken ms (n + 1) new
  takes_one = record {
    rows = record {
      reached = reached_length;
      passed = ap length passed_same ∙ one_more old.holding.passed.items false n t.rows.passed;
      followed = ap length a.followed ∙ one_more old.followed.items a.flags n t.rows.followed;
      states = ap length a.imports.states.1 ∙ one_more old.chains.states.items a.imports.states.0 n t.rows.states;
      befores = ap length a.imports.before.1 ∙ one_more old.chains.before.items a.imports.before.0 n t.rows.befores;
      onwards = ap length a.imports.links.rows ∙ one_more (onward_of old.chains) a.imports.links.row n t.rows.onwards;
    };
    works = a.directives.grows.works (λ m k h. subst (λ v. Contains v.items (spot_of m k)) (sym a.taken.work) (t.works m k (held_before m k h)));
    works_only = a.directives.grows.works_only (λ s c. held_still s.«module» s.place (t.works_only s (subst (λ v. Contains v.items s) a.taken.work c)));
    none_passed = λ m p. elim (get_push old.holding.passed.items false m true (subst (λ l. slice_get l m ≡ Some true) passed_same p)) [
      | inl e ↦ t.none_passed m e
      | inr e ↦ (let f : true ≡ false = e.1 in absurd (cc))
    ];
    held = λ m k h. elim (a.directives.only m k h) [
      | inl x ↦ t.held m k (held_before m k x)
      | inr x ↦ (one, ap (slice_get ms) x.0 ∙ is, x.1)
    ];
    none_followed = λ m r h. elim (cell_or old.followed.items a.flags m r true (subst (λ l. cell l m r ≡ Some true) a.followed h)) [
      | inl e ↦ t.none_followed m r e
      | inr e ↦ never_true (length one.list.references.keys) r (subst (λ l. slice_get l r ≡ Some true) a.unset e.1)
    ];
    none_known = λ v. unknown_still v (state_at new.chains v) refl;
    no_steps = λ v w c. no_steps_still v w (cell new.chains.before.items v.«module» v.item) refl c;
    alone = λ v. alone_still v (cell (onward_of new.chains) v.«module» v.item) refl;
    all = λ m x less there. elim (less_or m n less) [
      | inl l ↦ before_at_m m x (t.all m x l there)
      | inr e ↦ (let same : one ≡ x = same_some (sym is ∙ ap (slice_get ms) (sym e) ∙ there) in subst (λ y. HasTakenAt new m y) same (now_at m e))
    ];
    done = a.done ∙ t.done;
    none_waits = ap waiting a.asked ∙ t.none_waits;
    missing = a.missing ∙ t.missing;
  }
    where
      reached_length : length new.holding.reached.items ≡ n + 1
      reached_length = a.directives.grows.rows ∙ ap length a.taken.reached ∙ one_more old.holding.reached.items a.taken.row n t.rows.reached

-- ---- all of them

import_there : (ms : Modules) (v : Via) (s : Symbol) → symbol_via ms v ≡ Some s → (one : Module) × (slice_get ms.list.items v.«module» ≡ Some one) × (v.item < length one.items.items)
import_there ms v s e = at (slice_get ms.list.items v.«module») refl e
  where
    item_at : (one : Module) (o : Option ImportItem) → slice_get one.items.items v.item ≡ o → published_symbol (option_map (import_said one.targets.items) o) ≡ Some s → v.item < length one.items.items
    item_at one None f g = absurd (cc)
    item_at one (Some i) f g = some_before one.items.items v.item i f

    at : (o : Option Module) → slice_get ms.list.items v.«module» ≡ o → published_symbol (import_in o v.item) ≡ Some s → (one : Module) × (slice_get ms.list.items v.«module» ≡ Some one) × (v.item < length one.items.items)
    at None f g = absurd (cc)
    at (Some one) f g = (one, f, item_at one (slice_get one.items.items v.item) refl g)

module _ (ms : Modules) (cl : Closing) (t : HasTaken ms.list.items (length ms.list.items) cl) where
  not_known : (v : Via) → IsKnown cl.chains v → ⊥
  not_known v k = let f : false ≡ true = sym (t.none_known v) ∙ k in absurd (cc)

  not_gone : (v : Via) → IsGone cl.chains v → ⊥
  not_gone v g = not_known v (ap is_met g)

  not_waiting : (x : Waiting) → Contains (waiting cl.asked ++ []) x → ⊥
  not_waiting x c = in_none x (subst (λ l. Contains (l ++ []) x) t.none_waits c)

  taken_at : (m : ℕ) (one : Module) → slice_get ms.list.items m ≡ Some one → HasTakenAt cl m one
  taken_at m one is = t.all m one (some_before ms.list.items m one is) is

  searched : AreDeclared ms.list.items → (find : Finder) → AreTabled ms find → Searched ms find cl.holding cl.chains cl.followed.items (waiting cl.asked ++ [])
  searched declared find tabled = record {
    declared = declared;
    all = record { modules = λ m one is. (taken_at m one is).wide; places = λ m k one is less. (taken_at m one is).places k less };
    works = t.works;
    asserts = λ m k p is. absurd (t.none_passed m p);
    directs = λ m k one is st. (taken_at m one is).directives k st;
    linked = record {
      states = λ v s is. let x = import_there ms v s is in (taken_at v.«module» x.0 x.1).states v.item x.2;
      onwards = λ v s is. let x = import_there ms v s is in (taken_at v.«module» x.0 x.1).onwards v.item x.2;
      befores = λ v s is. let x = import_there ms v s is in (taken_at v.«module» x.0 x.1).befores v.item x.2;
      onward = λ v s is. inl (t.alone v);
      stay = λ v k. absurd (not_known v k);
      new_last = λ v e. t.alone v;
      published = λ v k. absurd (not_known v k);
      before_known = λ v w c. absurd (t.no_steps v w c);
      lasts = λ v s k e is. absurd (not_known v k);
      ended = λ v s k is. absurd (not_known v k);
      waiting = λ s v c. absurd (not_waiting (s, Some v) c);
    };
    sought = λ v s k is. absurd (not_known v k);
    closed = λ v w c g. absurd (t.no_steps v w c);
    gone = λ v g. absurd (not_gone v g);
    rooms = λ m r one is less. (taken_at m one is).references r less;
    handled = λ m r f. absurd (t.none_followed m r f);
  }

  sound : AreApart ms → (root : Path) (kept : List Name) (all_begin : Bool) → IsSound ms root kept all_begin cl []
  sound apart root kept all_begin find tabled = record {
    apart = apart;
    held = λ p k x.
        let h = t.held x.number x.place x.held in
        let s = stood ms find tabled apart cl.holding p k x in
        let same : h.0 ≡ x.table = same_some (sym h.1 ∙ x.is_module) in
        let place : h.2.place ≡ x.entry.place = same_some (sym h.2.is_there ∙ ap (λ (m : Module). slice_get m.places.items x.place) same ∙ x.entry.is_there) in
        begins (a_directive s.is_at (ap (λ (y : Place). kind_said y.kind) (sym place) ∙ ap kind_said h.2.is_kind));
    works = t.works_only;
    passed = λ p x. absurd (t.none_passed x.number x.passed);
    known = λ v k. absurd (not_known v k);
    steps = λ v w c. absurd (t.no_steps v w c);
    gone = λ v g. absurd (not_gone v g);
    rooms = λ v s is. let x = import_there ms v s is in (taken_at v.«module» x.0 x.1).befores v.item x.2;
    onward = λ v s is. inl (t.alone v);
    waiting = λ s b c. absurd (not_waiting (s, b) c);
    imports = λ s v c. absurd (not_waiting (s, Some v) c);
    missing = λ e. let f : false ≡ true = sym t.missing ∙ e in absurd (cc);
  }

  pub taken_all : HasTakenAll ms cl
  taken_all = record {
    taken = t;
    opens = λ declared. record {
      underway = λ find tabled e. searched declared find tabled;
      done = λ i s less. let f = t.done in absurd (omega (arith, less, f));
      bounded = let f = t.done in omega (arith, f);
      unloaded = λ find tabled x c. absurd (in_none x (subst (λ l. Contains l x) t.none_waits c));
    };
    sound = sound;
  }
