-- What the steps of a search along a chain do to a closing.
use Rattle.std.proofs.Common.{◌≡◌, refl, sym, ap, ◌∙◌, subst, ℕ, zero, suc, ◌+◌, ◌<◌, ◌⊎◌, inl, inr, List, [], ◌∷◌, ◌++◌, length, length-append, drop, arith, append_assoc, Option, Some, None, Bool, true, false, is_some}
use Rattle.std.specs.Prelude.{slice_get, get_or}
use Rattle.std.specs.Option.{option_to_list}
use Rattle.std.specs.List.{Contains}
use Rattle.std.proofs.lemmas.List.Elements.{Contains-append_right, Contains-append_cases}
use Rattle.wgsl_base.proofs.Members.{first_in, later_in, in_cases, in_none}
use Rattle.wesl_chains.specs.Outlines.{Name, Path, Symbol, Use, Outline, Finder}
use Rattle.wesl_chains.specs.Senses.{sense}
use Rattle.wesl_chains.specs.Chains.{stands, leads, lacks, hides, unknown, next, outcome_at, Leads, here}
use Rattle.wesl_chains.proofs.Loops.{leads_more}
use Rattle.wesl_chains.specs.Chains as outcome
use Rattle.wesl_module_index.specs.declared.module.Meaning.TheVariants.{Declared, Imported}
use Rattle.wesl_module_index.specs.declared.module.ReferenceTarget.TheVariants as target
use Rattle.wesl_module_index.specs.declared.modules.Modules.{Modules}
use Rattle.wesl_module_index.specs.declared.modules.DeclarationId.{DeclarationId}
use Rattle.wesl_module_index.specs.Loaded.{home_of, place_at, AreTabled, IsUse}
use Rattle.wesl_name_resolution.specs.declared.denote.Via.{Via}
use Rattle.wesl_name_resolution.specs.Links.{symbol_via, IsMeant, sought_in, declared_in, Beginning, known, seeks, begins}
use Rattle.wesl_reachability.specs.declared.closing.Closing.{Closing}
use Rattle.wesl_reachability.specs.declared.chains.Chains.{Chains}
use Rattle.wesl_reachability.specs.declared.chains.State.{State}
use Rattle.wesl_reachability.specs.declared.chains.State.TheVariants.{New, Met, Passed}
use Rattle.wesl_reachability.specs.declared.chains.Joined.TheVariants as joined
use Rattle.wesl_reachability.specs.declared.holding.Holding.{Holding}
use Rattle.wesl_reachability.specs.Cells.{Rows, cell, Sets}
use Rattle.wesl_reachability.specs.Holding.{Grows, Arrives}
use Rattle.wesl_reachability.specs.Joining.{state_at, list_of, joined_of, Meets, StepsOn, Joins, TurnsBack, PutsState}
use Rattle.wesl_reachability.specs.Asking.{Waiting, waiting}
use Rattle.wesl_reachability.specs.Searching.{is_met, IsKnown, IsGone, Searched, Linked, IsHandled}
use Rattle.wesl_reachability.specs.Passing.{IsPassing, PassesBefore}
use Rattle.wesl_reachability.specs.Held.{AreUnloaded}
use Rattle.wesl_reachability.specs.Sound.{Arrived, Comes, RefusesSome, ComesBy, Goes, Sound, StaysSound}
use Rattle.wesl_reachability.specs.Closing.{IsUnderway, Keeps, met_or, Seeks, JoinsOn, FollowsOne, ArrivesAlone, SeeksAll}
use Rattle.wesl_reachability.proofs.Held.{grows_same, grows_then}
use Rattle.wesl_reachability.proofs.Linking.{Drops, Adds, drops_at, drops_behind, adds_at, linked_same, is_met_now, gone_before}
use Rattle.wesl_reachability.proofs.Searching.{Moves, searched_on}
use Rattle.wesl_reachability.proofs.Joining.{searched_met, searched_dropped, searched_waits, searched_passes}
use Rattle.wesl_reachability.proofs.Sound.{comes_on, comes_refused, comes_round, comes_reached, goes_back, goes_round, sound_waits, sound_missing, sound_passes, sound_arrives, sound_met, sound_meets, sound_steps, sound_turns, sound_same}
use Rattle.wesl_reachability.proofs.Arriving.{arrives_grows, searched_arrives, searched_asks, searched_flags, handled_seeks, handled_declared, handled_free, handled_unloaded}

-- ---- what was known of an import

was_new : (o : Option State) → joined_of o ≡ joined.First → o ≡ Some New
was_new None e = absurd (cc)
was_new (Some New) e = refl
was_new (Some Met) e = absurd (cc)
was_new (Some Passed) e = absurd (cc)

was_passed : (o : Option State) → joined_of o ≡ joined.Passed → o ≡ Some Passed
was_passed None e = absurd (cc)
was_passed (Some New) e = absurd (cc)
was_passed (Some Met) e = absurd (cc)
was_passed (Some Passed) e = refl

was_met : (o : Option State) → joined_of o ≡ joined.Waiting → is_some o ≡ true → o ≡ Some Met
was_met None e r = absurd (cc)
was_met (Some New) e r = absurd (cc)
was_met (Some Met) e r = refl
was_met (Some Passed) e r = absurd (cc)

was_waiting : (c mid : Chains) (via : Via) (o : Option State) → joined_of o ≡ joined.Waiting → Meets via c o mid → mid ≡ c
was_waiting c mid via None e m = m
was_waiting c mid via (Some New) e m = absurd (cc)
was_waiting c mid via (Some Met) e m = m
was_waiting c mid via (Some Passed) e m = absurd (cc)

-- ---- what waits

one_there : (xs ys : List Waiting) (one : Waiting) → Contains (xs ++ one ∷ ys) one
one_there xs ys one = Contains-append_right xs (one ∷ ys) one (first_in one ys)

in_place : (xs ys : List Waiting) (one two : Waiting) (x : Waiting) → Contains (xs ++ two ∷ ys) x → Contains (two ∷ (xs ++ one ∷ ys)) x
in_place xs ys one two x c = elim ((adds_at xs ys two).back x c) [
  | inl e ↦ subst (λ y. Contains (two ∷ (xs ++ one ∷ ys)) y) (sym e) (first_in two (xs ++ one ∷ ys))
  | inr d ↦ later_in x two (xs ++ one ∷ ys) ((drops_at xs ys one).back x d)
]

-- ---- keeping

module _ (ms : Modules) (old new : Closing) where
  -- where a name that is used denotes nothing
  pub sound_missing_now : (one : Waiting) → new.holding ≡ old.holding → new.chains ≡ old.chains → new.asked ≡ old.asked → new.is_missing ≡ true
      → ((find : Finder) → AreTabled ms find → (root : Path) (kept : List Name) (all_begin : Bool) → Comes find root kept all_begin one.0 → RefusesSome find root kept all_begin)
      → StaysSound ms (one ∷ []) [] old new
  sound_missing_now one holding chains asked missing refuses root kept all_begin rest u find t =
      let w = waiting old.asked in
      let a = u find t in
      let r = refuses find t root kept all_begin (a.waiting one.0 one.1 (one_there w rest one)) in
      let b = sound_waits ms find t root kept all_begin old.holding old.chains true (w ++ one ∷ rest) (sound_missing ms find t root kept all_begin old.holding old.chains old.is_missing (w ++ one ∷ rest) a r) (w ++ rest) (drops_at w rest one).back in
      subst (λ x. Sound ms find root kept all_begin new.holding new.chains new.is_missing (waiting x ++ rest)) (sym asked)
      (sound_same ms find t root kept all_begin old.holding new.holding old.chains new.chains true new.is_missing (w ++ rest) holding chains missing b)

  pub keeps_asked : Grows old.holding new.holding → new.followed ≡ old.followed → new.is_missing ≡ old.is_missing → new.asked ≡ old.asked → Keeps ms old new
  keeps_asked grows followed missing asked = record {
    holding = grows;
    followed = followed;
    missing = λ e. sym missing ∙ e;
    unloaded = λ find t u. subst (λ a. AreUnloaded find (waiting a)) (sym asked) u;
  }

  pub keeps_missing : new.holding ≡ old.holding → new.followed ≡ old.followed → new.is_missing ≡ true → new.asked ≡ old.asked → Keeps ms old new
  keeps_missing holding followed missing asked = record {
    holding = subst (λ h. Grows old.holding h) (sym holding) (grows_same old.holding);
    followed = followed;
    missing = λ e. let f : true ≡ false = sym missing ∙ e in absurd (cc);
    unloaded = λ find t u. subst (λ a. AreUnloaded find (waiting a)) (sym asked) u;
  }

  pub none_underway : new.is_missing ≡ true → (flags : Rows Bool) (rest : List Waiting) → IsUnderway ms new flags rest
  none_underway missing flags rest find t e = let f : true ≡ false = sym missing ∙ e in absurd (cc)

  pub seeks_missing : (one : Waiting) → new.holding ≡ old.holding → new.chains ≡ old.chains → new.followed ≡ old.followed → new.is_missing ≡ true → new.asked ≡ old.asked
      → ((find : Finder) → AreTabled ms find → (root : Path) (kept : List Name) (all_begin : Bool) → Comes find root kept all_begin one.0 → RefusesSome find root kept all_begin) → Seeks ms one [] old new
  seeks_missing one holding chains followed missing asked refuses = record {
    keeps = keeps_missing holding followed missing asked;
    sought = λ flags rest u. none_underway missing flags rest;
    sound = sound_missing_now one holding chains asked missing refuses;
  }

  -- a chain stops where nothing is, or nothing that is published
  pub seeks_lacks : (one : Waiting) → new.holding ≡ old.holding → new.chains ≡ old.chains → new.followed ≡ old.followed → new.is_missing ≡ true → new.asked ≡ old.asked
      → ((find : Finder) → AreTabled ms find → lacks ≡ next find one.0) → Seeks ms one [] old new
  seeks_lacks one holding chains followed missing asked step =
      seeks_missing one holding chains followed missing asked (λ find t root kept all_begin c. comes_refused ms find t root kept all_begin one.0 [] (outcome.missing one.0) c (ap (outcome_at one.0) (sym (step find t))) refl)

  pub seeks_hides : (one : Waiting) → new.holding ≡ old.holding → new.chains ≡ old.chains → new.followed ≡ old.followed → new.is_missing ≡ true → new.asked ≡ old.asked
      → ((find : Finder) → AreTabled ms find → hides ≡ next find one.0) → Seeks ms one [] old new
  seeks_hides one holding chains followed missing asked step =
      seeks_missing one holding chains followed missing asked (λ find t root kept all_begin c. comes_refused ms find t root kept all_begin one.0 [] (outcome.private one.0) c (ap (outcome_at one.0) (sym (step find t))) refl)

  -- a declaration is found
  pub seeks_declared : (s : Symbol) (b : Option Via) (spot : DeclarationId) (mid : Holding) → ((find : Finder) → AreTabled ms find → stands (place_at ms spot) ≡ next find s) → IsMeant ms s spot.«module» (Declared spot.place)
      → PassesBefore ms (option_to_list b) old.holding old.chains mid new.chains → Arrives ms.list.items spot mid new.holding → new.followed ≡ old.followed → new.is_missing ≡ old.is_missing → new.asked ≡ old.asked
      → Seeks ms (s, b) [] old new
  seeks_declared s b spot mid step is p r followed missing asked = record {
    keeps = keeps_asked (grows_then p.grows (arrives_grows ms spot mid new.holding r)) followed missing asked;
    sought = λ flags rest u find t e.
        subst (λ a. Searched ms find new.holding new.chains flags (waiting a ++ rest)) (sym asked)
        (searched_arrives ms find flags old.holding mid new.holding old.chains new.chains s b spot (sym (step find t)) is (waiting old.asked ++ (s, b) ∷ rest) (waiting old.asked ++ rest)
        (drops_at (waiting old.asked) rest (s, b)) (Contains-append_right (waiting old.asked) ((s, b) ∷ rest) (s, b) (first_in (s, b) rest)) p r (u find t (sym missing ∙ e)));
    sound = λ root kept all_begin rest u find t.
        let w = waiting old.asked in
        let all = w ++ (s, b) ∷ rest in
        let a = u find t in
        let comes = a.waiting s b (one_there w rest (s, b)) in
        let there : Arrived find s = record { last = s; passed = []; chain = here; place = place_at ms spot; is_declared = sym (step find t) } in
        let good : (v : Via) → Contains (option_to_list b) v → IsKnown old.chains v × Goes ms find v = good_at find s there b (λ v e. a.imports s v (subst (λ x. Contains all (s, x)) e (one_there w rest (s, b)))) in
        let one = sound_passes ms find t root kept all_begin old.holding old.chains old.is_missing all a (option_to_list b) mid new.chains p.only p.ways p.grows good in
        let r2 = comes_reached ms find t root kept all_begin s comes there in
        let two = sound_arrives ms find t root kept all_begin mid new.chains old.is_missing all one spot new.holding r s.home is.0 r2.0 (r2.1 s.home (Contains-append_right (comes.passed ++ []) (s.home ∷ []) s.home (first_in s.home []))) in
        subst (λ x. Sound ms find root kept all_begin new.holding new.chains new.is_missing (waiting x ++ rest)) (sym asked)
        (sound_same ms find t root kept all_begin new.holding new.holding new.chains new.chains old.is_missing new.is_missing (w ++ rest) refl refl missing
        (sound_waits ms find t root kept all_begin new.holding new.chains old.is_missing all two (w ++ rest) (drops_at w rest (s, b)).back));
  }
    where
      good_at : (find : Finder) (s : Symbol) → Arrived find s → (b : Option Via) → ((v : Via) → b ≡ Some v → (symbol_via ms v ≡ Some s) × IsKnown old.chains v) → (v : Via) → Contains (option_to_list b) v → IsKnown old.chains v × Goes ms find v
      good_at find s there None knew v c = absurd (in_none v c)
      good_at find s there (Some w) knew v c = elim (in_cases w [] v c) [
        | inl e ↦ (let k = knew w refl in subst (λ x. IsKnown old.chains x × Goes ms find x) e (k.1, record { onward = s; is_onward = k.0; arrived = there }))
        | inr d ↦ absurd (in_none v d)
      ]

  -- its module is not loaded
  pub seeks_unloaded : (s : Symbol) (b : Option Via) → ((find : Finder) → AreTabled ms find → unknown ≡ next find s) → waiting new.asked ≡ waiting old.asked ++ (s, b) ∷ []
      → new.holding ≡ old.holding → new.chains ≡ old.chains → new.followed ≡ old.followed → new.is_missing ≡ old.is_missing → Seeks ms (s, b) [] old new
  seeks_unloaded s b step asked holding chains followed missing = record {
    keeps = record {
      holding = subst (λ h. Grows old.holding h) (sym holding) (grows_same old.holding);
      followed = followed;
      missing = λ e. sym missing ∙ e;
      unloaded = λ find t u x c. elim (Contains-append_cases (waiting old.asked) ((s, b) ∷ []) x (subst (λ l. Contains l x) asked c)) [
        | inl d ↦ u x d
        | inr d ↦ elim (in_cases (s, b) [] x d) [
          | inl e ↦ ap (λ y. next find y.0) (sym e) ∙ sym (step find t)
          | inr f ↦ absurd (in_none x f)
        ]
      ];
    };
    sought = λ flags rest u find t e.
        subst (λ h. Searched ms find h new.chains flags (waiting new.asked ++ rest)) (sym holding)
        (subst (λ c. Searched ms find old.holding c flags (waiting new.asked ++ rest)) (sym chains)
        (subst (λ l. Searched ms find old.holding old.chains flags l) (sym (append_assoc (waiting old.asked) ((s, b) ∷ []) rest) ∙ ap (λ l. l ++ rest) (sym asked)) (u find t (sym missing ∙ e))));
    sound = λ root kept all_begin rest u find t.
        sound_same ms find t root kept all_begin old.holding new.holding old.chains new.chains old.is_missing new.is_missing (waiting new.asked ++ rest) holding chains missing
        (subst (λ l. Sound ms find root kept all_begin old.holding old.chains old.is_missing l) (sym (append_assoc (waiting old.asked) ((s, b) ∷ []) rest) ∙ ap (λ l. l ++ rest) (sym asked)) (u find t));
  }

  -- ---- an import is found

  pub seeks_joined : (s t : Symbol) (b : Option Via) (via : Via) (goes : Bool) → IsMeant ms s via.«module» (Imported via.item) → symbol_via ms via ≡ Some t → ((find : Finder) → AreTabled ms find → leads t ≡ next find s)
      → JoinsOn ms b via goes old new → Seeks ms (s, b) (met_or goes t via) old new
  seeks_joined s t b via goes is is_via step j = record {
    keeps = j.keeps;
    sought = λ flags rest u. j.sought s t is is_via (λ find d. sym (step find d)) flags rest u;
    sound = j.sound s t is is_via (λ find d. sym (step find d));
  }

  module _ (b : Option Via) (via : Via) (holding : new.holding ≡ old.holding) (followed : new.followed ≡ old.followed) (missing : new.is_missing ≡ old.is_missing) (asked : new.asked ≡ old.asked) where
    keeps_here : Keeps ms old new
    keeps_here = keeps_asked (subst (λ h. Grows old.holding h) (sym holding) (grows_same old.holding)) followed missing asked

    here_too : (find : Finder) (flags : Rows Bool) (left more : List Waiting) → left ≡ more → Searched ms find old.holding new.chains flags (waiting old.asked ++ left) → Searched ms find new.holding new.chains flags (waiting new.asked ++ more)
    here_too find flags left more e x =
        subst (λ l. Searched ms find new.holding new.chains flags (waiting new.asked ++ l)) e
        (subst (λ h. Searched ms find h new.chains flags (waiting new.asked ++ left)) (sym holding) (subst (λ a. Searched ms find old.holding new.chains flags (waiting a ++ left)) (sym asked) x))

    -- what is known besides
    sound_joins : (mid : Chains) (goes : Bool) → Meets via old.chains (state_at old.chains via) mid → StepsOn ms b via mid new.chains
        → ((find : Finder) (root : Path) (kept : List Name) (all_begin : Bool) (h : Holding) (lacks_some : Bool) (s t : Symbol) (rest : List Waiting) → AreTabled ms find → symbol_via ms via ≡ Some t → ComesBy find root kept all_begin ms via → Comes find root kept all_begin t
        → Sound ms find root kept all_begin h old.chains lacks_some (waiting old.asked ++ (s, b) ∷ rest) → Sound ms find root kept all_begin h mid lacks_some (met_or goes t via ++ (waiting old.asked ++ (s, b) ∷ rest)))
        → (s t : Symbol) → IsMeant ms s via.«module» (Imported via.item) → symbol_via ms via ≡ Some t → ((find : Finder) → AreTabled ms find → next find s ≡ leads t) → StaysSound ms ((s, b) ∷ []) (met_or goes t via) old new
    sound_joins mid goes meets g met s t is is_via step root kept all_begin rest u find tabled =
        let w = waiting old.asked in
        let a = u find tabled in
        let comes = a.waiting s b (one_there w rest (s, b)) in
        let by : ComesBy find root kept all_begin ms via = record { sought = s; comes = comes; is_numbered = is.0; onward = t; is_onward = is_via; step = step find tabled } in
        let onward = comes_on ms find tabled root kept all_begin s t comes (step find tabled) in
        let m = met find root kept all_begin old.holding old.is_missing s t rest tabled is_via by onward a in
        let n = sound_steps ms find tabled root kept all_begin old.holding mid new.chains old.is_missing (met_or goes t via ++ (w ++ (s, b) ∷ rest)) b via s t
        (λ v e. m.imports s v (subst (λ x. Contains (met_or goes t via ++ (w ++ (s, b) ∷ rest)) (s, x)) e (Contains-append_right (met_or goes t via) (w ++ (s, b) ∷ rest) (s, b) (one_there w rest (s, b))))) is_via (step find tabled) g m in
        let k = sound_waits ms find tabled root kept all_begin old.holding new.chains old.is_missing (met_or goes t via ++ (w ++ (s, b) ∷ rest)) n (w ++ (met_or goes t via ++ rest)) (later goes w rest s t) in
        subst (λ x. Sound ms find root kept all_begin new.holding new.chains new.is_missing (waiting x ++ (met_or goes t via ++ rest))) (sym asked)
        (sound_same ms find tabled root kept all_begin old.holding new.holding new.chains new.chains old.is_missing new.is_missing (w ++ (met_or goes t via ++ rest)) holding refl missing k)
      where
        later : (goes : Bool) (w rest : List Waiting) (s t : Symbol) (x : Waiting) → Contains (w ++ (met_or goes t via ++ rest)) x → Contains (met_or goes t via ++ (w ++ (s, b) ∷ rest)) x
        later true w rest s t x c = in_place w rest (s, b) (t, Some via) x c
        later false w rest s t x c = (drops_at w rest (s, b)).back x c

    pub joins_first : Joins ms b via old.chains joined.First new.chains → JoinsOn ms b via true old new
    joins_first j = record {
      keeps = keeps_here;
      sound = sound_joins j.mid true j.meets j.onward.0 (λ find root kept all_begin h lacks_some s t rest tabled is_via by comes a.
          sound_met ms find tabled root kept all_begin h old.chains lacks_some (waiting old.asked ++ (s, b) ∷ rest) a via t is_via j.mid new_before meets by comes);
      sought = λ s t is is_via step flags rest u find tabled e. here_too find flags ((t, Some via) ∷ rest) (met_or true t via ++ rest) refl (at find s t is is_via (step find tabled) tabled flags rest (u find tabled (sym missing ∙ e)) b j.onward.0 refl);
    }
      where
        new_before : state_at old.chains via ≡ Some New
        new_before = was_new (state_at old.chains via) j.onward.1

        meets : PutsState via Met old.chains j.mid
        meets = subst (λ o. Meets via old.chains o j.mid) new_before j.meets

        at : (find : Finder) (s t : Symbol) → IsMeant ms s via.«module» (Imported via.item) → symbol_via ms via ≡ Some t → next find s ≡ leads t → AreTabled ms find → (flags : Rows Bool) (rest : List Waiting)
            → Searched ms find old.holding old.chains flags (waiting old.asked ++ (s, b) ∷ rest) → (x : Option Via) → StepsOn ms x via j.mid new.chains → b ≡ x → Searched ms find old.holding new.chains flags (waiting old.asked ++ (t, Some via) ∷ rest)
        at find s t is is_via step tabled flags rest a None g same =
            let w = waiting old.asked in
            let a = subst (λ y. Searched ms find old.holding old.chains flags (w ++ (s, y) ∷ rest)) same a in
            let met = searched_met ms find flags old.holding via t is_via old.chains j.mid new_before meets (w ++ (s, None) ∷ rest) (w ++ (t, Some via) ∷ (s, None) ∷ rest) (adds_at w ((s, None) ∷ rest) (t, Some via)) a in
            subst (λ c. Searched ms find old.holding c flags (w ++ (t, Some via) ∷ rest)) (sym g)
            (searched_dropped ms find flags old.holding j.mid s t via is is_via step (is_met_now ms find via t is_via old.chains j.mid new_before meets)
            (w ++ (t, Some via) ∷ (s, None) ∷ rest) (w ++ (t, Some via) ∷ rest) (drops_behind w rest (t, Some via) (s, None)) met)
        at find s t is is_via step tabled flags rest a (Some from) g same =
            let w = waiting old.asked in
            let a = subst (λ y. Searched ms find old.holding old.chains flags (w ++ (s, y) ∷ rest)) same a in
            let one : Waiting = (s, Some from) in
            let two : Waiting = (t, Some via) in
            let met = searched_met ms find flags old.holding via t is_via old.chains j.mid new_before meets (w ++ one ∷ rest) (w ++ two ∷ one ∷ rest) (adds_at w (one ∷ rest) two) a in
            searched_waits ms find flags tabled old.holding j.mid new.chains from via g s t is is_via step (is_met_now ms find via t is_via old.chains j.mid new_before meets)
            (w ++ two ∷ one ∷ rest) (w ++ two ∷ rest) (drops_behind w rest two one)
            (Contains-append_right w (two ∷ one ∷ rest) one (later_in one two (one ∷ rest) (first_in one rest))) met
            (λ gone. let f : Some New ≡ Some Passed = sym new_before ∙ gone_before ms find via t is_via old.chains j.mid new_before meets via gone in absurd (cc))

    pub joins_waiting : Joins ms b via old.chains joined.Waiting new.chains → JoinsOn ms b via false old new
    joins_waiting j = record {
      keeps = keeps_here;
      sound = sound_joins j.mid false j.meets j.onward.0 (λ find root kept all_begin h lacks_some s t rest tabled is_via by comes a.
          subst (λ x. Sound ms find root kept all_begin h x lacks_some (waiting old.asked ++ (s, b) ∷ rest)) (sym (was_waiting old.chains j.mid via (state_at old.chains via) j.onward.1 j.meets)) a);
      sought = λ s t is is_via step flags rest u find tabled e.
          let a = u find tabled (sym missing ∙ e) in
          let met = was_met (state_at old.chains via) j.onward.1 (a.linked.states via t is_via) in
          here_too find flags rest (met_or false t via ++ rest) refl (at find s t is is_via (step find tabled) tabled flags rest met (subst (λ o. Meets via old.chains o j.mid) met j.meets) a b j.onward.0 refl);
    }
      where
        at : (find : Finder) (s t : Symbol) → IsMeant ms s via.«module» (Imported via.item) → symbol_via ms via ≡ Some t → next find s ≡ leads t → AreTabled ms find → (flags : Rows Bool) (rest : List Waiting)
            → state_at old.chains via ≡ Some Met → j.mid ≡ old.chains
            → Searched ms find old.holding old.chains flags (waiting old.asked ++ (s, b) ∷ rest) → (x : Option Via) → StepsOn ms x via j.mid new.chains → b ≡ x → Searched ms find old.holding new.chains flags (waiting old.asked ++ rest)
        at find s t is is_via step tabled flags rest met mid a None g same =
            let w = waiting old.asked in
            let a = subst (λ y. Searched ms find old.holding old.chains flags (w ++ (s, y) ∷ rest)) same a in
            subst (λ c. Searched ms find old.holding c flags (w ++ rest)) (sym (g ∙ mid))
            (searched_dropped ms find flags old.holding old.chains s t via is is_via step (ap is_met met) (w ++ (s, None) ∷ rest) (w ++ rest) (drops_at w rest (s, None)) a)
        at find s t is is_via step tabled flags rest met mid a (Some from) g same =
            let w = waiting old.asked in
            let a = subst (λ y. Searched ms find old.holding old.chains flags (w ++ (s, y) ∷ rest)) same a in
            let one : Waiting = (s, Some from) in
            searched_waits ms find flags tabled old.holding old.chains new.chains from via (subst (λ c. StepsOn ms (Some from) via c new.chains) mid g) s t is is_via step (ap is_met met)
            (w ++ one ∷ rest) (w ++ rest) (drops_at w rest one) (Contains-append_right w (one ∷ rest) one (first_in one rest)) a
            (λ gone. let f : Some Met ≡ Some Passed = sym met ∙ gone in absurd (cc))

  pub joins_round : (b : Option Via) (via : Via) → Joins ms b via old.chains joined.Itself new.chains → new.holding ≡ old.holding → new.followed ≡ old.followed → new.asked ≡ old.asked → new.is_missing ≡ true → JoinsOn ms b via false old new
  joins_round b via j holding followed asked round = record {
    keeps = keeps_missing holding followed round asked;
    sought = λ s t is is_via step flags rest u. none_underway round flags rest;
    sound = λ s t is is_via step root kept all_begin rest u find tabled.
        let w = waiting old.asked in
        let all = w ++ (s, b) ∷ rest in
        let from = j.onward.0 in
        let a = u find tabled in
        let comes = a.waiting s b (one_there w rest (s, b)) in
        let by : ComesBy find root kept all_begin ms via = record { sought = s; comes = comes; is_numbered = is.0; onward = t; is_onward = is_via; step = step find tabled } in
        let m = sound_meets ms find tabled root kept all_begin old.holding old.chains old.is_missing all via t j.mid is_via (state_at old.chains via) refl j.meets by (comes_on ms find tabled root kept all_begin s t comes (step find tabled)) a in
        let f = m.imports s from (subst (λ x. Contains all (s, x)) j.onward.1 (one_there w rest (s, b))) in
        let n = sound_turns ms find tabled root kept all_begin old.holding j.mid old.is_missing all m from via new.chains s t f.0 is_via (step find tabled) f.1 j.onward.2 in
        let loops = goes_round ms find tabled root kept all_begin old.holding j.mid old.is_missing all m from via new.chains s t f.0 is_via (step find tabled) f.1 j.onward.2 in
        let r = sound_missing ms find tabled root kept all_begin old.holding new.chains old.is_missing all n (comes_round ms find tabled root kept all_begin s comes loops) in
        subst (λ x. Sound ms find root kept all_begin new.holding new.chains new.is_missing (waiting x ++ rest)) (sym asked)
        (sound_same ms find tabled root kept all_begin old.holding new.holding new.chains new.chains true new.is_missing (w ++ rest) holding refl round
        (sound_waits ms find tabled root kept all_begin old.holding new.chains true all r (w ++ rest) (drops_at w rest (s, b)).back));
  }

-- chains arrived at the import
module _ (ms : Modules) (old new : Closing) (mid : Chains) (b : Option Via) (via : Via) (followed : new.followed ≡ old.followed) (missing : new.is_missing ≡ old.is_missing) (asked : new.asked ≡ old.asked)
    (j : Joins ms b via old.chains joined.Passed mid) (p : PassesBefore ms (option_to_list b) old.holding mid new.holding new.chains) where
  passed_before : state_at old.chains via ≡ Some Passed
  passed_before = was_passed (state_at old.chains via) j.onward.1

  same_mid : j.mid ≡ old.chains
  same_mid = subst (λ o. Meets via old.chains o j.mid) passed_before j.meets

  at : (find : Finder) (s t : Symbol) → IsMeant ms s via.«module» (Imported via.item) → symbol_via ms via ≡ Some t → next find s ≡ leads t → AreTabled ms find → (flags : Rows Bool) (rest : List Waiting)
      → Searched ms find old.holding old.chains flags (waiting old.asked ++ (s, b) ∷ rest) → (x : Option Via) → StepsOn ms x via j.mid mid → PassesBefore ms (option_to_list x) old.holding mid new.holding new.chains → b ≡ x
      → Searched ms find new.holding new.chains flags (waiting old.asked ++ rest)
  at find s t is is_via step tabled flags rest a None g q same =
      let w = waiting old.asked in
      let a = subst (λ y. Searched ms find old.holding old.chains flags (w ++ (s, y) ∷ rest)) same a in
      let d = searched_dropped ms find flags old.holding old.chains s t via is is_via step (ap is_met passed_before) (w ++ (s, None) ∷ rest) (w ++ rest) (drops_at w rest (s, None)) a in
      let x = subst (λ c. Searched ms find old.holding c flags (w ++ rest)) (sym (g ∙ same_mid)) d in
      let after = q.passing (record {
        all = x.all;
        asserts = x.asserts;
        published = x.linked.published;
        before_known = x.linked.before_known;
        work_known = λ v c. absurd (in_none v c);
        closed = λ v y c k. inl (x.closed v y c k);
        gone = x.gone;
      }) in
      searched_on ms find old.holding new.holding mid new.chains (w ++ rest) (w ++ rest) (record {
        grows = q.grows;
        known = λ v k. q.ways.known v ∙ k;
        gone = q.ways.gone;
        before = λ v y c. subst (λ z. Contains (list_of (cell z.items v.«module» v.item)) y) (sym q.ways.before) c;
        waits_or = λ y z c. inl c;
      }) flags x after.0.asserts (linked_same ms find (w ++ rest) mid new.chains x.linked q.ways) (λ v y k e. inl (sym (q.ways.known v) ∙ k))
      (λ v y c k. elim (after.0.closed v y c k) [ inl z ↦ z | inr z ↦ absurd (in_none y z) ]) after.0.gone
  at find s t is is_via step tabled flags rest a (Some from) g q same =
      let w = waiting old.asked in
      let a = subst (λ y. Searched ms find old.holding old.chains flags (w ++ (s, y) ∷ rest)) same a in
      let one : Waiting = (s, Some from) in
      searched_passes ms find flags tabled old.holding old.chains mid from via (subst (λ c. StepsOn ms (Some from) via c mid) same_mid g) s t is is_via step (ap is_met passed_before)
      (w ++ one ∷ rest) (w ++ rest) (drops_at w rest one) (Contains-append_right w (one ∷ rest) one (first_in one rest)) a new.holding new.chains q

  goes_before : (find : Finder) → AreTabled ms find → (s t : Symbol) → symbol_via ms via ≡ Some t → next find s ≡ leads t → Goes ms find via → (x : Option Via) → ((v : Via) → x ≡ Some v → (symbol_via ms v ≡ Some s) × IsKnown mid v)
      → (v : Via) → Contains (option_to_list x) v → IsKnown mid v × Goes ms find v
  goes_before find tabled s t is_via step g None knew v c = absurd (in_none v c)
  goes_before find tabled s t is_via step g (Some w) knew v c = elim (in_cases w [] v c) [
    | inl e ↦ (let k = knew w refl in
        subst (λ y. IsKnown mid y × Goes ms find y) e (k.1, goes_back ms find tabled via w (record { first = s; second = t; is_first = k.0; is_second = is_via; step = step }) g))
    | inr y ↦ absurd (in_none v y)
  ]

  pub joins_passed : JoinsOn ms b via false old new
  joins_passed = record {
    keeps = keeps_asked ms old new p.grows followed missing asked;
    sound = λ s t is is_via step root kept all_begin rest u find tabled.
        let w = waiting old.asked in
        let all = w ++ (s, b) ∷ rest in
        let a = u find tabled in
        let a2 = subst (λ x. Sound ms find root kept all_begin old.holding x old.is_missing all) (sym same_mid) a in
        let there = one_there w rest (s, b) in
        let n = sound_steps ms find tabled root kept all_begin old.holding j.mid mid old.is_missing all b via s t (λ v e. a2.imports s v (subst (λ x. Contains all (s, x)) e there)) is_via (step find tabled) j.onward.0 a2 in
        let good = goes_before find tabled s t is_via (step find tabled) (a.gone via passed_before) b (λ v e. n.imports s v (subst (λ x. Contains all (s, x)) e there)) in
        let q = sound_passes ms find tabled root kept all_begin old.holding mid old.is_missing all n (option_to_list b) new.holding new.chains p.only p.ways p.grows good in
        subst (λ x. Sound ms find root kept all_begin new.holding new.chains new.is_missing (waiting x ++ rest)) (sym asked)
        (sound_same ms find tabled root kept all_begin new.holding new.holding new.chains new.chains old.is_missing new.is_missing (w ++ rest) refl refl missing
        (sound_waits ms find tabled root kept all_begin new.holding new.chains old.is_missing all q (w ++ rest) (drops_at w rest (s, b)).back));
    sought = λ s t is is_via step flags rest u find tabled e.
        subst (λ a. Searched ms find new.holding new.chains flags (waiting a ++ rest)) (sym asked) (at find s t is is_via (step find tabled) tabled flags rest (u find tabled (sym missing ∙ e)) b j.onward.0 p refl);
  }

-- ---- several steps

pub longer_chain : (find : Finder) (a b c : Symbol) (n : ℕ) → (ps : List Path) × Leads find a ps b × (length ps ≡ n) → next find b ≡ leads c → (ps : List Path) × Leads find a ps c × (length ps ≡ n + 1)
longer_chain find a b c n (ps, l, e) step = (ps ++ b.home ∷ [], leads_more find l step, let f = length-append ps (b.home ∷ []) in omega (arith, e, f))

pub keeps_same : (ms : Modules) (cl : Closing) → Keeps ms cl cl
keeps_same ms cl = record { holding = grows_same cl.holding; followed = refl; missing = λ e. e; unloaded = λ find t u. u }

pub keeps_then : (ms : Modules) (a b c : Closing) → Keeps ms a b → Keeps ms b c → Keeps ms a c
keeps_then ms a b c x y = record {
  holding = grows_then x.holding y.holding;
  followed = y.followed ∙ x.followed;
  missing = λ e. x.missing (y.missing e);
  unloaded = λ find t u. y.unloaded find t (x.unloaded find t u);
}

pub seeks_same : (ms : Modules) (one : Waiting) (cl : Closing) → Seeks ms one (one ∷ []) cl cl
seeks_same ms one cl = record { keeps = keeps_same ms cl; sought = λ flags rest u. u; sound = λ root kept all_begin rest u. u }

pub seeks_then : (ms : Modules) (one two : Waiting) (more : List Waiting) (a b c : Closing) → Seeks ms one (two ∷ []) a b → Seeks ms two more b c → Seeks ms one more a c
seeks_then ms one two more a b c x y = record {
  keeps = keeps_then ms a b c x.keeps y.keeps;
  sought = λ flags rest u. y.sought flags rest (x.sought flags rest u);
  sound = λ root kept all_begin rest u. y.sound root kept all_begin rest (x.sound root kept all_begin rest u);
}

-- ---- all that waits

pub seeks_none : (ms : Modules) (waits : List Waiting) (cl : Closing) → SeeksAll ms waits waits cl cl
seeks_none ms waits cl = record { keeps = keeps_same ms cl; sought = λ flags rest u. u; sound = λ root kept all_begin rest u. u }

pub seeks_next : (ms : Modules) (waits left : List Waiting) (one : Waiting) (a b c : Closing) → SeeksAll ms waits (one ∷ left) a b → Seeks ms one [] b c → SeeksAll ms waits left a c
seeks_next ms waits left one a b c x y = record {
  keeps = keeps_then ms a b c x.keeps y.keeps;
  sought = λ flags rest u. y.sought flags (left ++ rest) (x.sought flags rest u);
  sound = λ root kept all_begin rest u. y.sound root kept all_begin (left ++ rest) (x.sound root kept all_begin rest u);
}

pub drop_next : {X : Type 0} (xs : List X) (i : ℕ) (d : X) → i < length xs → drop i xs ≡ get_or xs i d ∷ drop (i + 1) xs
drop_next [] i d less = absurd (omega (arith, less))
drop_next (x ∷ xs) zero d less = refl
drop_next (x ∷ xs) (suc i) d less = let e : suc i + 1 ≡ suc (i + 1) = omega arith in drop_next xs i d (omega (arith, less)) ∙ ap (λ n. get_or xs i d ∷ drop n (x ∷ xs)) (sym e)
