-- Where searches begin, and what they come to.
use Rattle.std.proofs.Common.{◌≡◌, refl, sym, ap, ◌∙◌, subst, ℕ, ◌<◌, ◌^◌, ◌⊎◌, inl, inr, List, [], ◌∷◌, ◌++◌, length, Option, Some, None}
use Rattle.std.specs.Prelude.{slice_get, get_or}
use Rattle.std.proofs.lemmas.Option.{slice_get_read}
use Rattle.wesl_chains.proofs.Loops.{same_some, loops_behind}
use Rattle.wesl_chains.specs.Outlines.{Path, Symbol, Use, Outline, Finder}
use Rattle.wesl_chains.specs.Senses.{Sense, own, imported, bare, free, sense}
use Rattle.wesl_chains.specs.Chains.{Step, stands, leads, lacks, hides, unknown, next, Outcome, outcome_at, missing, Leads, here, onto, Loops, Ends, comes_to, is_endless, Denotes, by_own, by_item, by_bare}
use Rattle.wesl_module_index.specs.declared.module.Module.{Module}
use Rattle.wesl_module_index.specs.declared.modules.Modules.{Modules}
use Rattle.wesl_module_index.specs.declared.modules.DeclarationId.{DeclarationId}
use Rattle.wesl_module_index.specs.Tables.{use_at, sense_said, IsTabled}
use Rattle.wesl_module_index.specs.Loaded.{home_of, numbered_module, module_at, place_at, AreSame, AreTabled, IsUse}
use Rattle.wesl_name_resolution.specs.declared.denote.Via.{Via}
use Rattle.wesl_name_resolution.specs.declared.denote.Link.{Link}
use Rattle.wesl_name_resolution.specs.declared.denote.Step as code
use Rattle.wesl_name_resolution.specs.declared.denote.Step.TheVariants as step
use Rattle.wesl_name_resolution.specs.declared.ends.End.{End}
use Rattle.wesl_name_resolution.specs.declared.ends.End.TheVariants as end
use Rattle.wesl_name_resolution.specs.Links.{symbol_via, step_of, declared_in, outcome_of, StopsAs, IsDenoted, Beginning, known, seeks, begins}
use Rattle.wesl_name_resolution.specs.Ends.{IsEnd, HasEnded, ComesTo}

-- ---- starts

-- what is read of a slice
pub read : {X : Type 0} (xs ys : List X) (i : ℕ) (x : X) → ys ≡ xs → i < length ys → x ≡ get_or ys i x → slice_get xs i ≡ Some x
read xs ys i x same less r = subst (λ zs. slice_get zs i ≡ Some x) same (slice_get_read ys (length ys) i x refl less r)

uses : (ms : Modules) (find : Finder) → AreTabled ms find → (number reference : ℕ) (p : Path) (o : Outline) (u : Use) → IsUse ms find number reference p o u
    → (m : Module) → slice_get ms.list.items number ≡ Some m → reference < 2 ^ 32 → sense_said m (slice_get m.sought.items reference) ≡ sense o u
uses ms find tabled number reference p o u its m is fits =
    let same : its.table ≡ m = same_some (sym its.is_there ∙ is) in
    let there : module_at ms p ≡ Some m = ap (numbered_module ms) its.is_numbered ∙ is in
    let t : IsTabled m o = subst (λ y. AreSame y (Some o)) there (subst (λ z. AreSame (module_at ms p) z) its.is_module (tabled p)) in
    t.senses reference fits (subst (λ v. reference < length v.list.references.keys) same its.within) ∙ ap (sense o) (subst (λ v. use_at v.list reference ≡ u) same its.is_use)

pub starts : (ms : Modules) (number reference : ℕ) (m : Module) (b : Beginning) → slice_get ms.list.items number ≡ Some m → reference < 2 ^ 32
    → ((p : Path) → home_of ms number ≡ Some p → b ≡ begins p (sense_said m (slice_get m.sought.items reference)))
    → (find : Finder) → AreTabled ms find → (p : Path) (o : Outline) (u : Use) → IsUse ms find number reference p o u → b ≡ begins p (sense o u)
starts ms number reference m b is fits said find tabled p o u its = said p (ms.keyed p number its.is_numbered) ∙ ap (begins p) (uses ms find tabled number reference p o u its m is fits)

-- ---- answers

module _ (find : Finder) (p : Path) (o : Outline) (u : Use) where
  some_known : {r q : Option Outcome} → known r ≡ known q → r ≡ q
  some_known {r = r} e = ap (λ b. elim b [ known x ↦ x | seeks s ↦ r ]) e

  same_sought : {s t : Symbol} → seeks s ≡ seeks t → s ≡ t
  same_sought {s = s} e = ap (λ b. elim b [ known x ↦ s | seeks t ↦ t ]) e

  pub at_once : (r : Option Outcome) → known r ≡ begins p (sense o u) → IsDenoted find p o u r
  at_once r e = at (sense o u) refl e
    where
      at : (x : Sense) → sense o u ≡ x → known r ≡ begins p x → IsDenoted find p o u r
      at (own k) is b = subst (λ y. IsDenoted find p o u y) (sym (some_known b)) (p ∷ [], by_own is)
      at (imported s) is b = absurd (cc)
      at (bare x) is b = subst (λ y. IsDenoted find p o u y) (sym (some_known b)) ([], by_bare is)
      at free is b = subst (λ y. IsDenoted find p o u y) (sym (some_known b)) is

  pub by_chain : (s : Symbol) (r : Option Outcome) → seeks s ≡ begins p (sense o u) → ComesTo find s r → IsDenoted find p o u r
  by_chain s None e c = absurd c
  by_chain s (Some r) e c = at (sense o u) refl e
    where
      at : (x : Sense) → sense o u ≡ x → seeks s ≡ begins p x → (ps : List Path) × Denotes find p o u ps r
      at (own k) is b = absurd (cc)
      at (imported t) is b = (c.0, by_item is (subst (λ y. Ends find y c.0 r) (same_sought b) c.1))
      at (bare x) is b = absurd (cc)
      at free is b = absurd (cc)

-- ---- chains

module _ (find : Finder) where
  -- a chain that stops
  pub stopped : {s t : Symbol} {ps : List Path} → Leads find s ps t → (x : Step) → next find t ≡ x → ((u : Symbol) → x ≡ leads u → ⊥) → (r : Option Outcome) → StopsAs t x r → ComesTo find s r
  stopped {s = s} {t = t} {ps = ps} l (leads u) e none r h = absurd (none u refl)
  stopped {s = s} {t = t} {ps = ps} l (stands k) e none r h = subst (λ y. ComesTo find s y) (sym h) (ps ++ t.home ∷ [], comes_to l (ap (outcome_at t) e))
  stopped {s = s} {t = t} {ps = ps} l lacks e none r h = subst (λ y. ComesTo find s y) (sym h) (ps ++ [], comes_to l (ap (outcome_at t) e))
  stopped {s = s} {t = t} {ps = ps} l hides e none r h = subst (λ y. ComesTo find s y) (sym h) (ps ++ [], comes_to l (ap (outcome_at t) e))
  stopped {s = s} {t = t} {ps = ps} l unknown e none r h = subst (λ y. ComesTo find s y) (sym h) (ps ++ [], comes_to l (ap (outcome_at t) e))

  pub ended_leads : (t : Symbol) → HasEnded find t → (u : Symbol) → next find t ≡ leads u → ⊥
  ended_leads t (more, o, h) u e = let g : outcome_at t (next find t) ≡ None = ap (outcome_at t) e in absurd (cc)

  module _ (ms : Modules) (s t : Symbol) (e : next find s ≡ leads t) where
    -- behind the first link a declaration
    pub led_to_declaration : (ending : End) → IsEnd ms find t ending → (spot : DeclarationId) → ending ≡ end.Declared spot → ComesTo find s (declared_in (place_at ms spot) (home_of ms spot.«module»))
    led_to_declaration ending is spot same = at (subst (λ x. IsEnd ms find t x) same is)
      where
        at : IsEnd ms find t (end.Declared spot) → ComesTo find s (declared_in (place_at ms spot) (home_of ms spot.«module»))
        at (u, qs, h, l, n) = subst (λ y. ComesTo find s (declared_in (place_at ms spot) y)) (sym h) ((s.home ∷ qs) ++ u.home ∷ [], comes_to (onto e l) (ap (outcome_at u) n))

    -- or an item at which it stops
    pub led_to_stop : (ending : End) → IsEnd ms find t ending → (last : Via) → ending ≡ end.Stops last → (r : Option Outcome) → ((u : Symbol) → symbol_via ms last ≡ Some u → StopsAs u (next find u) r) → ComesTo find s r
    led_to_stop ending is last same r answers = at (subst (λ x. IsEnd ms find t x) same is)
      where
        at : IsEnd ms find t (end.Stops last) → ComesTo find s r
        at (u, qs, v, l, n) = stopped (onto e l) (next find u) refl (λ w f. ended_leads u n w f) r (answers u v)

    -- or it never ends
    pub led_round : (ending : End) → IsEnd ms find t ending → (ending ≡ end.Unknown) ⊎ (ending ≡ end.ReferenceTarget) ⊎ (ending ≡ end.Never) → (r : Option Outcome) → r ≡ Some (missing s) → ComesTo find s r
    led_round ending is (inl f) r h = absurd (subst (λ x. IsEnd ms find t x) f is)
    led_round ending is (inr (inl f)) r h = absurd (subst (λ x. IsEnd ms find t x) f is)
    led_round ending is (inr (inr f)) r h = subst (λ y. ComesTo find s y) (sym h) ([], is_endless (loops_behind find (onto e here) (subst (λ x. IsEnd ms find t x) f is)))

-- a step that leads nowhere
pub leads_nowhere : (ms : Modules) (x : code.Step) → ((via : Via) (l : Link) → x ≡ step.Leads via l → ⊥) → (u : Symbol) → step_of ms x ≡ leads u → ⊥
leads_nowhere ms (step.Declared spot) none u e = absurd (cc)
leads_nowhere ms (step.Leads via l) none u e = none via l refl
leads_nowhere ms step.Missing none u e = absurd (cc)
leads_nowhere ms step.Private none u e = absurd (cc)
leads_nowhere ms step.Unloaded none u e = absurd (cc)
