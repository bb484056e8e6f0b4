-- What a search has done stays done.
use Rattle.std.proofs.Common.{◌≡◌, refl, sym, ap, ◌∙◌, subst, ℕ, ◌<◌, ◌⊎◌, inl, inr, List, [], ◌∷◌, ◌++◌, length, Option, Some, None, Bool, true, false}
use Rattle.std.specs.Prelude.{slice_get, ⊤}
use Rattle.std.specs.List.{Contains}
use Rattle.wesl_chains.specs.Outlines.{Path, Symbol, Use, Outline, Finder}
use Rattle.wesl_chains.specs.Senses.{Sense, own, imported, bare, free, sense}
use Rattle.wesl_chains.specs.Chains.{Step, stands, leads, lacks, hides, unknown, next}
use Rattle.wesl_module_index.specs.declared.module.Module.{Module}
use Rattle.wesl_module_index.specs.declared.modules.Modules.{Modules}
use Rattle.wesl_module_index.specs.Loaded.{IsUse}
use Rattle.wesl_name_resolution.specs.declared.denote.Via.{Via}
use Rattle.wesl_name_resolution.specs.Links.{symbol_via}
use Rattle.wesl_reachability.specs.declared.chains.Chains.{Chains}
use Rattle.wesl_reachability.specs.declared.holding.Holding.{Holding}
use Rattle.wesl_reachability.specs.Cells.{Rows}
use Rattle.wesl_reachability.specs.Holding.{IsPassed, Grows, HasAll, Asserts}
use Rattle.wesl_reachability.specs.Joining.{before_at}
use Rattle.wesl_reachability.specs.Asking.{Waiting}
use Rattle.wesl_reachability.specs.Searching.{IsKnown, IsGone, Linked, IsGoneOr, IsStepOr, StepDone, IsSought, SenseDone, IsHandled, Searched}

pub has_all_on : (ms : List Module) (h now : Holding) → HasAll ms h → Grows h now → HasAll ms now
has_all_on ms h now a g = record { modules = λ m one is. g.wide m (a.modules m one is); places = λ m k one is less. g.room m k (a.places m k one is less) }

-- nothing that was done is undone, and what waits no more is done
pub record Moves (ms : Modules) (find : Finder) (h : Holding) (c : Chains) (waits : List Waiting) (now : Holding) (new : Chains) (left : List Waiting) : Type 0 where
  pub grows : Grows h now
  pub known : (v : Via) → IsKnown c v → IsKnown new v
  pub gone : (v : Via) → IsGone c v → IsGone new v
  pub before : (v w : Via) → Contains (before_at c v) w → Contains (before_at new v) w
  pub waits_or : (s : Symbol) (b : Option Via) → Contains waits (s, b) → Contains left (s, b) ⊎ StepDone ms now new s b (next find s)

module _ (ms : Modules) (find : Finder) (h now : Holding) (c new : Chains) (waits left : List Waiting) (m : Moves ms find h c waits now new left) where
  gone_or : (b : Option Via) → IsGoneOr c b → IsGoneOr new b
  gone_or None g = tt
  gone_or (Some v) g = m.gone v g

  step_or : (b : Option Via) (v : Via) → IsStepOr c b v → IsStepOr new b v
  step_or None v g = tt
  step_or (Some w) v g = m.before v w g

  done_on : (s : Symbol) (b : Option Via) (x : Step) → StepDone ms h c s b x → StepDone ms now new s b x
  done_on s b (stands k) (n, j, is, at, held, passed, gone) = (n, j, is, at, m.grows.stays n j held, m.grows.keeps n passed, gone_or b gone)
  done_on s b (leads t) (v, is, to, known, step) = (v, is, to, m.known v known, step_or b v step)
  done_on s b lacks d = absurd d
  done_on s b hides d = absurd d
  done_on s b unknown d = absurd d

  pub sought_on : (s : Symbol) (b : Option Via) → IsSought ms find h c waits s b → IsSought ms find now new left s b
  sought_on s b (inl w) = m.waits_or s b w
  sought_on s b (inr d) = inr (done_on s b (next find s) d)

  sense_on : (n r : ℕ) (x : Sense) → SenseDone ms find h c waits n r x → SenseDone ms find now new left n r x
  sense_on n r (own k) (j, is, at, held, passed) = (j, is, at, m.grows.stays n j held, m.grows.keeps n passed)
  sense_on n r (imported s) d = sought_on s None d
  sense_on n r (bare x) d = d
  sense_on n r free d = tt

  pub handled_on : (n r : ℕ) → IsHandled ms find h c waits n r → IsHandled ms find now new left n r
  handled_on n r d p o u is = sense_on n r (sense o u) (d p o u is)

  pub searched_on : (flags : Rows Bool) → Searched ms find h c flags waits → Asserts ms.list.items now → Linked ms find new left
      → ((v : Via) (s : Symbol) → IsKnown new v → symbol_via ms v ≡ Some s → IsKnown c v ⊎ Contains left (s, Some v))
      → ((v w : Via) → Contains (before_at new v) w → IsGone new v → IsGone new w) → ((v : Via) → IsGone new v → IsPassed now v.«module»)
      → Searched ms find now new flags left
  searched_on flags s asserts linked met closed gone = record {
    declared = s.declared;
    all = has_all_on ms.list.items h now s.all m.grows;
    works = m.grows.works s.works;
    asserts = asserts;
    directs = λ n k one is st. m.grows.stays n k (s.directs n k one is st);
    linked = linked;
    sought = λ v t k is. elim (met v t k is) [
      | inl x ↦ sought_on t (Some v) (s.sought v t x is)
      | inr x ↦ inl x
    ];
    closed = closed;
    gone = gone;
    rooms = s.rooms;
    handled = λ n r f. handled_on n r (s.handled n r f);
  }
