-- Which of several mounted things serves a path, and what it says of it.
use Rattle.std.specs.Prelude.{◌≡◌, ⊤, ℕ, List, slice_get, Option, Some, None}
use Rattle.wgsl_path.specs.declared.path.ModulePath.{ModulePath}
use Rattle.wesl_resolvers.specs.Found.{Answer, not_found, SameAnswers, SameTexts}
use Rattle.wesl_router.specs.declared.choice.Served.{Served}
use Rattle.wesl_router.specs.Choice.{best_of, rest_behind}

-- this is asked for that path; or nothing is asked
pub data Target (M : Type 0) : Type 0 where
  asks : M → ModulePath → Target M
  nowhere : Target M

abbrev pub asked_of : {M : Type 0} → Option M → ModulePath → Target M
asked_of None path = nowhere
asked_of (Some m) path = asks m path

-- the one that is mounted at a place, for what stands behind its prefix; or the fallback, for the path itself
abbrev pub target_at : {M : Type 0} → List M → Option M → ModulePath → Option Served → Target M
target_at mounts fallback path None = asked_of fallback path
target_at mounts fallback path (Some served) = asked_of (slice_get mounts served.place) (rest_behind served.names path)

-- that with the longest prefix, and of several such the last mounted
abbrev pub target : {M : Type 0} → List ModulePath → List M → Option M → ModulePath → Target M
target prefixes mounts fallback path = target_at mounts fallback path (best_of path prefixes)

-- what is found, the text and the name there
abbrev pub answered : {M : Type 0} → (M → ModulePath → Answer → Type 0) → Target M → Answer → Type 0
answered found (asks m path) a = found m path a
answered found nowhere a = a ≡ not_found

abbrev pub texted : {M : Type 0} → (M → ModulePath → List ℕ → Type 0) → Target M → List ℕ → Type 0
texted texts (asks m path) text = texts m path text
texted texts nowhere text = ⊥

abbrev pub named : {M : Type 0} → (M → ModulePath → Option (List ℕ)) → Target M → Option (List ℕ)
named names (asks m path) = names m path
named names nowhere = None

-- ---- before and after a call

-- two things of which the one says what the other says
pub record IsSame {M : Type 0} (found : M → ModulePath → Answer → Type 0) (texts : M → ModulePath → List ℕ → Type 0) (names : M → ModulePath → Option (List ℕ)) (old new : M) : Type 0 where
  pub answers : SameAnswers (found old) (found new)
  pub all_texts : SameTexts (texts old) (texts new)
  pub all_names : names new ≡ names old

-- none in both places, or two that are related
abbrev pub Alike : {M : Type 0} → (M → M → Type 0) → Option M → Option M → Type 0
Alike same None None = ⊤
Alike same (Some m) (Some n) = same m n
Alike same None (Some n) = ⊥
Alike same (Some m) None = ⊥

-- at each place
abbrev pub AreAlike : {M : Type 0} → (M → M → Type 0) → List M → List M → Type 0
AreAlike same old new = (i : ℕ) → Alike same (slice_get old i) (slice_get new i)
