-- The printed paths that loading asks for, up to the first refusal.
use Rattle.std.specs.Prelude.{◌≢◌, ℕ, ◌+◌, ◌<◌, List, [], ◌∷◌, ◌++◌, length, Bool, Ok}
use Rattle.std.specs.List.{Contains}
use Rattle.wgsl_skeleton.specs.DeclarationsTree.{UnitTree}
use Rattle.wesl_chains.specs.Outlines.{Name, Path, own_names}
use Rattle.wesl_linking_spec.specs.Outlining.{outline_of}
use Rattle.wesl_linking_spec.specs.Sources.{Sources, canonical, Modules}
use Rattle.wesl_linking_spec.specs.Loading.{AreDistinct, kept_names, LoadsOne, Loads, IsNextRound, NoneRefused}

module _ (found : Sources) (max : ℕ) where
  -- among modules that are loaded one after another: one is asked for unless it is one too many, and the next ones once it is loaded
  pub data AsksAmong : ℕ → List Path → Path → Type 0 where
    asks_first : {n : ℕ} {p : Path} {ps : List Path} → n < max → AsksAmong n (p ∷ ps) p
    asks_next : {n : ℕ} {p q : Path} {ps : List Path} {u : UnitTree} → LoadsOne found max n p (Ok u) → AsksAmong (n + 1) ps q → AsksAmong n (p ∷ ps) q

module _ (found : Sources) (root : Path) (kept : List Name) (loads_all : Bool) (max : ℕ) where
  -- from these loaded modules on: in this round, or in a later one
  pub data AsksFrom : Modules → Path → Type 0 where
    in_this_round : {ms : Modules} {ps : List Path} {p : Path} → NoneRefused root kept loads_all ms → IsNextRound root kept loads_all ms ps
        → AsksAmong found max (length ms) ps p → AsksFrom ms p
    in_a_later_round : {ms more : Modules} {ps : List Path} {p : Path} → NoneRefused root kept loads_all ms → IsNextRound root kept loads_all ms ps → ps ≢ []
        → Loads found max (length ms) ps (Ok more) → AsksFrom (ms ++ more) p → AsksFrom ms p

module _ (found : Sources) (root : Path) (asked : List Name) (loads_all : Bool) (max : ℕ) where
  -- the root, or once it is loaded and declares the names that are asked for, what is asked for from it on
  pub data Asks : Path → Type 0 where
    for_the_root : {p : Path} → AsksAmong found max 0 (root ∷ []) p → Asks p
    onward : {u : UnitTree} {p : Path} → Loads found max 0 (root ∷ []) (Ok ((root, u) ∷ []))
        → ((x : Name) → Contains asked x → Contains (own_names (outline_of (canonical root) u)) x)
        → AsksFrom found root (kept_names asked (outline_of (canonical root) u)) loads_all max ((root, u) ∷ []) p → Asks p

  -- what was asked for, where memory was not refused: all of it, nothing else, and nothing twice
  pub record AreAsked (paths : List Path) : Type 0 where
    pub only : (p : Path) → Contains paths p → Asks p
    pub all : (p : Path) → Asks p → Contains paths p
    pub once : AreDistinct paths
