-- The printed paths that loading asks for, up to the first refusal.
use Rattle.std.specs.Prelude.{◌≢◌, ℕ, ◌+◌, ◌<◌, List, [], ◌∷◌, ◌++◌, map, length, Ok}
use Rattle.std.specs.List.{Contains}
use Rattle.wgsl_path.specs.declared.path.ModulePath.{ModulePath}
use Rattle.wgsl_path.specs.Paths.{path_text}
use Rattle.core_syntax.specs.Tree.{UnitTree}
use Rattle.wesl_resolve.specs.Found.{unit_of}
use Rattle.core_link_spec.specs.Occurrences.{Name}
use Rattle.core_link_spec.specs.Modules.{Path, Modules, Declares}
use Rattle.core_link_spec.specs.Rounds.{Sources, scope_names, AreDistinct, Loads, IsNextRound, NoneRefused}

-- the printed paths of modules, in their order
abbrev pub printed_paths : Modules → List Path
printed_paths modules = map (λ m. path_text m.0) modules

module _ (found : Sources) (max : ℕ) where
  -- among modules that are tested one after another: one is asked for unless it is one too many, and the next ones once it is loaded
  pub data AsksAmong : ℕ → List Path → Path → Type 0 where
    asks_first : {n : ℕ} {p : Path} {ps : List Path} → n < max → AsksAmong n (p ∷ ps) p
    asks_next : {n : ℕ} {p q : Path} {ps : List Path} {u : UnitTree} → n < max → found p (unit_of u) → AreDistinct (scope_names u) → AsksAmong (n + 1) ps q
        → AsksAmong n (p ∷ ps) q

module _ (found : Sources) (root : Path) (keep : List Name) (max : ℕ) where
  -- from these loaded modules on: in this round, or in a later one
  pub data AsksFrom : Modules → Path → Type 0 where
    in_this_round : {modules : Modules} {ps : List Path} {p : Path} → NoneRefused modules root keep → IsNextRound modules root keep ps
        → AsksAmong found max (length modules) ps p → AsksFrom modules p
    in_a_later_round : {modules more : Modules} {ps : List Path} {p : Path} → NoneRefused modules root keep → IsNextRound modules root keep ps → ps ≢ []
        → Loads found max (length modules) ps (Ok more) → AsksFrom (modules ++ more) p → AsksFrom modules p

  -- the root, or what is asked for from it on
  pub data Asks : Path → Type 0 where
    for_the_root : {p : Path} → AsksAmong found max 0 (root ∷ []) p → Asks p
    onward : {path : ModulePath} {u : UnitTree} {p : Path} → Loads found max 0 (root ∷ []) (Ok ((path, u) ∷ [])) → ((x : Name) → Contains keep x → Declares u x)
        → AsksFrom ((path, u) ∷ []) p → Asks p
