-- What a call asks for: the root, and what loading asks for behind it.
use Rattle.std.proofs.Common.{ℕ, ◌<◌, ◌⊎◌, ⊎_elim, List, [], ◌∷◌, refl, sym, subst}
use Rattle.core_syntax.specs.Tree.{UnitTree as Module}
use Rattle.wesl_resolve.specs.Found.{unit_of, Asked, HasAsked, SameAnswers}
use Rattle.core_link_spec.specs.Occurrences.{Name}
use Rattle.core_link_spec.specs.Modules.{Path}
use Rattle.core_link_spec.specs.Rounds.{Sources, no_names, another}
use Rattle.core_link_spec.specs.Kept.{kept_names}
use Rattle.core_reach.specs.Asking.{AsksForOne, AreAskedBehind, AreThoseLoaded}
use Rattle.core_reach.proofs.AskingLemmas.{asked_more, nothing_more, no_member, first_or_later, one_member}
use Rattle.weslc_errors.specs.Asked.{IsAskedOf, the_root, behind_the_root, AreAsked, AreAskedAsLoaded}
use Rattle.weslc_errors.proofs.Loading.{asks_moves, comes_moves, turned}

module _ (found : Sources) (root : Path) (asked : List Name) (max : ℕ) where
  -- the root is refused
  pub root_asked : (before after : Asked) → AsksForOne before 0 max root after → AreAsked found root asked max before after
  root_asked before after one = ⊎_elim
      (λ nothing. record { paths = []; has = nothing_more before after nothing; each = λ p c. absurd (no_member p c); once = no_names })
      (λ asks. record {
        paths = root ∷ [];
        has = asks.1;
        each = λ p c. subst (IsAskedOf found root asked max) (one_member root p c) (the_root asks.0);
        once = another no_names (no_member root);
      })
      one

  -- the root is found, and loading goes on from it, over what is found after the root was asked for
  module _ (other : Sources) (same : SameAnswers found other) (unit : Module) (is : found root (unit_of unit)) (before between after : Asked)
      (of_root : (0 < max) × HasAsked before (root ∷ []) between) where
    pub behind_asked : AreAskedBehind other root (kept_names asked unit) max between after → AreAsked found root asked max before after
    behind_asked b = record {
      paths = root ∷ b.behind;
      has = asked_more before (root ∷ []) b.behind between after of_root.1 b.has;
      each = λ p c. ⊎_elim
          (λ here. subst (IsAskedOf found root asked max) here (the_root of_root.0))
          (λ later. behind_the_root (record { unit = unit; found = is; are = refl }) (asks_moves other found (turned found other same) max root (kept_names asked unit) (b.each p later)))
          (first_or_later root b.behind p c);
      once = b.once;
    }

    pub loaded_asked : AreThoseLoaded other root (kept_names asked unit) max between after → AreAskedAsLoaded found root asked max before after
    loaded_asked t = record {
      kept = kept_names asked unit;
      modules = t.modules;
      loaded = record {
        are_kept = record { unit = unit; found = is; are = refl };
        loaded = comes_moves other found (turned found other same) max root (kept_names asked unit) t.loaded;
        named = t.named;
      };
      has = subst (λ ps. HasAsked before ps after) (sym t.are) (asked_more before (root ∷ []) t.behind between after of_root.1 t.has);
    }
