-- Sources that have each unit that is asked of others are linked into the same unit.
use Rattle.std.proofs.Common.{◌≡◌, ℕ, ◌<◌, List, [], ◌∷◌, Ok, sym, ap, ◌∙◌, subst}
use Rattle.core_syntax.specs.Tree.{UnitTree}
use Rattle.wesl_resolve.specs.Found.{unit_of}
use Rattle.core_link_spec.specs.Occurrences.{Name}
use Rattle.core_link_spec.specs.Modules.{Path, Modules}
use Rattle.core_link_spec.specs.Named.{ImportsAreApart}
use Rattle.core_link_spec.specs.Rounds.{Sources, Loads, loaded, IsLoadingResult, goes_on}
use Rattle.core_link_spec.specs.Kept.{kept_names}
use Rattle.core_link_spec.specs.Linked.{IsLinked}
use Rattle.core_modules_meaning.specs.Agreement.{AreAlike}
use Rattle.core_modules_meaning.specs.Determined.{listed, IsFunctional}
use Rattle.core_modules_meaning.proofs.Agreement.{listed_modules_are_alike, holds_of_alike_modules}
use Rattle.core_modules_meaning.proofs.Asked.{only_asked_units_count}
use Rattle.core_modules_meaning.proofs.Loading.{loaded_modules, found_modules}
use Rattle.core_modules_meaning.proofs.Unique.{linked_units_are_one}
use Rattle.weslc_errors.specs.Headline.{AreKept, IsLinkedFrom}
use Rattle.weslc_errors.specs.Asked.{the_root, behind_the_root}
use Rattle.core_agreement.specs.Asked.{HasAskedUnits}

-- where a module is loaded, one may be
some_loaded : (found : Sources) (max : ℕ) (p : Path) (ps : List Path) (modules : Modules) → Loads found max 0 (p ∷ ps) (Ok modules) → 0 < max
some_loaded found max p ps _ (loaded some is distinct printed more) = some

pub some_come : (found : Sources) (root : Path) (keep : List Name) (max : ℕ) (modules : Modules) → IsLoadingResult found root keep max (Ok modules) → 0 < max
some_come found root keep max modules (goes_on l declared on) = some_loaded found max root [] _ l

module _ (found other : Sources) (functional : IsFunctional other) (apart : ImportsAreApart found) (root : Path) (asked : List Name) (max : ℕ) (has : HasAskedUnits found root asked max other) where
  -- the names that are kept are the same
  kept_alike : (kept more : List Name) → 0 < max → AreKept found root asked kept → AreKept other root asked more → kept ≡ more
  kept_alike kept more some a b =
      let there : other root (unit_of a.unit) = has root (the_root some) a.unit a.found in
      let answers : unit_of a.unit ≡ unit_of b.unit = functional root _ _ there b.found in
      let units : a.unit ≡ b.unit = cc in
      a.are ∙ ap (kept_names asked) units ∙ sym b.are

  -- and so is the unit
  pub units_are_one : (one two : UnitTree) → IsLinkedFrom found root asked max one → IsLinkedFrom other root asked max two → one ≡ two
  units_are_one one two a b =
      let kept = sym (kept_alike a.kept b.kept (some_come found root a.kept max a.modules a.loaded) a.are_kept b.are_kept) in
      let come = subst (λ k. IsLoadingResult other root k max (Ok b.modules)) kept b.loaded in
      let same : listed a.modules ≡ listed b.modules = only_asked_units_count found other functional root a.kept max (λ p asks u is. has p (behind_the_root a.are_kept asks) u is) a.modules b.modules a.loaded come in
      let alike : AreAlike root a.modules b.modules = listed_modules_are_alike found root a.modules b.modules same (found_modules found root a.kept max a.modules a.loaded) apart a.named b.named in
      linked_units_are_one b.modules root a.kept one two (loaded_modules other root a.kept max b.modules come)
      (holds_of_alike_modules.linked one root a.modules b.modules alike a.kept a.linked_well.linked)
      (subst (λ k. IsLinked b.modules root k two) kept b.linked_well.linked)
