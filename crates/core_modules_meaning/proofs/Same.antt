-- What holds of modules doesn't depend on the order of their list.
use Rattle.std.proofs.Common.{⊎_elim, inl, inr}
use Rattle.core_syntax.specs.Tree.{UnitTree}
use Rattle.core_link_spec.specs.Modules.{Path, Modules, IsModule}
use Rattle.core_link_spec.specs.Same.{SameModules}
use Rattle.core_modules_meaning.specs.Agreement.{AreAlike}
use Rattle.core_modules_meaning.specs.Same.{LoadedInAnyOrder, ClashFreeInAnyOrder, LinkedInAnyOrder, LinkedWellInAnyOrder, FirstClashInAnyOrder, FirstRefusedInAnyOrder, NoneRefusedInAnyOrder, NextRoundInAnyOrder, OrderOfModulesDoesNotCount}
use Rattle.core_modules_meaning.proofs.Agreement.{linked_alike, clash_free_alike, first_clash_alike}
use Rattle.core_modules_meaning.proofs.Moves.{SameUnits, denotes_moves, free_moves, declaration_moves, reached_moves, round_moves, none_moves, first_moves}

-- ---- the other way round

pub same_turned : (a b : Modules) → SameModules a b → SameModules b a
same_turned a b e m = ((e m).1, (e m).0)

-- ---- lists with the same elements are alike, whichever is the root

module_by : (a b : Modules) → SameModules a b → (m : Path) (u : UnitTree) → IsModule a m u → IsModule b m u
module_by a b e m u i = record { path = i.path; stands = (e (i.path, u)).0 i.stands; printed = i.printed }

pub same_units : (a b : Modules) → SameModules a b → SameUnits a b
same_units a b e m u = (module_by a b e m u, module_by b a (same_turned a b e) m u)

pub same_alike : (root : Path) (a b : Modules) → SameModules a b → AreAlike root a b
same_alike root a b e = record { same_units = same_units a b e; same_paths = λ path u n. e (path, u) }

-- ---- the laws

pub loaded_in_any_order : LoadedInAnyOrder
loaded_in_any_order a b e root keep h =
    let f = same_turned a b e in
    let units = same_units a b e in
    let units_back = same_units b a f in
    record {
      apart = λ x y c d. h.apart x y ((f x).0 c) ((f y).0 d);
      distinct = λ x c. h.distinct x ((f x).0 c);
      kept = λ x c. let k = h.kept x c in (k.0, (units root k.0).0 k.1, k.2);
      resolved = λ s d x r i o. ⊎_elim (λ t. inl (t.0, denotes_moves a b root keep units s.home x t.0 t.1)) (λ t. inr (free_moves a b root keep units s.home x t))
          (h.resolved s d x (reached_moves b a root keep units_back s r) (declaration_moves b a root keep units_back s d i) o);
    }

pub clash_free_in_any_order : ClashFreeInAnyOrder
clash_free_in_any_order a b e root keep h = clash_free_alike root a b (same_alike root a b e) keep h

pub linked_in_any_order : LinkedInAnyOrder
linked_in_any_order unit a b e root keep h = linked_alike root a b (same_alike root a b e) keep unit h

pub linked_well_in_any_order : LinkedWellInAnyOrder
linked_well_in_any_order unit a b e root keep h = record {
  loaded = loaded_in_any_order a b e root keep h.loaded;
  clash_free = clash_free_in_any_order a b e root keep h.clash_free;
  linked = linked_in_any_order unit a b e root keep h.linked;
}

pub first_clash_in_any_order : FirstClashInAnyOrder
first_clash_in_any_order y a b e root keep h = first_clash_alike root a b (same_alike root a b e) keep y h

pub first_refused_in_any_order : FirstRefusedInAnyOrder
first_refused_in_any_order r a b e root keep h = first_moves a b root keep (same_units a b e) r h

pub none_refused_in_any_order : NoneRefusedInAnyOrder
none_refused_in_any_order a b e root keep h = none_moves a b root keep (same_units a b e) h

pub next_round_in_any_order : NextRoundInAnyOrder
next_round_in_any_order ps a b e root keep h = round_moves a b root keep (same_units a b e) ps h

pub order_of_modules_does_not_count : OrderOfModulesDoesNotCount
order_of_modules_does_not_count = record {
  loaded = loaded_in_any_order;
  clash_free = clash_free_in_any_order;
  linked = linked_in_any_order;
  linked_well = linked_well_in_any_order;
  first_clash = first_clash_in_any_order;
  first_refused = first_refused_in_any_order;
  none_refused = none_refused_in_any_order;
  next_round = next_round_in_any_order;
}
