-- Only what is asked for counts.
use Rattle.std.specs.Prelude.{◌↔◌}
use Rattle.std.proofs.Common.{ℕ, ◌+◌, List, [], ◌∷◌, ◌++◌, length, Result, Ok, Err}
use Rattle.core_syntax.specs.Tree.{UnitTree}
use Rattle.wesl_resolve.specs.Found.{Answer, unit_of}
use Rattle.core_link_spec.specs.Occurrences.{Name}
use Rattle.core_link_spec.specs.Modules.{Path, Modules}
use Rattle.core_link_spec.specs.Rounds.{Sources, LoadError, Loads, all_loaded, one_too_many, is_not_found, is_faulty, is_unsupported, has_a_name_twice, loaded_then_refused, loaded, LoadsRounds, an_occurrence_refused, nothing_asked, a_module_refused, a_round, IsFirstUnkept, IsLoadingResult, root_refused, kept_name_missing, goes_on}
use Rattle.core_link_spec.specs.Asks.{AsksAmong, asks_first, asks_next, AsksFrom, in_this_round, in_a_later_round, Asks, for_the_root, onward}
use Rattle.core_modules_meaning.specs.Asked.{OnlyWhatIsAskedCounts}
use Rattle.core_modules_meaning.specs.Agreement.{OnlyAskedUnitsCount}
use Rattle.core_modules_meaning.proofs.Determined.{loading_comes_to_one}

module _ (found other : Sources) (max : ℕ) where
  loads_too : (n : ℕ) (ps : List Path) (o : Result Modules LoadError) → ((p : Path) → AsksAmong found max n ps p → (a : Answer) → found p a ↔ other p a) → Loads found max n ps o → Loads other max n ps o
  loads_too n [] _ agree all_loaded = all_loaded
  loads_too n (p ∷ ps) _ agree (one_too_many l) = one_too_many l
  loads_too n (p ∷ ps) _ agree (is_not_found l f) = is_not_found l ((agree p (asks_first l) _).0 f)
  loads_too n (p ∷ ps) _ agree (is_faulty l f) = is_faulty l ((agree p (asks_first l) _).0 f)
  loads_too n (p ∷ ps) _ agree (is_unsupported l f) = is_unsupported l ((agree p (asks_first l) _).0 f)
  loads_too n (p ∷ ps) _ agree (has_a_name_twice l f a) = has_a_name_twice l ((agree p (asks_first l) _).0 f) a
  loads_too n (p ∷ ps) _ agree (loaded_then_refused {r = r} l f d rest) =
      loaded_then_refused l ((agree p (asks_first l) _).0 f) d (loads_too (n + 1) ps (Err r) (λ q a. agree q (asks_next l f d a)) rest)
  loads_too n (p ∷ ps) _ agree (loaded {modules = ms} l f d t rest) =
      loaded l ((agree p (asks_first l) _).0 f) d t (loads_too (n + 1) ps (Ok ms) (λ q a. agree q (asks_next l f d a)) rest)

module _ (found other : Sources) (root : Path) (keep : List Name) (max : ℕ) where
  goes_too : (modules : Modules) (o : Result Modules LoadError) → ((p : Path) → AsksFrom found root keep max modules p → (a : Answer) → found p a ↔ other p a) → LoadsRounds found root keep max modules o → LoadsRounds other root keep max modules o
  goes_too modules _ agree (an_occurrence_refused f) = an_occurrence_refused f
  goes_too modules _ agree (nothing_asked n k) = nothing_asked n k
  goes_too modules _ agree (a_module_refused {ps = ps} {r = r} n k l) = a_module_refused n k (loads_too found other max (length modules) ps (Err r) (λ p a. agree p (in_this_round n k a)) l)
  goes_too modules o agree (a_round {more = more} {ps = ps} n k s l rest) =
      a_round n k s (loads_too found other max (length modules) ps (Ok more) (λ p a. agree p (in_this_round n k a)) l)
      (goes_too (modules ++ more) o (λ p a. agree p (in_a_later_round n k s l a)) rest)

  unkept_too : (u : UnitTree) (x : Name) → IsFirstUnkept found root keep max u x → IsFirstUnkept other root keep max u x
  unkept_too u x f = record { before = f.before; behind = f.behind; whole = f.whole; declared = f.declared; undeclared = f.undeclared }

  comes_too : (o : Result Modules LoadError) → ((p : Path) → Asks found root keep max p → (a : Answer) → found p a ↔ other p a) → IsLoadingResult found root keep max o → IsLoadingResult other root keep max o
  comes_too _ agree (root_refused {r = r} l) = root_refused (loads_too found other max 0 (root ∷ []) (Err r) (λ p a. agree p (for_the_root a)) l)
  comes_too _ agree (kept_name_missing {path = path} {u = u} {x = x} l f) = kept_name_missing (loads_too found other max 0 (root ∷ []) (Ok ((path, u) ∷ [])) (λ p a. agree p (for_the_root a)) l) (unkept_too u x f)
  comes_too o agree (goes_on {path = path} {u = u} l h g) =
      goes_on (loads_too found other max 0 (root ∷ []) (Ok ((path, u) ∷ [])) (λ p a. agree p (for_the_root a)) l) h (goes_too ((path, u) ∷ []) o (λ p a. agree p (onward l h a)) g)

-- ---- what is loaded from found units

module _ (found other : Sources) (max : ℕ) where
  units_load : (n : ℕ) (ps : List Path) (modules : Modules) → ((p : Path) → AsksAmong found max n ps p → (u : UnitTree) → found p (unit_of u) → other p (unit_of u)) → Loads found max n ps (Ok modules) → Loads other max n ps (Ok modules)
  units_load n [] (m ∷ ms) there h = elim h [ ]
  units_load n [] [] there all_loaded = all_loaded
  units_load n (p ∷ ps) _ there (loaded {u = u} {modules = ms} l f d t rest) = loaded l (there p (asks_first l) u f) d t (units_load (n + 1) ps ms (λ q a. there q (asks_next l f d a)) rest)

module _ (found other : Sources) (root : Path) (keep : List Name) (max : ℕ) where
  units_go : (modules after : Modules) → ((p : Path) → AsksFrom found root keep max modules p → (u : UnitTree) → found p (unit_of u) → other p (unit_of u)) → LoadsRounds found root keep max modules (Ok after) → LoadsRounds other root keep max modules (Ok after)
  units_go modules _ there (nothing_asked n k) = nothing_asked n k
  units_go modules after there (a_round {more = more} {ps = ps} n k s l rest) =
      a_round n k s (units_load found other max (length modules) ps more (λ p a. there p (in_this_round n k a)) l)
      (units_go (modules ++ more) after (λ p a. there p (in_a_later_round n k s l a)) rest)

  units_come : (modules : Modules) → ((p : Path) → Asks found root keep max p → (u : UnitTree) → found p (unit_of u) → other p (unit_of u)) → IsLoadingResult found root keep max (Ok modules) → IsLoadingResult other root keep max (Ok modules)
  units_come modules there (goes_on {path = path} {u = u} l h g) =
      goes_on (units_load found other max 0 (root ∷ []) ((path, u) ∷ []) (λ p a. there p (for_the_root a)) l) h (units_go ((path, u) ∷ []) modules (λ p a. there p (onward l h a)) g)

-- ---- the laws

pub only_what_is_asked_counts : (found other : Sources) → OnlyWhatIsAskedCounts found other
only_what_is_asked_counts found other functional root keep max agree one two a b = loading_comes_to_one other functional root keep max one two (comes_too found other root keep max one agree a) b

pub only_asked_units_count : (found other : Sources) → OnlyAskedUnitsCount found other
only_asked_units_count found other functional root keep max there one two a b =
    loading_comes_to_one other functional root keep max (Ok one) (Ok two) (units_come found other root keep max one there a) b
