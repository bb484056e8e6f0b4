-- What loading comes to is determined.
use Rattle.std.proofs.Common.{◌≡◌, ℕ, ◌+◌, ◌<◌, ◌≤◌, ◌⊎◌, inl, inr, List, [], ◌∷◌, ◌++◌, length, Result, Ok, Err, refl, sym, ap, ◌∙◌, subst, arith, Contains}
use Rattle.std.proofs.lemmas.List.Elements.{Contains-append_right}
use Rattle.wgsl_path.specs.declared.path.ModulePath.{ModulePath}
use Rattle.wgsl_path.specs.Paths.{path_text}
use Rattle.wgsl_token.specs.declared.fault.error.Error.{Error}
use Rattle.core_syntax.specs.Tree.{UnitTree}
use Rattle.core_link_spec.specs.Occurrences.{Name}
use Rattle.core_link_spec.specs.Modules.{Path, Modules, Declares}
use Rattle.wesl_resolve.specs.Found.{unit_of, not_found, faulty, unsupported}
use Rattle.core_link_spec.specs.Rounds.{Sources, LoadError, too_many_modules, module_not_found, syntax, module_unsupported, duplicate_symbol, missing_decl, scope_names, AreDistinct, IsFirstAgain, Loads, all_loaded, one_too_many, is_not_found, is_faulty, is_unsupported, has_a_name_twice, loaded_then_refused, loaded, IsNextRound, NoneRefused, IsFirstRefused, LoadsRounds, an_occurrence_refused, nothing_asked, a_module_refused, a_round, IsFirstUnkept, IsLoadingResult, root_refused, kept_name_missing, goes_on}
use Rattle.core_modules_meaning.specs.Determined.{listed, IsFunctional, SameOutcome, LoadingComesToOne}
use Rattle.wgsl_base.proofs.Members.{first_in, in_cases, in_none}
use Rattle.core_modules_meaning.proofs.Members.{length_map}
use Rattle.core_modules_meaning.proofs.Order.{ascending_same}
use Rattle.core_modules_meaning.proofs.Loading.{Apart, next_apart, loading}
use Rattle.core_modules_meaning.proofs.Splits.{again_once, again_not_distinct, unkept_once}
use Rattle.core_modules_meaning.proofs.Moves.{same_listed, round_moves, none_moves, first_moves}
use Rattle.core_modules_meaning.proofs.Refusals.{first_once}

listed-append : (a b : Modules) → listed (a ++ b) ≡ listed a ++ listed b
listed-append [] b = refl
listed-append (x ∷ a) b = ap (λ l. (path_text x.0, x.1) ∷ l) (listed-append a b)

listed_length : (a b : Modules) → listed a ≡ listed b → length a ≡ length b
listed_length a b e = sym (length_map (λ z. (path_text z.0, z.1)) a) ∙ ap length e ∙ length_map (λ z. (path_text z.0, z.1)) b

module _ (found : Sources) (functional : IsFunctional found) (max : ℕ) where
  -- what the first of some paths comes to
  data Step (n : ℕ) (p : Path) (ps : List Path) (o : Result Modules LoadError) : Type 0 where
    too_many : max ≤ n → o ≡ Err (too_many_modules p) → Step n p ps o
    missing : n < max → found p not_found → o ≡ Err (module_not_found p) → Step n p ps o
    bad : (e : Error) → n < max → found p (faulty e) → o ≡ Err (syntax p e) → Step n p ps o
    beyond : n < max → found p unsupported → o ≡ Err (module_unsupported p) → Step n p ps o
    twice : (u : UnitTree) (x : Name) → n < max → found p (unit_of u) → IsFirstAgain (scope_names u) x → o ≡ Err (duplicate_symbol p x) → Step n p ps o
    then_refused : (u : UnitTree) (r : LoadError) → n < max → found p (unit_of u) → AreDistinct (scope_names u) → Loads found max (n + 1) ps (Err r) → o ≡ Err r → Step n p ps o
    then_loaded : (u : UnitTree) (path : ModulePath) (ms : Modules) → n < max → found p (unit_of u) → AreDistinct (scope_names u) → path_text path ≡ p → Loads found max (n + 1) ps (Ok ms) → o ≡ Ok ((path, u) ∷ ms) → Step n p ps o

  step_of : (n : ℕ) (p : Path) (ps : List Path) (o : Result Modules LoadError) → Loads found max n (p ∷ ps) o → Step n p ps o
  step_of n p ps _ (one_too_many l) = too_many l refl
  step_of n p ps _ (is_not_found l f) = missing l f refl
  step_of n p ps _ (is_faulty {e = e} l f) = bad e l f refl
  step_of n p ps _ (is_unsupported l f) = beyond l f refl
  step_of n p ps _ (has_a_name_twice {u = u} {x = x} l f a) = twice u x l f a refl
  step_of n p ps _ (loaded_then_refused {u = u} {r = r} l f d rest) = then_refused u r l f d rest refl
  step_of n p ps _ (loaded {u = u} {path = path} {modules = ms} l f d t rest) = then_loaded u path ms l f d t rest refl

  units_same : (p : Path) (u v : UnitTree) → found p (unit_of u) → found p (unit_of v) → u ≡ v
  units_same p u v e f = let s : unit_of u ≡ unit_of v = functional p _ _ e f in cc

  same_refusal : (o q : Result Modules LoadError) (r s : LoadError) → o ≡ Err r → q ≡ Err s → r ≡ s → SameOutcome o q
  same_refusal o q r s e f t = subst (λ z. SameOutcome z q) (sym e) (subst (SameOutcome (Err r)) (sym f) t)

  steps_same : (n : ℕ) (p : Path) (ps : List Path) (o q : Result Modules LoadError) → ((r s : Result Modules LoadError) → Loads found max (n + 1) ps r → Loads found max (n + 1) ps s → SameOutcome r s) → Step n p ps o → Step n p ps q → SameOutcome o q
  steps_same n p ps o q more (too_many l e) (too_many k f) = same_refusal o q _ _ e f refl
  steps_same n p ps o q more (too_many l e) (missing k g f) = absurd (omega arith)
  steps_same n p ps o q more (too_many l e) (bad x k g f) = absurd (omega arith)
  steps_same n p ps o q more (too_many l e) (beyond k g f) = absurd (omega arith)
  steps_same n p ps o q more (too_many l e) (twice u x k g a f) = absurd (omega arith)
  steps_same n p ps o q more (too_many l e) (then_refused u r k g d z f) = absurd (omega arith)
  steps_same n p ps o q more (too_many l e) (then_loaded u path ms k g d t z f) = absurd (omega arith)
  steps_same n p ps o q more (missing l h e) (too_many k f) = absurd (omega arith)
  steps_same n p ps o q more (missing l h e) (missing k g f) = same_refusal o q _ _ e f refl
  steps_same n p ps o q more (missing l h e) (bad x k g f) = absurd (cc (functional p _ _ h g))
  steps_same n p ps o q more (missing l h e) (beyond k g f) = absurd (cc (functional p _ _ h g))
  steps_same n p ps o q more (missing l h e) (twice u x k g a f) = absurd (cc (functional p _ _ h g))
  steps_same n p ps o q more (missing l h e) (then_refused u r k g d z f) = absurd (cc (functional p _ _ h g))
  steps_same n p ps o q more (missing l h e) (then_loaded u path ms k g d t z f) = absurd (cc (functional p _ _ h g))
  steps_same n p ps o q more (bad y l h e) (too_many k f) = absurd (omega arith)
  steps_same n p ps o q more (bad y l h e) (missing k g f) = absurd (cc (functional p _ _ h g))
  steps_same n p ps o q more (bad y l h e) (bad x k g f) = let s : faulty y ≡ faulty x = functional p _ _ h g in let t : y ≡ x = cc in same_refusal o q _ _ e f (ap (syntax p) t)
  steps_same n p ps o q more (bad y l h e) (beyond k g f) = absurd (cc (functional p _ _ h g))
  steps_same n p ps o q more (bad y l h e) (twice u x k g a f) = absurd (cc (functional p _ _ h g))
  steps_same n p ps o q more (bad y l h e) (then_refused u r k g d z f) = absurd (cc (functional p _ _ h g))
  steps_same n p ps o q more (bad y l h e) (then_loaded u path ms k g d t z f) = absurd (cc (functional p _ _ h g))
  steps_same n p ps o q more (beyond l h e) (too_many k f) = absurd (omega arith)
  steps_same n p ps o q more (beyond l h e) (missing k g f) = absurd (cc (functional p _ _ h g))
  steps_same n p ps o q more (beyond l h e) (bad x k g f) = absurd (cc (functional p _ _ h g))
  steps_same n p ps o q more (beyond l h e) (beyond k g f) = same_refusal o q _ _ e f refl
  steps_same n p ps o q more (beyond l h e) (twice u x k g a f) = absurd (cc (functional p _ _ h g))
  steps_same n p ps o q more (beyond l h e) (then_refused u r k g d z f) = absurd (cc (functional p _ _ h g))
  steps_same n p ps o q more (beyond l h e) (then_loaded u path ms k g d t z f) = absurd (cc (functional p _ _ h g))
  steps_same n p ps o q more (twice v y l h b e) (too_many k f) = absurd (omega arith)
  steps_same n p ps o q more (twice v y l h b e) (missing k g f) = absurd (cc (functional p _ _ h g))
  steps_same n p ps o q more (twice v y l h b e) (bad x k g f) = absurd (cc (functional p _ _ h g))
  steps_same n p ps o q more (twice v y l h b e) (beyond k g f) = absurd (cc (functional p _ _ h g))
  steps_same n p ps o q more (twice v y l h b e) (twice u x k g a f) = same_refusal o q _ _ e f (ap (duplicate_symbol p) (again_once (scope_names u) y x (subst (λ w. IsFirstAgain (scope_names w) y) (units_same p v u h g) b) a))
  steps_same n p ps o q more (twice v y l h b e) (then_refused u r k g d z f) = absurd (again_not_distinct (scope_names u) y (subst (λ w. IsFirstAgain (scope_names w) y) (units_same p v u h g) b) d)
  steps_same n p ps o q more (twice v y l h b e) (then_loaded u path ms k g d t z f) = absurd (again_not_distinct (scope_names u) y (subst (λ w. IsFirstAgain (scope_names w) y) (units_same p v u h g) b) d)
  steps_same n p ps o q more (then_refused v s l h b w e) (too_many k f) = absurd (omega arith)
  steps_same n p ps o q more (then_refused v s l h b w e) (missing k g f) = absurd (cc (functional p _ _ h g))
  steps_same n p ps o q more (then_refused v s l h b w e) (bad x k g f) = absurd (cc (functional p _ _ h g))
  steps_same n p ps o q more (then_refused v s l h b w e) (beyond k g f) = absurd (cc (functional p _ _ h g))
  steps_same n p ps o q more (then_refused v s l h b w e) (twice u x k g a f) = absurd (again_not_distinct (scope_names v) x (subst (λ z. IsFirstAgain (scope_names z) x) (units_same p u v g h) a) b)
  steps_same n p ps o q more (then_refused v s l h b w e) (then_refused u r k g d z f) = same_refusal o q s r e f (more (Err s) (Err r) w z)
  steps_same n p ps o q more (then_refused v s l h b w e) (then_loaded u path ms k g d t z f) = absurd (more (Err s) (Ok ms) w z)
  steps_same n p ps o q more (then_loaded v path ms l h b t w e) (too_many k f) = absurd (omega arith)
  steps_same n p ps o q more (then_loaded v path ms l h b t w e) (missing k g f) = absurd (cc (functional p _ _ h g))
  steps_same n p ps o q more (then_loaded v path ms l h b t w e) (bad x k g f) = absurd (cc (functional p _ _ h g))
  steps_same n p ps o q more (then_loaded v path ms l h b t w e) (beyond k g f) = absurd (cc (functional p _ _ h g))
  steps_same n p ps o q more (then_loaded v path ms l h b t w e) (twice u x k g a f) = absurd (again_not_distinct (scope_names v) x (subst (λ z. IsFirstAgain (scope_names z) x) (units_same p u v g h) a) b)
  steps_same n p ps o q more (then_loaded v path ms l h b t w e) (then_refused u r k g d z f) = absurd (more (Ok ms) (Err r) w z)
  steps_same n p ps o q more (then_loaded v path ms l h b t w e) (then_loaded u road ns k g d s z f) =
      let paths : path_text path ≡ path_text road = t ∙ sym s in
      let rest : listed ms ≡ listed ns = more (Ok ms) (Ok ns) w z in
      let whole : listed ((path, v) ∷ ms) ≡ listed ((road, u) ∷ ns) =
      ap (λ c. (c, v) ∷ listed ms) paths ∙ ap (λ c. (path_text road, c) ∷ listed ms) (units_same p v u h g) ∙ ap (λ c. (path_text road, u) ∷ c) rest in
      subst (λ c. SameOutcome c q) (sym e) (subst (SameOutcome (Ok ((path, v) ∷ ms))) (sym f) whole)

  pub loads_once : (n : ℕ) (ps : List Path) (o q : Result Modules LoadError) → Loads found max n ps o → Loads found max n ps q → SameOutcome o q
  loads_once n [] _ _ all_loaded all_loaded = refl
  loads_once n (p ∷ ps) o q a b = steps_same n p ps o q (λ r s c d. loads_once (n + 1) ps r s c d) (step_of n p ps o a) (step_of n p ps q b)

abbrev first_unit : UnitTree → List (Path × UnitTree) → UnitTree
first_unit u [] = u
first_unit u (a ∷ rest) = a.1

-- ---- rounds

round_once : (modules : Modules) (root : Path) (keep : List Name) (ps qs : List Path) → IsNextRound modules root keep ps → IsNextRound modules root keep qs → ps ≡ qs
round_once modules root keep ps qs a b = ascending_same ps qs a.ascending b.ascending (λ x c. (b.asked x).1 ((a.asked x).0 c)) (λ x c. (a.asked x).1 ((b.asked x).0 c))

module _ (found : Sources) (functional : IsFunctional found) (root : Path) (keep : List Name) (max : ℕ) where
  contradicts : (a b : Modules) → listed a ≡ listed b → (r : LoadError) → NoneRefused a root keep → IsFirstRefused b root keep r → ⊥
  contradicts a b e r n f = none_moves a b root keep (same_listed a b e) n f.home f.declaration f.occurrence r f.refused

  loads_here : (a b : Modules) → listed a ≡ listed b → (ps qs : List Path) (o : Result Modules LoadError) → ps ≡ qs → Loads found max (length b) qs o → Loads found max (length a) ps o
  loads_here a b e ps qs o s l = subst (λ n. Loads found max n ps o) (sym (listed_length a b e)) (subst (λ z. Loads found max (length b) z o) (sym s) l)

  none_to_load : (n : ℕ) (r : LoadError) → Loads found max n [] (Err r) → ⊥
  none_to_load n r l = elim l [ ]

  goes_once : (a b : Modules) (o q : Result Modules LoadError) → listed a ≡ listed b → Apart a → LoadsRounds found root keep max a o → LoadsRounds found root keep max b q → SameOutcome o q
  goes_once a b _ _ e apart (an_occurrence_refused {r = r} f) (an_occurrence_refused {r = s} g) = first_once a root keep apart r s f (first_moves b a root keep (same_listed b a (sym e)) s g)
  goes_once a b _ _ e apart (an_occurrence_refused {r = r} f) (nothing_asked n k) = absurd (contradicts b a (sym e) r n f)
  goes_once a b _ _ e apart (an_occurrence_refused {r = r} f) (a_module_refused n k l) = absurd (contradicts b a (sym e) r n f)
  goes_once a b _ _ e apart (an_occurrence_refused {r = r} f) (a_round n k s l rest) = absurd (contradicts b a (sym e) r n f)
  goes_once a b _ _ e apart (nothing_asked m j) (an_occurrence_refused {r = r} f) = absurd (contradicts a b e r m f)
  goes_once a b _ _ e apart (nothing_asked m j) (nothing_asked n k) = e
  goes_once a b _ _ e apart (nothing_asked m j) (a_module_refused {ps = qs} {r = r} n k l) =
      absurd (none_to_load (length a) r (loads_here a b e [] qs (Err r) (round_once a root keep [] qs j (round_moves b a root keep (same_listed b a (sym e)) qs k)) l))
  goes_once a b _ _ e apart (nothing_asked m j) (a_round {ps = qs} n k s l rest) = absurd (s (sym (round_once a root keep [] qs j (round_moves b a root keep (same_listed b a (sym e)) qs k))))
  goes_once a b _ _ e apart (a_module_refused m j w) (an_occurrence_refused {r = r} f) = absurd (contradicts a b e r m f)
  goes_once a b _ _ e apart (a_module_refused {ps = ps} {r = r} m j w) (nothing_asked n k) =
      absurd (none_to_load (length a) r (subst (λ z. Loads found max (length a) z (Err r)) (sym (round_once a root keep [] ps (round_moves b a root keep (same_listed b a (sym e)) [] k) j)) w))
  goes_once a b _ _ e apart (a_module_refused {ps = ps} {r = r} m j w) (a_module_refused {ps = qs} {r = s} n k l) =
      loads_once found functional max (length a) ps (Err r) (Err s) w (loads_here a b e ps qs (Err s) (round_once a root keep ps qs j (round_moves b a root keep (same_listed b a (sym e)) qs k)) l)
  goes_once a b _ q e apart (a_module_refused {ps = ps} {r = r} m j w) (a_round {more = more} {ps = qs} n k s l rest) =
      absurd (loads_once found functional max (length a) ps (Err r) (Ok more) w (loads_here a b e ps qs (Ok more) (round_once a root keep ps qs j (round_moves b a root keep (same_listed b a (sym e)) qs k)) l))
  goes_once a b o _ e apart (a_round m j t w rest) (an_occurrence_refused {r = r} f) = absurd (contradicts a b e r m f)
  goes_once a b o _ e apart (a_round {ps = ps} m j t w rest) (nothing_asked n k) = absurd (t (round_once a root keep ps [] j (round_moves b a root keep (same_listed b a (sym e)) [] k)))
  goes_once a b o _ e apart (a_round {more = more} {ps = ps} m j t w rest) (a_module_refused {ps = qs} {r = r} n k l) =
      absurd (loads_once found functional max (length a) ps (Ok more) (Err r) w (loads_here a b e ps qs (Err r) (round_once a root keep ps qs j (round_moves b a root keep (same_listed b a (sym e)) qs k)) l))
  goes_once a b o q e apart (a_round {more = more} {ps = ps} m j t w rest) (a_round {more = others} {ps = qs} n k s l next) =
      let same : listed more ≡ listed others = loads_once found functional max (length a) ps (Ok more) (Ok others) w (loads_here a b e ps qs (Ok others) (round_once a root keep ps qs j (round_moves b a root keep (same_listed b a (sym e)) qs k)) l) in
      let whole : listed (a ++ more) ≡ listed (b ++ others) = listed-append a more ∙ ap (λ z. z ++ listed more) e ∙ ap (λ z. listed b ++ z) same ∙ sym (listed-append b others) in
      goes_once (a ++ more) (b ++ others) o q whole (next_apart root keep found max (length a) a more ps apart j w) rest next

  -- ---- from the root

  root_apart : (path : ModulePath) (u : UnitTree) → Loads found max 0 (root ∷ []) (Ok ((path, u) ∷ [])) → Apart ((path, u) ∷ [])
  root_apart path u l = record {
    apart = λ a b c d e. alone a b (in_cases (path, u) [] a c) (in_cases (path, u) [] b d);
    distinct = λ a c. (loading found max 0 (root ∷ []) ((path, u) ∷ []) l).names a c;
  }
    where
      alone : (a b : ModulePath × UnitTree) → ((path, u) ≡ a) ⊎ Contains [] a → ((path, u) ≡ b) ⊎ Contains [] b → a ≡ b
      alone a b (inl e) (inl f) = sym e ∙ f
      alone a b (inl e) (inr c) = absurd (in_none b c)
      alone a b (inr c) f = absurd (in_none a c)

  root_units : (path road : ModulePath) (u v : UnitTree) → listed ((path, u) ∷ []) ≡ listed ((road, v) ∷ []) → u ≡ v
  root_units path road u v e = ap (first_unit u) e

  all_kept : (u : UnitTree) (x : Name) → IsFirstUnkept found root keep max u x → ((y : Name) → Contains keep y → Declares u y) → ⊥
  all_kept u x f h = f.undeclared (h x (subst (λ l. Contains l x) (sym f.whole) (Contains-append_right f.before (x ∷ f.behind) x (first_in x f.behind))))

  comes_once : (o q : Result Modules LoadError) → IsLoadingResult found root keep max o → IsLoadingResult found root keep max q → SameOutcome o q
  comes_once _ _ (root_refused {r = r} a) (root_refused {r = s} b) = loads_once found functional max 0 (root ∷ []) (Err r) (Err s) a b
  comes_once _ _ (root_refused {r = r} a) (kept_name_missing {path = path} {u = u} b f) = absurd (loads_once found functional max 0 (root ∷ []) (Err r) (Ok ((path, u) ∷ [])) a b)
  comes_once _ q (root_refused {r = r} a) (goes_on {path = path} {u = u} b h g) = absurd (loads_once found functional max 0 (root ∷ []) (Err r) (Ok ((path, u) ∷ [])) a b)
  comes_once _ _ (kept_name_missing {path = path} {u = u} a f) (root_refused {r = s} b) = absurd (loads_once found functional max 0 (root ∷ []) (Ok ((path, u) ∷ [])) (Err s) a b)
  comes_once _ _ (kept_name_missing {path = path} {u = u} {x = x} a f) (kept_name_missing {path = road} {u = v} {x = y} b g) =
      let same : u ≡ v = root_units path road u v (loads_once found functional max 0 (root ∷ []) (Ok ((path, u) ∷ [])) (Ok ((road, v) ∷ [])) a b) in
      ap (missing_decl root) (unkept_once found root keep max v x y (subst (λ z. IsFirstUnkept found root keep max z x) same f) g)
  comes_once _ q (kept_name_missing {path = path} {u = u} {x = x} a f) (goes_on {path = road} {u = v} b h g) =
      let same : u ≡ v = root_units path road u v (loads_once found functional max 0 (root ∷ []) (Ok ((path, u) ∷ [])) (Ok ((road, v) ∷ [])) a b) in
      absurd (all_kept v x (subst (λ z. IsFirstUnkept found root keep max z x) same f) h)
  comes_once o _ (goes_on {path = path} {u = u} a h g) (root_refused {r = s} b) = absurd (loads_once found functional max 0 (root ∷ []) (Ok ((path, u) ∷ [])) (Err s) a b)
  comes_once o _ (goes_on {path = path} {u = u} a h g) (kept_name_missing {path = road} {u = v} {x = y} b f) =
      let same : u ≡ v = root_units path road u v (loads_once found functional max 0 (root ∷ []) (Ok ((path, u) ∷ [])) (Ok ((road, v) ∷ [])) a b) in
      absurd (all_kept v y f (subst (λ z. (w : Name) → Contains keep w → Declares z w) same h))
  comes_once o q (goes_on {path = path} {u = u} a h g) (goes_on {path = road} {u = v} b k l) =
      goes_once ((path, u) ∷ []) ((road, v) ∷ []) o q (loads_once found functional max 0 (root ∷ []) (Ok ((path, u) ∷ [])) (Ok ((road, v) ∷ [])) a b) (root_apart path u a) g l

pub loading_comes_to_one : (found : Sources) → LoadingComesToOne found
loading_comes_to_one found functional root keep max o q a b = comes_once found functional root keep max o q a b
