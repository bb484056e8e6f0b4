-- Modules one after another, and the paths that are taken.
use Rattle.std.proofs.Common.{◌≡◌, refl, sym, ap, ◌∙◌, subst, ℕ, List, [], ◌∷◌, ◌++◌, ◌+◌, ◌<◌, length, take, drop, get_or, Bool, true, false, cond, ◌||◌, bytes_eq, arith, length-append, ◌⊎◌, inl, inr, Ok}
use Rattle.std.specs.List.{list_any}
use Rattle.std.proofs.lemmas.Bool.{false≢true}
use Rattle.weslc_bundle.specs.declared.request.Request.{Request}
use Rattle.weslc_bundle.specs.declared.request.BundleError.{BundleError}
use Rattle.weslc_bundle.specs.declared.request.BundleError.TheVariants.{OutOfMemory, DuplicateModule}
use Rattle.wgsl_path.specs.declared.path.ModulePath.{ModulePath}
use Rattle.std.proofs.lemmas.List.{get_or_append_left, get_or_at, take-append-drop, take_more, at_drop_more}
use Rattle.std.proofs.lemmas.List.Folds.{list_any_more, list_any_at, Any-from_list_any}
use Rattle.std.proofs.lemmas.List.Quantifiers.{all_pairs_push}
use Rattle.std.proofs.lemmas.Slice.Eq.{bytes_eq-Decides}
use Rattle.wgsl_path.specs.Paths.{path_text}
use Rattle.weslc_bundle.specs.declared.request.Module.{Module}
use Rattle.weslc_bundle.specs.Bundles.{AtOnePath, IsApart, IsFirstTwice, IsBundle, IsFault, request_of}

-- whether some of these modules is at the path that is written so
abbrev pub taken : List Module → List ℕ → Bool
taken modules bs = list_any (λ m. bytes_eq (path_text m.path) bs) modules

by_test : (a b : Bool) → cond b true a ≡ (a || b)
by_test true true = refl
by_test true false = refl
by_test false true = refl
by_test false false = refl

pub taken_more : (modules : List Module) (i : ℕ) (m : Module) (bs q : List ℕ) (old new : Bool) → i < length modules → m ≡ get_or modules i m → bs ≡ path_text m.path
    → old ≡ taken (take i modules) q → new ≡ cond (bytes_eq bs q) true old → new ≡ taken (take (i + 1) modules) q
taken_more modules i m bs q old new within item is before put =
    put ∙ ap (λ b. cond b true old) (ap (λ t. bytes_eq t q) (is ∙ ap (λ n. path_text n.path) item))
    ∙ ap (λ b. cond (bytes_eq (path_text (get_or modules i m).path) q) true b) before
    ∙ by_test (taken (take i modules) q) (bytes_eq (path_text (get_or modules i m).path) q)
    ∙ sym (list_any_more (λ n. bytes_eq (path_text n.path) q) modules i m within)

pub apart_more : (modules : List Module) (i : ℕ) (m : Module) (bs : List ℕ) → i < length modules → m ≡ get_or modules i m → bs ≡ path_text m.path
    → taken (take i modules) bs ≡ false → IsApart (take i modules) → IsApart (take (i + 1) modules)
apart_more modules i m bs within item is free apart =
    subst IsApart (sym (take_more modules i m within ∙ ap (λ n. take i modules ++ n ∷ []) (sym item)))
    (all_pairs_push (λ one other. AtOnePath one other → ⊥) (take i modules) m apart
    (λ k d below same. false≢true (sym free ∙ list_any_at (λ n. bytes_eq (path_text n.path) bs) (take i modules) k d below ((bytes_eq-Decides _ bs).1 (same ∙ sym is)))))

pub first_twice : (modules : List Module) (i : ℕ) (m : Module) (bs : List ℕ) → i < length modules → m ≡ get_or modules i m → bs ≡ path_text m.path
    → taken (take i modules) bs ≡ true → IsApart (take i modules) → IsFirstTwice modules m.path
first_twice modules i m bs within item is found apart =
    let some = Any-from_list_any (λ n. bytes_eq (path_text n.path) bs) (take i modules) found in (
      take i modules,
      drop (i + 1) modules,
      m,
      sym (take-append-drop i modules) ∙ ap (λ rest. take i modules ++ rest) (at_drop_more (λ rest. rest) modules i m within ∙ ap (λ n. n ∷ drop (i + 1) modules) (sym item)),
      refl,
      apart,
      (some.0, some.1, some.2, some.3, (bytes_eq-Decides _ bs).0 some.4 ∙ is),
    )

-- modules that are apart have no path twice
pub apart_never_twice : (modules : List Module) (path : ModulePath) → IsApart modules → IsFirstTwice modules path → ⊥
apart_never_twice modules path apart (before, after, twice, is, at, free, (k, earlier, below, here, same)) =
    let n = length before in
    let within : n < length modules = omega (arith, ap length is, length-append before (twice ∷ after)) in
    let first = ap (λ ms. get_or ms k earlier) is ∙ get_or_append_left before (twice ∷ after) earlier k below ∙ here in
    let second = ap (λ ms. get_or ms n earlier) is ∙ get_or_at before twice after earlier n refl in
    apart k n earlier below within (ap (λ m. path_text m.path) first ∙ same ∙ ap (λ m. path_text m.path) (sym second))

-- what has a fault is no bundle
pub fault_of_none : (bytes : List ℕ) (request : Request) (fault : BundleError) → IsFault bytes fault → IsBundle bytes request → ⊥
fault_of_none bytes request fault (inl is) whole = absurd (let both = sym whole.0 ∙ is in cc)
fault_of_none bytes request fault (inr (other, path, is, twice, e)) whole =
    let meant : Ok request ≡ Ok other = sym whole.0 ∙ is in
    let one : request ≡ other = cc in
    apart_never_twice other.modules path (subst {A = Request} (λ r. IsApart r.modules) one whole.1) twice

pub twice_of_none : (bytes : List ℕ) (request : Request) (e : BundleError) → request_of bytes ≡ Ok request
    → (e ≡ OutOfMemory) ⊎ ((path : ModulePath) × IsFirstTwice request.modules path × (e ≡ DuplicateModule path)) → (e ≡ OutOfMemory) ⊎ ((r : Request) → IsBundle bytes r → ⊥)
twice_of_none bytes request e meant (inl memory) = inl memory
twice_of_none bytes request e meant (inr (path, twice, is)) = inr (λ r. fault_of_none bytes r e (inr (request, path, meant, twice, is)))
