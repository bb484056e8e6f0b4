-- What is mounted says the same before and after a call.
use Rattle.std.proofs.Math.Path.{fun_ext}
use Rattle.std.proofs.Common.{◌≡◌, refl, sym, ap, ◌∙◌, subst, ℕ, zero, suc, List, [], ◌∷◌, Option, Some, None, slice_get, slice_set, inl, inr, Ok, Err, Result}
use Rattle.std.specs.Prelude.{◌↔◌}
use Rattle.wgsl_path.specs.declared.path.ModulePath.{ModulePath}
use Rattle.wgsl_declarations.specs.declared.unit.TranslationUnit.{TranslationUnit}
use Rattle.wesl_resolvers.specs.declared.error.ResolveError.{ResolveError}
use Rattle.wesl_resolvers.specs.declared.error.ResolveError.TheVariants.{ModuleNotFound, Syntax, GaveUp, Condition, ConditionLeft, OutOfMemory}
use Rattle.wesl_resolvers.specs.Found.{Answer, SameAnswers, SameTexts, TellsUnit, TellsText}
use Rattle.wesl_router.specs.declared.choice.Served.{Served}
use Rattle.wesl_router.specs.Choice.{best_of, rest_behind}
use Rattle.wesl_router.specs.Routing.{asked_of, target_at, target, nowhere, answered, texted, named, IsSame, Alike, AreAlike}
use Rattle.wesl_router.specs.Telling.{told_at, ToldOf, NotFoundAt}

-- ---- refusals of another path

at_path : (found : Answer → Type 0) (rest path : ModulePath) (e : ResolveError) → TellsUnit found rest (Err e) → TellsUnit found path (Err (told_at path e))
at_path found rest path (ModuleNotFound p) h = (refl, h.1)
at_path found rest path (Syntax p e) h = (refl, h.1)
at_path found rest path (GaveUp p r) h = refl
at_path found rest path (Condition p e) h = (refl, h.1)
at_path found rest path (ConditionLeft p) h = (refl, h.1)
at_path found rest path OutOfMemory h = tt

pub told_unit : (found : Answer → Type 0) (rest path : ModulePath) (e told : ResolveError) → TellsUnit found rest (Err e) → ToldOf path e told → TellsUnit found path (Err told)
told_unit found rest path e told h (inl is) = subst (λ t. TellsUnit found path (Err t)) (sym is) (at_path found rest path e h)
told_unit found rest path e told h (inr is) = let P : ResolveError → Type 0 = λ t. TellsUnit found path (Err t) in subst P (sym is) tt

text_at_path : (found : Answer → Type 0) (texts : List ℕ → Type 0) (rest path : ModulePath) (e : ResolveError) → TellsText found texts rest (Err e) → TellsText found texts path (Err (told_at path e))
text_at_path found texts rest path (ModuleNotFound p) h = (refl, h.1)
text_at_path found texts rest path (Syntax p e) h = h
text_at_path found texts rest path (GaveUp p r) h = h
text_at_path found texts rest path (Condition p e) h = h
text_at_path found texts rest path (ConditionLeft p) h = h
text_at_path found texts rest path OutOfMemory h = tt

pub told_text : (found : Answer → Type 0) (texts : List ℕ → Type 0) (rest path : ModulePath) (e told : ResolveError) → TellsText found texts rest (Err e) → ToldOf path e told → TellsText found texts path (Err told)
told_text found texts rest path e told h (inl is) = subst (λ t. TellsText found texts path (Err t)) (sym is) (text_at_path found texts rest path e h)
told_text found texts rest path e told h (inr is) = let P : ResolveError → Type 0 = λ t. TellsText found texts path (Err t) in subst P (sym is) tt

module _ {M : Type 0} (found : M → ModulePath → Answer → Type 0) (texts : M → ModulePath → List ℕ → Type 0) (names : M → ModulePath → Option (List ℕ)) where
  pub nowhere_unit : (path : ModulePath) (told : ResolveError) → NotFoundAt path told → TellsUnit (answered found nowhere) path (Err told)
  nowhere_unit path told (inl is) = let P : ResolveError → Type 0 = λ t. TellsUnit (answered found nowhere) path (Err t) in subst P (sym is) (refl, refl)
  nowhere_unit path told (inr is) = let P : ResolveError → Type 0 = λ t. TellsUnit (answered found nowhere) path (Err t) in subst P (sym is) tt

  pub nowhere_text : (path : ModulePath) (told : ResolveError) → NotFoundAt path told → TellsText (answered found nowhere) (texted texts nowhere) path (Err told)
  nowhere_text path told (inl is) = let P : ResolveError → Type 0 = λ t. TellsText (answered found nowhere) (texted texts nowhere) path (Err t) in subst P (sym is) (refl, refl)
  nowhere_text path told (inr is) = let P : ResolveError → Type 0 = λ t. TellsText (answered found nowhere) (texted texts nowhere) path (Err t) in subst P (sym is) tt

  -- ---- the same things

  pub itself : (m : M) → IsSame found texts names m m
  itself m = record { answers = λ p a. (λ h. h, λ h. h); all_texts = λ p t. (λ h. h, λ h. h); all_names = refl }

  pub alike_itself : (o : Option M) → Alike (IsSame found texts names) o o
  alike_itself None = tt
  alike_itself (Some m) = itself m

  pub all_alike : (ms : List M) → AreAlike (IsSame found texts names) ms ms
  all_alike ms i = alike_itself (slice_get ms i)

  pub set_alike : (ms : List M) (i : ℕ) (m n : M) → slice_get ms i ≡ Some m → IsSame found texts names m n → AreAlike (IsSame found texts names) ms (slice_set ms i n)
  set_alike [] i m n is same j = absurd (cc)
  set_alike (x ∷ ms) zero m n is same zero = let one : m ≡ x = cc in subst (λ (y : M). IsSame found texts names y n) one same
  set_alike (x ∷ ms) zero m n is same (suc j) = alike_itself (slice_get ms j)
  set_alike (x ∷ ms) (suc i) m n is same zero = itself x
  set_alike (x ∷ ms) (suc i) m n is same (suc j) = set_alike ms i m n is same j

  -- ---- what they say

  asked_answers : (o q : Option M) (p : ModulePath) (a : Answer) → Alike (IsSame found texts names) o q → answered found (asked_of o p) a ↔ answered found (asked_of q p) a
  asked_answers None None p a h = (λ k. k, λ k. k)
  asked_answers (Some m) (Some n) p a h = h.answers p a
  asked_answers None (Some n) p a h = absurd h
  asked_answers (Some m) None p a h = absurd h

  asked_texts : (o q : Option M) (p : ModulePath) (t : List ℕ) → Alike (IsSame found texts names) o q → texted texts (asked_of o p) t ↔ texted texts (asked_of q p) t
  asked_texts None None p t h = (λ k. k, λ k. k)
  asked_texts (Some m) (Some n) p t h = h.all_texts p t
  asked_texts None (Some n) p t h = absurd h
  asked_texts (Some m) None p t h = absurd h

  asked_names : (o q : Option M) (p : ModulePath) → Alike (IsSame found texts names) o q → named names (asked_of q p) ≡ named names (asked_of o p)
  asked_names None None p h = refl
  asked_names (Some m) (Some n) p h = ap (λ f. f p) h.all_names
  asked_names None (Some n) p h = absurd h
  asked_names (Some m) None p h = absurd h

  module _ (prefixes : List ModulePath) (old new : List M) (before after : Option M) (mounts : AreAlike (IsSame found texts names) old new) (fallback : Alike (IsSame found texts names) before after) where
    answers_by : (s : Option Served) (p : ModulePath) (a : Answer) → answered found (target_at old before p s) a ↔ answered found (target_at new after p s) a
    answers_by None p a = asked_answers before after p a fallback
    answers_by (Some s) p a = asked_answers (slice_get old s.place) (slice_get new s.place) (rest_behind s.names p) a (mounts s.place)

    pub same_answers : SameAnswers (λ p. answered found (target prefixes old before p)) (λ p. answered found (target prefixes new after p))
    same_answers p a = answers_by (best_of p prefixes) p a

    texts_by : (s : Option Served) (p : ModulePath) (t : List ℕ) → texted texts (target_at old before p s) t ↔ texted texts (target_at new after p s) t
    texts_by None p t = asked_texts before after p t fallback
    texts_by (Some s) p t = asked_texts (slice_get old s.place) (slice_get new s.place) (rest_behind s.names p) t (mounts s.place)

    pub same_texts : SameTexts (λ p. texted texts (target prefixes old before p)) (λ p. texted texts (target prefixes new after p))
    same_texts p t = texts_by (best_of p prefixes) p t

    names_by : (s : Option Served) (p : ModulePath) → named names (target_at new after p s) ≡ named names (target_at old before p s)
    names_by None p = asked_names before after p fallback
    names_by (Some s) p = asked_names (slice_get old s.place) (slice_get new s.place) (rest_behind s.names p) (mounts s.place)

    pub same_names : ◌≡◌ {A = ModulePath → Option (List ℕ)} (λ p. named names (target prefixes new after p)) (λ p. named names (target prefixes old before p))
    same_names = fun_ext (λ p. names_by (best_of p prefixes) p)
