-- What the part tells of what a resolver of whole modules tells.
use Rattle.std.proofs.Common.{◌≡◌, refl, sym, ap, ◌∙◌, subst, ◌⊎◌, inl, inr, ℕ, List, [], ◌∷◌, ◌++◌, map, Option, Some, None, Result, Ok, Err}
use Rattle.std.specs.Prelude.{◌↔◌}
use Rattle.std.specs.Option.{option_map}
use Rattle.std.proofs.lemmas.List.{map-append}
use Rattle.wgsl_path.specs.declared.path.ModulePath.{ModulePath}
use Rattle.wgsl_path.specs.Paths.{path_text}
use Rattle.wgsl_path.specs.Reading.{parts, path_of}
use Rattle.wgsl_declarations.specs.Tree as whole_trees
use Rattle.wgsl_declarations.specs.declared.unit.TranslationUnit as whole_unit
use Rattle.core_syntax.specs.Tree.{UnitTree}
use Rattle.core_syntax.specs.declared.unit.TranslationUnit.{TranslationUnit}
use Rattle.core_syntax.specs.View.{unit_tree}
use Rattle.core_narrowing.specs.Widening.{widen_unit}
use Rattle.core_narrowing.specs.InCore.{IsInCore}
use Rattle.core_narrowing.specs.declared.error.NarrowError.TheVariants as narrowing
use Rattle.wesl_resolvers.specs.Found as whole
use Rattle.wesl_resolvers.specs.declared.error.ResolveError as whole_error
use Rattle.wesl_resolvers.specs.declared.error.ResolveError.TheVariants as wholly
use Rattle.wesl_resolve.specs.declared.error.ResolveError.{ResolveError}
use Rattle.wesl_resolve.specs.declared.error.ResolveError.TheVariants as part
use Rattle.wesl_resolve.specs.Found.{Answer, unit_of, not_found, faulty, unsupported, TellsUnit, TellsText, SameAnswers, SameTexts, Asked, HasAsked, AsksFor}
use Rattle.core_resolver.specs.Found.{IsBeyond, a_module, a_condition, left_open, IsCoreAnswer, at_text, part_found, part_names, name_by, Finds, TellsCore, IsUnsupportedAt, part_refusal, TellsRefused}

-- ---- the unit of the part that a module is

pub part_told : (m : whole_trees.UnitTree) (path : ModulePath) (u : TranslationUnit) → Finds m (Ok u) → TellsCore m path (Ok u)
part_told m path u is = is

pub beyond_told : (m : whole_trees.UnitTree) (path : ModulePath) (told : ResolveError) → Finds m (Err narrowing.Unsupported) → IsUnsupportedAt path told → TellsCore m path (Err told)
beyond_told m path told none (inl is) = let P : ResolveError → Type 0 = λ t. TellsCore m path (Err t) in subst P (sym is) (refl, none)
beyond_told m path told none (inr is) = let P : ResolveError → Type 0 = λ t. TellsCore m path (Err t) in subst P (sym is) tt

-- ---- what is found, at a path whose text is read as that path

pub unit_told : (found : ModulePath → whole.Answer → Type 0) (path own : ModulePath) (m : whole_trees.UnitTree) (r : Result TranslationUnit ResolveError)
    → path_of (parts (path_text path)) ≡ Ok own → found own (whole.unit_of m) → TellsCore m path r → TellsUnit (part_found found (path_text path)) path r
unit_told found path own m (Ok u) read is k = (own, read, (subst (λ t. found own (whole.unit_of t)) (sym k.0) is, k.1))
unit_told found path own m (Err (part.ModuleNotFound p)) read is k = absurd k
unit_told found path own m (Err (part.Syntax p f)) read is k = absurd k
unit_told found path own m (Err (part.Unsupported p)) read is k = (k.0, (own, read, a_module m is k.1))
unit_told found path own m (Err (part.GaveUp p r)) read is k = absurd k
unit_told found path own m (Err part.OutOfMemory) read is k = tt

module _ (found : ModulePath → whole.Answer → Type 0) (path own : ModulePath) (read : path_of (parts (path_text path)) ≡ Ok own) where
  refused_there : (e : whole_error.ResolveError) → whole.TellsUnit (found own) own (Err e) → TellsUnit (part_found found (path_text path)) path (Err (part_refusal path e))
  refused_there (wholly.ModuleNotFound q) h = (refl, (own, read, h.1))
  refused_there (wholly.Syntax q f) h = (refl, (own, read, h.1))
  refused_there (wholly.GaveUp q r) h = refl
  refused_there (wholly.Condition q f) h = (refl, (own, read, a_condition f h.1))
  refused_there (wholly.ConditionLeft q) h = (refl, (own, read, left_open h.1))
  refused_there wholly.OutOfMemory h = tt

  no_text_there : (texts : ModulePath → List ℕ → Type 0) (e : whole_error.ResolveError) → whole.TellsText (found own) (texts own) own (Err e)
      → TellsText (part_found found (path_text path)) (at_text texts (path_text path)) path (Err (part_refusal path e))
  no_text_there texts (wholly.ModuleNotFound q) h = (refl, (own, read, h.1))
  no_text_there texts (wholly.Syntax q f) h = h
  no_text_there texts (wholly.GaveUp q r) h = h
  no_text_there texts (wholly.Condition q f) h = h
  no_text_there texts (wholly.ConditionLeft q) h = h
  no_text_there texts wholly.OutOfMemory h = tt

pub unit_refused : (found : ModulePath → whole.Answer → Type 0) (path own : ModulePath) (e : whole_error.ResolveError) (told : ResolveError)
    → path_of (parts (path_text path)) ≡ Ok own → whole.TellsUnit (found own) own (Err e) → TellsRefused e path told → TellsUnit (part_found found (path_text path)) path (Err told)
unit_refused found path own e told read h (inl is) =
    let P : ResolveError → Type 0 = λ t. TellsUnit (part_found found (path_text path)) path (Err t) in subst P (sym is) (refused_there found path own read e h)
unit_refused found path own e told read h (inr is) = let P : ResolveError → Type 0 = λ t. TellsUnit (part_found found (path_text path)) path (Err t) in subst P (sym is) tt

pub text_told : (texts : ModulePath → List ℕ → Type 0) (path own : ModulePath) (text : List ℕ) → path_of (parts (path_text path)) ≡ Ok own → texts own text → at_text texts (path_text path) text
text_told texts path own text read is = (own, read, is)

pub text_refused : (found : ModulePath → whole.Answer → Type 0) (texts : ModulePath → List ℕ → Type 0) (path own : ModulePath) (e : whole_error.ResolveError) (told : ResolveError)
    → path_of (parts (path_text path)) ≡ Ok own → whole.TellsText (found own) (texts own) own (Err e) → TellsRefused e path told
    → TellsText (part_found found (path_text path)) (at_text texts (path_text path)) path (Err told)
text_refused found texts path own e told read h (inl is) =
    let P : ResolveError → Type 0 = λ t. TellsText (part_found found (path_text path)) (at_text texts (path_text path)) path (Err t)
    in subst P (sym is) (no_text_there found path own read texts e h)
text_refused found texts path own e told read h (inr is) =
    let P : ResolveError → Type 0 = λ t. TellsText (part_found found (path_text path)) (at_text texts (path_text path)) path (Err t) in subst P (sym is) tt

pub name_told : (names : ModulePath → Option (List ℕ)) (path own : ModulePath) (name : Option (List ℕ)) → path_of (parts (path_text path)) ≡ Ok own → name ≡ names own → name ≡ part_names names (path_text path)
name_told names path own name read is = is ∙ ap (name_by names) (sym read)

-- ---- nothing is found otherwise

beyond_too : (f g : whole.Answer → Type 0) → ((b : whole.Answer) → f b → g b) → IsBeyond f → IsBeyond g
beyond_too f g to (a_module m is none) = a_module m (to (whole.unit_of m) is) none
beyond_too f g to (a_condition e is) = a_condition e (to (whole.conditioned e) is)
beyond_too f g to (left_open is) = left_open (to whole.left_open is)

answer_too : (f g : whole.Answer → Type 0) → ((b : whole.Answer) → f b → g b) → (a : Answer) → IsCoreAnswer f a → IsCoreAnswer g a
answer_too f g to (unit_of u) h = (to (whole.unit_of (widen_unit u)) h.0, h.1)
answer_too f g to not_found h = to whole.not_found h
answer_too f g to (faulty e) h = to (whole.faulty e) h
answer_too f g to unsupported h = beyond_too f g to h

pub same_part : (old new : ModulePath → whole.Answer → Type 0) → whole.SameAnswers old new → SameAnswers (part_found old) (part_found new)
same_part old new same p a = (
  λ h. (h.0, h.1, answer_too (old h.0) (new h.0) (λ b. (same h.0 b).0) a h.2),
  λ h. (h.0, h.1, answer_too (new h.0) (old h.0) (λ b. (same h.0 b).1) a h.2),
)

pub same_part_texts : (old new : ModulePath → List ℕ → Type 0) → whole.SameTexts old new → SameTexts (at_text old) (at_text new)
same_part_texts old new same p text = (λ h. (h.0, h.1, (same h.0 text).0 h.2), λ h. (h.0, h.1, (same h.0 text).1 h.2))

pub same_part_names : (old new : ModulePath → Option (List ℕ)) → new ≡ old → part_names new ≡ part_names old
same_part_names old new same = ap part_names same

-- ---- what was asked for

asked_by : (before after : whole.Asked) (path own : ModulePath) → path_text own ≡ path_text path → whole.HasAsked before (own ∷ []) after
    → HasAsked (option_map (map path_text) before) (path_text path ∷ []) (option_map (map path_text) after)
asked_by None after path own same h = ap (option_map (map path_text)) h
asked_by (Some ps) after path own same h = ap (option_map (map path_text)) h ∙ ap (λ l. Some l) (map-append path_text ps (own ∷ [])) ∙ ap (λ t. Some (map path_text ps ++ t ∷ [])) same

pub asks_told : (before after : whole.Asked) (path own : ModulePath) (unit : whole_unit.TranslationUnit) (r : Result TranslationUnit ResolveError)
    → path_text own ≡ path_text path → whole.AsksFor before own (Ok unit) after → AsksFor (option_map (map path_text) before) (path_text path) r (option_map (map path_text) after)
asks_told before after path own unit r same (inl h) = inl (asked_by before after path own same h)
asks_told before after path own unit r same (inr h) = let wrong : Ok unit ≡ Err wholly.OutOfMemory = h.0 in absurd (cc)

refused_memory : (e : whole_error.ResolveError) (path : ModulePath) (told : ResolveError) → e ≡ wholly.OutOfMemory → TellsRefused e path told → told ≡ part.OutOfMemory
refused_memory e path told memory (inl is) = is ∙ ap (part_refusal path) memory
refused_memory e path told memory (inr is) = is

pub asks_refused : (before after : whole.Asked) (path own : ModulePath) (e : whole_error.ResolveError) (told : ResolveError)
    → path_text own ≡ path_text path → TellsRefused e path told → whole.AsksFor before own (Err e) after → AsksFor (option_map (map path_text) before) (path_text path) (Err told) (option_map (map path_text) after)
asks_refused before after path own e told same k (inl h) = inl (asked_by before after path own same h)
asks_refused before after path own e told same k (inr h) =
    let is : e ≡ wholly.OutOfMemory = (let both : Err e ≡ Err wholly.OutOfMemory = h.0 in cc) in inr (ap (λ x. Err x) (refused_memory e path told is k), ap (option_map (map path_text)) h.1)
