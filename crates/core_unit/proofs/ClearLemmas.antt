-- Clear names are no names of types.
use Rattle.std.proofs.Common.{◌≡◌, ℕ, List, [], ◌∷◌, ◌++◌, map, Bool, true, false, cond, refl, sym, ap, ◌∙◌}
use Rattle.std.specs.Prelude.{codes, filter}
use Rattle.std.proofs.lemmas.Bool.{or_parts, false≢true}
use Rattle.core_syntax.specs.Tree.{Attr, Block, Param, Decl, variable, function, UnitTree as Module}
use Rattle.core_syntax.specs.Names.{declared_name}
use Rattle.wgsl_words.specs.Names.{Name, is_in}
use Rattle.wgsl_words.specs.Builtin.{builtin_names}
use Rattle.core_validate.specs.Scopes.{names}
use Rattle.core_validate.specs.Clearness.{is_taken, unclear_in, unclear_after, unclear}
use Rattle.core_lower.specs.Keeps.{is_clear, ClearParameters, IsClear, AreClear}

-- a test that no element of a list passes
left-out : {X : Type 0} (p : X → Bool) (x : X) (xs : List X) → filter p (x ∷ xs) ≡ [] → (p x ≡ false) × (filter p xs ≡ [])
left-out p x xs h = at (p x) h
  where
    at : (b : Bool) → cond b (x ∷ filter p xs) (filter p xs) ≡ [] → (b ≡ false) × (filter p xs ≡ [])
    at true h = absurd (let no : ⊥ = cc in no)
    at false h = (refl, h)

both-empty : {X : Type 0} (xs ys : List X) → xs ++ ys ≡ [] → (xs ≡ []) × (ys ≡ [])
both-empty [] ys h = (refl, h)
both-empty (x ∷ xs) ys h = absurd (let no : ⊥ = cc in no)

not-built-in : (x : Name) → is_in x builtin_names ≡ false → is_clear x
not-built-in x h =
    ((λ e. false≢true (sym h ∙ ap (λ y. is_in y builtin_names) e)), (λ e. false≢true (sym h ∙ ap (λ y. is_in y builtin_names) e)))

-- a name that is not taken
not-taken : (taken : List Name) (x : Name) → is_taken builtin_names taken x ≡ false → is_clear x
not-taken taken x h = not-built-in x (or_parts (is_in x builtin_names) (is_in x taken) h).0

module _ (globals : List Name) where
  clear-parameters : (ps : List Param) → filter (is_taken builtin_names globals) (map (λ p. p.name) ps) ≡ [] → ClearParameters ps
  clear-parameters [] h = tt
  clear-parameters (p ∷ ps) h =
      let parts = left-out (is_taken builtin_names globals) p.name (map (λ q. q.name) ps) h in
      (not-taken globals p.name parts.0, clear-parameters ps parts.1)

  clear-declaration : (before : List Name) (d : Decl) → unclear_in builtin_names globals before d ≡ [] → IsClear d
  clear-declaration before (variable attributes kind x type e) h =
      not-taken before x (left-out (is_taken builtin_names before) x [] (both-empty (filter (is_taken builtin_names before) (x ∷ [])) [] h).0).0
  clear-declaration before (function attributes f ps return_attributes type body) h =
      let parts = both-empty (filter (is_taken builtin_names before) (f ∷ [])) (filter (is_taken builtin_names globals) (map (λ p. p.name) ps)) h in
      (not-taken before f (left-out (is_taken builtin_names before) f [] parts.0).0, clear-parameters ps parts.1)

  clear-declarations : (before : List Name) (ds : List Decl) → unclear_after builtin_names globals before ds ≡ [] → AreClear ds
  clear-declarations before [] h = tt
  clear-declarations before (d ∷ ds) h =
      let parts = both-empty (unclear_in builtin_names globals before d) (unclear_after builtin_names globals (before ++ declared_name d ∷ []) ds) h in
      (clear-declaration before d parts.0, clear-declarations (before ++ declared_name d ∷ []) ds parts.1)

-- a unit with clear names has none of a type
pub clear-names : (u : Module) → unclear u builtin_names ≡ [] → AreClear u.declarations
clear-names u h = clear-declarations (names u) [] u.declarations h
