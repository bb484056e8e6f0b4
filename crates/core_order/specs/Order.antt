-- The order in which values are started: text order, but each after those that it reaches, these by the same rule (this project's
-- own; WGSL leaves the order open, since only the choice of the first fault depends on it).
use Rattle.std.specs.Prelude.{◌≡◌, List, [], ◌∷◌, ◌++◌}
use Rattle.std.specs.List.{Contains}

-- those of a list for which P holds, in the list's order
pub data Selects {A : Type 0} (P : A → Type 0) : List A → List A → Type 0 where
  nothing_left : Selects P [] []
  takes : {x : A} {xs ys : List A} → P x → Selects P xs ys → Selects P (x ∷ xs) (x ∷ ys)
  leaves : {x : A} {xs ys : List A} → (P x → ⊥) → Selects P xs ys → Selects P (x ∷ xs) ys

-- those that were begun, and those that are started, in order. What is begun and not yet started waits for what it reaches
pub record Progress (A : Type 0) : Type 0 where
  pub begun : List A
  pub started : List A

abbrev pub beginning : {A : Type 0} → A → Progress A → Progress A
beginning x p = record { begun = p.begun ++ x ∷ []; started = p.started }

abbrev pub ending : {A : Type 0} → A → Progress A → Progress A
ending x p = record { begun = p.begun; started = p.started ++ x ∷ [] }

-- `all` in text order; `Reaches x y`: a chain of mentions leads from x to y
module _ {A : Type 0} (Reaches : A → A → Type 0) (all : List A) where
  -- from one progress, the elements of a list in turn, to another
  pub data Starts : Progress A → List A → Progress A → Type 0 where
    none_left : {p : Progress A} → Starts p [] p
    -- it was begun before
    passes : {p q : Progress A} {x : A} {xs : List A} → Contains p.begun x → Starts p xs q → Starts p (x ∷ xs) q
    -- first those that it reaches, then it
    starts : {p q r : Progress A} {x : A} {xs : List A} (reached : List A) → (Contains p.begun x → ⊥) → Selects (Reaches x) all reached
        → Starts (beginning x p) reached q → Starts (ending x q) xs r → Starts p (x ∷ xs) r

  abbrev pub nothing_yet : Progress A
  nothing_yet = record { begun = []; started = [] }

  pub record IsStartOrder (order : List A) : Type 0 where
    pub progress : Progress A
    pub comes : Starts nothing_yet all progress
    pub whole : progress.started ≡ order
