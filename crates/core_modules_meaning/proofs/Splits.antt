-- Lists that are split in two ways, and the first of their members with a property.
use Rattle.std.proofs.Common.{◌≡◌, ℕ, List, [], ◌∷◌, ◌++◌, refl, sym, ap, ◌∙◌, subst, Contains}
use Rattle.std.proofs.lemmas.List.Elements.{Contains-append_right}
use Rattle.core_syntax.specs.Tree.{UnitTree}
use Rattle.core_link_spec.specs.Occurrences.{Name}
use Rattle.core_link_spec.specs.Modules.{Path}
use Rattle.core_link_spec.specs.Rounds.{Sources, AreDistinct, IsFirstAgain, IsFirstUnkept}
use Rattle.wgsl_base.proofs.Members.{first_in}
use Rattle.core_modules_meaning.proofs.Distinct.{Once, once_of}
use Rattle.core_modules_meaning.proofs.Declared.{away}

-- at the same place, or one before the other
pub data Splits {A : Type 0} (xs : List A) (x : A) (ys : List A) (y : A) : Type 0 where
  at_one_place : xs ≡ ys → x ≡ y → Splits xs x ys y
  before : (mid : List A) → ys ≡ xs ++ x ∷ mid → Splits xs x ys y
  behind : (mid : List A) → xs ≡ ys ++ y ∷ mid → Splits xs x ys y

pub splits : {A : Type 0} (xs : List A) (x : A) (as' : List A) (ys : List A) (y : A) (bs : List A) → xs ++ x ∷ as' ≡ ys ++ y ∷ bs → Splits xs x ys y
splits [] x as' [] y bs e = at_one_place refl (cc)
splits [] x as' (z ∷ ys) y bs e = let s : x ≡ z = cc in before ys (ap (λ w. w ∷ ys) (sym s))
splits (z ∷ xs) x as' [] y bs e = let s : z ≡ y = cc in behind xs (ap (λ w. w ∷ xs) s)
splits (z ∷ xs) x as' (w ∷ ys) y bs e = more (splits xs x as' ys y bs (cc))
  where
    first : z ≡ w
    first = cc e

    more : Splits xs x ys y → Splits (z ∷ xs) x (w ∷ ys) y
    more (at_one_place s t) = at_one_place (ap (λ v. v ∷ xs) first ∙ ap (λ l. w ∷ l) s) t
    more (before mid s) = before mid (ap (λ v. v ∷ ys) (sym first) ∙ ap (λ l. z ∷ l) s)
    more (behind mid s) = behind mid (ap (λ v. v ∷ xs) first ∙ ap (λ l. w ∷ l) s)

pub again_once : (names : List Name) (x y : Name) → IsFirstAgain names x → IsFirstAgain names y → x ≡ y
again_once names x y a b = at (splits a.before x a.behind b.before y b.behind (sym a.whole ∙ b.whole))
  where
    at : Splits a.before x b.before y → x ≡ y
    at (at_one_place s t) = t
    at (before mid s) = absurd (away a.before x mid (subst Once s (once_of b.before b.distinct)) a.again)
    at (behind mid s) = absurd (away b.before y mid (subst Once s (once_of a.before a.distinct)) b.again)

pub again_not_distinct : (names : List Name) (x : Name) → IsFirstAgain names x → AreDistinct names → ⊥
again_not_distinct names x a d = away a.before x a.behind (subst Once a.whole (once_of names d)) a.again

pub unkept_once : (found : Sources) (root : Path) (keep : List Name) (max : ℕ) (u : UnitTree) (x y : Name) → IsFirstUnkept found root keep max u x → IsFirstUnkept found root keep max u y → x ≡ y
unkept_once found root keep max u x y a b = at (splits a.before x a.behind b.before y b.behind (sym a.whole ∙ b.whole))
  where
    at : Splits a.before x b.before y → x ≡ y
    at (at_one_place s t) = t
    at (before mid s) = absurd (a.undeclared (b.declared x (subst (λ l. Contains l x) (sym s) (Contains-append_right a.before (x ∷ mid) x (first_in x mid)))))
    at (behind mid s) = absurd (b.undeclared (a.declared y (subst (λ l. Contains l y) (sym s) (Contains-append_right b.before (y ∷ mid) y (first_in y mid)))))
