-- What a pop takes.
use Rattle.std.proofs.Common.{◌≡◌, refl, sym, ap, ◌∙◌, List, [], ◌∷◌, ◌++◌, Some}
use Rattle.wesl_marks_mut.specs.Lasts.{init_from, init, last_from, last}

from_init : {A : Type 0} (x : A) (xs : List A) (y : A) → init_from x (xs ++ y ∷ []) ≡ x ∷ xs
from_init x [] y = refl
from_init x (z ∷ zs) y = ap (λ t. x ∷ t) (from_init z zs y)

from_last : {A : Type 0} (x : A) (xs : List A) (y : A) → last_from x (xs ++ y ∷ []) ≡ y
from_last x [] y = refl
from_last x (z ∷ zs) y = from_last z zs y

pub init_push : {A : Type 0} (xs : List A) (y : A) → init (xs ++ y ∷ []) ≡ xs
init_push [] y = refl
init_push (x ∷ xs) y = from_init x xs y

pub last_push : {A : Type 0} (xs : List A) (y : A) → last (xs ++ y ∷ []) ≡ Some y
last_push [] y = refl
last_push (x ∷ xs) y = ap Some (from_last x xs y)

pub popped_init : {A : Type 0} (old new : List A) (x : A) → old ≡ new ++ x ∷ [] → new ≡ init old
popped_init old new x e = sym (init_push new x) ∙ ap init (sym e)

pub popped_last : {A : Type 0} (old new : List A) (x : A) → old ≡ new ++ x ∷ [] → Some x ≡ last old
popped_last old new x e = sym (last_push new x) ∙ ap last (sym e)
