-- Paths that start with others, as a test.
use Rattle.std.proofs.Common.{◌≡◌, refl, sym, ap, ◌∙◌, subst, ℕ, List, [], ◌∷◌, ◌++◌, Bool, true, false}
use Rattle.std.specs.Prelude.{◌&&◌, ◌↔◌, IsTrue, nat_eq}
use Rattle.std.specs.Str.{bytes_eq}
use Rattle.std.proofs.lemmas.Bool.{eqb-true, eq-eqb}
use Rattle.std.proofs.lemmas.Slice.Eq.{bytes_eq-Decides}
use Rattle.wgsl_base.proofs.Members.{same_bytes as same_text}
use Rattle.wgsl_path.specs.declared.path.PathOrigin.{PathOrigin}
use Rattle.wgsl_path.specs.declared.path.PathOrigin.TheVariants.{Absolute, Relative, Package}
use Rattle.wgsl_path.specs.declared.path.ModulePath.{ModulePath}
use Rattle.wgsl_path.specs.Joining.{BeginsWith, StartsWith}
use Rattle.wesl_router.specs.Choice.{is_same_origin, begin, starts}

both : (a b : Bool) → a ≡ true → b ≡ true → (a && b) ≡ true
both true true h k = refl
both true false h k = k
both false b h k = absurd (cc)

first_of : (a b : Bool) → (a && b) ≡ true → a ≡ true
first_of true b h = refl
first_of false b h = h

second_of : (a b : Bool) → (a && b) ≡ true → b ≡ true
second_of true b h = h
second_of false b h = absurd (cc)

-- ---- a text is itself, and a number

text_itself : (x y : List ℕ) → x ≡ y → bytes_eq x y ≡ true
text_itself x y is = (bytes_eq-Decides x y).1 is

origin_test : (a b : PathOrigin) → is_same_origin a b ≡ true → a ≡ b
origin_test Absolute Absolute h = refl
origin_test (Relative n) (Relative m) h = ap Relative (eqb-true n m h)
origin_test (Package x) (Package y) h = ap Package (same_text x y h)
origin_test Absolute (Relative m) h = absurd (cc)
origin_test Absolute (Package y) h = absurd (cc)
origin_test (Relative n) Absolute h = absurd (cc)
origin_test (Relative n) (Package y) h = absurd (cc)
origin_test (Package x) Absolute h = absurd (cc)
origin_test (Package x) (Relative m) h = absurd (cc)

origin_itself : (a : PathOrigin) → is_same_origin a a ≡ true
origin_itself Absolute = refl
origin_itself (Relative n) = eq-eqb n n refl
origin_itself (Package x) = text_itself x x refl

-- ---- names

begin_itself : (first rest : List (List ℕ)) → begin (first ++ rest) first ≡ true
begin_itself [] [] = refl
begin_itself [] (n ∷ rest) = refl
begin_itself (f ∷ first) rest = both (bytes_eq f f) (begin (first ++ rest) first) (text_itself f f refl) (begin_itself first rest)

begin_names : (names first : List (List ℕ)) → begin names first ≡ true → BeginsWith names first
begin_names [] [] h = ([], refl)
begin_names (n ∷ names) [] h = (n ∷ names, refl)
begin_names [] (f ∷ first) h = absurd (cc)
begin_names (n ∷ names) (f ∷ first) h =
    let same : n ≡ f = same_text n f (first_of (bytes_eq n f) (begin names first) h) in
    let more : BeginsWith names first = begin_names names first (second_of (bytes_eq n f) (begin names first) h) in
    (more.0, ap (λ x. x ∷ names) same ∙ ap (λ ns. f ∷ ns) more.1)

-- ---- the test is the relation

pub from_test : (path prefix : ModulePath) → starts path prefix ≡ true → StartsWith path prefix
from_test path prefix h = (
  origin_test path.origin prefix.origin (first_of _ _ h),
  begin_names path.components prefix.components (second_of _ _ h),
)

pub to_test : (path prefix : ModulePath) → StartsWith path prefix → starts path prefix ≡ true
to_test path prefix h =
    let origin : is_same_origin path.origin prefix.origin ≡ true = subst (λ o. is_same_origin path.origin o ≡ true) h.0 (origin_itself path.origin) in
    let names : begin path.components prefix.components ≡ true = subst (λ ns. begin ns prefix.components ≡ true) (sym h.1.1) (begin_itself prefix.components h.1.0) in
    both _ _ origin names

by_test : (path prefix : ModulePath) (b t : Bool) → starts path prefix ≡ t → IsTrue b ↔ StartsWith path prefix → b ≡ t
by_test path prefix true true is h = refl
by_test path prefix false false is h = refl
by_test path prefix true false is h = sym (to_test path prefix (h.0 refl)) ∙ is
by_test path prefix false true is h = h.1 (from_test path prefix is)

pub told : (path prefix : ModulePath) (b : Bool) → IsTrue b ↔ StartsWith path prefix → b ≡ starts path prefix
told path prefix b h = by_test path prefix b (starts path prefix) refl h
