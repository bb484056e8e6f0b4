-- What places say stays so when their list grows.
use Rattle.std.proofs.Common.{◌≡◌, refl, sym, ap, ◌∙◌, ℕ, ◌+◌, ◌≤◌, ◌++◌, ◌∷◌, [], List, Option, Some, None, arith, length, take, drop, length-append}
use Rattle.std.specs.Prelude.{String}
use Rattle.std.specs.List.{flat_map, AllZip}
use Rattle.std.specs.declared.alloc.Global.{Global}
use Rattle.std.proofs.lemmas.List.{append_cancel_left, take_all, take-append-le, drop_at}
use Rattle.std.proofs.lemmas.List.Concat.{flat_map-append}
use Rattle.wesl_mark.specs.declared.place.Place.{Place}
use Rattle.wesl_mark.specs.declared.mark.MarkList.{MarkList}
use Rattle.wesl_mark.specs.Flats.{Flat}
use Rattle.wesl_mark.specs.Marks.{Name, name_at, flat_of}
use Rattle.wesl_mark.specs.Lists.{says, flats, flats_between, Grows, OnlyGrows}
use Rattle.wesl_mark.specs.Places.{DeclarationId, IsNumber, IsSpot}
use Rattle.wesl_mark.proofs.Growing.{grows_itself}

-- what was said since a list was another one
pub said_since : (old new : MarkList) (x : List Flat) → flats new ≡ flats old ++ x → Grows old new → flats_between new (length (says old)) (length (says new)) ≡ x
unfolding flats flats_between
said_since old new x e grows =
    let more = grows.marks.0 in
    ap (λ s. flat_map flat_of (drop (length (says old)) s)) (take_all (length (says new)) (says new) (omega arith))
    ∙ ap (λ s. flat_map flat_of (drop (length (says old)) s)) grows.marks.1
    ∙ ap (flat_map flat_of) (drop_at (says old) more (length (says old)) refl)
    ∙ append_cancel_left (flat_map flat_of (says old)) (flat_map flat_of more) x (sym (flat_map-append flat_of (says old) more) ∙ sym (ap (flat_map flat_of) grows.marks.1) ∙ e)

longer : (old new : MarkList) → Grows old new → length (says old) ≤ length (says new)
longer old new grows = let e = ap length grows.marks.1 ∙ length-append (says old) grows.marks.0 in omega (arith, e)

number_kept : (old new : List (String Global)) → ((n : ℕ) (x : Name) → name_at old n ≡ Some x → name_at new n ≡ Some x) → (n : Option ℕ) (x : Option Name) → IsNumber old n x → IsNumber new n x
number_kept old new keeps None None h = tt
number_kept old new keeps None (Some x) h = absurd h
number_kept old new keeps (Some n) None h = absurd h
number_kept old new keeps (Some n) (Some x) h = keeps n x h

between_kept : (old new : MarkList) → Grows old new → (start end : ℕ) → end ≤ length (says old) → flats_between new start end ≡ flats_between old start end
unfolding flats_between
between_kept old new grows start end le =
    ap (λ s. flat_map flat_of (drop start (take end s))) grows.marks.1
    ∙ ap (λ s. flat_map flat_of (drop start s)) (take-append-le end (says old) grows.marks.0 le)

pub spot_kept : (old new : MarkList) → Grows old new → (p : Place) (s : DeclarationId) → IsSpot old p s → IsSpot new p s
spot_kept old new grows p s spot = record {
  kind = spot.kind;
  name = number_kept old.names.keys new.names.keys grows.names p.name s.name spot.name;
  within = let le = longer old new grows in let within = spot.within in omega (arith, le, within);
  flats = between_kept old new grows p.start p.end spot.within ∙ spot.flats;
}

spots_kept : (old new : MarkList) → Grows old new → (ps : List Place) (ss : List DeclarationId) → AllZip (IsSpot old) ps ss → AllZip (IsSpot new) ps ss
spots_kept old new grows [] [] h = tt
spots_kept old new grows [] (s ∷ ss) h = absurd h
spots_kept old new grows (p ∷ ps) [] h = absurd h
spots_kept old new grows (p ∷ ps) (s ∷ ss) h = (spot_kept old new grows p s h.0, spots_kept old new grows ps ss h.1)

zip_push : {A B : Type 0} (R : A → B → Type 0) (xs : List A) (ys : List B) (x : A) (y : B) → AllZip R xs ys → R x y → AllZip R (xs ++ x ∷ []) (ys ++ y ∷ [])
zip_push R [] [] x y h one = (one, tt)
zip_push R [] (b ∷ ys) x y h one = absurd h
zip_push R (a ∷ xs) [] x y h one = absurd h
zip_push R (a ∷ xs) (b ∷ ys) x y h one = (h.0, zip_push R xs ys x y h.1 one)

-- one more place
pub spots_more : (old new : MarkList) → OnlyGrows old new → (ps : List Place) (ss : List DeclarationId) (p : Place) (s : DeclarationId) → AllZip (IsSpot old) ps ss → IsSpot new p s
    → AllZip (IsSpot new) (ps ++ p ∷ []) (ss ++ s ∷ [])
spots_more old new grows ps ss p s h spot = zip_push (IsSpot new) ps ss p s (spots_kept old new (grows old (grows_itself old)) ps ss h) spot
